-- Why not all records were appended.
use Rattle.document_framing.specs.declared.feeding.FeedError.{FeedError}
use Rattle.document_framing.specs.declared.feeding.FeedError.TheVariants as feed
use Rattle.document_framing.specs.declared.inputs.InputFault.{InputFault}
use Rattle.segmented_log.specs.declared.error.LogError.{LogError}
use Rattle.framed_logs.specs.declared.whole_inputs.AppendError.{AppendError}
use Rattle.framed_logs.specs.declared.whole_inputs.AppendError.TheVariants as append

-- an input's fault, or the log's error
abbrev pub of_feed : FeedError InputFault LogError → AppendError
of_feed (feed.Input fault) = append.Input fault
of_feed (feed.Sink error) = append.Log error
