use Rattle.document_framing.proofs.FeedLemmas.{first_input}
use Rattle.document_framing.proofs.inputs.feed_input.Goals as goal

pub returns-in-Err-Input-clause-ended : goal.returns-in-Err-Input-clause-ended
returns-in-Err-Input-clause-ended g c others =
    let fed = rw c.in-Err-Input.field-0-is at c.in-Err-Input.ensures.ended in record {
      documents = fed.documents;
      added = fed.added;
      first = first_input c.args.framing _ _ _ fed.documents (c.in-Ok.ensures others) fed.first;
    }
