use Rattle.std.proofs.Common.{ℕ, ◌∙◌, ap}
use Rattle.log_tail.specs.Heads.{is_followed_at}
use Rattle.log_tail.proofs.HeadLemmas.{end_is}
use Rattle.log_tail.proofs.heads.is_followed.Goals as goal

pub returns : goal.returns
returns c =
    c.is_followed_at.ensures ∙ ap (λ (k : ℕ). is_followed_at k c.args.bytes.now) (end_is c.args.bytes.now c.args.end c.requires.within c.requires.rest)
