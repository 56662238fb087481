use Rattle.std.proofs.Common.{◌≡◌, ◌≢◌, [], All, sym, ap, subst, ◌∙◌, rules, true, Ok}
use Rattle.std.proofs.lemmas.List.Elements.{All-append, All-nil}
use Rattle.std.specs.Io.BufRead.{take_through}
use Rattle.std.specs.Io.KnownBytes.{Consumes}
use Rattle.std.proofs.KnownBytes.{starts_with_rest, Consumes-nil, Consumes-trans}
use Rattle.std.proofs.BufReadLemmas.{Consumes_through}
use Rattle.document_framing.proofs.PieceLemmas.{if_some}
use Rattle.document_framing.proofs.pieces.read_through.Goals as goal

pub loop-init : goal.loop-init
loop-init g c = record {
  none = subst (All (λ x. x ≢ c.args.end)) {x = []} (search rules) (All-nil (λ x. x ≢ c.args.end));
  read = subst (Consumes _ _) {x = []} (search rules) (Consumes-nil _);
}

pub loop-preserved : goal.loop-preserved
loop-preserved g c =
    let step = c.in_ok-add_through.ensures in
    let grown = starts_with_rest _ _ step.appends in
    record {
      none = subst (All (λ x. x ≢ c.args.end)) (sym grown)
          (All-append (λ x. x ≢ c.args.end) _ _ c.loop.invariant.none (step.no_byte_unless_done (search rules)));
      read = subst (Consumes _ _) (sym grown) (Consumes-trans _ _ _ _ _ c.loop.invariant.read step.bytes);
    }

pub returns-then-branch : goal.returns-then-branch
returns-then-branch g c =
    let step = c.in_ok-add_through.ensures in
    let done : c.in_ok-add_through.field-0 ≡ true = search rules in
    let read = Consumes_through c.args.end _ _ _ _ _ c.loop.invariant.read c.loop.invariant.none step.bytes step.stops
    (step.done_at_byte_or_end (ap Ok done)) (step.end (ap Ok done)) in
    let grown = starts_with_rest _ _ step.appends in
    record {
      bytes = if_some _ _ (λ bytes. c.add_through.new.document.items ≡ take_through c.args.end bytes) (λ bytes e. grown ∙ e) read.0;
      rest = read.1;
    }
