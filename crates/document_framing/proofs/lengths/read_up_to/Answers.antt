use Rattle.std.proofs.Common.{[], List, ℕ, Option, None, Some, OnSome, length, sym, ap, subst, arith, length-append, Ok}
use Rattle.std.specs.Io.KnownBytes.{Consumes, IsAtEnd}
use Rattle.std.proofs.KnownBytes.{Consumes-nil, Consumes-trans}
use Rattle.document_framing.proofs.lengths.read_up_to.Goals as goal

-- what was at its end when less was known
ended : (a b c : Option (List ℕ)) (bs : List ℕ) → Consumes a b bs → OnSome b (IsAtEnd c) → OnSome a (IsAtEnd c)
ended None b c bs p q = tt
ended (Some x) None c bs p q = absurd p
ended (Some x) (Some y) c bs p q = q

pub loop-init : goal.loop-init
loop-init g c = record {
  few = omega (arith, ap length c.clear.ensures.items);
  read = subst (Consumes _ _) {x = []} (sym c.clear.ensures.items) (Consumes-nil _);
}

pub loop-preserved : goal.loop-preserved
loop-preserved g c =
    let step = c.in_ok-add_up_to.ensures.added in
    record {
      few = omega (arith, ap length step.grown, length-append c.loop.document.items step.bytes, step.few, c.loop.invariant.few);
      read = subst (Consumes _ _) (sym step.grown) (Consumes-trans _ _ _ _ _ c.loop.invariant.read step.consumed);
    }

pub returns-then-had-len : goal.returns-then-had-len
returns-then-had-len g c = record {
  consumed = c.loop.invariant.read;
  few = c.loop.invariant.few;
  last = λ short. absurd (omega arith);
}

pub returns-then-not-branch : goal.returns-then-not-branch
returns-then-not-branch g c =
    let step = c.in_ok-add_up_to.ensures.added in
    record {
      consumed = subst (Consumes _ _) (sym step.grown) (Consumes-trans _ _ _ _ _ c.loop.invariant.read step.consumed);
      few = omega (arith, ap length step.grown, length-append c.loop.document.items step.bytes, step.few, c.loop.invariant.few);
      last = λ _. ended _ _ _ _ c.loop.invariant.read (c.in_ok-add_up_to.ensures.last (ap Ok c.if-not-branch.true));
    }
