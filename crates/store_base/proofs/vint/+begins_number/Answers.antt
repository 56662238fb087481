use Rattle.std.proofs.Common.{◌≡◌, ◌+◌, ◌<◌, [], refl, sym, subst, arith}
use Rattle.std.proofs.lemmas.List.{nil_from_length}
use Rattle.store_base.specs.VInt.{number}
use Rattle.store_base.specs.Reading.{IsBelow, IsCutShort}
use Rattle.store_base.proofs.NumberReads.{cut_none, cut_step, cut_large}
use Rattle.store_base.proofs.vint.+begins_number.Goals.{then-first-ge-GROUP-via-then-first-ge-GROUP, then-first-ge-GROUP-via-else-first-ge-GROUP+then-most-first}
use Rattle.store_base.proofs.vint.+begins_number.Goals as goal

pub returns-in-empty : goal.returns-in-empty
returns-in-empty t c =
    let none : c.args.bytes.now ≡ [] = nil_from_length c.args.bytes.now (omega arith) in
    (λ _. subst (IsCutShort (IsBelow (c.args.most + 1)) number) (sym none) (cut_none c.args.most), λ _. refl)

pub returns-then-first-ge-GROUP : goal.returns-then-first-ge-GROUP
returns-then-first-ge-GROUP t c =
    let large : c.from-first.result < 128 → c.args.most < c.from-first.result + 128 = elim c.then-first-ge-GROUP.branch [
      | then-first-ge-GROUP-via-then-first-ge-GROUP w ↦ λ lt. absurd (omega (arith, w.if-first-ge-GROUP.true, lt))
      | then-first-ge-GROUP-via-else-first-ge-GROUP+then-most-first w ↦ λ _. w.if-most-first.true
    ] in
    (λ no. absurd (cc), λ cut. absurd (cut_large c.args.most c.from-first.result c.args.bytes.now c.in-len1-up.len_at_least c.from-first.ensures large cut))

pub returns-else-most-first : goal.returns-else-most-first
returns-else-most-first t c =
    let step = cut_step c.args.most c.from-first.result c.args.bytes.now c.in-len1-up.len_at_least c.from-first.ensures c.if-first-ge-GROUP.false c.if-most-first.false in
    (λ yes. step.0 (c.begins_number.ensures.0 yes), λ cut. c.begins_number.ensures.1 (step.1 cut))
