use Rattle.std.proofs.Common.{◌≡◌, ◌≤◌, ◌<◌, ℕ, length, inl, inr, sym, ◌∙◌, ap, arith}
use Rattle.std.specs.Prelude.{slice_range}
use Rattle.store_format.specs.Block.{doc, u32_at}
use Rattle.store_reader.proofs.TwoReadsLemmas.{slot_placed, slot_misplaced}
use Rattle.store_reader.proofs.two_reads.place_by_entry.Goals as goal
use Rattle.store_reader.proofs.two_reads.place_by_entry.Goals.{then-entries-gt8, else-entries-gt8, else-start-end-via-then-start-end+else-end-table, else-start-end-via-else-start-end}

pub returns-then-end-table-clause-slot : goal.returns-then-end-table-clause-slot
returns-then-end-table-clause-slot c block j is =
    let end = c.if-entries-gt8.end in
    let more : 8 < length c.args.entries.now → end ≡ u32_at c.args.entries.now 4 =
    elim c.if-entries-gt8.branch [ then-entries-gt8 w ↦ λ _. w.end-is ∙ w.u32_at.ensures | else-entries-gt8 w ↦ λ lt. absurd (omega arith) ] in
    let last : length c.args.entries.now ≤ 8 → end ≡ c.args.table =
    elim c.if-entries-gt8.branch [ then-entries-gt8 w ↦ λ le. absurd (omega arith) | else-entries-gt8 w ↦ λ _. w.end-is ] in
    slot_placed block c.args.entries.now c.args.table j end is more last (omega (arith, c.u32_at-start.ensures)) (omega arith)
    ∙ ap (λ (n : ℕ). doc (slice_range block n end)) (sym c.u32_at-start.ensures)

pub returns-else-start-end-clause-slot : goal.returns-else-start-end-clause-slot
returns-else-start-end-clause-slot c block j is =
    let end = c.if-entries-gt8.end in
    let more : 8 < length c.args.entries.now → end ≡ u32_at c.args.entries.now 4 =
    elim c.if-entries-gt8.branch [ then-entries-gt8 w ↦ λ _. w.end-is ∙ w.u32_at.ensures | else-entries-gt8 w ↦ λ lt. absurd (omega arith) ] in
    let last : length c.args.entries.now ≤ 8 → end ≡ c.args.table =
    elim c.if-entries-gt8.branch [ then-entries-gt8 w ↦ λ le. absurd (omega arith) | else-entries-gt8 w ↦ λ _. w.end-is ] in
    slot_misplaced block c.args.entries.now c.args.table j end is more last (elim c.else-start-end.branch [
      | else-start-end-via-then-start-end+else-end-table w ↦ inr (omega arith)
      | else-start-end-via-else-start-end w ↦ inl (omega (arith, c.u32_at-start.ensures))
    ])
