use Rattle.std.proofs.Common.{ℕ, ◌≤◌, length, sym, subst}
use Rattle.layered_index.specs.Layers.{digit_count}
use Rattle.store_format.specs.StoreFile.{checkpoints_of}
use Rattle.store_reader.proofs.StoreSliceLemmas.{seen_laid, stored_index}
use Rattle.store_reader.proofs.StoreOutlineLemmas.{marks_stored}
use Rattle.store_reader.proofs.store_slice.StoreSlice.lower_marks.Goals as goal

pub returns-in-Ok : goal.returns-in-Ok
returns-in-Ok c s few =
    let laid = seen_laid _ _ _ _ _ c.self.view_is c.self.invariant s in
    let cs = checkpoints_of s.blocks in
    let within = subst (λ (p : ℕ). c.args.height ≤ digit_count p (length cs)) (sym laid.period_is) few in
    (c.in-Ok.ensures.height, marks_stored _ _ _ _ s _ laid (c.in-Ok.ensures.answer cs (stored_index _ _ _ _ s laid) within))

pub returns-in-Err : goal.returns-in-Err
returns-in-Err c s few =
    let laid = seen_laid _ _ _ _ _ c.self.view_is c.self.invariant s in
    let cs = checkpoints_of s.blocks in
    let within = subst (λ (p : ℕ). c.args.height ≤ digit_count p (length cs)) (sym laid.period_is) few in
    absurd (c.in-Err.ensures.answer cs (stored_index _ _ _ _ s laid) within)
