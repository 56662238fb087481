use Rattle.std.proofs.Common.{◌≡◌, ◌++◌, List, sym, ◌∙◌, ap}
use Rattle.std.specs.List.{flat_map}
use Rattle.store_format.specs.Block.{Slot}
use Rattle.store_base.specs.declared.error.StoreError.TheVariants.{DamagedDocument, TooManyDocs, BlockTooLarge, OldVersion}
use Rattle.docstore.specs.StackingInParts.{BeginsStack}
use Rattle.store_merge.specs.Choice.{first_old, alive_slots}
use Rattle.store_merge.specs.Merge.{IsEnded}
use Rattle.store_merge.proofs.PartLemmas.{merged_in_file, merged_blocks}
use Rattle.segmented_log.proofs.RefusalLemmas.{ended_by, damaged_slot, too_many, too_long}
use Rattle.segmented_log.proofs.joining.merge_all.Goals.{In-Err}
use Rattle.segmented_log.proofs.joining.merge_all.Goals as goal

pub returns-in-Ok-clause-brought : goal.returns-in-Ok-clause-brought
returns-in-Ok-clause-brought g c = λ honest. c.in-Ok.ensures.grown honest ∙ ap (λ (l : List Slot). l ++ flat_map alive_slots c.args.inputs.now) c.requires.new

pub returns-in-Ok-clause-file : goal.returns-in-Ok-clause-file
returns-in-Ok-clause-file g c = let m = c.in-Ok.ensures.merged in merged_in_file c.args.writer.now c.merge_in_parts.new.writer m.parts m.after

pub returns-in-Ok-clause-cut : goal.returns-in-Ok-clause-cut
returns-in-Ok-clause-cut g c =
    let m = c.in-Ok.ensures.merged in
    record {
      parts = m.parts;
      came = m.came;
      cut = merged_blocks c.args.writer.now c.merge_in_parts.new.writer m.parts c.requires.new c.requires.no_blocks m.after;
    }

-- the merge ended at an input
ended : (g : _) (c : In-Err g) → (c.in-Err.refusal.error ≡ OldVersion → ⊥)
    → IsEnded BeginsStack c.args.inputs.now c.merge_in_parts.new.inputs c.args.writer.now c.merge_in_parts.new.writer c.in-Err.refusal
ended g c new = ended_by (first_old c.args.inputs.now) c.merge_in_parts.result
    (λ _. c.merge_in_parts.new.writer ≡ c.args.writer.now) (λ _. c.merge_in_parts.new.inputs ≡ c.args.inputs.now)
    (λ e. IsEnded BeginsStack c.args.inputs.now c.merge_in_parts.new.inputs c.args.writer.now c.merge_in_parts.new.writer e)
    c.in-Err.refusal c.in-Err.is new c.merge_in_parts.ensures.old_version c.merge_in_parts.ensures.ended

pub returns-in-Err-clause-refused : goal.returns-in-Err-clause-refused
returns-in-Err-clause-refused g c = λ honest whole.
    let here = (goal.at.returns-in-Err-clause-refused g c).In-Err in
    record {
      damaged = λ found.
          damaged_slot _ _ _ _ _ honest whole (ended g here (λ old. let no : DamagedDocument found.0 ≡ OldVersion = sym found.1 ∙ old in cc no)) found.0 found.1;
      many = λ many.
          too_many _ _ _ _ _ honest whole (ended g here (λ old. let no : TooManyDocs ≡ OldVersion = sym many ∙ old in cc no))
          c.ids_are_given_in_order.ensures c.stacked_slots_are_counted.ensures c.requires.new many;
      large = λ large size.
          too_long _ _ _ _ _ honest whole (ended g here (λ old. let no : BlockTooLarge ≡ OldVersion = sym large ∙ old in cc no)) large size c.merge_in_parts.ensures.sound;
    }
