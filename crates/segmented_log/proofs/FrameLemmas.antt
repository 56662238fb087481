-- Which of a folder's files stay.
use Rattle.std.proofs.Common.{◌≡◌, ℕ, ◌++◌, None, refl, sym, ◌∙◌}
use Rattle.store_folder.specs.Folder.{Look, ElsewhereOfBoth}
use Rattle.store_folder.specs.Publishing.{part}
use Rattle.segmented_log.specs.Names.{segment_name, tail_name}
use Rattle.segmented_log.specs.Causes.{KeepsOthers}
use Rattle.segmented_log.proofs.NameLemmas.{segment_no_tail, segment_no_tail_beside}

pub keeps_all : (look : Look) → KeepsOthers look look
keeps_all look n no_part no_tail others = refl

pub keeps_new : (first : ℕ) (old new : Look) → old (segment_name first) ≡ None → ElsewhereOfBoth (segment_name first ++ part) (segment_name first) old new → KeepsOthers old new
keeps_new first old new none elsewhere n no_part no_tail others = elsewhere n (others first none).0 (others first none).1

pub keeps_before_tail : (old mid new : Look) → KeepsOthers old mid → ElsewhereOfBoth (tail_name ++ part) tail_name mid new → KeepsOthers old new
keeps_before_tail old mid new keeps tail n no_part no_tail others = tail n no_part no_tail ∙ keeps n no_part no_tail others

pub keeps_after_tail : (old mid new : Look) → ElsewhereOfBoth (tail_name ++ part) tail_name old mid → KeepsOthers mid new → KeepsOthers old new
keeps_after_tail old mid new tail keeps n no_part no_tail others =
    keeps n no_part no_tail (λ first none. others first (sym (tail (segment_name first) (segment_no_tail_beside first) (segment_no_tail first)) ∙ none))
    ∙ tail n no_part no_tail
