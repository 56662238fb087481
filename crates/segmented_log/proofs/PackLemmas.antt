-- Which segments are new.
use Rattle.std.proofs.Common.{◌≡◌, inl, inr, ⊎_elim, ℕ, List, ◌++◌, Some, None, refl, sym, ◌∙◌, ap, subst}
use Rattle.store_folder.specs.Folder.{Look, Elsewhere, ElsewhereOfBoth}
use Rattle.store_folder.specs.Publishing.{part}
use Rattle.store_folder.proofs.NamesLemmas.{decided}
use Rattle.segmented_log.specs.Names.{segment_name, tail_name}
use Rattle.segmented_log.specs.Joining.{HasJoined, JoinsSome, AreJoinedFrom, none, next}
use Rattle.segmented_log.specs.Sealing.{IsPacked, HasPacked, AddsPacked}
use Rattle.segmented_log.proofs.NameLemmas.{beside_no_segment, segment_no_tail, segment_no_tail_beside}

pub packs_none : (look : Look) → AddsPacked look look
packs_none look first = inl refl

pub packs_new : (first : ℕ) (old new : Look) → ElsewhereOfBoth (segment_name first ++ part) (segment_name first) old new → HasPacked new first → AddsPacked old new
packs_new first old new elsewhere has n = elim (decided (segment_name n) (segment_name first)) [
  | inl e ↦ inr (subst (λ (name : List ℕ). (content : List ℕ) × IsPacked content × (new name ≡ Some content)) (sym e) has)
  | inr ne ↦ inl (elsewhere (segment_name n) (beside_no_segment first n) ne)
]

pub packs_before_tail : (old mid new : Look) → AddsPacked old mid → ElsewhereOfBoth (tail_name ++ part) tail_name mid new → AddsPacked old new
packs_before_tail old mid new packs tail n =
    let stays = tail (segment_name n) (segment_no_tail_beside n) (segment_no_tail n) in
    ⊎_elim (λ same. inl (stays ∙ same)) (λ has. inr (has.0, has.1, stays ∙ has.2)) (packs n)

pub packs_after_tail : (old mid new : Look) → ElsewhereOfBoth (tail_name ++ part) tail_name old mid → AddsPacked mid new → AddsPacked old new
packs_after_tail old mid new tail packs n =
    let stayed = tail (segment_name n) (segment_no_tail_beside n) (segment_no_tail n) in
    ⊎_elim (λ same. inl (same ∙ stayed)) (λ has. inr has) (packs n)

-- ---- segments that are joined

pub joins_one : (first : ℕ) (firsts : List ℕ) (old new : Look) → HasJoined old new first firsts → ElsewhereOfBoth (segment_name first ++ part) (segment_name first) old new → JoinsSome old new
joins_one first firsts old new has elsewhere n = elim (decided (segment_name n) (segment_name first)) [
  | inl e ↦ inr (inr (firsts, record { parts = has.parts; blocks = has.blocks; came = has.came; cut = has.cut; is = ap new e ∙ has.is }))
  | inr ne ↦ inl (elsewhere (segment_name n) (beside_no_segment first n) ne)
]

pub joins_gone : (first : ℕ) (old new : Look) → new (segment_name first) ≡ None → Elsewhere (segment_name first) old new → JoinsSome old new
joins_gone first old new gone elsewhere n = elim (decided (segment_name n) (segment_name first)) [
  | inl e ↦ inr (inl (ap new e ∙ gone))
  | inr ne ↦ inl (elsewhere (segment_name n) ne)
]

pub joined_more : {old mid new : Look} → AreJoinedFrom old mid → AreJoinedFrom mid new → AreJoinedFrom old new
joined_more first none = first
joined_more first (next more step) = next (joined_more first more) step
