-- A tail that begins again in its memory: what stands after it is moved down.
use Rattle.std.proofs.Common.{◌≡◌, ℕ, ◌+◌, ◌-◌, ◌≤◌, List, ◌++◌, length, take, drop, refl, sym, ◌∙◌, ap, arith, append_assoc}
use Rattle.std.proofs.lemmas.List.{take_at, drop_at, take_all, drop-take, drop-drop, length-drop, length-take-le}

module _ (bytes old moved cut new : List ℕ) (end len : ℕ) (len_is : length old ≡ len) (within : end ≤ length old) (short : length bytes ≤ end)
    (moved_is : moved ≡ take (length bytes) old ++ take (len - end) (drop end old) ++ drop (length bytes + (len - end)) old)
    (cut_is : cut ≡ take (length bytes + (len - end)) moved) (new_is : new ≡ bytes ++ drop (length bytes) cut) where
  abbrev rest : List ℕ
  rest = drop end old

  abbrev size : ℕ
  size = len - end

  moved_down : drop (length bytes) cut ≡ rest
  moved_down =
      ap (λ (l : List ℕ). drop (length bytes) l) cut_is
      ∙ drop-take (length bytes) size moved
      ∙ ap (λ (l : List ℕ). take size (drop (length bytes) l)) (moved_is ∙ append_assoc (take (length bytes) old) (take size rest) (drop (length bytes + size) old))
      ∙ ap (λ (l : List ℕ). take size l) (drop_at (take (length bytes) old) (take size rest ++ drop (length bytes + size) old) (length bytes)
      (length-take-le (length bytes) old (omega (arith, within, short))))
      ∙ take_at (take size rest) (drop (length bytes + size) old) size (length-take-le size rest (omega (arith, len_is, length-drop end old)))
      ∙ take_all size rest (omega (arith, len_is, length-drop end old))

  pub kept : new ≡ bytes ++ rest
  kept = new_is ∙ ap (λ (l : List ℕ). bytes ++ l) moved_down

  pub restarted_bytes : take (length bytes) new ≡ bytes
  restarted_bytes = ap (λ (l : List ℕ). take (length bytes) l) kept ∙ take_at bytes rest (length bytes) refl

  pub restarted_pending : drop (length bytes + 50) new ≡ drop (end + 50) old
  restarted_pending =
      ap (λ (l : List ℕ). drop (length bytes + 50) l) kept
      ∙ sym (drop-drop 50 (length bytes) (bytes ++ rest))
      ∙ ap (λ (l : List ℕ). drop 50 l) (drop_at bytes rest (length bytes) refl)
      ∙ drop-drop 50 end old
