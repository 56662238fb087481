-- What is known of an output's folder, as the output goes from stage to stage.
use Rattle.std.proofs.Common.{◌≡◌, ◌≢◌, ◌⊎◌, inl, inr, ⊎_elim, refl, ℕ, List, ◌++◌, Option, Some, sym, ◌∙◌, ap, subst, length, arith, length-append}
use Rattle.store_folder.specs.Moments.{ComesFrom, LeavesOnly}
use Rattle.store_folder.specs.Folder.{Look, Elsewhere}
use Rattle.store_folder.specs.Publishing.{part, IsUntouched, IsOldOrWhole}
use Rattle.store_folder.specs.Beside.{Standing, standing, TouchesOnly}
use Rattle.store_folder.proofs.Steps.{weaker, joined}

-- two calls that touch one name
pub again : (name : List ℕ) (first mid after : Look → Type 0) → ComesFrom (Elsewhere name) first mid → ComesFrom (Elsewhere name) mid after → ComesFrom (Elsewhere name) first after
again name first mid after one two c left =
    let from = two c left in
    let earlier = one from.0 from.1 in (earlier.0, earlier.1, λ n ne. from.2 n ne ∙ earlier.2 n ne)

module _ (beside name : List ℕ) (apart : beside ≢ name) where
  -- what was done beside leaves the name alone
  pub untouched_old : (before : Look → Type 0) (whole : Option (List ℕ)) (c : Look) → IsUntouched before beside c → IsOldOrWhole before beside name whole c
  untouched_old before whole c u = record {
    old = u.0;
    was = u.1;
    at_name = inl (u.2 name (λ e. apart (sym e)));
    elsewhere = λ n ne _. u.2 n ne;
  }

  -- a publication after it
  pub since_first : (first mid : Look → Type 0) (whole : Option (List ℕ)) (c : Look) → ComesFrom (Elsewhere beside) first mid
      → IsOldOrWhole mid beside name whole c → IsOldOrWhole first beside name whole c
  since_first first mid whole c follows o =
      let from = follows o.old o.was in
      let same : o.old name ≡ from.0 name = from.2 name (λ e. apart (sym e)) in
      record {
        old = from.0;
        was = from.1;
        at_name = subst (λ (x : Option (List ℕ)). (c name ≡ x) ⊎ (c name ≡ whole)) same o.at_name;
        elsewhere = λ n ne nn. o.elsewhere n ne nn ∙ from.2 n ne;
      }

module _ {F : Type 0} (seen : F → Look) (may_hold : F → List ℕ → List ℕ → Type 0) (may_leave : F → Look → Type 0) (moment : F → ℕ) (left_since : F → ℕ → Look → Type 0)
    (entry_kept trusted : F → List ℕ → Type 0) (handle failures : F → ℕ) (beside name : List ℕ) (apart : beside ≢ name) (first : F) where
  abbrev at : F → Standing
  at = standing seen may_hold may_leave moment left_since entry_kept trusted handle failures

  abbrev Run : F → Option (List ℕ) → Type 0
  Run now whole = LeavesOnly moment left_since first now (IsOldOrWhole (may_leave first) beside name whole)

  -- only the file beside was touched
  pub old_run : (mid : F) → TouchesOnly beside (at first) (at mid) → (whole : Option (List ℕ)) → Run mid whole
  old_run mid touched whole = record {
    later = touched.later;
    each = λ c left. untouched_old beside name apart (may_leave first) whole c (touched.each c left);
    before = λ t c le left. ⊎_elim (λ was. inl was) (λ now. inr (untouched_old beside name apart (may_leave first) whole c now)) (touched.before t c le left);
  }

  -- and then it was given the name, or a call failed
  pub named : (mid new : F) → TouchesOnly beside (at first) (at mid) → (sent : List ℕ) → seen mid beside ≡ Some sent
      → LeavesOnly moment left_since mid new (IsOldOrWhole (may_leave mid) beside name (seen mid beside)) → Run new (Some sent)
  named mid new touched sent file run =
      joined moment left_since first mid new _ (old_run mid touched (Some sent))
      (weaker moment left_since mid new _ _
      (λ c o. since_first beside name apart (may_leave first) (may_leave mid) (Some sent) c touched.crash
      (subst (λ (w : Option (List ℕ)). IsOldOrWhole (may_leave mid) beside name w c) file o)) run)

-- the name beside is another one
pub part_apart : (name : List ℕ) → name ++ part ≢ name
part_apart name e =
    let five : length part ≡ 5 = refl in
    let same : length (name ++ part) ≡ length name = ap length e in
    absurd (omega (arith, length-append name part, five, same))
