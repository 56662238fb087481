-- What a crash leaves of a store that is written beside its name, and then published.
use Rattle.std.proofs.Common.{◌≡◌, inl, inr, ⊎_elim, ℕ, List, ◌++◌, Some, Result, sym, ◌∙◌, subst}
use Rattle.std.specs.Prelude.{IfErr}
use Rattle.store_published.specs.declared.publishing.FillError.{FillError}
use Rattle.store_published.specs.declared.publishing.FillError.TheVariants.{Filling, Folder, Store}
use Rattle.store_published.specs.Outcome.{IsFillFault, IsRefusal}
use Rattle.store_folder.specs.Moments.{ComesFrom, LeavesOnly}
use Rattle.store_folder.specs.Folder.{Look, Elsewhere}
use Rattle.store_folder.specs.Publishing.{part, IsUntouched, IsOldOrWhole}
use Rattle.store_folder.proofs.Steps.{weaker, joined}
use Rattle.store_folder.proofs.Runs.{part_apart}
use Rattle.store_published.specs.Filling.{IsOldOrNew}

module _ (before : Look → Type 0) (name : List ℕ) (is_new : List ℕ → Type 0) where
  -- what was done beside leaves the name alone
  untouched_is_old : (c : Look) → IsUntouched before (name ++ part) c → IsOldOrNew before (name ++ part) name is_new c
  untouched_is_old c u = record {
    old = u.0;
    was = u.1;
    at_name = inl (u.2 name (λ e. part_apart name (sym e)));
    elsewhere = λ n ne _. u.2 n ne;
  }

  -- a whole file is a new one
  whole_is_new : (mid : Look → Type 0) (content : List ℕ) → is_new content → ComesFrom (Elsewhere (name ++ part)) before mid → (c : Look) → IsOldOrWhole mid (name ++ part) name (Some content) c
      → IsOldOrNew before (name ++ part) name is_new c
  whole_is_new mid content new follows c o =
      let from = follows o.old o.was in
      let same : o.old name ≡ from.0 name = from.2 name (λ e. part_apart name (sym e)) in
      record {
        old = from.0;
        was = from.1;
        at_name = ⊎_elim (λ e. inl (e ∙ same)) (λ e. inr (content, new, e)) o.at_name;
        elsewhere = λ n ne nn. o.elsewhere n ne nn ∙ from.2 n ne;
      }

module _ {F : Type 0} (may_leave : F → Look → Type 0) (moment : F → ℕ) (left_since : F → ℕ → Look → Type 0) (name : List ℕ) (is_new : List ℕ → Type 0) (old : F) where
  abbrev pub Run : F → Type 0
  Run now = LeavesOnly moment left_since old now (IsOldOrNew (may_leave old) (name ++ part) name is_new)

  -- only the file beside was touched
  pub beside_run : (mid : F) → LeavesOnly moment left_since old mid (IsUntouched (may_leave old) (name ++ part)) → Run mid
  beside_run mid run = weaker moment left_since old mid _ _ (untouched_is_old (may_leave old) name is_new) run

  -- and then the file was given its name, or a call failed
  pub published_run : (mid new : F) (content : List ℕ) → is_new content → LeavesOnly moment left_since old mid (IsUntouched (may_leave old) (name ++ part))
      → ComesFrom (Elsewhere (name ++ part)) (may_leave old) (may_leave mid) → LeavesOnly moment left_since mid new (IsOldOrWhole (may_leave mid) (name ++ part) name (Some content)) → Run new
  published_run mid new content is run follows second =
      joined moment left_since old mid new _ (beside_run mid run)
      (weaker moment left_since mid new _ _ (whole_is_new (may_leave old) name is_new (may_leave mid) content is follows) second)

-- why a store was not written whose filling had this result
pub refusal_of : {T E : Type 0} (refuses : E → Type 0) (old new : ℕ) (filled : Result T E) (error : FillError E) → IfErr filled refuses → IsFillFault old new filled error
    → IsRefusal refuses old new error
refusal_of refuses old new filled (Filling e) refused fault = subst (λ r. IfErr r refuses) fault refused
refusal_of refuses old new filled (Folder e) refused fault = fault
refusal_of refuses old new filled (Store e) refused fault = tt
