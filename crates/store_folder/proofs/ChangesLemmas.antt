-- What one change does to a folder in memory.
use Rattle.std.proofs.Common.{◌≡◌, ◌≢◌, ◌⊎◌, inl, inr, ℕ, ◌+◌, ◌<◌, get_or, Bool, true, false, List, [], ◌∷◌, ◌++◌, length, take, Option, Some, None}
use Rattle.std.proofs.Common.{string_bytes, nat_eq, refl, sym, ◌∙◌, ap, subst, arith}
use Rattle.std.specs.Prelude.{if◌then◌else◌, unwrap_or, IsSome}
use Rattle.std.proofs.lemmas.List.{append-nil, take_more}
use Rattle.std.proofs.lemmas.Cmp.{nat_list_eq_equiv}
use Rattle.std.specs.Cmp.Lexicographic.{same_text}
use Rattle.store_base.proofs.ListLemmas.{either}
use lib.Pointwise.{pointwise}
use Rattle.store_folder.specs.Moments.{ComesFrom, Elapses}
use Rattle.store_folder.specs.Folder.{Look, Elsewhere, ElsewhereOfBoth, Extends, Written, Renamed, LosesFile, bytes_of}
use Rattle.store_folder.specs.Changes.{after, changed, nothing, look_of, Is, WasSince}
use Rattle.store_folder.specs.declared.memory.Change.{Change}
use Rattle.store_folder.proofs.Elapsing.{goes_on}

pub differ : (a b : List ℕ) → a ≢ b → pointwise nat_eq a b ≡ false
differ a b ne = told (pointwise nat_eq a b) refl
  where
    told : (v : Bool) → v ≡ pointwise nat_eq a b → pointwise nat_eq a b ≡ false
    told true e = absurd (ne (same_text a b e))
    told false e = sym e

agree : (a b : List ℕ) → a ≡ b → pointwise nat_eq a b ≡ true
agree a b e = subst (λ (x : List ℕ). pointwise nat_eq a x ≡ true) e (nat_list_eq_equiv.refl a)

changed-append : (xs : List Change) (e : Change) (old : Look) (n : List ℕ) → changed (xs ++ e ∷ []) old n ≡ after e (changed xs old) n
changed-append [] e old n = refl
changed-append (x ∷ xs) e old n = changed-append xs e (after x old) n

-- one change more of a list
pub step_is : (xs : List Change) (i : ℕ) (e : Change) (n : List ℕ) → i < length xs → e ≡ get_or xs i e → look_of (take (i + 1) xs) n ≡ after e (look_of (take i xs)) n
step_is xs i e n lt is =
    ap (λ (ys : List Change). look_of ys n) (take_more xs i e lt)
    ∙ ap (λ (x : Change). look_of (take i xs ++ x ∷ []) n) (sym is)
    ∙ changed-append (take i xs) e nothing n

module _ (e : Change) (old : Look) where
  after_name : after e old (string_bytes e.name) ≡ bytes_of e.bytes
  after_name =
      ap (λ (b : Bool). if b then bytes_of e.bytes else (if pointwise nat_eq (string_bytes e.gone) (string_bytes e.name) then None else old (string_bytes e.name)))
      (agree (string_bytes e.name) (string_bytes e.name) refl)

  after_gone : string_bytes e.gone ≢ string_bytes e.name → after e old (string_bytes e.gone) ≡ None
  after_gone ne =
      ap (λ (b : Bool). if b then bytes_of e.bytes else (if pointwise nat_eq (string_bytes e.gone) (string_bytes e.gone) then None else old (string_bytes e.gone)))
      (differ (string_bytes e.name) (string_bytes e.gone) (λ q. ne (sym q)))
      ∙ ap (λ (b : Bool). if b then None else old (string_bytes e.gone)) (agree (string_bytes e.gone) (string_bytes e.gone) refl)

  after_other : (n : List ℕ) → n ≢ string_bytes e.name → n ≢ string_bytes e.gone → after e old n ≡ old n
  after_other n ne ng =
      ap (λ (b : Bool). if b then bytes_of e.bytes else (if pointwise nat_eq (string_bytes e.gone) n then None else old n)) (differ (string_bytes e.name) n (λ q. ne (sym q)))
      ∙ ap (λ (b : Bool). if b then None else old n) (differ (string_bytes e.gone) n (λ q. ng (sym q)))

-- these changes were made by one change more
pub record IsOneMore (old new : List Change) (name gone : List ℕ) (bytes : Option (List ℕ)) : Type 0 where
  pub change : Change
  pub name_is : string_bytes change.name ≡ name
  pub bytes_is : bytes_of change.bytes ≡ bytes
  pub gone_is : string_bytes change.gone ≡ gone
  pub more : new ≡ old ++ change ∷ []

module _ (old new : List Change) (name gone : List ℕ) (bytes : Option (List ℕ)) (m : IsOneMore old new name gone bytes) where
  look_is : (n : List ℕ) → look_of new n ≡ after m.change (look_of old) n
  look_is n = ap (λ (xs : List Change). look_of xs n) m.more ∙ changed-append old m.change nothing n

  pub placed : look_of new name ≡ bytes
  placed = subst (λ (n : List ℕ). look_of new n ≡ bytes) m.name_is (look_is (string_bytes m.change.name) ∙ after_name m.change (look_of old) ∙ m.bytes_is)

  pub lost : gone ≢ name → look_of new gone ≡ None
  lost ne =
      subst (λ (n : List ℕ). look_of new n ≡ None) m.gone_is
      (look_is (string_bytes m.change.gone) ∙ after_gone m.change (look_of old) (λ q. ne (sym m.gone_is ∙ q ∙ m.name_is)))

  pub elsewhere : ElsewhereOfBoth name gone (look_of old) (look_of new)
  elsewhere n ne ng = look_is n ∙ after_other m.change (look_of old) n (λ q. ne (q ∙ m.name_is)) (λ q. ng (q ∙ m.gone_is))

  pub elapses : Elapses (length old) (length new) (WasSince old) (WasSince new) (Is (look_of new))
  elapses = goes_on (λ xs. Is (look_of xs)) old new m.change m.more

pub crash_elsewhere : (name : List ℕ) (old new : Look) → Elsewhere name old new → ComesFrom (Elsewhere name) (Is old) (Is new)
crash_elsewhere name old new e c is = (old, λ n. refl, λ n ne. is n ∙ e n ne)

pub crash_lost : (name : List ℕ) (old new : Look) → Elsewhere name old new → (new name ≡ None) ⊎ (new name ≡ old name) → ComesFrom (LosesFile name) (Is old) (Is new)
crash_lost name old new e which c is = (
  old,
  λ n. refl,
  record { at_name = elim which [ inl none ↦ inr (is name ∙ none) | inr same ↦ inl (is name ∙ same) ]; elsewhere = λ n ne. is n ∙ e n ne },
)

pub crash_renamed : (from to : List ℕ) (old new : Look) → ElsewhereOfBoth from to old new → IsSome (old from) → (new to ≡ old from) ⊎ (new to ≡ old to)
    → ComesFrom (Renamed from to (λ bytes. old from ≡ Some bytes)) (Is old) (Is new)
crash_renamed from to old new e there either c is = (
  old,
  λ n. refl,
  record { at_new_name = at; elsewhere = λ n ne ng. is n ∙ e n ne ng },
)
  where
    whole : (o : Option (List ℕ)) → old from ≡ o → IsSome o → new to ≡ old from → (bytes : List ℕ) × (old from ≡ Some bytes) × (c to ≡ Some bytes)
    whole None q none same = let no : ⊥ = cc in absurd no
    whole (Some bytes) q some same = (bytes, q, is to ∙ same ∙ q)

    at : (c to ≡ old to) ⊎ ((bytes : List ℕ) × (old from ≡ Some bytes) × (c to ≡ Some bytes))
    at = elim either [ inl same ↦ inr (whole (old from) refl there same) | inr same ↦ inl (is to ∙ same) ]

pub crash_written : (name : List ℕ) (old new : Look) → Elsewhere name old new → ((whole : List ℕ) × (new name ≡ Some whole)) ⊎ (new name ≡ old name)
    → ComesFrom (Written name (λ bytes. new name ≡ Some bytes)) (Is old) (Is new)
crash_written name old new e which c is = (
  old,
  λ n. refl,
  record {
    at_name = elim which [ inl grown ↦ inr (grown.0, grown.1, is name ∙ grown.1) | inr same ↦ inl (is name ∙ same) ];
    elsewhere = λ n ne. is n ∙ e n ne;
  },
)

-- what a file in memory holds after more bytes, or after none
pub extended : (old new : Option (List ℕ)) (more : List ℕ) → IsSome old → (new ≡ Some (unwrap_or old [] ++ more)) ⊎ (new ≡ old)
    → Extends (length more) (λ bytes. old ≡ Some bytes) (λ bytes. new ≡ Some bytes)
extended None new more there which bytes holds = let no : ⊥ = cc in absurd no
extended (Some kept) new more there (inl grown) bytes holds =
    (kept, more, refl, omega arith, ap (λ (o : Option (List ℕ)). unwrap_or o []) (sym holds ∙ grown))
extended (Some kept) new more there (inr same) bytes holds =
    (kept, [], refl, omega arith, ap (λ (o : Option (List ℕ)). unwrap_or o []) (sym holds ∙ same) ∙ sym (append-nil kept))
