-- Which names of a folder in memory have a file.
use Rattle.std.proofs.Common.{◌≡◌, ◌≢◌, ◌⊎◌, ◌||◌, inl, inr, ℕ, ◌+◌, ◌<◌, ◌≤◌, get_or, Bool, true, false, List, [], ◌∷◌, ◌++◌, take, map, Option, Some, None, length}
use Rattle.std.proofs.Common.{string_bytes, nat_eq, refl, sym, ◌∙◌, ap, subst, arith}
use Rattle.std.specs.Prelude.{IsSome, String, Vec, is_some}
use Rattle.std.specs.List.{Contains, IsDistinct, list_any}
use Rattle.std.specs.String.{string_eq}
use Rattle.std.specs.Cmp.Lexicographic.{same_text, other_text}
use Rattle.std.specs.declared.alloc.Global.{Global}
use Rattle.std.proofs.lemmas.Cmp.{nat_list_eq_equiv}
use Rattle.std.proofs.lemmas.List.{map-append, take_more, take_all}
use Rattle.std.proofs.lemmas.List.Elements.{Contains-push, Contains-append_left, Contains-append_right, Contains-append_cases}
use Rattle.std.proofs.lemmas.Map.Keys.{IsDistinct-push}
use Rattle.std.proofs.lemmas.Map.Made.{Contains-tail}
use Rattle.std.proofs.lemmas.Map.Views.{Contains-from_any}
use lib.Pointwise.{pointwise}
use Rattle.store_folder.specs.Folder.{Look, AreNames, AreNamesAmong, bytes_of}
use Rattle.store_folder.specs.Changes.{after, changed, nothing, look_of}
use Rattle.store_folder.specs.declared.memory.Change.{Change}

pub decided : (a b : List ℕ) → (a ≡ b) ⊎ (a ≢ b)
decided a b = told (pointwise nat_eq a b) refl
  where
    told : (v : Bool) → v ≡ pointwise nat_eq a b → (a ≡ b) ⊎ (a ≢ b)
    told true e = inl (same_text a b e)
    told false e = inr (other_text a b e)

none_in : (n : List ℕ) → Contains [] n → ⊥
none_in n is = let no : is.0 < 0 = is.1 in omega (arith, no)

-- a name of a list of names, in the words of a slice's `contains`
list_any-named : (names : List (String Global)) (n : String Global)
    → list_any (λ y. string_eq y n) names ≡ list_any (pointwise nat_eq (string_bytes n)) (map string_bytes names)
list_any-named [] n = refl
list_any-named (y ∷ names) n =
    ap (λ (b : Bool). b || list_any (λ y. string_eq y n) names) (nat_list_eq_equiv.symm (string_bytes y) (string_bytes n))
    ∙ ap (λ (b : Bool). pointwise nat_eq (string_bytes n) (string_bytes y) || b) (list_any-named names n)

module _ (look : Look) (some names : List (List ℕ)) (name : List ℕ) (was : AreNamesAmong look some names) where
  -- one name more, which has no file or is among them
  pub passed : (IsSome (look name) → Contains names name) → AreNamesAmong look (some ++ name ∷ []) names
  passed known = record {
    each = λ n is there. elim (Contains-append_cases some (name ∷ []) n is) [
      | inl before ↦ was.each n before there
      | inr last ↦ elim (decided name n) [
        | inl e ↦ subst (λ m. Contains names m) e (known (subst (λ m. IsSome (look m)) (sym e) there))
        | inr ne ↦ absurd (none_in n (Contains-tail name [] n ne last))
      ]
    ];
    only = was.only;
    once = was.once;
  }

  -- one name more, which has a file
  pub added : IsSome (look name) → list_any (pointwise nat_eq name) names ≡ false → AreNamesAmong look (some ++ name ∷ []) (names ++ name ∷ [])
  added there new = record {
    each = λ n is file. elim (Contains-append_cases some (name ∷ []) n is) [
      | inl before ↦ Contains-append_left names (name ∷ []) n (was.each n before file)
      | inr last ↦ elim (decided name n) [
        | inl e ↦ subst (λ m. Contains (names ++ name ∷ []) m) e (Contains-push names name)
        | inr ne ↦ absurd (none_in n (Contains-tail name [] n ne last))
      ]
    ];
    only = λ n is. elim (Contains-append_cases names (name ∷ []) n is) [
      | inl before ↦ was.only n before
      | inr last ↦ elim (decided name n) [
        | inl e ↦ subst (λ m. IsSome (look m)) e there
        | inr ne ↦ absurd (none_in n (Contains-tail name [] n ne last))
      ]
    ];
    once = IsDistinct-push nat_list_eq_equiv names name was.once new;
  }

-- the same, where the names are strings
module _ (look : Look) (some : List (List ℕ)) (names : List (String Global)) (name : String Global) (was : AreNamesAmong look some (map string_bytes names)) where
  pub listed : list_any (λ y. string_eq y name) names ≡ true → AreNamesAmong look (some ++ string_bytes name ∷ []) (map string_bytes names)
  listed known =
      passed look some (map string_bytes names) (string_bytes name) was
      (λ there. Contains-from_any (λ a b e. same_text a b (sym e)) (string_bytes name) (map string_bytes names) (sym (list_any-named names name) ∙ known))

  pub no_file : (found : Option (Vec ℕ Global)) → bytes_of found ≡ look (string_bytes name) → is_some found ≡ false
      → AreNamesAmong look (some ++ string_bytes name ∷ []) (map string_bytes names)
  no_file (Some _) is none = let no : ⊥ = cc in absurd no
  no_file None is none = passed look some (map string_bytes names) (string_bytes name) was (λ there. let no : ⊥ = cc in absurd no)

  there_if : (found : Option (Vec ℕ Global)) → bytes_of found ≡ look (string_bytes name) → is_some found ≡ true → IsSome (look (string_bytes name))
  there_if None is some = let no : ⊥ = cc in absurd no
  there_if (Some _) is some = subst IsSome is refl

  pub pushed : (copy : String Global) (after : List (String Global)) → string_bytes copy ≡ string_bytes name → after ≡ names ++ copy ∷ []
      → list_any (λ y. string_eq y name) names ≡ false → (found : Option (Vec ℕ Global)) → bytes_of found ≡ look (string_bytes name) → is_some found ≡ true
      → AreNamesAmong look (some ++ string_bytes name ∷ []) (map string_bytes after)
  pushed copy after same is new found bytes_is there =
      subst (λ ns. AreNamesAmong look (some ++ string_bytes name ∷ []) ns)
      (sym (ap (λ (ns : List (String Global)). map string_bytes ns) is ∙ map-append string_bytes names (copy ∷ []) ∙ ap (λ (n : List ℕ). map string_bytes names ++ n ∷ []) same))
      (added look some (map string_bytes names) (string_bytes name) was (there_if found bytes_is there) (sym (list_any-named names name) ∙ new))

-- the names of changes
abbrev pub names_of : List Change → List (List ℕ)
names_of changes = map (λ (e : Change). string_bytes e.name) changes

-- what a change leaves under another name
after_other_is : (e : Change) (old : Look) (n : List ℕ) → string_bytes e.name ≢ n → IsSome (after e old n) → IsSome (old n)
after_other_is e old n ne there = told (pointwise nat_eq (string_bytes e.name) n) refl (pointwise nat_eq (string_bytes e.gone) n) refl
  where
    told : (v : Bool) → v ≡ pointwise nat_eq (string_bytes e.name) n → (w : Bool) → w ≡ pointwise nat_eq (string_bytes e.gone) n → IsSome (old n)
    told true q w s = absurd (ne (same_text (string_bytes e.name) n q))
    told false q true s = let no : ⊥ = cc in absurd no
    told false q false s = cc

file_is_named : (changes : List Change) (old : Look) (n : List ℕ) → IsSome (changed changes old n) → Contains (names_of changes) n ⊎ IsSome (old n)
file_is_named [] old n there = inr there
file_is_named (e ∷ changes) old n there = elim (file_is_named changes (after e old) n there) [
  | inl later ↦ inl (Contains-append_right (string_bytes e.name ∷ []) (names_of changes) n later)
  | inr now ↦ elim (decided (string_bytes e.name) n) [
    | inl q ↦ inl (subst (λ m. Contains (string_bytes e.name ∷ names_of changes) m) q
        (Contains-append_left (string_bytes e.name ∷ []) (names_of changes) (string_bytes e.name) (Contains-push [] (string_bytes e.name))))
    | inr ne ↦ inr (after_other_is e old n ne now)
  ]
]

-- Before the first change there is no name.
pub started : (look : Look) (n : List (List ℕ)) → n ≡ [] → AreNamesAmong look [] n
unfolding IsDistinct
started look n is =
    subst (λ (ns : List (List ℕ)). AreNamesAmong look [] ns) (sym is)
    (record { each = λ m none. absurd (none_in m none); only = λ m none. absurd (none_in m none); once = tt })

-- one change more of a list
pub one_more : (look : Look) (changes : List Change) (i : ℕ) (e : Change) (names : List (List ℕ)) → i < length changes → e ≡ get_or changes i e
    → AreNamesAmong look (names_of (take i changes) ++ string_bytes e.name ∷ []) names → AreNamesAmong look (names_of (take (i + 1) changes)) names
one_more look changes i e names lt is are =
    subst (λ (some : List (List ℕ)). AreNamesAmong look some names)
    (sym (ap names_of (take_more changes i e lt ∙ ap (λ (x : Change). take i changes ++ x ∷ []) (sym is)) ∙ map-append (λ (x : Change). string_bytes x.name) (take i changes) (e ∷ []))) are

-- All changes were looked at.
pub all_named : (changes : List Change) (i : ℕ) (names : List (List ℕ)) → length changes ≤ i → AreNamesAmong (look_of changes) (names_of (take i changes)) names
    → AreNames (look_of changes) names
all_named changes i names le are = record {
  each = λ n there. elim (file_is_named changes nothing n there) [
    | inl is ↦ are.each n (subst (λ (xs : List Change). Contains (names_of xs) n) (sym (take_all i changes le)) is) there
    | inr there_before ↦ let none : ⊥ = cc in absurd none
  ];
  only = are.only;
  once = are.once;
}
