-- What an entry that is on the disk leads to, in a folder that may tear.
use Rattle.std.specs.Prelude.{◌≡◌, ◌⊎◌, ℕ, List, [], ◌∷◌, ◌++◌, length, Option, Some, None, IsSome, unwrap_or, refl, Vec, String, string_bytes}
use Rattle.std.proofs.Common.{sym, ◌∙◌, subst, inl, inr, arith}
use Rattle.std.proofs.lemmas.List.{append-nil}
use Rattle.std.specs.declared.alloc.Global.{Global}
use Rattle.store_folder.specs.Folder.{Look, LeadsTo, Written, Renamed}
use Rattle.store_folder.proofs.NamesLemmas.{decided}
use Rattle.torn_folder.specs.Torn.{seen_by, held_by, appended_holds, kept_by, left_by, put, put_there, put_elsewhere, or_else, possible}
use Rattle.torn_folder.specs.declared.Event.{Event}
use Rattle.torn_folder.specs.declared.Event.TheVariants.{Created, Appended, Moved, Removed, FileSynced, SyncFailed, FolderSynced}

-- what happened to other names alone
same_entry : (old new : Option (List ℕ)) (held holds : List ℕ → Type 0) (was left : Option (List ℕ)) → new ≡ old → left ≡ was → ((bytes : List ℕ) → held bytes → holds bytes)
    → LeadsTo old held was → LeadsTo new holds left
same_entry None new held holds was left is at then leads = subst (λ (o : Option (List ℕ)). LeadsTo o holds left) (sym is) (at ∙ leads)
same_entry (Some _) new held holds was left is at then leads = subst (λ (o : Option (List ℕ)). LeadsTo o holds left) (sym is) (leads.0, then leads.0 leads.1, at ∙ leads.2)

-- what was in a file is in it after nothing more
still_holds : (n : ℕ) (file left : Option (List ℕ)) (held : List ℕ → Type 0) → IsSome file → LeadsTo file held left
    → (bytes : List ℕ) × appended_holds n file held bytes × (left ≡ Some bytes)
still_holds n None left held there leads = let no : ⊥ = cc in absurd no
still_holds n (Some _) left held there leads = (leads.0, (leads.0, [], leads.1, omega arith, sym (append-nil leads.0)), leads.2)

-- a file that was synced under a name that is kept
whole : (file left : Option (List ℕ)) (held : List ℕ → Type 0) → left ≡ file → ((bytes : List ℕ) → file ≡ Some bytes → held bytes) → LeadsTo file held left
whole None left held is holds = is
whole (Some bytes) left held is holds = (bytes, holds bytes refl, is)

-- what is left of a file that is there
pub leads_some : (file left : Option (List ℕ)) (held : List ℕ → Type 0) (now bytes : List ℕ) → file ≡ Some now → held bytes → left ≡ Some bytes → LeadsTo file held left
leads_some file left held now bytes is holds at = subst (λ (o : Option (List ℕ)). LeadsTo o held left) (sym is) (bytes, holds, at)

appended_leads : (name : String Global) (more : Vec ℕ Global) (events : List Event) (n : List ℕ) (d c : Look) → kept_by (Appended name more ∷ events) n
    → Written (string_bytes name) (held_by (Appended name more ∷ events) (string_bytes name)) d c → LeadsTo (seen_by events n) (held_by events n) (d n)
    → LeadsTo (seen_by (Appended name more ∷ events) n) (held_by (Appended name more ∷ events) n) (c n)
appended_leads name more events n d c kept written leads = elim (decided n m) [
  | inl e ↦ elim (subst (λ (k : List ℕ). (c k ≡ d k) ⊎ ((bytes : List ℕ) × held_by new k bytes × (c k ≡ Some bytes))) (sym e) written.at_name) [
    | inl same ↦ from_old e same (still_holds (length more.items) (seen_by events n) (d n) (held_by events n) (kept.0 e) leads)
    | inr torn ↦ leads_some (seen_by new n) (c n) (held_by new n) whole torn.0 (there e) torn.1 torn.2
  ]
  | inr ne ↦ same_entry (seen_by events n) (seen_by new n) (held_by events n) (held_by new n) (d n) (c n) (put_elsewhere m (Some whole) (seen_by events) n ne) (written.elsewhere n ne)
      (λ bytes holds. (λ e. absurd (ne e), λ _. holds)) leads
]
  where
    m : List ℕ
    m = string_bytes name

    new : List Event
    new = Appended name more ∷ events

    whole : List ℕ
    whole = unwrap_or (seen_by events m) [] ++ more.items

    there : n ≡ m → seen_by new n ≡ Some whole
    there e = subst (λ (k : List ℕ). seen_by new k ≡ Some whole) (sym e) (put_there m (Some whole) (seen_by events))

    from_old : n ≡ m → c n ≡ d n → (bytes : List ℕ) × appended_holds (length more.items) (seen_by events n) (held_by events n) bytes × (d n ≡ Some bytes)
        → LeadsTo (seen_by new n) (held_by new n) (c n)
    from_old e same old = leads_some (seen_by new n) (c n) (held_by new n) whole old.0 (there e) (λ _. old.1, λ ne. absurd (ne e)) (same ∙ old.2)

moved_leads : (from to : String Global) (events : List Event) (n : List ℕ) (d c : Look) → kept_by (Moved from to ∷ events) n
    → Renamed (string_bytes from) (string_bytes to) (held_by events (string_bytes from)) d c → LeadsTo (seen_by events n) (held_by events n) (d n)
    → LeadsTo (seen_by (Moved from to ∷ events) n) (held_by (Moved from to ∷ events) n) (c n)
moved_leads from to events n d c kept renamed leads =
    let f = string_bytes from in
    let t = string_bytes to in
    let moved = or_else (seen_by events f) (seen_by events t) in
    same_entry (seen_by events n) (seen_by (Moved from to ∷ events) n) (held_by events n) (held_by (Moved from to ∷ events) n) (d n) (c n)
    (put_elsewhere t moved (put f None (seen_by events)) n kept.1 ∙ put_elsewhere f None (seen_by events) n kept.0) (renamed.elsewhere n kept.0 kept.1)
    (λ bytes holds. (λ e. absurd (kept.1 e), λ _. holds)) leads

synced_leads : (name : String Global) (events : List Event) (n : List ℕ) (c : Look) → kept_by events n → left_by (FileSynced name ∷ events) c
    → LeadsTo (seen_by events n) (held_by events n) (c n) → LeadsTo (seen_by events n) (held_by (FileSynced name ∷ events) n) (c n)
synced_leads name events n c kept left leads = elim (decided n (string_bytes name)) [
  | inl e ↦ whole (seen_by events n) (c n) (held_by (FileSynced name ∷ events) n)
      (subst (λ (k : List ℕ). kept_by events k → c k ≡ seen_by events k) (sym e) left.1 kept) (λ bytes is. ((possible events).files n bytes is, λ _. is))
  | inr ne ↦ same_entry (seen_by events n) (seen_by events n) (held_by events n) (held_by (FileSynced name ∷ events) n) (c n) (c n) refl refl
      (λ bytes holds. (holds, λ e. absurd (ne e))) leads
]

pub kept_leads : (events : List Event) (n : List ℕ) (c : Look) → kept_by events n → left_by events c → LeadsTo (seen_by events n) (held_by events n) (c n)
kept_leads [] n c kept left = left n
kept_leads (Created name ∷ events) n c kept left =
    same_entry (seen_by events n) _ (held_by events n) _ (left.0 n) (c n) (put_elsewhere (string_bytes name) (Some []) (seen_by events) n kept.0) (left.2 n kept.0)
    (λ bytes holds ne. holds) (kept_leads events n left.0 kept.1 left.1)
kept_leads (Appended name more ∷ events) n c kept left = appended_leads name more events n left.0 c kept left.2 (kept_leads events n left.0 kept.1 left.1)
kept_leads (Moved from to ∷ events) n c kept left = moved_leads from to events n left.0 c kept left.2 (kept_leads events n left.0 kept.2 left.1)
kept_leads (Removed name ∷ events) n c kept left =
    same_entry (seen_by events n) _ (held_by events n) _ (left.0 n) (c n) (put_elsewhere (string_bytes name) None (seen_by events) n kept.0) (left.2.elsewhere n kept.0)
    (λ bytes holds. holds) (kept_leads events n left.0 kept.1 left.1)
kept_leads (FileSynced name ∷ events) n c kept left = synced_leads name events n c kept left (kept_leads events n c kept left.0)
kept_leads (SyncFailed name ∷ events) n c kept left = kept_leads events n c kept left
kept_leads (FolderSynced ∷ events) n c kept left = left.1 n
