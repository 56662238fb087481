-- What a mark claims stays so.
use Rattle.std.proofs.Common.{le_of_eq, ◌≡◌, ◌≢◌, ◌⊎◌, inl, inr, ℕ, ◌≤◌, Bool, true, false, List, Option, Some, None, refl, sym, ◌∙◌, ap, subst, arith, IsTrue, map, string_bytes}
use Rattle.std.specs.Prelude.{if◌then◌else◌, ◌∷◌, All, IfSome, IsSome, IsSomeAnd, String}
use Rattle.std.specs.declared.alloc.Global.{Global}
use Rattle.store_folder.specs.Folder.{AreNames}
use Rattle.store_files.specs.Disk.{Change, Moved, Removed, Disk, replay, seen, held, trusts, Adds}
use Rattle.store_files.specs.Steps.{Creates, Appends, SyncsFile, Renames, Removes}
use Rattle.store_files.specs.Known.{Knows, Claims, AreSo, KeepsMark}
use Rattle.store_files.specs.Knowledge.{rank, with_standing, passed_to, unless_failed}
use Rattle.store_files.specs.Mark.{claimed, claims_entries, claims_of, Covers, Permits, ClaimsNoMore}
use Rattle.store_files.specs.Opened.{IsMarked}
use Rattle.store_files.specs.declared.knowledge.Standing.{Standing}
use Rattle.store_files.specs.declared.knowledge.Standing.TheVariants.{Failed, Unsynced, Synced}
use Rattle.store_files.specs.declared.knowledge.Doing.{Doing}
use Rattle.store_files.specs.declared.knowledge.Doing.TheVariants as doing
use Rattle.store_files.specs.declared.mark.MarkKind.{MarkKind}
use Rattle.store_files.specs.declared.mark.MarkKind.TheVariants.{Ended, Open, Unsure}
use Rattle.store_files.specs.declared.mark.Mark.{Mark}
use Rattle.store_files.proofs.KnowledgeLemmas.{equal, unequal, decided}
use Rattle.std.proofs.lemmas.List.Elements.{All-map, All-contains}
use Rattle.store_files.proofs.KnownLemmas.{less, not_failed, is_synced, gone, gone_holds, not_kept}
use Rattle.store_files.proofs.KnownLemmas.{made_unknown, written, synced, sync_failed}
use Rattle.store_files.proofs.StepLemmas.{renames, removes}

-- ---- a mark that is written

pub no_more : (mark : Mark) (others : Standing) (known : List ℕ → Standing) (entries : Bool) (d : Disk) → ClaimsNoMore mark others known entries → Knows known entries d → AreSo (claims_of mark) d
no_more mark others known entries d claims knows = less known (claimed mark) entries (claims_entries mark.kind) d claims.files claims.all_entries knows

-- of the files that are listed no more is claimed than what is known, and the others are none
pub end_is_so : (mark : Mark) (known : List ℕ → Standing) (entries : Bool) (names : List (String Global)) (d : Disk)
    → All (λ name. rank (claimed mark (string_bytes name)) ≤ rank (known (string_bytes name))) names
    → (IsTrue (claims_entries mark.kind) → IsTrue entries) → Knows known entries d → AreNames (seen d) (map string_bytes names) → AreSo (claims_of mark) d
end_is_so mark known entries names d listed fewer knows all = record {
  trusted = λ n ne. elim (at n (seen d n) refl) [
    | inl none ↦ gone d n none
    | inr le ↦ knows.trusted n (not_failed (claimed mark n) (known n) le ne)
  ];
  synced = λ n bytes e holds. elim (at n (seen d n) refl) [
    | inl none ↦ gone_holds d n bytes none holds
    | inr le ↦ knows.synced n bytes (is_synced (claimed mark n) (known n) le e) holds
  ];
  all_entries = λ claimed_all. knows.all_entries (fewer claimed_all);
}
  where
    at : (n : List ℕ) (look : Option (List ℕ)) → seen d n ≡ look → (seen d n ≡ None) ⊎ (rank (claimed mark n) ≤ rank (known n))
    at n None is = inl is
    at n (Some bytes) is = inr (All-contains (λ (m : List ℕ). rank (claimed mark m) ≤ rank (known m)) (map string_bytes names) n
        (All-map (λ (m : List ℕ). rank (claimed mark m) ≤ rank (known m)) string_bytes names listed)
        (all.each n (subst (λ (o : Option (List ℕ)). IsSome o) (sym is) refl)))

-- ---- what may be done under a mark

kind_open : (kind : MarkKind) → kind ≢ Ended → claims_entries kind ≡ false
kind_open Ended ne = absurd (ne refl)
kind_open Open ne = refl
kind_open Unsure ne = refl

pub permits : (mark : Mark) (known : List ℕ → Standing) (entries : Bool) (d : Disk) (doing : Doing) → Covers mark known doing → Knows known entries d → Permits (claims_of mark) d doing
permits mark known entries d (doing.Created name) covers knows = (kind_open mark.kind covers.0, covers.1)
permits mark known entries d (doing.Appended name) covers knows = covers
permits mark known entries d (doing.SyncFailed name) covers knows = covers
permits mark known entries d (doing.Moved from to) covers knows = (
  kind_open mark.kind covers.0,
  λ ne. knows.trusted from.now (not_failed (claimed mark to.now) (known from.now) covers.1 ne),
  λ bytes e. knows.synced from.now bytes (is_synced (claimed mark to.now) (known from.now) covers.1 e),
)
permits mark known entries d (doing.Removed name) covers knows = kind_open mark.kind covers
permits mark known entries d (doing.FileSynced name) covers knows = tt
permits mark known entries d doing.FolderSynced covers knows = tt

-- what is permitted by a mark that was written or found
pub permitted : (mark : Option Mark) (claims : Claims) (known : List ℕ → Standing) (entries : Bool) (d : Disk) (doing : Doing) → IfSome mark (λ m. claims ≡ claims_of m)
    → IsSomeAnd mark (λ m. Covers m known doing) → Knows known entries d → Permits claims d doing
permitted None claims known entries d doing is covers knows = absurd covers
permitted (Some m) claims known entries d doing is covers knows = subst (λ (c : Claims). Permits c d doing) (sym is) (permits m known entries d doing covers knows)

-- ---- what is claimed stays so

silent : (name : List ℕ) (files : List ℕ → Standing) → files name ≡ Failed → (n : List ℕ) → rank (files n) ≤ rank (with_standing name Failed files n)
silent name files none n = elim (decided name n) [
  | inl e ↦ le_of_eq (ap rank (ap files (sym e) ∙ none ∙ sym (ap (λ (b : Bool). if b then Failed else files n) (equal name n e))))
  | inr ne ↦ le_of_eq (ap rank (sym (ap (λ (b : Bool). if b then Failed else files n) (unequal name n ne))))
]

pub made_stays : (name : List ℕ) (ok : Bool) (c : Claims) (old new : Disk) → AreSo c old → (c.entries ≡ false) × (c.files name ≡ Failed) → Creates name ok old new → AreSo c new
made_stays name ok c old new so may creates = made_unknown name ok c.files c.files c.entries c.entries old new (silent name c.files may.1) may.0 so creates

pub written_stays : (name bytes : List ℕ) (ok : Bool) (c : Claims) (old new : Disk) → AreSo c old → c.files name ≡ Failed → Appends name bytes ok old new → AreSo c new
written_stays name bytes ok c old new so none appends = written name bytes ok c.files c.entries old new (λ e. let no : Failed ≡ Synced = sym none ∙ e in let wrong : ⊥ = cc in wrong) so appends

pub synced_stays : (name : List ℕ) (c : Claims) (old new : Disk) → AreSo c old → SyncsFile name true old new → AreSo c new
synced_stays name c old new so syncs = synced name c.files c.files c.entries old new more so syncs
  where
    passed_more : (s : Standing) → rank s ≤ rank (unless_failed s Synced)
    passed_more Failed = omega arith
    passed_more Unsynced = omega arith
    passed_more Synced = omega arith

    more : (n : List ℕ) → rank (c.files n) ≤ rank (passed_to name Synced c.files n)
    more n = elim (decided name n) [
      | inl e ↦ subst (λ (s : Standing). rank (c.files n) ≤ rank s) (sym (ap (λ (b : Bool). if b then unless_failed (c.files name) Synced else c.files n) (equal name n e)))
          (subst (λ (m : List ℕ). rank (c.files m) ≤ rank (unless_failed (c.files name) Synced)) e (passed_more (c.files name)))
      | inr ne ↦ le_of_eq (ap rank (sym (ap (λ (b : Bool). if b then unless_failed (c.files name) Synced else c.files n) (unequal name n ne))))
    ]

pub unsynced_stays : (name : List ℕ) (c : Claims) (old new : Disk) → AreSo c old → c.files name ≡ Failed → SyncsFile name false old new → AreSo c new
unsynced_stays name c old new so none syncs = sync_failed name c.files c.files c.entries old new (silent name c.files none) so syncs

-- a change that was made, or was not
either : (ok : Bool) (change : Change) (c : Claims) (start : Disk) (old new : List Change) → AreSo c (replay old start) → AreSo c (replay (change ∷ old) start)
    → Adds ok change old new → AreSo c (replay new start)
either true change c start old new before after made = subst (λ (list : List Change). AreSo c (replay list start)) (sym made) after
either false change c start old new before after (inl none) = subst (λ (list : List Change). AreSo c (replay list start)) (sym none) before
either false change c start old new before after (inr made) = subst (λ (list : List Change). AreSo c (replay list start)) (sym made) after

abbrev pub MayMove : List ℕ → List ℕ → Claims → Disk → Type 0
MayMove from to c d = AreSo c d × ((c.entries ≡ false) × (c.files to ≢ Failed → trusts d from) × ((bytes : List ℕ) → c.files to ≡ Synced → held d from bytes → seen d from ≡ Some bytes))

pub moved_stays : (from to : List ℕ) (ok : Bool) (c : Claims) (start : Disk) (old new : List Change) → from ≢ to → MayMove from to c (replay old start) → Adds ok (Moved from to) old new
    → AreSo c (replay new start)
moved_stays from to ok c start old new apart moves adds = either ok (Moved from to) c start old new moves.0 after adds
  where
    did : Renames from to true (replay old start) (replay (Moved from to ∷ old) start)
    did = renames from to true start old (Moved from to ∷ old) apart refl

    after : AreSo c (replay (Moved from to ∷ old) start)
    after = record {
      trusted = λ n ne. elim (decided n to) [
        | inl e ↦ subst (λ (m : List ℕ). trusts (replay (Moved from to ∷ old) start) m) (sym e) (did.moved refl (moves.1.1 (λ q. ne (ap c.files e ∙ q))))
        | inr nt ↦ elim (decided n from) [
          | inl e ↦ gone (replay (Moved from to ∷ old) start) n (ap (seen (replay (Moved from to ∷ old) start)) e ∙ did.gone refl)
          | inr nf ↦ did.trust n nf nt (moves.0.trusted n ne)
        ]
      ];
      synced = λ n bytes e holds. elim (decided n to) [
        | inl q ↦ ap (seen (replay (Moved from to ∷ old) start)) q ∙ did.renamed refl
            ∙ moves.1.2 bytes (sym (ap c.files q) ∙ e) (did.file refl bytes (subst (λ (m : List ℕ). held (replay (Moved from to ∷ old) start) m bytes) q holds))
        | inr nt ↦ elim (decided n from) [
          | inl q ↦ gone_holds (replay (Moved from to ∷ old) start) n bytes (ap (seen (replay (Moved from to ∷ old) start)) q ∙ did.gone refl) holds
          | inr nf ↦ did.elsewhere n nf nt ∙ moves.0.synced n bytes e (did.files n bytes nf nt holds)
        ]
      ];
      all_entries = not_kept c.entries moves.1.0;
    }

pub removed_stays : (name : List ℕ) (ok : Bool) (c : Claims) (start : Disk) (old new : List Change) → AreSo c (replay old start) → c.entries ≡ false
    → Adds ok (Removed name) old new → AreSo c (replay new start)
removed_stays name ok c start old new so may adds = either ok (Removed name) c start old new so after adds
  where
    did : Removes name true (replay old start) (replay (Removed name ∷ old) start)
    did = removes name true start old (Removed name ∷ old) refl

    after : AreSo c (replay (Removed name ∷ old) start)
    after = record {
      trusted = λ n ne. elim (decided n name) [
        | inl e ↦ gone (replay (Removed name ∷ old) start) n (ap (seen (replay (Removed name ∷ old) start)) e ∙ did.removed refl)
        | inr other ↦ did.trust n other (so.trusted n ne)
      ];
      synced = λ n bytes e holds. elim (decided n name) [
        | inl q ↦ gone_holds (replay (Removed name ∷ old) start) n bytes (ap (seen (replay (Removed name ∷ old) start)) q ∙ did.removed refl) holds
        | inr other ↦ did.elsewhere n other ∙ so.synced n bytes e (did.files n bytes other holds)
      ];
      all_entries = not_kept c.entries may;
    }

-- ---- the mark of a folder that is open

pub still : {was is : Type 0} (locks : Option (Option (List ℕ))) (place : Option (List ℕ × List ℕ)) (claims new : Claims) (d e : Disk) (path boot inode : List ℕ) (mark : Option Mark)
    → IsMarked locks place was claims d path boot inode mark → KeepsMark claims new was is e → AreSo claims e → IsMarked locks place is new e path boot inode mark
still locks place claims new d e path boot inode mark before keeps so = record {
  lock = before.lock;
  here = before.here;
  claimed = of mark before.claimed;
  so = subst (λ (c : Claims). AreSo c e) (sym keeps.same) so;
  always = keeps.so before.always so;
}
  where
    of : (mark : Option Mark) → IfSome mark (λ m. claims ≡ claims_of m) → IfSome mark (λ m. new ≡ claims_of m)
    of None is = tt
    of (Some m) is = keeps.same ∙ is

-- a file is the lock of one folder
pub one_folder : (path d : List ℕ) (locks : Option (Option (List ℕ))) → locks ≡ Some (Some path) → locks ≡ Some (Some d) → path ≡ d
one_folder path d locks is also = let same : Some (Some path) ≡ Some (Some d) = sym is ∙ also in cc
