-- What a sync, a renaming and a removal are in the words of `Folder`.
use Rattle.std.proofs.Common.{◌≡◌, ◌≢◌, inl, inr, ℕ, Bool, true, false, List, Option, Some, None, refl, sym, ◌∙◌, ap, subst}
use Rattle.std.specs.Prelude.{option_map}
use Rattle.store_files.specs.Disk.{Change, FileSynced, SyncFailed, Moved, Removed, FolderSynced}
use Rattle.store_files.specs.Disk.{Disk, put, put_at, after, replay, Adds, Syncs, IsPossible}
use Rattle.store_files.specs.Steps.{SyncsFile, Renames, Removes, SyncsEntries}
use Rattle.store_files.proofs.DiskLemmas.{put_there, put_elsewhere, set_elsewhere, same_file, read_same, read_at, passes, stands, of_either, other_file}
use Rattle.store_files.proofs.KnowledgeLemmas.{decided}

-- ---- a file that is synced

same_syncs : (name : List ℕ) (d : Disk) → SyncsFile name false d d
same_syncs name d = record {
  durable = λ no. let none : ⊥ = cc in absurd none;
  same = λ no. refl;
  elsewhere = λ n ne. refl;
  files = λ n bytes holds. holds;
  crash = λ c left. left;
  entries = λ n kept. kept;
  stays = λ no. let none : ⊥ = cc in absurd none;
  trust = λ no. let none : ⊥ = cc in absurd none;
  mistrust = λ n ne trusted. trusted;
  names = λ n. refl;
  time = stands d;
}

synced : (name : List ℕ) (f : ℕ) (d : Disk) → d.file_of name ≡ Some f → SyncsFile name true d (after (FileSynced f) d)
synced name f d at = record {
  durable = λ _ trusted bytes holds.
      let e : holds.0 ≡ f = same_file (d.file_of name) f holds.0 at holds.1 in
      read_at (d.file_of name) holds.0 d.bytes holds.1 ∙ ap (λ (b : List ℕ). Some b) (holds.2.1 e (trusted holds.0 holds.1));
  same = λ _. refl;
  elsewhere = λ n ne. refl;
  files = λ n bytes holds. (holds.0, holds.1, holds.2.0);
  crash = λ c left. left.0;
  entries = λ n kept. kept;
  stays = λ _ trusted kept c left. left.1 name at (trusted f at) kept ∙ sym (read_at (d.file_of name) f d.bytes at);
  trust = λ _ n trusted. trusted;
  mistrust = λ n ne trusted. trusted;
  names = λ n. refl;
  time = passes (FileSynced f) d;
}

sync_failed : (name : List ℕ) (f : ℕ) (bytes : List ℕ) (d : Disk) → IsPossible d → d.file_of name ≡ Some f → SyncsFile name false d (after (SyncFailed f bytes) d)
sync_failed name f bytes d was at = record {
  durable = λ no. let none : ⊥ = cc in absurd none;
  same = λ no. let none : ⊥ = cc in absurd none;
  elsewhere = λ n ne. read_same (d.file_of n) d.bytes (put_at f bytes d.bytes) (λ g is. set_elsewhere f bytes d.bytes g (other_file d name n f g was ne at is));
  files = λ n left holds. holds;
  crash = λ c left. left;
  entries = λ n kept. kept;
  stays = λ no. let none : ⊥ = cc in absurd none;
  trust = λ no. let none : ⊥ = cc in absurd none;
  mistrust = λ n ne trusted g is. (other_file d name n f g was ne at is, trusted g is);
  names = λ n. refl;
  time = passes (SyncFailed f bytes) d;
}

pub syncs : (name : List ℕ) (ok : Bool) (f : ℕ) (start : Disk) (old new : List Change) → IsPossible (replay old start) → (replay old start).file_of name ≡ Some f → Syncs ok f old new
    → SyncsFile name ok (replay old start) (replay new start)
syncs name true f start old new was at done =
    subst (λ (cs : List Change). SyncsFile name true (replay old start) (replay cs start)) (sym done) (synced name f (replay old start) at)
syncs name false f start old new was at done = elim done [
  | inl is ↦ subst (λ (cs : List Change). SyncsFile name false (replay old start) (replay cs start)) (sym is) (same_syncs name (replay old start))
  | inr some ↦ subst (λ (cs : List Change). SyncsFile name false (replay old start) (replay cs start)) (sym some.1) (sync_failed name f some.0 (replay old start) was at)
]

-- ---- a file that is moved

same_renames : (from to : List ℕ) (d : Disk) → Renames from to false d d
same_renames from to d = record {
  renamed = λ no. let none : ⊥ = cc in absurd none;
  gone = λ no. let none : ⊥ = cc in absurd none;
  elsewhere = λ n nf nt. refl;
  file = λ no. let none : ⊥ = cc in absurd none;
  files = λ n bytes nf nt holds. holds;
  crash = λ c left. (c, left, record { at_new_name = inl refl; elsewhere = λ n nf nt. refl });
  entries = λ n nf nt kept. kept;
  moved = λ no. let none : ⊥ = cc in absurd none;
  trust = λ n nf nt trusted. trusted;
  new_name = λ no. let none : ⊥ = cc in absurd none;
  names = λ n nf nt. refl;
  time = stands d;
}

renames_one : (from to : List ℕ) (ok : Bool) (d : Disk) → from ≢ to → Renames from to ok d (after (Moved from to) d)
renames_one from to ok d apart = record {
  renamed = λ _. ap (λ (o : Option ℕ). option_map d.bytes o) at_new;
  gone = λ _. ap (λ (o : Option ℕ). option_map d.bytes o) at_old;
  elsewhere = λ n nf nt. ap (λ (o : Option ℕ). option_map d.bytes o) (at_other n nf nt);
  file = λ _ bytes holds. (holds.0, sym at_new ∙ holds.1, holds.2);
  files = λ n bytes nf nt holds. (holds.0, sym (at_other n nf nt) ∙ holds.1, holds.2);
  crash = λ c left. left;
  entries = λ n nf nt kept. (nf, nt, kept);
  moved = λ _ trusted g is. trusted g (sym at_new ∙ is);
  trust = λ n nf nt trusted g is. trusted g (sym (at_other n nf nt) ∙ is);
  new_name = λ _. at_new;
  names = at_other;
  time = passes (Moved from to) d;
}
  where
    rest : List ℕ → Option ℕ
    rest = put from None d.file_of

    at_new : put to (d.file_of from) rest to ≡ d.file_of from
    at_new = put_there to (d.file_of from) rest

    at_old : put to (d.file_of from) rest from ≡ None
    at_old = put_elsewhere to (d.file_of from) rest from apart ∙ put_there from None d.file_of

    at_other : (n : List ℕ) → n ≢ from → n ≢ to → put to (d.file_of from) rest n ≡ d.file_of n
    at_other n nf nt = put_elsewhere to (d.file_of from) rest n nt ∙ put_elsewhere from None d.file_of n nf

pub renames : (from to : List ℕ) (ok : Bool) (start : Disk) (old new : List Change) → from ≢ to → Adds ok (Moved from to) old new → Renames from to ok (replay old start) (replay new start)
renames from to ok start old new apart adds =
    of_either ok (Moved from to) start old new (λ done d. Renames from to done (replay old start) d) adds (λ done. renames_one from to done (replay old start) apart)
    (same_renames from to (replay old start))

-- ---- a file that is removed

same_removes : (name : List ℕ) (d : Disk) → Removes name false d d
same_removes name d = record {
  removed = λ no. let none : ⊥ = cc in absurd none;
  elsewhere = λ n ne. refl;
  files = λ n bytes ne holds. holds;
  crash = λ c left. (c, left, record { at_name = inl refl; elsewhere = λ n ne. refl });
  entries = λ n ne kept. kept;
  trust = λ n ne trusted. trusted;
  names = λ n ne. refl;
  time = stands d;
}

removes_one : (name : List ℕ) (ok : Bool) (d : Disk) → Removes name ok d (after (Removed name) d)
removes_one name ok d = record {
  removed = λ _. ap (λ (o : Option ℕ). option_map d.bytes o) (put_there name None d.file_of);
  elsewhere = λ n ne. ap (λ (o : Option ℕ). option_map d.bytes o) (put_elsewhere name None d.file_of n ne);
  files = λ n bytes ne holds. (holds.0, sym (put_elsewhere name None d.file_of n ne) ∙ holds.1, holds.2);
  crash = λ c left. left;
  entries = λ n ne kept. (ne, kept);
  trust = λ n ne trusted g is. trusted g (sym (put_elsewhere name None d.file_of n ne) ∙ is);
  names = λ n ne. put_elsewhere name None d.file_of n ne;
  time = passes (Removed name) d;
}

pub removes : (name : List ℕ) (ok : Bool) (start : Disk) (old new : List Change) → Adds ok (Removed name) old new → Removes name ok (replay old start) (replay new start)
removes name ok start old new adds =
    of_either ok (Removed name) start old new (λ done d. Removes name done (replay old start) d) adds (λ done. removes_one name done (replay old start)) (same_removes name (replay old start))

-- ---- a folder that is synced

same_entries : (d : Disk) → SyncsEntries false d d
same_entries d = record {
  durable = λ no. let none : ⊥ = cc in absurd none;
  same = λ n. refl;
  files = λ n bytes holds. holds;
  crash = λ c left. left;
  entries = λ n kept. kept;
  all = λ no. let none : ⊥ = cc in absurd none;
  trust = λ n trusted. trusted;
  names = λ n. refl;
  time = stands d;
}

synced_entries : (ok : Bool) (d : Disk) → SyncsEntries ok d (after FolderSynced d)
synced_entries ok d = record {
  durable = λ _ c left. left.1;
  same = λ n. refl;
  files = λ n bytes holds. holds;
  crash = λ c left. left.0;
  entries = λ n kept. tt;
  all = λ _ n. tt;
  trust = λ n trusted. trusted;
  names = λ n. refl;
  time = passes FolderSynced d;
}

pub syncs_entries : (ok : Bool) (start : Disk) (old new : List Change) → Adds ok FolderSynced old new → SyncsEntries ok (replay old start) (replay new start)
syncs_entries ok start old new adds =
    of_either ok FolderSynced start old new (λ done d. SyncsEntries done (replay old start) d) adds (λ done. synced_entries done (replay old start)) (same_entries (replay old start))

-- the sync of a folder, which may be this one
pub syncs_beside : (ok : Bool) (start : Disk) (above d : List ℕ) (old new : List Change) → (above ≡ d → Adds ok FolderSynced old new) → (above ≢ d → new ≡ old)
    → SyncsEntries false (replay old start) (replay new start)
syncs_beside ok start above d old new here elsewhere = syncs_entries false start old new (elim (decided above d) [
  | inl e ↦ made_or_not ok (here e)
  | inr ne ↦ inl (elsewhere ne)
])
  where
    made_or_not : (ok : Bool) → Adds ok FolderSynced old new → Adds false FolderSynced old new
    made_or_not true made = inr made
    made_or_not false made = made

-- a sync is no less of one that is reported as failed
syncs_less : (name : List ℕ) (old new : Disk) → SyncsFile name true old new → SyncsFile name false old new
syncs_less name old new done = record {
  durable = λ no. let none : ⊥ = cc in absurd none;
  same = λ no. let none : ⊥ = cc in absurd none;
  elsewhere = done.elsewhere;
  files = done.files;
  crash = done.crash;
  entries = done.entries;
  stays = λ no. let none : ⊥ = cc in absurd none;
  trust = λ no. let none : ⊥ = cc in absurd none;
  mistrust = done.mistrust;
  names = done.names;
  time = done.time;
}

pub syncs_any : (name : List ℕ) (ok : Bool) (old new : Disk) → SyncsFile name true old new → SyncsFile name ok old new
syncs_any name true old new done = done
syncs_any name false old new done = syncs_less name old new done
