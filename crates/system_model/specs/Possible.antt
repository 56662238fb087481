-- Whatever is changed, what holds of a folder at every moment holds after it.
use Rattle.std.proofs.Common.{◌≡◌, ◌≢◌, ◌⊎◌, inl, inr, ℕ, ◌+◌, ◌<◌, Bool, true, false, List, [], ◌++◌, Option, Some, None, refl, sym, ◌∙◌, ap, subst, nat_eq, arith, length}
use Rattle.std.specs.Prelude.{unwrap_or, option_map, take}
use Rattle.std.proofs.lemmas.List.{append-nil, take_at}
use mathlib.Core.Path.{fun_ext}
use Rattle.store_folder.specs.Folder.{Look, LeadsTo}
use Rattle.store_files.specs.Disk.{Created, Appended, Cut, FileSynced, SyncFailed, Moved, Removed, FolderSynced}
use Rattle.store_files.specs.Disk.{Disk, seen, held, made, put, put_at, after, IsPossible, holds_after, bytes_after}
use Rattle.store_files.proofs.DiskLemmas.{put_there, put_elsewhere, set_there, set_elsewhere, read_same, read_at}
use Rattle.store_files.proofs.KnowledgeLemmas.{decided}
use Rattle.system_model.specs.Made.{empty}

-- what holds at every moment, and that a crash may leave in each file the bytes that it has
pub record Stands (d : Disk) : Type 0 where
  pub possible : IsPossible d
  pub stays : (n : List ℕ) (f : ℕ) → d.file_of n ≡ Some f → d.holds f (d.bytes f)

pub empty_stands : Stands empty
empty_stands = record {
  possible = record {
    look = λ n. refl;
    leads = λ n c kept left. left n;
    one_name = λ n m f e. let no : ⊥ = cc in absurd no;
    below = λ n f e. let no : ⊥ = cc in absurd no;
  };
  stays = λ n f e. let no : ⊥ = cc in absurd no;
}

number_decided : (f g : ℕ) → (f ≡ g) ⊎ (f ≢ g)
number_decided f g = told (nat_eq f g) refl
  where
    told : (b : Bool) → b ≡ nat_eq f g → (f ≡ g) ⊎ (f ≢ g)
    told true e = inl (grind (arith, e))
    told false e = inr (λ q. grind (arith, e, q))

-- what is left leads to the same where what is read and what is left is the same, and each file may hold what it held
leads_as : (old new : Option (List ℕ)) (held_old held_new : List ℕ → Type 0) (was left : Option (List ℕ)) → new ≡ old → left ≡ was → ((bytes : List ℕ) → held_old bytes → held_new bytes)
    → LeadsTo old held_old was → LeadsTo new held_new left
leads_as None new held_old held_new was left is at then_holds leads = subst (λ (o : Option (List ℕ)). LeadsTo o held_new left) (sym is) (at ∙ leads)
leads_as (Some _) new held_old held_new was left is at then_holds leads =
    subst (λ (o : Option (List ℕ)). LeadsTo o held_new left) (sym is) (leads.0, then_holds leads.0 leads.1, at ∙ leads.2)

-- a file that is there, of which some bytes are left
leads_some : (file left : Option (List ℕ)) (holds : List ℕ → Type 0) (now bytes : List ℕ) → file ≡ Some now → holds bytes → left ≡ Some bytes → LeadsTo file holds left
leads_some file left holds now bytes is may at = subst (λ (o : Option (List ℕ)). LeadsTo o holds left) (sym is) (bytes, may, at)

same_number : (f g : ℕ) → Some f ≡ Some g → f ≡ g
same_number f g e = ap (λ (o : Option ℕ). unwrap_or o f) e

-- ---- a file that is made

module _ (name : List ℕ) (d : Disk) (was : Stands d) where
  not_made : (n : List ℕ) (g : ℕ) → n ≢ name → d.file_of n ≡ Some g → g ≢ made d name
  not_made n g ne at = named (d.file_of name) refl
    where
      named : (x : Option ℕ) → x ≡ d.file_of name → g ≢ unwrap_or x d.next
      named None e q = let below : g < d.next = was.possible.below n g at in omega (arith, below, q)
      named (Some h) e q = ne (was.possible.one_name n name g at (sym e ∙ ap (λ (k : ℕ). Some k) (sym q)))

  at_name : put name (Some (made d name)) d.file_of name ≡ Some (made d name)
  at_name = put_there name (Some (made d name)) d.file_of

  at_other : (n : List ℕ) → n ≢ name → put name (Some (made d name)) d.file_of n ≡ d.file_of n
  at_other n ne = put_elsewhere name (Some (made d name)) d.file_of n ne

  elsewhere : (n : List ℕ) → n ≢ name → seen (after (Created name) d) n ≡ seen d n
  elsewhere n ne =
      ap (λ (o : Option ℕ). option_map (put_at (made d name) [] d.bytes) o) (at_other n ne)
      ∙ read_same (d.file_of n) d.bytes (put_at (made d name) [] d.bytes) (λ g is. set_elsewhere (made d name) [] d.bytes g (not_made n g ne is))

  below_made : made d name < d.next + 1
  below_made = named (d.file_of name) refl
    where
      named : (x : Option ℕ) → x ≡ d.file_of name → unwrap_or x d.next < d.next + 1
      named None e = omega arith
      named (Some h) e = let below : h < d.next = was.possible.below name h (sym e) in omega (arith, below)

  pub created_stands : Stands (after (Created name) d)
  created_stands = record {
    possible = record {
      look = (seen d, was.possible.look, elsewhere);
      leads = λ n c kept left. leads_as (seen d n) (seen (after (Created name) d) n) (held d n) (held (after (Created name) d) n) (left.0 n) (c n) (elsewhere n kept.0) (left.2 n kept.0)
          (λ bytes holds. (holds.0, at_other n kept.0 ∙ holds.1, λ _. holds.2)) (was.possible.leads n left.0 kept.1 left.1);
      one_name = λ n m g en em. elim (decided n name) [
        | inl e ↦ elim (decided m name) [
          | inl q ↦ e ∙ sym q
          | inr nm ↦ absurd (not_made m g nm (sym (at_other m nm) ∙ em) (same_number g (made d name) (sym en ∙ ap (λ (k : List ℕ). put name (Some (made d name)) d.file_of k) e ∙ at_name)))
        ]
        | inr nn ↦ elim (decided m name) [
          | inl q ↦ absurd (not_made n g nn (sym (at_other n nn) ∙ en) (same_number g (made d name) (sym em ∙ ap (λ (k : List ℕ). put name (Some (made d name)) d.file_of k) q ∙ at_name)))
          | inr nm ↦ was.possible.one_name n m g (sym (at_other n nn) ∙ en) (sym (at_other m nm) ∙ em)
        ]
      ];
      below = λ n g en. elim (decided n name) [
        | inl e ↦ subst (λ (k : ℕ). k < d.next + 1) (sym (same_number g (made d name) (sym en ∙ ap (λ (k : List ℕ). put name (Some (made d name)) d.file_of k) e ∙ at_name))) below_made
        | inr nn ↦ let low : g < d.next = was.possible.below n g (sym (at_other n nn) ∙ en) in omega (arith, low)
      ];
    };
    stays = λ n g en. elim (decided n name) [
      | inl e ↦ λ ne. absurd (ne (same_number g (made d name) (sym en ∙ ap (λ (k : List ℕ). put name (Some (made d name)) d.file_of k) e ∙ at_name)))
      | inr nn ↦ λ ne. subst (λ (b : List ℕ). d.holds g b) (sym (set_elsewhere (made d name) [] d.bytes g ne)) (was.stays n g (sym (at_other n nn) ∙ en))
    ];
  }

-- ---- a file that is written

appended_holds : (f g : ℕ) (more bytes : List ℕ) (d : Disk) → d.holds g bytes → holds_after (Appended f more) d g bytes
appended_holds f g more bytes d holds = (λ _. (bytes, [], holds, omega arith, sym (append-nil bytes)), λ _. holds)

appended_now : (f g : ℕ) (more : List ℕ) (d : Disk) → d.holds g (d.bytes g) → holds_after (Appended f more) d g (bytes_after (Appended f more) d g)
appended_now f g more d holds = elim (number_decided g f) [
  | inl e ↦ (
    λ _. (d.bytes g, more, holds, omega arith, subst (λ (k : ℕ). put_at f (d.bytes f ++ more) d.bytes k ≡ d.bytes k ++ more) (sym e) (set_there f (d.bytes f ++ more) d.bytes)),
    λ ne. absurd (ne e),
  )
  | inr ne ↦ (λ e. absurd (ne e), λ _. subst (λ (b : List ℕ). d.holds g b) (sym (set_elsewhere f (d.bytes f ++ more) d.bytes g ne)) holds)
]

module _ (f : ℕ) (more : List ℕ) (d : Disk) (was : Stands d) where
  may_have : (n : List ℕ)
      → (seen (after (Appended f more) d) n ≡ seen d n) ⊎ ((d.file_of n ≡ Some f) × (bytes : List ℕ) × holds_after (Appended f more) d f bytes × (seen (after (Appended f more) d) n ≡ Some bytes))
  may_have n = named (d.file_of n) refl
    where
      named : (x : Option ℕ) → x ≡ d.file_of n → (option_map (put_at f (d.bytes f ++ more) d.bytes) (d.file_of n) ≡ option_map d.bytes (d.file_of n))
          ⊎ ((d.file_of n ≡ Some f) × (bytes : List ℕ) × holds_after (Appended f more) d f bytes × (option_map (put_at f (d.bytes f ++ more) d.bytes) (d.file_of n) ≡ Some bytes))
      named None e = inl (sym (ap (λ (o : Option ℕ). option_map (put_at f (d.bytes f ++ more) d.bytes) o) e) ∙ ap (λ (o : Option ℕ). option_map d.bytes o) e)
      named (Some g) e = elim (number_decided g f) [
        | inl q ↦ let at : d.file_of n ≡ Some f = sym e ∙ ap (λ (k : ℕ). Some k) q in
            inr (at, bytes_after (Appended f more) d f, appended_now f f more d (was.stays n f at), read_at (d.file_of n) f (put_at f (d.bytes f ++ more) d.bytes) at)
        | inr ne ↦ inl (read_same (d.file_of n) d.bytes (put_at f (d.bytes f ++ more) d.bytes) (λ h is.
            set_elsewhere f (d.bytes f ++ more) d.bytes h (λ q. ne (same_number g f (e ∙ is ∙ ap (λ (k : ℕ). Some k) q)))))
      ]

  kept_leads : (n : List ℕ) (was_left left : Option (List ℕ)) → left ≡ was_left → LeadsTo (seen d n) (held d n) was_left
      → LeadsTo (seen (after (Appended f more) d) n) (held (after (Appended f more) d) n) left
  kept_leads n was_left left at leads = named (d.file_of n) refl
    where
      named : (x : Option ℕ) → x ≡ d.file_of n → LeadsTo (seen (after (Appended f more) d) n) (held (after (Appended f more) d) n) left
      named None e =
          let none : seen d n ≡ None = sym (ap (λ (o : Option ℕ). option_map d.bytes o) e) in
          let new_none : seen (after (Appended f more) d) n ≡ None = sym (ap (λ (o : Option ℕ). option_map (put_at f (d.bytes f ++ more) d.bytes) o) e) in
          leads_as (seen d n) (seen (after (Appended f more) d) n) (held d n) (held (after (Appended f more) d) n) was_left left (new_none ∙ sym none) at
          (λ bytes holds. (holds.0, holds.1, appended_holds f holds.0 more bytes d holds.2)) leads
      named (Some g) e =
          let some : seen d n ≡ Some (d.bytes g) = read_at (d.file_of n) g d.bytes (sym e) in
          let old = subst (λ (o : Option (List ℕ)). LeadsTo o (held d n) was_left) some leads in
          let new = after (Appended f more) d in
          leads_some (seen new n) left (held new n) (bytes_after (Appended f more) d g) old.0 (read_at (d.file_of n) g (put_at f (d.bytes f ++ more) d.bytes) (sym e))
          (old.1.0, old.1.1, appended_holds f old.1.0 more old.0 d old.1.2) (at ∙ old.2)

  pub appended_stands : Stands (after (Appended f more) d)
  appended_stands = record {
    possible = record {
      look = (seen d, was.possible.look, may_have);
      leads = λ n c kept left. elim (left.2 n) [
        | inl same ↦ kept_leads n (left.0 n) (c n) same (was.possible.leads n left.0 kept left.1)
        | inr torn ↦ leads_some (seen (after (Appended f more) d) n) (c n) (held (after (Appended f more) d) n) (bytes_after (Appended f more) d f) torn.1
            (read_at (d.file_of n) f (put_at f (d.bytes f ++ more) d.bytes) torn.0) (f, torn.0, torn.2) torn.3
      ];
      one_name = was.possible.one_name;
      below = λ n g at. let low : g < d.next = was.possible.below n g at in omega (arith, low);
    };
    stays = λ n g at. appended_now f g more d (was.stays n g at);
  }

-- ---- what was written is cut off again

module _ (f : ℕ) (part : List ℕ) (d : Disk) (was : Stands d) where
  cut_bytes : put_at f (take (length (d.bytes f)) (bytes_after (Appended f part) d f)) (bytes_after (Appended f part) d) ≡ d.bytes
  cut_bytes = fun_ext (λ g. elim (number_decided g f) [
    | inl e ↦ subst (λ (k : ℕ). put_at f (take (length (d.bytes f)) (bytes_after (Appended f part) d f)) (bytes_after (Appended f part) d) k ≡ d.bytes k) (sym e)
        (set_there f (take (length (d.bytes f)) (bytes_after (Appended f part) d f)) (bytes_after (Appended f part) d)
        ∙ ap (λ (b : List ℕ). take (length (d.bytes f)) b) (set_there f (d.bytes f ++ part) d.bytes) ∙ take_at (d.bytes f) part (length (d.bytes f)) refl)
    | inr ne ↦ set_elsewhere f (take (length (d.bytes f)) (bytes_after (Appended f part) d f)) (bytes_after (Appended f part) d) g ne ∙ set_elsewhere f (d.bytes f ++ part) d.bytes g ne
  ])

  cut_leads : (n : List ℕ) (c : Look) → d.kept n → (after (Appended f part) d).leaves c → LeadsTo (seen (after (Appended f part) d) n) (held (after (Appended f part) d) n) (c n)
      → (x : Option ℕ) → x ≡ d.file_of n → LeadsTo (seen d n) (held (after (Appended f part) d) n) (c n)
  cut_leads n c kept left leads None e =
      let none : seen d n ≡ None = sym (ap (λ (o : Option ℕ). option_map d.bytes o) e) in
      let new_none : seen (after (Appended f part) d) n ≡ None = sym (ap (λ (o : Option ℕ). option_map (put_at f (d.bytes f ++ part) d.bytes) o) e) in
      subst (λ (o : Option (List ℕ)). LeadsTo o (held (after (Appended f part) d) n) (c n)) (new_none ∙ sym none) leads
  cut_leads n c kept left leads (Some g) e =
      let some = read_at (d.file_of n) g (put_at f (d.bytes f ++ part) d.bytes) (sym e) in
      let old = subst (λ (o : Option (List ℕ)). LeadsTo o (held (after (Appended f part) d) n) (c n)) some leads in
      leads_some (seen d n) (c n) (held (after (Appended f part) d) n) (d.bytes g) old.0 (read_at (d.file_of n) g d.bytes (sym e)) old.1 old.2

  pub cut_stands : Stands (after (Cut f (length (d.bytes f))) (after (Appended f part) d))
  cut_stands = record {
    possible = record {
      look = (seen d, was.possible.look, λ n. inl (ap (λ (b : ℕ → List ℕ). option_map b (d.file_of n)) cut_bytes));
      leads = λ n c kept left. subst (λ (b : ℕ → List ℕ). LeadsTo (option_map b (d.file_of n)) (held (after (Appended f part) d) n) (c n)) (sym cut_bytes)
          (cut_leads n c kept left ((appended_stands f part d was).possible.leads n c kept left) (d.file_of n) refl);
      one_name = was.possible.one_name;
      below = λ n g at. let low : g < d.next = was.possible.below n g at in omega (arith, low);
    };
    stays = λ n g at. subst (λ (b : ℕ → List ℕ). holds_after (Appended f part) d g (b g)) (sym cut_bytes) (appended_holds f g part (d.bytes g) d (was.stays n g at));
  }

-- ---- a file that is synced, or of which a sync fails

module _ (f : ℕ) (d : Disk) (was : Stands d) where
  synced_leads : (n : List ℕ) (left : Option (List ℕ)) → (d.file_of n ≡ Some f → d.trusted f → left ≡ Some (d.bytes f)) → LeadsTo (seen d n) (held d n) left
      → LeadsTo (seen d n) (held (after (FileSynced f) d) n) left
  synced_leads n left kept leads = named (d.file_of n) refl
    where
      named : (x : Option ℕ) → x ≡ d.file_of n → LeadsTo (seen d n) (held (after (FileSynced f) d) n) left
      named None e =
          let none : seen d n ≡ None = sym (ap (λ (o : Option ℕ). option_map d.bytes o) e) in
          subst (λ (o : Option (List ℕ)). LeadsTo o (held (after (FileSynced f) d) n) left) (sym none) (subst (λ (o : Option (List ℕ)). LeadsTo o (held d n) left) none leads)
      named (Some g) e =
          let old = subst (λ (o : Option (List ℕ)). LeadsTo o (held d n) left) (read_at (d.file_of n) g d.bytes (sym e)) leads in
          leads_some (seen d n) left (held (after (FileSynced f) d) n) (d.bytes g) old.0 (read_at (d.file_of n) g d.bytes (sym e)) (
            old.1.0,
            old.1.1,
            (
              old.1.2,
              λ q trusted.
                  let at : d.file_of n ≡ Some f = old.1.1 ∙ ap (λ (k : ℕ). Some k) q in
                  let is : Some old.0 ≡ Some (d.bytes f) = sym old.2 ∙ kept at (subst (λ (k : ℕ). d.trusted k) q trusted) in
                  ap (λ (k : ℕ). d.bytes k) q ∙ sym (ap (λ (o : Option (List ℕ)). unwrap_or o []) is),
            ),
          ) old.2

  pub synced_stands : Stands (after (FileSynced f) d)
  synced_stands = record {
    possible = record {
      look = (was.possible.look, λ n at trusted kept. read_at (d.file_of n) f d.bytes at);
      leads = λ n c kept left. synced_leads n (c n) (λ at trusted. left.1 n at trusted kept) (was.possible.leads n c kept left.0);
      one_name = was.possible.one_name;
      below = λ n g at. let low : g < d.next = was.possible.below n g at in omega (arith, low);
    };
    stays = λ n g at. (was.stays n g at, λ q trusted. refl);
  }

  same_bytes : put_at f (d.bytes f) d.bytes ≡ d.bytes
  same_bytes = fun_ext (λ g. elim (number_decided g f) [
    | inl e ↦ subst (λ (k : ℕ). put_at f (d.bytes f) d.bytes k ≡ d.bytes k) (sym e) (set_there f (d.bytes f) d.bytes)
    | inr ne ↦ set_elsewhere f (d.bytes f) d.bytes g ne
  ])

  pub failed_stands : Stands (after (SyncFailed f (d.bytes f)) d)
  failed_stands = record {
    possible = record {
      look = subst (λ (b : ℕ → List ℕ). d.leaves (λ n. option_map b (d.file_of n))) (sym same_bytes) was.possible.look;
      leads = λ n c kept left. subst (λ (b : ℕ → List ℕ). LeadsTo (option_map b (d.file_of n)) (held d n) (c n)) (sym same_bytes) (was.possible.leads n c kept left);
      one_name = was.possible.one_name;
      below = λ n g at. let low : g < d.next = was.possible.below n g at in omega (arith, low);
    };
    stays = λ n g at. subst (λ (b : ℕ → List ℕ). d.holds g (b g)) (sym same_bytes) (was.stays n g at);
  }

-- ---- a file that is moved or removed, and a folder that is synced

module _ (from to : List ℕ) (f : ℕ) (d : Disk) (was : Stands d) (there : d.file_of from ≡ Some f) (apart : from ≢ to) where
  at_new : put to (d.file_of from) (put from None d.file_of) to ≡ d.file_of from
  at_new = put_there to (d.file_of from) (put from None d.file_of)

  at_old : put to (d.file_of from) (put from None d.file_of) from ≡ None
  at_old = put_elsewhere to (d.file_of from) (put from None d.file_of) from apart ∙ put_there from None d.file_of

  at_rest : (n : List ℕ) → n ≢ from → n ≢ to → put to (d.file_of from) (put from None d.file_of) n ≡ d.file_of n
  at_rest n nf nt = put_elsewhere to (d.file_of from) (put from None d.file_of) n nt ∙ put_elsewhere from None d.file_of n nf

  -- the name that the file of a name had before
  name_before : (n : List ℕ) (g : ℕ) → put to (d.file_of from) (put from None d.file_of) n ≡ Some g
      → ((n ≡ to) × (d.file_of from ≡ Some g)) ⊎ ((n ≢ from) × (n ≢ to) × (d.file_of n ≡ Some g))
  name_before n g at = elim (decided n to) [
    | inl e ↦ inl (e, sym at_new ∙ sym (ap (λ (k : List ℕ). put to (d.file_of from) (put from None d.file_of) k) e) ∙ at)
    | inr nt ↦ elim (decided n from) [
      | inl e ↦ let no : ⊥ = (let q : None ≡ Some g = sym at_old ∙ sym (ap (λ (k : List ℕ). put to (d.file_of from) (put from None d.file_of) k) e) ∙ at in cc) in absurd no
      | inr nf ↦ inr (nf, nt, sym (at_rest n nf nt) ∙ at)
    ]
  ]

  pub moved_stands : Stands (after (Moved from to) d)
  moved_stands = record {
    possible = record {
      look = (
        seen d,
        was.possible.look,
        record {
          at_new_name = inr (d.bytes f, (f, there, was.stays from f there), ap (λ (o : Option ℕ). option_map d.bytes o) (at_new ∙ there));
          elsewhere = λ n nf nt. ap (λ (o : Option ℕ). option_map d.bytes o) (at_rest n nf nt);
        },
      );
      leads = λ n c kept left. leads_as (seen d n) (seen (after (Moved from to) d) n) (held d n) (held (after (Moved from to) d) n) (left.0 n) (c n)
          (ap (λ (o : Option ℕ). option_map d.bytes o) (at_rest n kept.0 kept.1)) (left.2.elsewhere n kept.0 kept.1)
          (λ bytes holds. (holds.0, at_rest n kept.0 kept.1 ∙ holds.1, holds.2)) (was.possible.leads n left.0 kept.2 left.1);
      one_name = λ n m g en em. elim (name_before n g en) [
        | inl a ↦ elim (name_before m g em) [
          | inl b ↦ a.0 ∙ sym b.0
          | inr b ↦ absurd (b.0 (was.possible.one_name m from g b.2 a.1))
        ]
        | inr a ↦ elim (name_before m g em) [
          | inl b ↦ absurd (a.0 (was.possible.one_name n from g a.2 b.1))
          | inr b ↦ was.possible.one_name n m g a.2 b.2
        ]
      ];
      below = λ n g at. elim (name_before n g at) [
        | inl a ↦ let low : g < d.next = was.possible.below from g a.1 in omega (arith, low)
        | inr a ↦ let low : g < d.next = was.possible.below n g a.2 in omega (arith, low)
      ];
    };
    stays = λ n g at. elim (name_before n g at) [ inl a ↦ was.stays from g a.1 | inr a ↦ was.stays n g a.2 ];
  }

module _ (name : List ℕ) (d : Disk) (was : Stands d) where
  rest_at : (n : List ℕ) → n ≢ name → put name None d.file_of n ≡ d.file_of n
  rest_at n ne = put_elsewhere name None d.file_of n ne

  other_name : (n : List ℕ) (g : ℕ) → put name None d.file_of n ≡ Some g → (n ≢ name) × (d.file_of n ≡ Some g)
  other_name n g at = elim (decided n name) [
    | inl e ↦ let no : ⊥ = (let q : None ≡ Some g = sym (put_there name None d.file_of) ∙ sym (ap (λ (k : List ℕ). put name None d.file_of k) e) ∙ at in cc) in absurd no
    | inr ne ↦ (ne, sym (rest_at n ne) ∙ at)
  ]

  pub removed_stands : Stands (after (Removed name) d)
  removed_stands = record {
    possible = record {
      look = (
        seen d,
        was.possible.look,
        record {
          at_name = inr (ap (λ (o : Option ℕ). option_map d.bytes o) (put_there name None d.file_of));
          elsewhere = λ n ne. ap (λ (o : Option ℕ). option_map d.bytes o) (rest_at n ne);
        },
      );
      leads = λ n c kept left. leads_as (seen d n) (seen (after (Removed name) d) n) (held d n) (held (after (Removed name) d) n) (left.0 n) (c n)
          (ap (λ (o : Option ℕ). option_map d.bytes o) (rest_at n kept.0)) (left.2.elsewhere n kept.0) (λ bytes holds. (holds.0, rest_at n kept.0 ∙ holds.1, holds.2))
          (was.possible.leads n left.0 kept.1 left.1);
      one_name = λ n m g en em. was.possible.one_name n m g (other_name n g en).1 (other_name m g em).1;
      below = λ n g at. let low : g < d.next = was.possible.below n g (other_name n g at).1 in omega (arith, low);
    };
    stays = λ n g at. was.stays n g (other_name n g at).1;
  }

leads_now : (d : Disk) (n : List ℕ) (x : Option ℕ) → x ≡ d.file_of n → ((f : ℕ) → d.file_of n ≡ Some f → d.holds f (d.bytes f)) → LeadsTo (seen d n) (held d n) (seen d n)
leads_now d n None e stays =
    let none : seen d n ≡ None = sym (ap (λ (o : Option ℕ). option_map d.bytes o) e) in
    subst (λ (o : Option (List ℕ)). LeadsTo o (held d n) (seen d n)) (sym none) none
leads_now d n (Some f) e stays =
    let at : d.file_of n ≡ Some f = sym e in
    let some : seen d n ≡ Some (d.bytes f) = read_at (d.file_of n) f d.bytes at in
    leads_some (seen d n) (seen d n) (held d n) (d.bytes f) (d.bytes f) some (f, at, stays f at) some

pub entries_stand : (d : Disk) → Stands d → Stands (after FolderSynced d)
entries_stand d was = record {
  possible = record {
    look = (was.possible.look, λ n. leads_now d n (d.file_of n) refl (was.stays n));
    leads = λ n c kept left. left.1 n;
    one_name = was.possible.one_name;
    below = λ n g at. let low : g < d.next = was.possible.below n g at in omega (arith, low);
  };
  stays = was.stays;
}
