-- A run of a log's segments that become one, and a segment that others cover, by their places.
use Rattle.std.proofs.Common.{◌≡◌, ℕ, suc, ◌+◌, ◌<◌, ◌≤◌, List, [], ◌∷◌, ◌++◌, length, take, drop, map, set, get_or, None, refl, sym, ◌∙◌, ap, subst, arith}
use Rattle.std.specs.Prelude.{All}
use Rattle.std.proofs.lemmas.List.{drop_at, take_at, set_at, get_or_at, get_or-map, map-set, take-map, drop-map, map-append, drop-drop, length-map, length-append}
use Rattle.std.proofs.lemmas.List.Elements.{All-nil, All-cons, All-take, All-drop}
use Rattle.std.specs.List.{AllByRecursion, remove}
use Rattle.store_folder.specs.Moments.{ComesFrom}
use Rattle.store_folder.specs.Folder.{Look, ElsewhereOfBoth, FilesElsewhere, FilesElsewhereOfBoth, LosesFile}
use Rattle.store_folder.specs.Publishing.{part}
use Rattle.segmented_log.specs.Names.{segment_name, tail_name}
use Rattle.segmented_log.specs.Parts.{Part, Sealed, end_of, end_from, parts_of, log_slots, AreParts}
use Rattle.segmented_log.specs.Log.{HasSegment, Holds, IsLog}
use Rattle.segmented_log.specs.Settled.{AddsSegment, IsSettledFolder}
use Rattle.segmented_log.specs.Dropping.{LosesSegment}
use Rattle.segmented_log.specs.Compacting.{slots_in, IsRun, one_of, IsCovered}
use Rattle.segmented_log.proofs.JoinedParts.{whole_slots, left_slots}
use Rattle.segmented_log.proofs.CompactLemmas.{joining_log, joined_folder, removing_log, removed_folder}

-- the parts with the run as one
abbrev pub with_joined : {parts : List Part} {place count : ℕ} → IsRun parts place count → List Part
with_joined r = r.before ++ one_of r ∷ (r.run ++ r.after)

-- what holds of each part holds of what stands for it
pub all_of : {X : Type 0} (P : Part → Type 0) (f : X → Part) (xs : List X) → AllByRecursion P (map f xs) → All (λ x. P (f x)) xs
all_of P f [] all = All-nil (λ x. P (f x))
all_of P f (x ∷ xs) all = All-cons (λ y. P (f y)) x xs all.0 (all_of P f xs all.1)

-- of each of some that follow one another
pub parts_there : {X : Type 0} (P : Part → Type 0) (f : X → Part) (xs ys : List X) → ys ≡ xs → AllByRecursion P (map f xs) → (place n : ℕ) → All (λ x. P (f x)) (take n (drop place ys))
parts_there {X} P f xs ys same all place n =
    subst (λ (l : List X). All (λ x. P (f x)) (take n (drop place l))) (sym same) (All-take (λ x. P (f x)) n (drop place xs) (All-drop (λ x. P (f x)) place xs (all_of P f xs all)))

-- the same places of the same parts
pub run_moved : (xs ys : List Part) (place count : ℕ) → xs ≡ ys → IsRun xs place count → IsRun ys place count
run_moved xs ys place count same r = record {
  before = r.before;
  head = r.head;
  run = r.run;
  after = r.after;
  split = sym same ∙ r.split;
  place_is = r.place_is;
  count_is = r.count_is;
  next = r.next;
}

pub moved_one : (xs ys : List Part) (place count : ℕ) (same : xs ≡ ys) (r : IsRun xs place count) → one_of (run_moved xs ys place count same r) ≡ one_of r
unfolding run_moved
moved_one xs ys place count same r = refl

pub covered_moved : (first : ℕ) (xs ys : List Part) (place : ℕ) → xs ≡ ys → IsCovered first xs place → IsCovered first ys place
covered_moved first xs ys place same v = record {
  before = v.before;
  covered = v.covered;
  after = v.after;
  split = sym same ∙ v.split;
  place_is = v.place_is;
  some = v.some;
  ends = v.ends;
}

-- the parts of segments as callers see them
pub view_parts : {X : Type 0} (g : X → Sealed) (f : X → Part) → ((x : X) → (g x).part ≡ f x) → (xs : List X) → parts_of (map g xs) ≡ map f xs
view_parts g f same [] = refl
view_parts g f same (x ∷ xs) = λ i. same x i ∷ view_parts g f same xs i

-- of things that stand for parts, those of a run
module _ {X : Type 0} (f : X → Part) (xs : List X) (place count : ℕ) (r : IsRun (map f xs) place count) where
  pub run_within : place + count < length xs
  run_within =
      omega (arith, ap length r.split, length-map xs f, length-append r.before (r.head ∷ (r.run ++ r.after)), length-append r.run r.after, r.place_is, r.count_is)

  run_parts : map f (take (count + 1) (drop place xs)) ≡ r.head ∷ r.run
  run_parts =
      let size : length (r.head ∷ r.run) ≡ count + 1 = omega (arith, r.count_is) in
      sym (take-map f (count + 1) (drop place xs))
      ∙ ap (λ (l : List Part). take (count + 1) l) (sym (drop-map f place xs) ∙ ap (λ (l : List Part). drop place l) r.split ∙ drop_at r.before (r.head ∷ (r.run ++ r.after)) place r.place_is)
      ∙ take_at (r.head ∷ r.run) r.after (count + 1) size

  pub run_slots : (n : ℕ) → n ≡ count + 1 → slots_in (map f (take n (drop place xs))) ≡ r.head.slots ++ slots_in r.run
  run_slots n is = ap (λ (k : ℕ). slots_in (map f (take k (drop place xs)))) is ∙ ap slots_in run_parts

  pub head_is : (x : X) → x ≡ get_or xs place x → f x ≡ r.head
  head_is x is =
      ap f is ∙ sym (get_or-map f xs place x (f x) (omega (arith, run_within))) ∙ ap (λ (l : List Part). get_or l place (f x)) r.split
      ∙ get_or_at r.before r.head (r.run ++ r.after) (f x) place r.place_is

  -- the segment that is published for them
  pub run_part : (x : X) (first n : ℕ) → x ≡ get_or xs place x → first ≡ (f x).first → n ≡ count + 1 → record { first = first; slots = slots_in (map f (take n (drop place xs))) } ≡ one_of r
  run_part x first n at first_is many = λ i. record { first = (first_is ∙ ap (λ (p : Part). p.first) (head_is x at)) i; slots = run_slots n many i }

  pub run_set : (y : X) → f y ≡ one_of r → map f (set xs place y) ≡ with_joined r
  run_set y is =
      map-set f xs place y ∙ ap (λ (l : List Part). set l place (f y)) r.split
      ∙ set_at r.before r.head (r.run ++ r.after) (f y) place r.place_is
      ∙ ap (λ (p : Part). r.before ++ p ∷ (r.run ++ r.after)) is

module _ (first : ℕ) (parts : List Part) (tail : List ℕ) (place count : ℕ) (r : IsRun parts place count) (a : AreParts first parts tail) where
  split_parts : AreParts first (r.before ++ r.head ∷ (r.run ++ r.after)) tail
  split_parts = subst (λ (l : List Part). AreParts first l tail) r.split a

  pub run_log : (earlier : Look → Type 0) → ((c : Look) → earlier c → Holds parts tail c) → (c : Look) → AddsSegment earlier (one_of r) c → IsLog first (log_slots first parts tail) c
  run_log earlier held c adds =
      subst (λ (l : List Part). IsLog first (log_slots first l tail) c) (sym r.split)
      (joining_log first r.before r.head r.run r.after r.next tail split_parts earlier (λ d was. subst (λ (l : List Part). Holds l tail d) r.split (held d was)) c adds)

  pub run_same : log_slots first (with_joined r) tail ≡ log_slots first parts tail
  run_same = whole_slots r.head r.run r.after r.next first r.before tail split_parts ∙ ap (λ (l : List Part). log_slots first l tail) (sym r.split)

  pub run_folder : (sealed : ℕ) (old_hold new_hold : List ℕ → List ℕ → Type 0) (earlier later : Look → Type 0) (old_entry new_entry old_trust new_trust : List ℕ → Type 0)
      → IsSettledFolder old_hold earlier old_entry old_trust first sealed parts tail → FilesElsewhereOfBoth (segment_name r.head.first ++ part) (segment_name r.head.first) old_hold new_hold
      → ((n : List ℕ) → new_entry n) → (old_trust tail_name → new_trust tail_name) → ComesFrom (ElsewhereOfBoth (segment_name r.head.first ++ part) (segment_name r.head.first)) earlier later
      → ((c : Look) → later c → HasSegment c (one_of r)) → IsSettledFolder new_hold later new_entry new_trust first sealed (with_joined r) tail
  run_folder sealed old_hold new_hold earlier later old_entry new_entry old_trust new_trust f files entries trusts follows has =
      joined_folder first r.before r.head r.run r.after r.next tail split_parts sealed old_hold new_hold earlier later old_entry new_entry old_trust new_trust
      (subst (λ (l : List Part). IsSettledFolder old_hold earlier old_entry old_trust first sealed l tail) r.split f) files entries trusts follows has

-- ---- a segment that others cover

-- the parts without it
abbrev pub without : {first : ℕ} {parts : List Part} {place : ℕ} → IsCovered first parts place → List Part
without v = v.before ++ v.after

pub covered_is : {X : Type 0} (f : X → Part) (xs : List X) (first place : ℕ) (v : IsCovered first (map f xs) place) (x : X) → place < length xs → x ≡ get_or xs place x → f x ≡ v.covered
covered_is f xs first place v x within is =
    ap f is ∙ sym (get_or-map f xs place x (f x) within) ∙ ap (λ (l : List Part). get_or l place (f x)) v.split
    ∙ get_or_at v.before v.covered v.after (f x) place v.place_is

-- what is left of some where one goes
pub map_removed : {X Y : Type 0} (f : X → Y) (xs : List X) (place : ℕ) → map f (remove xs place) ≡ remove (map f xs) place
map_removed f xs place =
    map-append f (take place xs) (drop (suc place) xs)
    ∙ (λ i. sym (take-map f place xs) i ++ sym (drop-map f (suc place) xs) i)

pub covered_left : {X : Type 0} (f : X → Part) (xs : List X) (first place : ℕ) (v : IsCovered first (map f xs) place) → map f (remove xs place) ≡ without v
covered_left f xs first place v =
    let l = v.before ++ v.covered ∷ v.after in
    let next : place + 1 ≡ suc place = omega arith in
    map_removed f xs place
    ∙ ap (λ (m : List Part). remove m place) v.split
    ∙ ap (λ (m : List Part). m ++ drop (suc place) l) (take_at v.before (v.covered ∷ v.after) place v.place_is)
    ∙ ap (λ (m : List Part). v.before ++ m) (ap (λ (n : ℕ). drop n l) (sym next) ∙ sym (drop-drop 1 place l)
    ∙ ap (λ (m : List Part). drop 1 m) (drop_at v.before (v.covered ∷ v.after) place v.place_is))

module _ (first : ℕ) (parts : List Part) (tail : List ℕ) (place : ℕ) (v : IsCovered first parts place) (a : AreParts first parts tail) where
  cut : AreParts first (v.before ++ v.covered ∷ v.after) tail
  cut = subst (λ (l : List Part). AreParts first l tail) v.split a

  pub covered_same : log_slots first (without v) tail ≡ log_slots first parts tail
  covered_same = by v.before (omega (arith, v.place_is, v.some)) v.ends cut ∙ ap (λ (l : List Part). log_slots first l tail) (sym v.split)
    where
      by : (before : List Part) → 0 < length before → end_of v.covered ≤ end_from first before → AreParts first (before ++ v.covered ∷ v.after) tail
          → log_slots first (before ++ v.after) tail ≡ log_slots first (before ++ v.covered ∷ v.after) tail
      by [] some ends b = absurd (omega (arith, some))
      by (x ∷ xs) some ends b = left_slots first x xs v.covered v.after tail ends b

  pub covered_log : (earlier : Look → Type 0) → ((c : Look) → earlier c → Holds parts tail c) → (c : Look) → LosesSegment earlier v.covered.first c → IsLog first (log_slots first parts tail) c
  covered_log earlier held c loses =
      subst (λ (l : List Part). IsLog first (log_slots first l tail) c) (sym v.split)
      (by v.before (omega (arith, v.place_is, v.some)) v.ends cut (λ d was. subst (λ (l : List Part). Holds l tail d) v.split (held d was)))
    where
      by : (before : List Part) → 0 < length before → end_of v.covered ≤ end_from first before → AreParts first (before ++ v.covered ∷ v.after) tail
          → ((d : Look) → earlier d → Holds (before ++ v.covered ∷ v.after) tail d) → IsLog first (log_slots first (before ++ v.covered ∷ v.after) tail) c
      by [] some ends b has = absurd (omega (arith, some))
      by (x ∷ xs) some ends b has = removing_log first x xs v.covered v.after tail ends b earlier has c loses

  pub covered_folder : (sealed : ℕ) (old_hold new_hold : List ℕ → List ℕ → Type 0) (earlier later : Look → Type 0) (old_entry new_entry old_trust new_trust : List ℕ → Type 0)
      → IsSettledFolder old_hold earlier old_entry old_trust first sealed parts tail → FilesElsewhere (segment_name v.covered.first) old_hold new_hold
      → ((n : List ℕ) → new_entry n) → (old_trust tail_name → new_trust tail_name) → ComesFrom (LosesFile (segment_name v.covered.first)) earlier later
      → ((c : Look) → later c → c (segment_name v.covered.first) ≡ None)
      → IsSettledFolder new_hold later new_entry new_trust first sealed (without v) tail
  covered_folder sealed old_hold new_hold earlier later old_entry new_entry old_trust new_trust f files entries trusts follows none =
      by v.before (omega (arith, v.place_is, v.some)) v.ends cut (subst (λ (l : List Part). IsSettledFolder old_hold earlier old_entry old_trust first sealed l tail) v.split f)
    where
      by : (before : List Part) → 0 < length before → end_of v.covered ≤ end_from first before → AreParts first (before ++ v.covered ∷ v.after) tail
          → IsSettledFolder old_hold earlier old_entry old_trust first sealed (before ++ v.covered ∷ v.after) tail
          → IsSettledFolder new_hold later new_entry new_trust first sealed (before ++ v.after) tail
      by [] some ends b g = absurd (omega (arith, some))
      by (x ∷ xs) some ends b g = removed_folder first x xs v.covered v.after tail ends b sealed old_hold new_hold earlier later old_entry new_entry old_trust new_trust g files entries trusts follows
          none
