-- How many documents are damaged, and what a verdict is after one block more.
use Rattle.std.proofs.Common.{◌≡◌, ◌≢◌, ℕ, zero, suc, ◌+◌, ◌<◌, ◌≤◌, ◌^◌, Bool, true, false, cond, List, [], ◌∷◌, ◌++◌, length, map, Option, Some, None, refl}
use Rattle.std.proofs.Common.{sym, ap, ◌∙◌, subst, arith, length-append, append_assoc}
use Rattle.std.specs.Prelude.{not, ◌&&◌, ◌||◌, is_none, is_some, IsSome, IfSome, MatchOption, nat_eq}
use Rattle.std.specs.List.{count_by, list_all, list_any, range_with_len}
use Rattle.std.proofs.lemmas.List.{append-nil, map-append}
use mir.Val.{bool_byte}
use Rattle.std.proofs.Math.Bool.{and-false}
use Rattle.std.proofs.lemmas.Bool.Decides.{nat_tests}
use Rattle.std.proofs.lemmas.Option.{IfSome_then}
use Rattle.std.proofs.lemmas.List.Concat.{flat_map-append}
use Rattle.std.proofs.lemmas.List.FromFn.{length-map-range_with_len}
use Rattle.std.proofs.lemmas.List.Sums.{sum_by-append, count_by-le-length}
use Rattle.docstore.proofs.TakenLemmas.{length-slots}
use Rattle.store_base.specs.Counts.{raised}
use Rattle.store_format.specs.Block.{Slot, slot, doc, damaged}
use Rattle.store_format.specs.Slots.{slots}
use Rattle.store_format.specs.StoreFile.{StoreBlock, docs_in, data_of}
use Rattle.store_commands.specs.declared.checking.FaultPlace.{FaultPlace}
use Rattle.store_commands.specs.declared.checking.Verdict.{Verdict}
use Rattle.store_commands.specs.Blocks.{AreWhole}
use Rattle.store_commands.specs.Checks.{is_damaged, slots_in, damaged_count, has_table, is_sound, is_sound_block, HasFault, IsFirstFault, Judges}

-- ---- ranges of documents

pub range_joined : (a m n : ℕ) → range_with_len a (m + n) ≡ range_with_len a m ++ range_with_len (a + m) n
range_joined a zero n = let none : 0 + n ≡ n = omega arith in let here : a + 0 ≡ a = omega arith in rw (none, here) refl
range_joined a (suc m) n =
    let more : suc m + n ≡ suc (m + n) = omega arith in
    let here : a + suc m ≡ (a + 1) + m = omega arith in
    rw (more, here) (ap (λ (xs : List ℕ). a ∷ xs) (range_joined (a + 1) m n))

one_more : (block : List ℕ) (n : ℕ) → slots_in block (n + 1) ≡ slots_in block n ++ slot block n ∷ []
one_more block n = ap (map (slot block)) (range_joined 0 n 1) ∙ map-append (slot block) (range_with_len 0 n) (range_with_len (0 + n) 1) ∙ last
  where
    last : map (slot block) (range_with_len 0 n) ++ map (slot block) (range_with_len (0 + n) 1) ≡ slots_in block n ++ slot block n ∷ []
    last = let here : 0 + n ≡ n = omega arith in rw here refl

-- one document more
pub damaged_more : (block : List ℕ) (n : ℕ) → damaged_count block (n + 1) ≡ damaged_count block n + cond (is_damaged (slot block n)) 1 0
damaged_more block n =
    let joined = sum_by-append (λ (s : Slot). cond (is_damaged s) 1 0) (slots_in block n) (slot block n ∷ []) in
    let one : count_by is_damaged (slot block n ∷ []) ≡ cond (is_damaged (slot block n)) 1 0 = omega arith in
    ap (count_by is_damaged) (one_more block n) ∙ joined ∙ ap (λ (k : ℕ). damaged_count block n + k) one

pub damaged_few : (block : List ℕ) (n : ℕ) → damaged_count block n ≤ n
damaged_few block n = let few = count_by-le-length is_damaged (slots_in block n) in let size = length-map-range_with_len (slot block) 0 n in omega arith

-- where all further ones are damaged
pub damaged_rest : (block : List ℕ) (some more : ℕ) → ((k : ℕ) → some ≤ k → k < some + more → slot block k ≡ damaged) → damaged_count block (some + more) ≡ damaged_count block some + more
damaged_rest block some zero h = let none : some + 0 ≡ some = omega arith in rw none (omega arith)
damaged_rest block some (suc more) h =
    let last : some + suc more ≡ (some + more) + 1 = omega arith in
    let on = damaged_rest block some more (λ k le lt. h k le (omega arith)) in
    let here = ap (λ (s : Slot). cond {A = ℕ} (is_damaged s) 1 0) (h (some + more) (omega arith) (omega arith)) in
    let step = damaged_more block (some + more) in
    ap (damaged_count block) last ∙ omega arith

-- ---- none is damaged

whole_from : (block : List ℕ) (a n : ℕ) → ((k : ℕ) → a ≤ k → k < a + n → slot block k ≢ damaged) → list_any is_damaged (map (slot block) (range_with_len a n)) ≡ false
whole_from block a zero h = refl
whole_from block a (suc n) h = rw (sound (slot block a) (h a (omega arith) (omega arith)), whole_from block (a + 1) n (λ k le lt. h k (omega arith) (omega arith))) refl
  where
    sound : (s : Slot) → s ≢ damaged → is_damaged s ≡ false
    sound s ne = elim s as (λ t. t ≢ damaged → is_damaged t ≡ false) [ doc bytes ↦ λ _. refl | damaged ↦ λ n. absurd (n refl) ] ne

pub none_damaged : (block : List ℕ) (n : ℕ) → ((k : ℕ) → k < n → slot block k ≢ damaged) → list_any is_damaged (slots_in block n) ≡ false
none_damaged block n h = whole_from block 0 n (λ k le lt. h k (omega arith))

-- one is
some_from : (block : List ℕ) (a n k : ℕ) → a ≤ k → k < a + n → slot block k ≡ damaged → list_any is_damaged (map (slot block) (range_with_len a n)) ≡ true
some_from block a zero k le lt e = absurd (omega arith)
some_from block a (suc n) k le lt e = (elim (nat_eq a k) as (λ b. nat_eq a k ≡ b → list_any is_damaged (map (slot block) (range_with_len a (suc n))) ≡ true) [
  | true ↦ λ t. let here : a ≡ k = grind (arith, nat_tests) in rw (ap is_damaged (ap (slot block) here ∙ e)) refl
  | false ↦ λ t. let apart : a ≢ k = grind (arith, nat_tests) in rw (some_from block (a + 1) n k (omega arith) (omega arith) e) (or_true (is_damaged (slot block a)))
]) refl
  where
    or_true : (b : Bool) → (b || true) ≡ true
    or_true true = refl
    or_true false = refl

pub one_damaged : (block : List ℕ) (n k : ℕ) → k < n → slot block k ≡ damaged → list_any is_damaged (slots_in block n) ≡ true
one_damaged block n k lt e = some_from block 0 n k (omega arith) (omega arith) e

-- ---- sound blocks

pub sound_if : (block : List ℕ) (n : ℕ) → true ≡ has_table block n → AreWhole block n → true ≡ is_sound block n
sound_if block n table whole = rw (← table, none_damaged block n whole) refl

pub broken_if : (block : List ℕ) (n k : ℕ) → k < n → slot block k ≡ damaged → false ≡ is_sound block n
broken_if block n k lt e = rw (one_damaged block n k lt e) (sym (and-false (has_table block n)))

-- whether a document is damaged, by whether it is found
pub told : {R : Type 0} (r : Option R) (bytes : R → List ℕ) (s : Slot) → MatchOption r (s ≡ damaged) (λ x. s ≡ doc (bytes x)) → is_damaged s ≡ is_none r
told None bytes s h = ap is_damaged h
told (Some x) bytes s h = ap is_damaged h

pub none_is : {R : Type 0} (r : Option R) (b : Bool) → is_some r ≡ not b → b ≡ is_none r
none_is None true e = refl
none_is None false e = absurd cc
none_is (Some x) true e = absurd cc
none_is (Some x) false e = refl

byte_is : (b : Bool) → bool_byte b ≡ cond b 1 0
byte_is true = refl
byte_is false = refl

-- what a document adds to the count
pub told_byte : {R : Type 0} (r : Option R) (bytes : R → List ℕ) (s : Slot) (b : Bool) → MatchOption r (s ≡ damaged) (λ x. s ≡ doc (bytes x)) → is_some r ≡ not b
    → bool_byte b ≡ cond (is_damaged s) 1 0
told_byte r bytes s b h e = byte_is b ∙ ap (λ (x : Bool). cond {A = ℕ} x 1 0) (none_is r b e ∙ sym (told r bytes s h))

-- ---- verdicts

pub slots_joined : (front : List StoreBlock) (b : StoreBlock) → slots (front ++ b ∷ []) ≡ slots front ++ slots_in b.bytes b.count
slots_joined front b =
    flat_map-append (λ (x : StoreBlock). map (slot x.bytes) (range_with_len 0 x.count)) front (b ∷ [])
    ∙ ap (λ (xs : List Slot). slots front ++ xs) (append-nil (slots_in b.bytes b.count))

list_all_push : {X : Type 0} (p : X → Bool) (xs : List X) (y : X) → list_all p (xs ++ y ∷ []) ≡ (list_all p xs && p y)
list_all_push p [] y = and_true (p y)
  where
    and_true : (b : Bool) → (b && true) ≡ (true && b)
    and_true true = refl
    and_true false = refl
list_all_push p (x ∷ xs) y = ap (λ (b : Bool). p x && b) (list_all_push p xs y) ∙ assoc (p x) (list_all p xs) (p y)
  where
    assoc : (a b c : Bool) → (a && (b && c)) ≡ ((a && b) && c)
    assoc true b c = refl
    assoc false b c = refl

-- what a verdict takes of a block
pub record TakesBlock (old new : Verdict) (first byte : ℕ) (bytes : List ℕ) (count : ℕ) : Type 0 where
  pub blocks : new.blocks ≡ raised old.blocks 1
  pub damaged_documents : new.damaged ≡ raised old.damaged (damaged_count bytes count)
  pub broken : new.broken_blocks ≡ cond (is_sound bytes count) old.broken_blocks (raised old.broken_blocks 1)
  pub kept : IsSome old.first → new.first ≡ old.first
  pub sound : old.first ≡ None → is_none new.first ≡ is_sound bytes count
  pub found : old.first ≡ None → IfSome new.first (λ place. (place.block ≡ old.blocks) × (place.byte ≡ byte) × HasFault first bytes count place.fault)

fault_stays : (front : List StoreBlock) (b : StoreBlock) (place : FaultPlace) → IsFirstFault front place → IsFirstFault (front ++ b ∷ []) place
fault_stays front b place h = record {
  before = h.before;
  broken = h.broken;
  after = h.after ++ b ∷ [];
  blocks = ap (λ (xs : List StoreBlock). xs ++ b ∷ []) h.blocks ∙ append_assoc h.before (h.broken ∷ h.after) (b ∷ []);
  sound = h.sound;
  fault = h.fault;
  number = h.number;
  byte = h.byte;
}

pub judges_more : (front : List StoreBlock) (b : StoreBlock) (old new : Verdict) → length front + 1 < 2 ^ 33 → docs_in front + b.count < 2 ^ 33 → Judges front old
    → TakesBlock old new (docs_in front) (length (data_of front)) b.bytes b.count → Judges (front ++ b ∷ []) new
judges_more front b old new few docs j t =
    let size = length-append front (b ∷ []) in
    let count : count_by is_damaged (slots (front ++ b ∷ [])) ≡ count_by is_damaged (slots front) + damaged_count b.bytes b.count =
    ap (count_by is_damaged) (slots_joined front b) ∙ sum_by-append (λ (s : Slot). cond (is_damaged s) 1 0) (slots front) (slots_in b.bytes b.count) in
    let first_few = count_by-le-length is_damaged (slots front) in let len = length-slots front in let more_few = damaged_few b.bytes b.count in
    let broken : count_by (λ x. not (is_sound_block x)) (front ++ b ∷ []) ≡ count_by (λ x. not (is_sound_block x)) front + count_by (λ x. not (is_sound_block x)) (b ∷ []) =
    sum_by-append (λ (x : StoreBlock). cond (not (is_sound_block x)) 1 0) front (b ∷ []) in
    let this = turned (is_sound_block b) in
    let broken_few = count_by-le-length (λ (x : StoreBlock). not (is_sound_block x)) front in
    let one = one_few (is_sound b.bytes b.count) in
    let picked = picks (is_sound b.bytes b.count) old.broken_blocks (omega (arith, j.broken, broken_few)) in
    record {
      blocks = omega (arith, t.blocks, j.blocks, size);
      damaged_documents = omega (arith, t.damaged_documents, j.damaged_documents, count, first_few, len, more_few);
      broken = omega (arith, t.broken, picked, j.broken, broken, this, broken_few, one);
      sound = sound old.first refl;
      first = first old.first refl;
    }
  where
    turned : (s : Bool) → cond {A = ℕ} (not s) 1 0 ≡ cond s 0 1
    turned true = refl
    turned false = refl

    picks : (s : Bool) (n : ℕ) → n < 2 ^ 33 → cond s n (raised n 1) ≡ n + cond s 0 1
    picks true n lt = omega arith
    picks false n lt = omega arith

    one_few : (s : Bool) → cond {A = ℕ} s 0 1 ≤ 1
    one_few true = omega arith
    one_few false = omega arith

    sound : (o : Option FaultPlace) → old.first ≡ o → is_none new.first ≡ list_all is_sound_block (front ++ b ∷ [])
    sound None e =
        let all : list_all is_sound_block front ≡ true = sym j.sound ∙ ap is_none e in
        t.sound e ∙ sym (list_all_push is_sound_block front b ∙ ap (λ (x : Bool). x && is_sound_block b) all)
    sound (Some place) e =
        let some : list_all is_sound_block front ≡ false = sym j.sound ∙ ap is_none e in
        ap is_none (t.kept (subst IsSome (sym e) refl) ∙ e) ∙ sym (list_all_push is_sound_block front b ∙ ap (λ (x : Bool). x && is_sound_block b) some)

    first : (o : Option FaultPlace) → old.first ≡ o → IfSome new.first (IsFirstFault (front ++ b ∷ []))
    first None e =
        let all : list_all is_sound_block front ≡ true = sym j.sound ∙ ap is_none e in
        IfSome_then new.first (t.found e) (λ place h. record { before = front; broken = b; after = []; blocks = refl; sound = all; fault = h.2; number = h.0 ∙ j.blocks; byte = h.1 })
    first (Some place) e =
        let this : IsFirstFault front place = subst (λ (o : Option FaultPlace). IfSome o (IsFirstFault front)) e j.first in
        subst (λ (o : Option FaultPlace). IfSome o (IsFirstFault (front ++ b ∷ []))) (sym (t.kept (subst IsSome (sym e) refl) ∙ e)) (fault_stays front b place this)
