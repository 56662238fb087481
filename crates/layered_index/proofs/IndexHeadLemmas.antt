-- The head of an index: how many layers there are, where each ends, and what is cut off by it.
use Rattle.std.proofs.Common.{◌≡◌, ℕ, suc, ◌+◌, ◌-◌, ◌<◌, ◌≤◌, ◌^◌, false, cond, eqb, ltb, List, [], ◌∷◌, ◌++◌, length, take, drop, Option, Some, None, refl, sym, ◌∙◌, ap, subst, arith}
use Rattle.std.proofs.lemmas.Bool.{eqb-true, ltb-true}
use Rattle.std.specs.List.{flat_map, concat}
use Rattle.store_base.proofs.ListLemmas.{pass_none}
use Rattle.store_base.specs.VInt.{number, ◌>>=◌, number_at, number_below}
use Rattle.store_base.specs.ReadingLemmas.{bind_some, some_is, pass_some, numbers_are_read}
use Rattle.layered_index.specs.declared.checkpoint.Checkpoint.{Checkpoint}
use Rattle.layered_index.specs.Layers.{digit_count, ends_from, texts_down}
use Rattle.layered_index.specs.IndexReading.{numbers_at, texts_at, ends_at, split_at, IsIndexPart, HasIndex}
use Rattle.layered_index.specs.Sought.{layers_left, next_layer, after_numbers, IndexBytes, IsHeaded}
use Rattle.layered_index.proofs.IndexLemmas.{index_parts}
use Rattle.layered_index.proofs.OpenLemmas.{opens_again}

-- ---- the head of an index

-- bytes that can be cut have a head
record IsCut (bytes : List ℕ) (ts : List (List ℕ)) : Type 0 where
  count : ℕ
  ends : List ℕ
  numbers : List ℕ
  texts : List ℕ
  counted : number_below 65 bytes ≡ Some (count, ends)
  read : numbers_at count ends ≡ Some (numbers, texts)
  cut : texts_at 0 numbers texts ≡ Some ts

is_cut : (bytes : List ℕ) (ts : List (List ℕ)) → split_at bytes ≡ Some ts → IsCut bytes ts
unfolding split_at ends_at
is_cut bytes ts e =
    let a = bind_some (number_below 65 bytes >>= λ count. cond (ltb (length count.1) count.0) None (numbers_at count.0 count.1)) (λ ends. texts_at 0 ends.0 ends.1) ts e in
    let b = bind_some (number_below 65 bytes) (λ count. cond (ltb (length count.1) count.0) None (numbers_at count.0 count.1)) a.0 a.1 in
    let p = pass_none (ltb (length b.0.1) b.0.0) (numbers_at b.0.0 b.0.1) a.0 b.2 in
    record { count = b.0.0; ends = b.0.1; numbers = a.0.0; texts = a.0.1; counted = b.1; read = p.1; cut = a.2 }

pub none_is_some : {A : Type 0} {x : A} (o : Option A) → o ≡ None → o ≡ Some x → ⊥
none_is_some o e f = cc

-- bytes without a head are no index
pub no_count : (period : ℕ) (bytes : List ℕ) → 2 ≤ period → period ≤ 64 → length bytes < 2 ^ 64 → number_below 65 bytes ≡ None → HasIndex period bytes → ⊥
no_count period bytes two small fits none has =
    let cut = is_cut bytes (texts_down period has.0) (opens_again period bytes has.0 two small fits has.1).0 in
    none_is_some (number_below 65 bytes) none cut.counted

pub no_ends : (period : ℕ) (bytes : List ℕ) (count : ℕ) (ends : List ℕ) → 2 ≤ period → period ≤ 64 → length bytes < 2 ^ 64 → number_below 65 bytes ≡ Some (count, ends)
    → after_numbers count ends ≡ None → HasIndex period bytes → ⊥
no_ends period bytes count ends two small fits head none has =
    let cut = is_cut bytes (texts_down period has.0) (opens_again period bytes has.0 two small fits has.1).0 in
    let same = some_is (cut.count, cut.ends) (count, ends) (sym cut.counted ∙ head) in
    let read : numbers_at count ends ≡ Some (cut.numbers, cut.texts) = ap (λ (x : ℕ × List ℕ). numbers_at x.0 x.1) (sym same) ∙ cut.read in
    none_is_some (after_numbers count ends) none (ap (λ (o : Option (List ℕ × List ℕ)). o >>= λ ns. Some ns.1) read)

-- the layers of bytes that can be cut are those after the head
pub head_left : (bytes : List ℕ) (count : ℕ) (ends texts : List ℕ) (ts : List (List ℕ)) → number_below 65 bytes ≡ Some (count, ends) → after_numbers count ends ≡ Some texts → split_at bytes ≡ Some ts
    → layers_left count 0 ends texts ≡ Some ts
unfolding layers_left
head_left bytes count ends texts ts head following e =
    let cut = is_cut bytes ts e in
    let same = some_is (cut.count, cut.ends) (count, ends) (sym cut.counted ∙ head) in
    let read : numbers_at count ends ≡ Some (cut.numbers, cut.texts) = ap (λ (x : ℕ × List ℕ). numbers_at x.0 x.1) (sym same) ∙ cut.read in
    let rest : cut.texts ≡ texts = some_is cut.texts texts (sym (ap (λ (o : Option (List ℕ × List ℕ)). o >>= λ ns. Some ns.1) read) ∙ following) in
    ap (λ (o : Option (List ℕ × List ℕ)). o >>= λ ns. texts_at 0 ns.0 texts) read ∙ ap (texts_at 0 cut.numbers) (sym rest) ∙ cut.cut

-- ---- numbers passed over

abbrev pub put_front : ℕ → Option (List ℕ × List ℕ) → Option (List ℕ × List ℕ)
put_front n o = o >>= λ x. Some (n ∷ x.0, x.1)

abbrev pub rest_of : Option (List ℕ × List ℕ) → Option (List ℕ)
rest_of o = o >>= λ ns. Some ns.1

pub pass_more : (count i : ℕ) (bytes : List ℕ) (n : ℕ) (after : List ℕ) (total : Option (List ℕ)) → i < count → number_below (2 ^ 64) bytes ≡ Some (n, after)
    → after_numbers (count - i) bytes ≡ total → after_numbers (count - (i + 1)) after ≡ total
unfolding numbers_at
pass_more count i bytes n after total lt h so_far =
    let k : count - i ≡ suc (count - (i + 1)) = omega arith in
    let one : after_numbers (count - i) bytes ≡ after_numbers (count - (i + 1)) after = rw (k, h) (regroup (numbers_at (count - (i + 1)) after)) in
    sym one ∙ so_far
  where
    regroup : (o : Option (List ℕ × List ℕ)) → rest_of (put_front n o) ≡ rest_of o
    regroup (Some x) = refl
    regroup None = refl

pub pass_ends : (count i : ℕ) (bytes : List ℕ) (total : Option (List ℕ)) → i < count → number_below (2 ^ 64) bytes ≡ None → after_numbers (count - i) bytes ≡ total → total ≡ None
unfolding numbers_at
pass_ends count i bytes total lt h so_far =
    let k : count - i ≡ suc (count - (i + 1)) = omega arith in
    let one : after_numbers (count - i) bytes ≡ None = rw (k, h) refl in
    sym so_far ∙ one

pub pass_done : (count i : ℕ) (bytes : List ℕ) (total : Option (List ℕ)) → count ≤ i → after_numbers (count - i) bytes ≡ total → total ≡ Some bytes
unfolding numbers_at
pass_done count i bytes total le so_far =
    let k : count - i ≡ 0 = omega arith in
    let one : after_numbers (count - i) bytes ≡ Some bytes = rw k refl in
    sym so_far ∙ one

-- ---- one layer

pub record IsNext (count place : ℕ) (ends texts : List ℕ) (ts : List (List ℕ)) : Type 0 where
  pub layer : List ℕ
  pub end : ℕ
  pub more_ends : List ℕ
  pub more : List ℕ
  pub others : List (List ℕ)
  pub next : next_layer place ends texts ≡ Some (layer, end, more_ends, more)
  pub parts : ts ≡ layer ∷ others
  pub left : layers_left count end more_ends more ≡ Some others

next_is : (place n : ℕ) (ends more_ends texts : List ℕ) → number_below (2 ^ 64) ends ≡ Some (n, more_ends) → ltb n place ≡ false → ltb (length texts) (n - place) ≡ false
    → next_layer place ends texts ≡ Some (take (n - place) texts, n, more_ends, drop (n - place) texts)
unfolding next_layer
next_is place n ends more_ends texts head before long = rw (head, before, long) refl

pub is_next : (count place : ℕ) (ends texts : List ℕ) (ts : List (List ℕ)) → layers_left (suc count) place ends texts ≡ Some ts → IsNext count place ends texts ts
unfolding layers_left numbers_at texts_at
is_next count place ends texts ts e =
    let a = bind_some (numbers_at (suc count) ends) (λ ns. texts_at place ns.0 texts) ts e in
    let b = bind_some (number_below (2 ^ 64) ends) (λ n. numbers_at count n.1 >>= λ others. Some (n.0 ∷ others.0, others.1)) a.0 a.1 in
    let n = b.0.0 in
    let d = bind_some (numbers_at count b.0.1) (λ others. Some (n ∷ others.0, others.1)) a.0 b.2 in
    let same = some_is (n ∷ d.0.0, d.0.1) a.0 d.2 in
    let f : texts_at place (n ∷ d.0.0) texts ≡ Some ts = ap (λ (y : List ℕ × List ℕ). texts_at place y.0 texts) same ∙ a.2 in
    let front = take (n - place) texts in
    let rest = drop (n - place) texts in
    let p = pass_none (ltb n place) (cond (ltb (length texts) (n - place)) None (texts_at n d.0.0 rest >>= λ others. Some (front ∷ others))) ts f in
    let q = pass_none (ltb (length texts) (n - place)) (texts_at n d.0.0 rest >>= λ others. Some (front ∷ others)) ts p.1 in
    let g = bind_some (texts_at n d.0.0 rest) (λ others. Some (front ∷ others)) ts q.1 in
    record {
      layer = front;
      end = n;
      more_ends = b.0.1;
      more = rest;
      others = g.0;
      next = next_is place n ends b.0.1 texts b.1 p.0 q.0;
      parts = sym (some_is (front ∷ g.0) ts g.2);
      left = ap (λ (o : Option (List ℕ × List ℕ)). o >>= λ ns. texts_at n ns.0 rest) d.1 ∙ g.1;
    }

-- no layer is left, and no byte
pub none_left : (place : ℕ) (ends texts : List ℕ) (ts : List (List ℕ)) → layers_left 0 place ends texts ≡ Some ts → (ts ≡ []) × (length texts ≡ 0)
unfolding layers_left numbers_at texts_at
none_left place ends texts ts e =
    let p = pass_some (eqb (length texts) 0) [] ts e in
    (sym p.1, eqb-true (length texts) 0 p.0)

-- ---- how many layers there are

pub head_few : (bytes : List ℕ) (count : ℕ) (ends : List ℕ) → number_below 65 bytes ≡ Some (count, ends) → count ≤ 64
head_few bytes count ends e =
    let a = bind_some (number_at bytes) (λ m. cond (ltb m.0 65) (Some m) None) (count, ends) e in
    let p = pass_some (ltb a.0.0 65) a.0 (count, ends) a.2 in
    let lt : count < 65 = subst (λ (x : ℕ × List ℕ). x.0 < 65) p.1 (ltb-true a.0.0 65 p.0) in
    omega arith

-- as many as the number of checkpoints has digits
pub head_digits : (period : ℕ) (bytes : List ℕ) (count : ℕ) (ends texts : List ℕ) (cs : List Checkpoint) → IsHeaded period bytes count ends texts → IsIndexPart period bytes cs
    → count ≡ digit_count period (length cs)
head_digits period bytes count ends texts cs head is =
    let rest = flat_map number (ends_from 0 (texts_down period cs)) ++ concat (texts_down period cs) in
    let digits = digit_count period (length cs) in
    let whole : bytes ≡ number digits ++ rest = is.1 ∙ index_parts period cs in
    let a = bind_some (number_at bytes) (λ m. cond (ltb m.0 65) (Some m) None) (count, ends) head.counted in
    let p = pass_some (ltb a.0.0 65) a.0 (count, ends) a.2 in
    let read : number_at bytes ≡ Some (digits, rest) = ap number_at whole ∙ numbers_are_read digits rest in
    let found = some_is a.0 (digits, rest) (sym a.1 ∙ read) in
    sym (ap (λ (x : ℕ × List ℕ). x.0) p.1) ∙ ap (λ (x : ℕ × List ℕ). x.0) found

-- what holds of the bytes that are seen holds of those inside
pub inside : (u v : IndexBytes) (cs : List Checkpoint) → u ≡ v → IsIndexPart v.period v.bytes cs → IsIndexPart u.period u.bytes cs
inside u v cs e is = subst (λ (w : IndexBytes). IsIndexPart w.period w.bytes cs) (sym e) is
