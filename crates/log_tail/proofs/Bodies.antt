-- Batches at the front of bytes.
use Rattle.std.proofs.Common.{◌≡◌, ◌<◌, ◌≤◌, ◌^◌, ◌==◌, ◌&&◌, ℕ, zero, suc, ◌+◌, List, [], ◌∷◌, ◌++◌}
use Rattle.std.proofs.Common.{length, take, drop, Bool, true, refl, sym, ◌∙◌, ap, arith, length-append}
use Rattle.std.proofs.lemmas.List.{drop_at, take-append-le}
use Rattle.std.proofs.lemmas.Bool.{cond-true}
use Rattle.std.proofs.lemmas.Bool.Decides.{nat_tests}
use Rattle.std.proofs.lemmas.Nat.{from_le_bytes-to_le_bytes_8}
use Rattle.store_base.proofs.ListLemmas.{both}
use Rattle.std.specs.Int.{w64, from_le_bytes}
use Rattle.log_tail.specs.Tail.{four, four_in, eight, eight_in, sum_of, summed, has_whole, has_sum, has_batch, front_item, front_body, bodies_after}
use Rattle.log_tail.proofs.Frames.{IsFramed, length-four, fits_le, whole_fits}
use Rattle.log_tail.proofs.Frames.{framed_is, front_framed, framed_whole, framed_item, framed_rest}

pub length-eight : (n : ℕ) → length (eight n) ≡ 8
unfolding eight
length-eight n = refl

-- only the first eight bytes count
eight_in_front : (a b : List ℕ) → take 8 a ≡ take 8 b → eight_in a ≡ eight_in b
unfolding eight_in
eight_in_front a b same = ap (λ (l : List ℕ). from_le_bytes w64 l) same

eight_in-eight : (n : ℕ) → n < 2 ^ 64 → eight_in (eight n) ≡ n
unfolding eight eight_in
eight_in-eight n small = from_le_bytes-to_le_bytes_8 n small

eq_true : (a b : ℕ) → a ≡ b → (a == b) ≡ true
eq_true a b is = grind (arith, nat_tests)

pub bodies_skip : (n : ℕ) (bytes : List ℕ) → bodies_after n bytes ≡ bodies_after 0 (drop n bytes)
bodies_skip zero bytes = refl
bodies_skip (suc n) [] = refl
bodies_skip (suc n) (b ∷ bytes) = bodies_skip n bytes

-- an open gate and a batch at the front
pub batch_open : (bytes : List ℕ) → has_batch bytes ≡ true → bodies_after 0 (1 ∷ bytes) ≡ front_body bytes ∷ bodies_after 0 (drop (4 + four_in bytes) bytes)
batch_open bytes batch =
    cond-true (has_batch bytes) (front_body bytes ∷ bodies_after (4 + four_in bytes) bytes) [] batch
    ∙ ap (λ (l : List (List ℕ)). front_body bytes ∷ l) (bodies_skip (4 + four_in bytes) bytes)

batch_whole : (bytes : List ℕ) → has_batch bytes ≡ true → has_whole bytes ≡ true
batch_whole bytes batch = (both (has_whole bytes) (has_sum (front_item bytes)) batch).0

batch_sum : (bytes : List ℕ) → has_batch bytes ≡ true → has_sum (front_item bytes) ≡ true
batch_sum bytes batch = (both (has_whole bytes) (has_sum (front_item bytes)) batch).1

pub batch_fits : (bytes : List ℕ) → has_batch bytes ≡ true → 4 + four_in bytes ≤ length bytes
batch_fits bytes batch = whole_fits bytes (batch_whole bytes batch)

-- bytes that are a batch of this body, but for its gate
pub record IsSummed (bytes body : List ℕ) : Type 0 where
  pub item : List ℕ
  pub is_framed : IsFramed bytes item
  pub sum : has_sum item ≡ true
  pub body_is : drop 8 item ≡ body

pub summed_is : (body : List ℕ) → 8 + length body < 2 ^ 32 → sum_of body < 2 ^ 64 → IsSummed (summed body) body
summed_is body small fits =
    let sum = sum_of body in
    let it = eight sum ++ body in
    let long : length it ≡ 8 + length body = omega (arith, length-append (eight sum) body, length-eight sum) in
    let number : eight_in it ≡ sum =
    eight_in_front it (eight sum) (take-append-le 8 (eight sum) body (omega (arith, length-eight sum))) ∙ eight_in-eight sum fits in
    let rest : drop 8 it ≡ body = drop_at (eight sum) body 8 (length-eight sum) in
    record {
      item = it;
      is_framed = framed_is it (omega (arith, long, small));
      sum = ap (λ (w : Bool). w && (eight_in it == sum_of (drop 8 it))) (fits_le 8 (length it) (omega (arith, long))) ∙ eq_true (eight_in it) (sum_of (drop 8 it)) (number ∙ ap sum_of (sym rest));
      body_is = rest;
    }

pub front_summed : (bytes : List ℕ) → has_batch bytes ≡ true → IsSummed (take (4 + four_in bytes) bytes) (front_body bytes)
front_summed bytes batch = record { item = front_item bytes; is_framed = front_framed bytes (batch_whole bytes batch); sum = batch_sum bytes batch; body_is = refl }

pub bodies_summed : (bytes body : List ℕ) → IsSummed bytes body → (after : List ℕ) → bodies_after 0 (1 ∷ bytes ++ after) ≡ body ∷ bodies_after 0 after
bodies_summed bytes body is after =
    let all = bytes ++ after in
    let item_is : front_item all ≡ is.item = framed_item bytes is.item is.is_framed after in
    let batch : has_batch all ≡ true =
    ap (λ (w : Bool). w && has_sum (front_item all)) (framed_whole bytes is.item is.is_framed after) ∙ ap has_sum item_is ∙ is.sum in
    batch_open all batch
    ∙ ap (λ (x : List ℕ). x ∷ bodies_after 0 (drop (4 + four_in all) all)) (ap (λ (x : List ℕ). drop 8 x) item_is ∙ is.body_is)
    ∙ ap (λ (l : List ℕ). body ∷ bodies_after 0 l) (framed_rest bytes is.item is.is_framed after)

pub length-summed : (body : List ℕ) → length (summed body) ≡ 12 + length body
length-summed body =
    let it = eight (sum_of body) ++ body in
    omega (arith, length-append (four (length it)) it, length-four (length it), length-append (eight (sum_of body)) body, length-eight (sum_of body))
