-- Items after their lengths, and lists of them.
use Rattle.std.proofs.Common.{◌≡◌, ◌<◌, ◌≤◌, ◌^◌, ℕ, zero, suc, ◌+◌, List, [], ◌∷◌, ◌++◌, length, take, drop}
use Rattle.std.proofs.Common.{true, false, refl, sym, ◌∙◌, ap, arith, length-append, length-drop}
use Rattle.std.proofs.lemmas.List.{take_at, drop_at, take-append-le, drop-append-le, take-take, length-take-le, drop-take}
use Rattle.std.proofs.lemmas.Bool.{cond-true, cond-false}
use Rattle.std.proofs.lemmas.Bool.Decides.{nat_tests}
use Rattle.std.proofs.lemmas.Nat.{from_le_bytes-to_le_bytes_4}
use Rattle.std.specs.Prelude.{nat_le}
use Rattle.std.specs.Int.{w32, from_le_bytes}
use Rattle.log_tail.specs.Tail.{four, four_in, framed, has_whole, front_item, records_after, records_in}

pub length-four : (n : ℕ) → length (four n) ≡ 4
unfolding four
length-four n = refl

-- only the first four bytes count
pub four_in_front : (a b : List ℕ) → take 4 a ≡ take 4 b → four_in a ≡ four_in b
unfolding four_in
four_in_front a b same = ap (λ (l : List ℕ). from_le_bytes w32 l) same

pub four_in-four : (n : ℕ) → n < 2 ^ 32 → four_in (four n) ≡ n
unfolding four four_in
four_in-four n small = from_le_bytes-to_le_bytes_4 n small

pub records_skip : (n : ℕ) (bytes : List ℕ) → records_after n bytes ≡ records_in (drop n bytes)
records_skip zero bytes = refl
records_skip (suc n) [] = refl
records_skip (suc n) (b ∷ bytes) = records_skip n bytes

pub le_fits : (a b : ℕ) → nat_le a b ≡ true → a ≤ b
le_fits a b is = grind (arith, nat_tests)

pub fits_le : (a b : ℕ) → a ≤ b → nat_le a b ≡ true
fits_le a b is = grind (arith, nat_tests)

pub short_le : (a b : ℕ) → b < a → nat_le a b ≡ false
short_le a b is = grind (arith, nat_tests)

pub whole_fits : (bytes : List ℕ) → has_whole bytes ≡ true → 4 + four_in bytes ≤ length bytes
whole_fits bytes whole = le_fits (4 + four_in bytes) (length bytes) whole

-- a whole record at the front
pub records_whole : (bytes : List ℕ) → has_whole bytes ≡ true → records_in bytes ≡ front_item bytes ∷ records_in (drop (4 + four_in bytes) bytes)
records_whole [] whole = absurd (omega (arith, whole_fits [] whole))
records_whole (b ∷ bytes) whole =
    let n = four_in (b ∷ bytes) in
    let next : 4 + n ≡ suc (3 + n) = omega arith in
    cond-true (has_whole (b ∷ bytes)) (front_item (b ∷ bytes) ∷ records_after (3 + n) bytes) [] whole
    ∙ ap (λ (l : List (List ℕ)). front_item (b ∷ bytes) ∷ l) (records_skip (3 + n) bytes ∙ ap (λ (k : ℕ). records_in (drop k (b ∷ bytes))) (sym next))

pub records_short : (bytes : List ℕ) → has_whole bytes ≡ false → records_in bytes ≡ []
records_short [] short = refl
records_short (b ∷ bytes) short = cond-false (has_whole (b ∷ bytes)) (front_item (b ∷ bytes) ∷ records_after (3 + four_in (b ∷ bytes)) bytes) [] short

-- bytes that are an item after its length
pub record IsFramed (bytes item : List ℕ) : Type 0 where
  pub size : length bytes ≡ 4 + four_in bytes
  pub item_is : drop 4 bytes ≡ item

pub framed_is : (item : List ℕ) → length item < 2 ^ 32 → IsFramed (framed item) item
framed_is item small =
    let number : four_in (framed item) ≡ length item =
    four_in_front (framed item) (four (length item)) (take-append-le 4 (four (length item)) item (omega (arith, length-four (length item))))
    ∙ four_in-four (length item) small in
    record {
      size = omega (arith, number, length-append (four (length item)) item, length-four (length item));
      item_is = drop_at (four (length item)) item 4 (length-four (length item));
    }

pub front_framed : (bytes : List ℕ) → has_whole bytes ≡ true → IsFramed (take (4 + four_in bytes) bytes) (front_item bytes)
front_framed bytes whole =
    let n = four_in bytes in
    let fits = whole_fits bytes whole in
    let front = take (4 + n) bytes in
    let number : four_in front ≡ n = four_in_front front bytes (take-take 4 (4 + n) bytes (omega arith)) in
    record {
      size = omega (arith, number, length-take-le (4 + n) bytes fits);
      item_is = drop-take 4 n bytes;
    }

module _ (bytes item : List ℕ) (is_framed : IsFramed bytes item) (after : List ℕ) where
  pub same_number : four_in (bytes ++ after) ≡ four_in bytes
  same_number = four_in_front (bytes ++ after) bytes (take-append-le 4 bytes after (omega (arith, is_framed.size)))

  pub framed_whole : has_whole (bytes ++ after) ≡ true
  framed_whole = fits_le (4 + four_in (bytes ++ after)) (length (bytes ++ after)) (omega (arith, is_framed.size, same_number, length-append bytes after))

  pub framed_item : front_item (bytes ++ after) ≡ item
  framed_item =
      ap (λ (l : List ℕ). take (four_in (bytes ++ after)) l) (drop-append-le 4 bytes after (omega (arith, is_framed.size)))
      ∙ take_at (drop 4 bytes) after (four_in (bytes ++ after)) (omega (arith, is_framed.size, same_number, length-drop 4 bytes))
      ∙ is_framed.item_is

  pub framed_rest : drop (4 + four_in (bytes ++ after)) (bytes ++ after) ≡ after
  framed_rest = drop_at bytes after (4 + four_in (bytes ++ after)) (omega (arith, is_framed.size, same_number))

  pub records_framed : records_in (bytes ++ after) ≡ item ∷ records_in after
  records_framed =
      records_whole (bytes ++ after) framed_whole
      ∙ ap (λ (x : List ℕ). x ∷ records_in (drop (4 + four_in (bytes ++ after)) (bytes ++ after))) framed_item
      ∙ ap (λ (l : List ℕ). item ∷ records_in l) framed_rest
