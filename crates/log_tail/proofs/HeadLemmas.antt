-- Heads: their size, what they hold, and the bytes after the whole batches of a tail.
use Rattle.std.proofs.Common.{◌≡◌, ◌≢◌, ◌<◌, ◌≤◌, ◌^◌, ℕ, zero, suc, ◌+◌, ◌-◌, List, [], ◌∷◌, ◌++◌, length, take, drop}
use Rattle.std.proofs.Common.{Bool, true, false, refl, sym, ◌∙◌, ap, arith, length-append, append_assoc}
use Rattle.std.specs.Prelude.{nat_eq, Some, None}
use Rattle.std.specs.List.{flat_map}
use Rattle.std.specs.Cmp.Lexicographic.{told_text}
use Rattle.std.proofs.lemmas.List.{drop-drop, append-nil, take_at, drop_all, length-drop}
use Rattle.std.proofs.lemmas.Bool.{cond-true, cond-false}
use lib.Pointwise.{pointwise}
use Rattle.log_tail.specs.Tail.{four, four_in, eight, sum_of, summed, has_batch, records_in, records_of, records_from, bodies_after, IsWholeTo}
use Rattle.log_tail.specs.Heads.{head_body, headed, told_by, rest_after, rest_of}
use Rattle.log_tail.proofs.Frames.{length-four, records_short, short_le}
use Rattle.log_tail.proofs.Bodies.{length-eight, length-summed, summed_is, bodies_summed}
use Rattle.log_tail.proofs.Tails.{written_bodies, written_whole}
use Rattle.log_tail.proofs.Logs.{records_more}

pub length-head : (first place len : ℕ) → length (head_body first place len) ≡ 24
length-head first place len =
    omega (arith, length-append (eight first) (eight place ++ four len), length-eight first, length-append (eight place) (four len), length-eight place, length-four len)

unequal : (a b : List ℕ) → a ≢ b → pointwise nat_eq a b ≡ false
unequal a b ne = told (pointwise nat_eq a b) refl
  where
    told : (v : Bool) → v ≡ pointwise nat_eq a b → pointwise nat_eq a b ≡ false
    told true is = absurd (ne (told_text a b true is))
    told false is = sym is

-- bytes of another length are no head's
pub no_head : (first place : ℕ) (body : List ℕ) → length body ≢ 24 → None ≡ told_by first place body
no_head first place body other =
    let n = four_in (drop 20 body) in
    sym (cond-false (pointwise nat_eq body (head_body first place n)) (Some n) None
    (unequal body (head_body first place n) (λ is. other (ap length is ∙ length-head first place n))))

told_first : (first place len : ℕ) → four_in (head_body first place len) ≡ 4294967295
unfolding four_in
told_first first place len = refl

-- a head has no records
pub head_no_records : (first place len : ℕ) → records_in (head_body first place len) ≡ []
head_no_records first place len =
    let body = head_body first place len in
    records_short body (short_le (4 + four_in body) (length body) (omega (arith, length-head first place len, told_first first place len)))

-- ---- the bytes after the whole batches

rest_skip : (n : ℕ) (bytes : List ℕ) → rest_after n bytes ≡ rest_after 0 (drop n bytes)
rest_skip zero bytes = refl
rest_skip (suc n) [] = refl
rest_skip (suc n) (b ∷ bytes) = rest_skip n bytes

pub rest_begun : (bytes : List ℕ) → rest_of bytes ≡ rest_after 0 (drop 16 bytes)
rest_begun bytes = rest_skip 16 bytes

-- a batch more
pub rest_on : (bytes more : List ℕ) (end n : ℕ) → drop end bytes ≡ 1 ∷ more → has_batch more ≡ true → n ≡ four_in more
    → rest_of bytes ≡ rest_after 0 (drop end bytes) → rest_of bytes ≡ rest_after 0 (drop (end + (5 + n)) bytes)
rest_on bytes more end n is batch n_is so_far =
    let sum : end + 1 + (4 + n) ≡ end + (5 + n) = omega arith in
    let more_is : more ≡ drop (end + 1) bytes = sym (ap (λ (l : List ℕ). drop 1 l) is) ∙ drop-drop 1 end bytes in
    so_far
    ∙ ap (λ (l : List ℕ). rest_after 0 l) is
    ∙ cond-true (has_batch more) (rest_after (4 + four_in more) more) (1 ∷ more) batch
    ∙ rest_skip (4 + four_in more) more
    ∙ ap (λ (k : ℕ). rest_after 0 (drop (4 + k) more)) (sym n_is)
    ∙ ap (λ (l : List ℕ). rest_after 0 (drop (4 + n) l)) more_is
    ∙ ap (λ (l : List ℕ). rest_after 0 l) (drop-drop (4 + n) (end + 1) bytes ∙ ap (λ (k : ℕ). drop k bytes) sum)

-- where the whole batches end
pub end_is : (file : List ℕ) (end : ℕ) → end ≤ length file → drop end file ≡ rest_of file → end ≡ length file - length (rest_of file)
end_is file end within is = omega (arith, within, ap length is, length-drop end file)

-- ---- a head that is written after whole batches

module _ (file : List ℕ) (first place len : ℕ) (whole : IsWholeTo (length file) file) (fits : sum_of (head_body first place len) < 2 ^ 64) where
  head_small : 8 + length (head_body first place len) < 2 ^ 32
  head_small = omega (arith, length-head first place len)

  pub head_whole : IsWholeTo (length (file ++ 1 ∷ summed (head_body first place len))) (file ++ 1 ∷ summed (head_body first place len))
  head_whole = written_whole file (head_body first place len) whole head_small fits (file ++ 1 ∷ summed (head_body first place len)) refl

  pub head_records : records_of (file ++ 1 ∷ summed (head_body first place len)) ≡ records_of file
  head_records =
      let body = head_body first place len in
      let new = file ++ 1 ∷ summed body in
      records_more file new body (written_bodies file body whole head_small fits new refl)
      ∙ ap (λ (l : List (List ℕ)). records_of file ++ l) (head_no_records first place len)
      ∙ append-nil (records_of file)

take_none : (l : List ℕ) → take 0 l ≡ []
take_none [] = refl
take_none (x ∷ l) = refl

-- three parts that are put one after the other over bytes that they fill
pub three_parts : (zeros a b c one two three : List ℕ) → length zeros ≡ 50 → length a ≡ 13 → length b ≡ 24 → length c ≡ 13 → one ≡ take 0 zeros ++ (a ++ drop (0 + length a) zeros)
    → two ≡ take 13 one ++ (b ++ drop (13 + length b) one) → three ≡ take 37 two ++ (c ++ drop (37 + length c) two) → three ≡ (a ++ b) ++ c
three_parts zeros a b c one two three z_size a_size b_size c_size one_is two_is three_is =
    let z_rest = drop (0 + length a) zeros in
    let begun : one ≡ a ++ z_rest = one_is ∙ ap (λ (l : List ℕ). l ++ (a ++ z_rest)) (take_none zeros) in
    let one_size : length one ≡ 50 = omega (arith, ap length begun, length-append a z_rest, length-drop (0 + length a) zeros, z_size, a_size) in
    let front : take 13 one ≡ a = ap (λ (l : List ℕ). take 13 l) begun ∙ take_at a z_rest 13 a_size in
    let rest = drop (13 + length b) one in
    let two_end : two ≡ (a ++ b) ++ rest = two_is ∙ ap (λ (l : List ℕ). l ++ (b ++ rest)) front ∙ sym (append_assoc a b rest) in
    let both : length (a ++ b) ≡ 37 = omega (arith, length-append a b, a_size, b_size) in
    let two_size : length two ≡ 50 = omega (arith, ap length two_end, length-append (a ++ b) rest, both, length-drop (13 + length b) one, one_size, b_size) in
    three_is
    ∙ ap (λ (l : List ℕ). l ++ (c ++ drop (37 + length c) two)) (ap (λ (l : List ℕ). take 37 l) two_end ∙ take_at (a ++ b) rest 37 both)
    ∙ ap (λ (l : List ℕ). (a ++ b) ++ (c ++ l)) (drop_all (37 + length c) two (omega (arith, two_size, c_size)))
    ∙ ap (λ (l : List ℕ). (a ++ b) ++ l) (append-nil c)

-- the records of a batch with its head
pub headed_records : (first place : ℕ) (body : List ℕ) → 8 + length body < 2 ^ 32 → sum_of body < 2 ^ 64 → sum_of (head_body first place (length body)) < 2 ^ 64
    → records_from (headed first place body) ≡ records_in body
headed_records first place body body_small body_fits head_fits =
    let head = head_body first place (length body) in
    let head_size : 8 + length head < 2 ^ 32 = omega (arith, length-head first place (length body)) in
    let alone : bodies_after 0 (1 ∷ summed body) ≡ body ∷ [] =
    ap (λ (l : List ℕ). bodies_after 0 (1 ∷ l)) (sym (append-nil (summed body))) ∙ bodies_summed (summed body) body (summed_is body body_small body_fits) [] in
    ap (λ (l : List (List ℕ)). flat_map records_in l)
    (bodies_summed (summed head) head (summed_is head head_size head_fits) (1 ∷ summed body) ∙ ap (λ (l : List (List ℕ)). head ∷ l) alone)
    ∙ ap (λ (l : List (List ℕ)). l ++ (records_in body ++ [])) (head_no_records first place (length body))
    ∙ append-nil (records_in body)

pub length-headed : (first place : ℕ) (body : List ℕ) → length (headed first place body) ≡ 50 + length body
length-headed first place body =
    let head = head_body first place (length body) in
    omega (arith, length-append (1 ∷ summed head) (1 ∷ summed body), length-summed head, length-head first place (length body), length-summed body)
