-- What tails stand for, in each step of a change.
use Rattle.std.proofs.Common.{◌≡◌, ◌<◌, ◌≤◌, ◌^◌, ℕ, suc, ◌+◌, List, [], ◌∷◌, ◌++◌, length}
use Rattle.std.proofs.Common.{take, drop, true, sym, ◌∙◌, ap, subst, arith, length-append, length-drop, append_assoc, take-append-drop}
use Rattle.std.proofs.lemmas.List.{append-nil, take_all, drop_all, drop_at, take-take, length-take-le, drop-take}
use Rattle.log_tail.specs.Tail.{four_in, sum_of, summed, has_batch, front_body, bodies_after, bodies_of, IsWholeTo}
use Rattle.log_tail.proofs.Bodies.{bodies_skip, batch_fits, summed_is, front_summed, bodies_summed, length-summed}

-- ---- a tail that is read from its beginning

-- up to this place there are these batches
pub record IsReadTo (end : ℕ) (file : List ℕ) (bodies : List (List ℕ)) : Type 0 where
  pub header : 16 ≤ end
  pub within : end ≤ length file
  pub goes_on : (after : List ℕ) → bodies_of (take end file ++ after) ≡ bodies ++ bodies_after 0 after

pub read_header : (file : List ℕ) → 16 ≤ length file → IsReadTo 16 file []
read_header file long = record {
  header = omega arith;
  within = long;
  goes_on = λ after. bodies_skip 16 (take 16 file ++ after) ∙ ap (λ (l : List ℕ). bodies_after 0 l) (drop_at (take 16 file) after 16 (length-take-le 16 file long));
}

take_more_part : (m n : ℕ) (file : List ℕ) → take (m + n) file ≡ take m file ++ take n (drop m file)
take_more_part m n file =
    sym (take-append-drop m (take (m + n) file))
    ∙ ap (λ (l : List ℕ). l ++ drop m (take (m + n) file)) (take-take m (m + n) file (omega arith))
    ∙ ap (λ (l : List ℕ). take m file ++ l) (drop-take m n file)

take_open : (n : ℕ) (rest more : List ℕ) → rest ≡ 1 ∷ more → take (suc n) rest ≡ 1 ∷ take n more
take_open n rest more is = ap (λ (l : List ℕ). take (suc n) l) is

-- one batch more
pub read_batch : (end : ℕ) (file : List ℕ) (bodies : List (List ℕ)) (more : List ℕ) → IsReadTo end file bodies → drop end file ≡ 1 ∷ more → has_batch more ≡ true
    → IsReadTo (end + 5 + four_in more) file (bodies ++ front_body more ∷ [])
read_batch end file bodies more so_far is whole =
    let n = four_in more in
    let part = take (4 + n) more in
    let fits = batch_fits more whole in
    let long : length file ≡ end + 1 + length more = omega (arith, so_far.within, length-drop end file, ap length is) in
    let sum : end + 5 + n ≡ end + suc (4 + n) = omega arith in
    let front : take (end + 5 + n) file ≡ take end file ++ (1 ∷ part) =
    ap (λ (k : ℕ). take k file) sum ∙ take_more_part end (suc (4 + n)) file ∙ ap (λ (l : List ℕ). take end file ++ l) (take_open (4 + n) (drop end file) more is) in
    record {
      header = omega (arith, so_far.header);
      within = omega (arith, long, fits);
      goes_on = λ after.
          ap (λ (l : List ℕ). bodies_of (l ++ after)) front
          ∙ ap bodies_of (append_assoc (take end file) (1 ∷ part) after)
          ∙ so_far.goes_on ((1 ∷ part) ++ after)
          ∙ ap (λ (l : List (List ℕ)). bodies ++ l) (bodies_summed part (front_body more) (front_summed more whole) after)
          ∙ sym (append_assoc bodies (front_body more ∷ []) (bodies_after 0 after));
    }

-- and none after them
pub read_all : (end : ℕ) (file : List ℕ) (bodies : List (List ℕ)) → IsReadTo end file bodies → bodies_after 0 (drop end file) ≡ [] → bodies_of file ≡ bodies
read_all end file bodies so_far none =
    ap bodies_of (sym (take-append-drop end file)) ∙ so_far.goes_on (drop end file) ∙ ap (λ (l : List (List ℕ)). bodies ++ l) none ∙ append-nil bodies

pub read_whole : (end : ℕ) (file : List ℕ) (bodies : List (List ℕ)) → IsReadTo end file bodies → bodies_after 0 (drop end file) ≡ [] → IsWholeTo end file
read_whole end file bodies so_far none = record {
  header = so_far.header;
  within = so_far.within;
  goes_on = λ after. so_far.goes_on after ∙ ap (λ (l : List (List ℕ)). l ++ bodies_after 0 after) (sym (read_all end file bodies so_far none));
}

pub read_front : (end : ℕ) (file : List ℕ) (bodies : List (List ℕ)) → IsReadTo end file bodies → bodies_of (take end file) ≡ bodies
read_front end file bodies so_far = ap bodies_of (sym (append-nil (take end file))) ∙ so_far.goes_on [] ∙ append-nil bodies

-- ---- whole batches, and other bytes after them

module _ (end : ℕ) (file : List ℕ) (whole : IsWholeTo end file) where
  size : length (take end file) ≡ end
  size = length-take-le end file whole.within

  -- the whole batches alone
  pub cut_bodies : bodies_of (take end file) ≡ bodies_of file
  cut_bodies = ap bodies_of (sym (append-nil (take end file))) ∙ whole.goes_on [] ∙ append-nil (bodies_of file)

  pub cut_whole : IsWholeTo (length (take end file)) (take end file)
  cut_whole =
      let front : take (length (take end file)) (take end file) ≡ take end file = take_all (length (take end file)) (take end file) (omega arith) in
      record {
        header = omega (arith, size, whole.header);
        within = omega arith;
        goes_on = λ after. ap (λ (l : List ℕ). bodies_of (l ++ after)) front ∙ whole.goes_on after ∙ ap (λ (l : List (List ℕ)). l ++ bodies_after 0 after) (sym cut_bodies);
      }

-- ---- a batch that is written after others

module _ (file body : List ℕ) (whole : IsWholeTo (length file) file) (small : 8 + length body < 2 ^ 32) (fits : sum_of body < 2 ^ 64) where
  all_of_it : take (length file) file ≡ file
  all_of_it = take_all (length file) file (omega arith)

  grown : (after : List ℕ) → bodies_of (file ++ after) ≡ bodies_of file ++ bodies_after 0 after
  grown after = ap (λ (l : List ℕ). bodies_of (l ++ after)) (sym all_of_it) ∙ whole.goes_on after

  module _ (c : List ℕ) (is : c ≡ file ++ 1 ∷ summed body) where
    one : bodies_after 0 (1 ∷ summed body) ≡ body ∷ []
    one = ap (λ (l : List ℕ). bodies_after 0 (1 ∷ l)) (sym (append-nil (summed body))) ∙ bodies_summed (summed body) body (summed_is body small fits) []

    pub written_bodies : bodies_of c ≡ bodies_of file ++ body ∷ []
    written_bodies = ap bodies_of is ∙ grown (1 ∷ summed body) ∙ ap (λ (l : List (List ℕ)). bodies_of file ++ l) one

    pub written_whole : IsWholeTo (length c) c
    written_whole =
        let size : length c ≡ length file + 13 + length body = omega (arith, ap length is, length-append file (1 ∷ summed body), length-summed body) in
        let front : take (length c) c ≡ c = take_all (length c) c (omega arith) in
        record {
          header = omega (arith, size, whole.header);
          within = omega arith;
          goes_on = λ after.
              ap (λ (l : List ℕ). bodies_of (l ++ after)) (front ∙ is)
              ∙ ap bodies_of (append_assoc file (1 ∷ summed body) after)
              ∙ grown ((1 ∷ summed body) ++ after)
              ∙ ap (λ (l : List (List ℕ)). bodies_of file ++ l) (bodies_summed (summed body) body (summed_is body small fits) after)
              ∙ sym (append_assoc (bodies_of file) (body ∷ []) (bodies_after 0 after))
              ∙ ap (λ (l : List (List ℕ)). l ++ bodies_after 0 after) (sym written_bodies);
        }

-- ---- a tail of no records

pub new_bodies : (file : List ℕ) → length file ≡ 16 → bodies_of file ≡ []
new_bodies file size = bodies_skip 16 file ∙ ap (λ (l : List ℕ). bodies_after 0 l) (drop_all 16 file (omega (arith, size)))

pub new_whole : (file : List ℕ) → length file ≡ 16 → IsWholeTo (length file) file
new_whole file size =
    let none : bodies_after 0 (drop 16 file) ≡ [] = ap (λ (l : List ℕ). bodies_after 0 l) (drop_all 16 file (omega (arith, size))) in
    subst (λ (n : ℕ). IsWholeTo n file) (sym size) (read_whole 16 file [] (read_header file (omega (arith, size))) none)
