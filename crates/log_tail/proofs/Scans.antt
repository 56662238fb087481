-- A step of a loop that reads records or batches.
use Rattle.std.proofs.Common.{◌≡◌, ◌≤◌, ℕ, ◌+◌, ◌-◌, List, [], ◌∷◌, ◌++◌, length, take, drop, true, false, sym, ◌∙◌, ap, subst, arith, length-take, length-drop, append_assoc}
use Rattle.std.proofs.lemmas.List.{append-nil, take-take, drop-drop, drop-take, map_push}
use Rattle.std.proofs.lemmas.List.Elements.{All-push, All-weaker}
use Rattle.std.proofs.lemmas.List.Concat.{flat_map-append}
use Rattle.std.specs.Prelude.{slice_range, All}
use Rattle.std.specs.List.{flat_map}
use Rattle.log_tail.specs.declared.batches.Place.{Place}
use Rattle.log_tail.specs.Place.{content, contents, EndsBy, AddsRecords}
use Rattle.log_tail.specs.Tail.{four_in, has_whole, has_batch, front_item, front_body, records_in, bodies_of}
use Rattle.log_tail.proofs.Frames.{records_whole, records_short}
use Rattle.log_tail.proofs.Tails.{IsReadTo, read_batch, read_front}

-- the n bytes after the length of an item at the front of a part
item_at : (bytes : List ℕ) (at end n : ℕ) → 4 + n ≤ length (slice_range bytes at end) → take n (drop 4 (slice_range bytes at end)) ≡ slice_range bytes (at + 4) (at + 4 + n)
item_at bytes at end n fits =
    let long : 4 + n ≤ end - at = omega (arith, fits, length-take (end - at) (drop at bytes)) in
    let m = end - at - 4 in
    let size : end - at ≡ 4 + m = omega (arith, long) in
    let width : at + 4 + n - (at + 4) ≡ n = omega arith in
    ap (λ (k : ℕ). take n (drop 4 (take k (drop at bytes)))) size
    ∙ ap (λ (l : List ℕ). take n l) (drop-take 4 m (drop at bytes))
    ∙ take-take n m (drop 4 (drop at bytes)) (omega (arith, long))
    ∙ ap (λ (l : List ℕ). take n l) (drop-drop 4 at bytes)
    ∙ ap (λ (k : ℕ). take k (drop (at + 4) bytes)) (sym width)

-- the part after it
rest_at : (bytes : List ℕ) (at end n : ℕ) → n ≤ end - at → drop n (slice_range bytes at end) ≡ slice_range bytes (at + n) end
rest_at bytes at end n fits =
    let m = end - at - n in
    let size : end - at ≡ n + m = omega (arith, fits) in
    let left : end - (at + n) ≡ m = omega arith in
    ap (λ (k : ℕ). drop n (take k (drop at bytes))) size
    ∙ drop-take n m (drop at bytes)
    ∙ ap (λ (l : List ℕ). take m l) (drop-drop n at bytes)
    ∙ ap (λ (k : ℕ). take k (drop (at + n) bytes)) (sym left)

pub place_step : (bytes : List ℕ) (at end n : ℕ) (places : List Place) (place : Place) → has_whole (slice_range bytes at end) ≡ true → n ≡ four_in (slice_range bytes at end)
    → 4 + n ≤ length (slice_range bytes at end) → place.start ≡ at + 4 → place.end ≡ at + 4 + n
    → contents bytes (places ++ place ∷ []) ++ records_in (slice_range bytes (at + (4 + n)) end) ≡ contents bytes places ++ records_in (slice_range bytes at end)
place_step bytes at end n places place whole is fits starts ends =
    let part = slice_range bytes at end in
    let long : 4 + n ≤ end - at = omega (arith, fits, length-take (end - at) (drop at bytes)) in
    let item : content bytes place ≡ front_item part =
    (λ i. slice_range bytes (starts i) (ends i)) ∙ sym (item_at bytes at end n fits) ∙ ap (λ (k : ℕ). take k (drop 4 part)) is in
    let after : slice_range bytes (at + (4 + n)) end ≡ drop (4 + four_in part) part =
    sym (rest_at bytes at end (4 + n) long) ∙ ap (λ (k : ℕ). drop (4 + k) part) is in
    ap (λ (l : List (List ℕ)). l ++ records_in (slice_range bytes (at + (4 + n)) end)) (map_push (content bytes) places place)
    ∙ append_assoc (contents bytes places) (content bytes place ∷ []) (records_in (slice_range bytes (at + (4 + n)) end))
    ∙ ap (λ (x : List ℕ). contents bytes places ++ x ∷ records_in (slice_range bytes (at + (4 + n)) end)) item
    ∙ ap (λ (l : List ℕ). contents bytes places ++ front_item part ∷ records_in l) after
    ∙ ap (λ (l : List (List ℕ)). contents bytes places ++ l) (sym (records_whole part whole))

pub ends_later : (at end : ℕ) (places : List Place) → at ≤ end → All (EndsBy at) places → All (EndsBy end) places
ends_later at end places le all = All-weaker (EndsBy at) (EndsBy end) (λ place by. (by.0, omega (arith, by.1, le))) places all

pub place_within : (at n : ℕ) (places : List Place) (place : Place) → place.start ≡ at + 4 → place.end ≡ at + 4 + n → All (EndsBy at) places → All (EndsBy (at + (4 + n))) (places ++ place ∷ [])
place_within at n places place starts ends all =
    All-push (EndsBy (at + (4 + n))) places place (ends_later at (at + (4 + n)) places (omega arith) all) (omega (arith, starts, ends), omega (arith, ends))

-- the places so far, of a body that ends at this place of a file, and what is left of it
pub record PlacesSoFar (body rest : List ℕ) (base end at : ℕ) (old new : List Place) (file : List ℕ) (here : slice_range file base end ≡ body) : Type 0 where
  pub part : slice_range file at end ≡ rest
  pub records : contents file new ++ records_in rest ≡ contents file old ++ records_in body

pub more_places : (body rest : List ℕ) (base end at n : ℕ) (old new : List Place) (place : Place) (file : List ℕ) (here : slice_range file base end ≡ body)
    → has_whole rest ≡ true → n ≡ four_in rest → 4 + n ≤ length rest → place.start ≡ at + 4 → place.end ≡ at + 4 + n
    → PlacesSoFar body rest base end at old new file here → PlacesSoFar body (drop (4 + n) rest) base end (at + (4 + n)) old (new ++ place ∷ []) file here
more_places body rest base end at n old new place file here whole is fits starts ends so_far =
    let whole_here : has_whole (slice_range file at end) ≡ true = ap has_whole so_far.part ∙ whole in
    let is_here : n ≡ four_in (slice_range file at end) = is ∙ ap four_in (sym so_far.part) in
    let fits_here : 4 + n ≤ length (slice_range file at end) = omega (arith, fits, ap length so_far.part) in
    let long : 4 + n ≤ end - at = omega (arith, fits_here, length-take (end - at) (drop at file)) in
    let next : slice_range file (at + (4 + n)) end ≡ drop (4 + n) rest = sym (rest_at file at end (4 + n) long) ∙ ap (λ (l : List ℕ). drop (4 + n) l) so_far.part in
    record {
      part = next;
      records =
          ap (λ (l : List ℕ). contents file (new ++ place ∷ []) ++ records_in l) (sym next)
          ∙ place_step file at end n new place whole_here is_here fits_here starts ends
          ∙ ap (λ (l : List ℕ). contents file new ++ records_in l) so_far.part
          ∙ so_far.records;
    }

pub places_end : (body rest : List ℕ) (base end at : ℕ) (old new : List Place) (file : List ℕ) (here : slice_range file base end ≡ body)
    → has_whole rest ≡ false → PlacesSoFar body rest base end at old new file here → contents file new ≡ contents file old ++ records_in body
places_end body rest base end at old new file here short so_far =
    sym (append-nil (contents file new)) ∙ ap (λ (l : List (List ℕ)). contents file new ++ l) (sym (records_short rest short)) ∙ so_far.records

drop_from_rest : (bytes more : List ℕ) (end : ℕ) → drop end bytes ≡ 1 ∷ more → more ≡ drop (end + 1) bytes
drop_from_rest bytes more end is = sym (ap (λ (l : List ℕ). drop 1 l) is) ∙ drop-drop 1 end bytes

-- the body of the batch at a place
body_at : (bytes more : List ℕ) (end n : ℕ) → drop end bytes ≡ 1 ∷ more → n ≡ four_in more → 8 ≤ n → front_body more ≡ slice_range bytes (end + 13) (end + 5 + n)
body_at bytes more end n is n_is long =
    let m = n - 8 in
    let n_sum : n ≡ 8 + m = omega (arith, long) in
    let width : end + 5 + n - (end + 13) ≡ m = omega (arith, n_sum) in
    let before : end + 1 + 4 ≡ end + 5 = omega arith in
    let after_sum : end + 5 + 8 ≡ end + 13 = omega arith in
    ap (λ (k : ℕ). drop 8 (take k (drop 4 more))) (sym n_is ∙ n_sum)
    ∙ drop-take 8 m (drop 4 more)
    ∙ ap (λ (l : List ℕ). take m (drop 8 (drop 4 l))) (drop_from_rest bytes more end is)
    ∙ ap (λ (l : List ℕ). take m (drop 8 l)) (drop-drop 4 (end + 1) bytes ∙ ap (λ (k : ℕ). drop k bytes) before)
    ∙ ap (λ (l : List ℕ). take m l) (drop-drop 8 (end + 5) bytes ∙ ap (λ (k : ℕ). drop k bytes) after_sum)
    ∙ ap (λ (k : ℕ). take k (drop (end + 13) bytes)) (sym width)

module _ (bytes more : List ℕ) (end n : ℕ) (so_far : IsReadTo end bytes (bodies_of (take end bytes)))
    (is : drop end bytes ≡ 1 ∷ more) (batch : has_batch more ≡ true) (n_is : n ≡ four_in more) (long : 8 ≤ n) where
  read_on : IsReadTo (end + (5 + n)) bytes (bodies_of (take end bytes) ++ front_body more ∷ [])
  read_on =
      let sum : end + 5 + four_in more ≡ end + (5 + n) = omega (arith, n_is) in
      subst (λ (k : ℕ). IsReadTo k bytes (bodies_of (take end bytes) ++ front_body more ∷ [])) sum (read_batch end bytes (bodies_of (take end bytes)) more so_far is batch)

  bodies_on : bodies_of (take (end + (5 + n)) bytes) ≡ bodies_of (take end bytes) ++ front_body more ∷ []
  bodies_on = read_front (end + (5 + n)) bytes (bodies_of (take end bytes) ++ front_body more ∷ []) read_on

  pub found_on : IsReadTo (end + (5 + n)) bytes (bodies_of (take (end + (5 + n)) bytes))
  found_on = subst (λ (l : List (List ℕ)). IsReadTo (end + (5 + n)) bytes l) (sym bodies_on) read_on

  body_here : 5 + n ≤ length (drop end bytes) → slice_range bytes (end + 13) (end + 13 + length (slice_range bytes (end + 13) (end + 5 + n))) ≡ slice_range bytes (end + 13) (end + 5 + n)
  body_here fits =
      let size : end + 13 + length (slice_range bytes (end + 13) (end + 5 + n)) ≡ end + 5 + n =
      omega (arith, long, length-take (end + 5 + n - (end + 13)) (drop (end + 13) bytes), length-drop (end + 13) bytes, length-drop end bytes, fits) in
      ap (λ (k : ℕ). slice_range bytes (end + 13) k) size

  pub placed_on : (places new : List Place) → 5 + n ≤ length (drop end bytes) → AddsRecords (slice_range bytes (end + 13) (end + 5 + n)) (end + 13) places new
      → contents bytes new ≡ contents bytes places ++ records_in (slice_range bytes (end + 13) (end + 5 + n))
  placed_on places new fits adds = adds bytes (body_here fits)

  pub records_on : (places new : List Place) → contents bytes places ≡ flat_map records_in (bodies_of (take end bytes))
      → contents bytes new ≡ contents bytes places ++ records_in (slice_range bytes (end + 13) (end + 5 + n))
      → contents bytes new ≡ flat_map records_in (bodies_of (take (end + (5 + n)) bytes))
  records_on places new before placed =
      placed
      ∙ ap (λ (l : List (List ℕ)). l ++ records_in (slice_range bytes (end + 13) (end + 5 + n))) before
      ∙ ap (λ (l : List ℕ). flat_map records_in (bodies_of (take end bytes)) ++ records_in l) (sym (body_at bytes more end n is n_is long))
      ∙ ap (λ (l : List (List ℕ)). flat_map records_in (bodies_of (take end bytes)) ++ l) (sym (append-nil (records_in (front_body more))))
      ∙ sym (flat_map-append records_in (bodies_of (take end bytes)) (front_body more ∷ []))
      ∙ ap (λ (l : List (List ℕ)). flat_map records_in l) (sym bodies_on)
