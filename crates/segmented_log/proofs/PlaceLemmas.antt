-- Where the records of a batch lie, in its body and in the tail that has it.
use Rattle.std.proofs.Common.{◌≡◌, ◌<◌, ◌^◌, ℕ, ◌+◌, ◌-◌, List, [], ◌∷◌, ◌++◌, length, take, drop, map, refl, sym, ◌∙◌, ap, subst, arith, append_assoc, length-append}
use Rattle.std.proofs.lemmas.List.{take-take, take_at, take_all, drop_at, drop-drop, drop-take, map-append}
use Rattle.std.proofs.lemmas.List.Elements.{All-head, All-tail, All-push, All-append, All-map, All-weaker}
use Rattle.std.specs.Prelude.{slice_range, All}
use Rattle.log_tail.specs.declared.batches.Place.{Place}
use Rattle.log_tail.specs.Place.{content, contents, EndsBy, AddsRecords}
use Rattle.log_tail.specs.Tail.{framed, four, records_in}
use Rattle.log_tail.proofs.Frames.{length-four}
use Rattle.log_tail.proofs.Logs.{contents_same, one_more}
use Rattle.log_tail.proofs.Scans.{ends_later}
use Rattle.segmented_log.specs.TailBuffer.{ArePlacesIn, moved}

-- one record more
module _ (body item new : List ℕ) (places later : List Place) (start : ℕ) (small : length item < 2 ^ 32) (is : new ≡ body ++ framed item) (start_is : start ≡ length body + 4)
    (later_is : later ≡ places ++ record { start = start; end = start + length item } ∷ []) (are : ArePlacesIn body places) where
  abbrev place : Place
  place = record { start = start; end = start + length item }

  size : length new ≡ start + length item
  size = omega (arith, start_is, ap length is, length-append body (framed item), length-append (four (length item)) item, length-four (length item))

  front : take (length body) new ≡ take (length body) body
  front = ap (λ (l : List ℕ). take (length body) l) is ∙ take_at body (framed item) (length body) refl ∙ sym (take_all (length body) body (omega arith))

  there : content new place ≡ item
  there =
      let head = body ++ four (length item) in
      let long : length head ≡ start = omega (arith, start_is, length-append body (four (length item)), length-four (length item)) in
      let width : start + length item - start ≡ length item = omega arith in
      ap (λ (k : ℕ). take k (drop start new)) width
      ∙ ap (λ (l : List ℕ). take (length item) (drop start l)) (is ∙ sym (append_assoc body (four (length item)) item))
      ∙ ap (λ (l : List ℕ). take (length item) l) (drop_at head item start long)
      ∙ take_all (length item) item (omega arith)

  pub one_placed : ArePlacesIn new later
  one_placed =
      let more = one_more body item new small is are.whole in
      let old_ones : contents new places ≡ records_in body = contents_same (length body) new body places front are.within ∙ are.records in
      let by : All (EndsBy (length new)) (places ++ place ∷ []) =
      All-push (EndsBy (length new)) places place (ends_later (length body) (length new) places (omega (arith, size, start_is)) are.within) (omega arith, omega (arith, size)) in
      record {
        whole = more.0;
        records =
            ap (λ (l : List Place). contents new l) later_is
            ∙ map-append (content new) places (place ∷ [])
            ∙ ap (λ (l : List (List ℕ)). l ++ content new place ∷ []) old_ones
            ∙ ap (λ (l : List ℕ). records_in body ++ l ∷ []) there
            ∙ sym more.1;
        within = subst (λ (l : List Place). All (EndsBy (length new)) l) (sym later_is) by;
      }

-- a body that stands in a file
module _ (file body : List ℕ) (base : ℕ) (here : slice_range file base (base + length body) ≡ body) where
  content_moved : (place : Place) → EndsBy (length body) place → content file (moved base place) ≡ content body place
  content_moved place by =
      let s = place.start in
      let e = place.end in
      let n = length body in
      let all = drop base file in
      let size : base + n - base ≡ n = omega arith in
      let width : base + e - (base + s) ≡ e - s = omega arith in
      let sum : n ≡ s + (n - s) = omega (arith, by.0, by.1) in
      let is : body ≡ take n all = sym here ∙ ap (λ (k : ℕ). take k all) size in
      let from : drop s body ≡ take (n - s) (drop s all) = ap (λ (l : List ℕ). drop s l) is ∙ ap (λ (k : ℕ). drop s (take k all)) sum ∙ drop-take s (n - s) all in
      ap (λ (k : ℕ). take k (drop (base + s) file)) width
      ∙ ap (λ (l : List ℕ). take (e - s) l) (sym (drop-drop s base file))
      ∙ sym (take-take (e - s) (n - s) (drop s all) (omega (arith, by.1)))
      ∙ ap (λ (l : List ℕ). take (e - s) l) (sym from)

  contents_moved : (places : List Place) → All (EndsBy (length body)) places → contents file (map (moved base) places) ≡ contents body places
  contents_moved [] within = refl
  contents_moved (place ∷ places) within = λ i.
      content_moved place (All-head (EndsBy (length body)) place places within) i
      ∷ contents_moved places (All-tail (EndsBy (length body)) place places within) i

pub adds_moved : (body : List ℕ) (base : ℕ) (places old new : List Place) → ArePlacesIn body places → new ≡ old ++ map (moved base) places → AddsRecords body base old new
adds_moved body base places old new are is = λ file here.
    ap (λ (l : List Place). contents file l) is
    ∙ map-append (content file) old (map (moved base) places)
    ∙ ap (λ (l : List (List ℕ)). contents file old ++ l) (contents_moved file body base here places are.within ∙ are.records)

pub within_moved : (body : List ℕ) (base : ℕ) (places old new : List Place) → ArePlacesIn body places → new ≡ old ++ map (moved base) places → All (EndsBy base) old
    → All (EndsBy (base + length body)) new
within_moved body base places old new are is within =
    let end = base + length body in
    let more : All (EndsBy end) (map (moved base) places) =
    All-map (EndsBy end) (moved base) places (All-weaker (EndsBy (length body)) (λ place. EndsBy end (moved base place)) (λ place by. (omega (arith, by.0), omega (arith, by.1))) places are.within) in
    subst (λ (l : List Place). All (EndsBy end) l) (sym is) (All-append (EndsBy end) old (map (moved base) places) (ends_later base end old (omega arith) within) more)
