-- What a log keeps, from what its tail keeps.
use Rattle.std.proofs.Common.{◌≡◌, ◌<◌, ◌^◌, ℕ, ◌+◌, ◌-◌, List, [], ◌∷◌, ◌++◌, length, take, drop}
use Rattle.std.proofs.Common.{refl, sym, ◌∙◌, ap, arith, append_assoc, length-append}
use Rattle.std.proofs.lemmas.List.{append-nil, take-take, take_all, take-append-le, drop_at, drop-take, length-map}
use Rattle.std.proofs.lemmas.List.Concat.{flat_map-append}
use Rattle.std.proofs.lemmas.List.Elements.{All-head, All-tail}
use Rattle.std.proofs.lemmas.Slice.{between_is}
use Rattle.std.specs.Prelude.{slice_range, All}
use Rattle.std.specs.List.{flat_map}
use Rattle.std.specs.Int.{w64, from_le_bytes}
use Rattle.log_tail.specs.declared.batches.Place.{Place}
use Rattle.log_tail.specs.Place.{content, contents, EndsBy, AddsRecords}
use Rattle.log_tail.specs.Tail.{four, eight, sum_of, framed, summed, records_in, records_of, body_of, bodies_of, first_of, IsWholeRecords}
use Rattle.log_tail.proofs.Frames.{records_framed, framed_is, length-four}
use Rattle.log_tail.proofs.Bodies.{length-eight}

pub first_same : (old new : List ℕ) → take 16 new ≡ take 16 old → first_of new ≡ first_of old
unfolding first_of
first_same old new same =
    ap (λ (l : List ℕ). from_le_bytes w64 l) (sym (drop-take 8 8 new) ∙ ap (λ (l : List ℕ). drop 8 l) same ∙ drop-take 8 8 old)

pub records_more : (old new body : List ℕ) → bodies_of new ≡ bodies_of old ++ body ∷ [] → records_of new ≡ records_of old ++ records_in body
records_more old new body is =
    ap (λ (l : List (List ℕ)). flat_map records_in l) is
    ∙ flat_map-append records_in (bodies_of old) (body ∷ [])
    ∙ ap (λ (l : List (List ℕ)). records_of old ++ l) (append-nil (records_in body))

content_same : (end : ℕ) (a b : List ℕ) (place : Place) → take end a ≡ take end b → EndsBy end place → content a place ≡ content b place
content_same end a b place same by =
    between_is a place.start place.end
    ∙ ap (λ (l : List ℕ). drop place.start l) (sym (take-take place.end end a by.1) ∙ ap (λ (l : List ℕ). take place.end l) same ∙ take-take place.end end b by.1)
    ∙ sym (between_is b place.start place.end)

-- what lies before a place is the same where the bytes before it are
pub contents_same : (end : ℕ) (a b : List ℕ) (places : List Place) → take end a ≡ take end b → All (EndsBy end) places → contents a places ≡ contents b places
contents_same end a b [] same within = refl
contents_same end a b (place ∷ places) same within = λ i.
    content_same end a b place same (All-head (EndsBy end) place places within) i
    ∷ contents_same end a b places same (All-tail (EndsBy end) place places within) i

pub nothing_whole : (bytes : List ℕ) → bytes ≡ [] → IsWholeRecords bytes × (records_in bytes ≡ [])
nothing_whole bytes none = (
  record {
    goes_on = λ after. ap (λ (l : List ℕ). records_in (l ++ after)) none ∙ ap (λ (l : List ℕ). records_in l ++ records_in after) (sym none);
    encoded = none ∙ ap (λ (l : List ℕ). body_of (records_in l)) (sym none);
  },
  ap records_in none,
)

-- one record more
pub one_more : (bytes item new : List ℕ) → length item < 2 ^ 32 → new ≡ bytes ++ framed item → IsWholeRecords bytes → IsWholeRecords new × (records_in new ≡ records_in bytes ++ item ∷ [])
one_more bytes item new small is whole =
    let alone : records_in (framed item) ≡ item ∷ [] = ap records_in (sym (append-nil (framed item))) ∙ records_framed (framed item) item (framed_is item small) [] in
    let records : records_in new ≡ records_in bytes ++ item ∷ [] = ap records_in is ∙ whole.goes_on (framed item) ∙ ap (λ (l : List (List ℕ)). records_in bytes ++ l) alone in (
      record {
        goes_on = λ after.
            ap (λ (l : List ℕ). records_in (l ++ after)) is
            ∙ ap records_in (append_assoc bytes (framed item) after)
            ∙ whole.goes_on (framed item ++ after)
            ∙ ap (λ (l : List (List ℕ)). records_in bytes ++ l) (records_framed (framed item) item (framed_is item small) after)
            ∙ sym (append_assoc (records_in bytes) (item ∷ []) (records_in after))
            ∙ ap (λ (l : List (List ℕ)). l ++ records_in after) (sym records);
        encoded =
            is
            ∙ ap (λ (l : List ℕ). l ++ framed item) whole.encoded
            ∙ ap (λ (l : List ℕ). body_of (records_in bytes) ++ l) (sym (append-nil (framed item)))
            ∙ sym (flat_map-append framed (records_in bytes) (item ∷ []))
            ∙ ap body_of (sym records);
      },
      records,
    )

-- the places of a batch that was put after the others
module _ (old body new : List ℕ) (is : new ≡ old ++ 1 ∷ summed body) where
  front : take (length old) new ≡ take (length old) old
  front = ap (λ (l : List ℕ). take (length old) l) is ∙ take-append-le (length old) old (1 ∷ summed body) (omega arith)

  lies_there : slice_range new (length old + 13) (length old + 13 + length body) ≡ body
  lies_there =
      let item = eight (sum_of body) ++ body in
      let head = old ++ (1 ∷ (four (length item) ++ eight (sum_of body))) in
      let long : length head ≡ length old + 13 =
      omega (
        arith,
        length-append old (1 ∷ (four (length item) ++ eight (sum_of body))),
        length-append (four (length item)) (eight (sum_of body)),
        length-four (length item),
        length-eight (sum_of body),
      ) in
      let parts : new ≡ head ++ body = is ∙ simp append_assoc in
      let width : length old + 13 + length body - (length old + 13) ≡ length body = omega arith in
      ap (λ (k : ℕ). take k (drop (length old + 13) new)) width
      ∙ ap (λ (l : List ℕ). take (length body) (drop (length old + 13) l)) parts
      ∙ ap (λ (l : List ℕ). take (length body) l) (drop_at head body (length old + 13) long)
      ∙ take_all (length body) body (omega arith)

  pub contents_more : (places later : List Place) → contents old places ≡ records_of old → All (EndsBy (length old)) places → AddsRecords body (length old + 13) places later
      → records_of new ≡ records_of old ++ records_in body → contents new later ≡ records_of new
  contents_more places later known within adds more =
      adds new lies_there
      ∙ ap (λ (l : List (List ℕ)). l ++ records_in body) (contents_same (length old) new old places front within ∙ known)
      ∙ sym more

  pub places_more : (places later : List Place) → contents old places ≡ records_of old → All (EndsBy (length old)) places → AddsRecords body (length old + 13) places later
      → length later ≡ length places + length (records_in body)
  places_more places later known within adds =
      omega (arith, ap length (adds new lies_there), length-append (contents new places) (records_in body), length-map later (content new), length-map places (content new))
