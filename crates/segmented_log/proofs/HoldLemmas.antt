-- A folder's segments and its tail, after changes of other files.
use Rattle.std.proofs.Common.{◌≡◌, inl, inr, ⊎_elim, ℕ, ◌<◌, ◌^◌, List, [], ◌∷◌, map, Some, ◌∙◌, arith}
use Rattle.std.specs.List.{AllByRecursion}
use Rattle.store_folder.specs.Folder.{Look}
use Rattle.segmented_log.specs.Names.{segment_name, tail_name}
use Rattle.segmented_log.specs.Parts.{Part}
use Rattle.segmented_log.specs.Log.{HasSegment, Holds}
use Rattle.segmented_log.specs.Dropping.{HasOnly}

abbrev pub firsts : List Part → List ℕ
firsts parts = map (λ part. part.first) parts

module _ (old c : Look) where
  pub each_stays : (parts : List Part) → AllByRecursion (λ part. c (segment_name part.first) ≡ old (segment_name part.first)) parts → AllByRecursion (HasSegment old) parts
      → AllByRecursion (HasSegment c) parts
  each_stays [] same all = tt
  each_stays (part ∷ parts) same all = ((all.0.0, all.0.1, same.0 ∙ all.0.2), each_stays parts same.1 all.1)

  all_same : (parts : List Part) → ((k : ℕ) → c (segment_name k) ≡ old (segment_name k)) → AllByRecursion (λ part. c (segment_name part.first) ≡ old (segment_name part.first)) parts
  all_same [] same = tt
  all_same (part ∷ parts) same = (same part.first, all_same parts same)

  -- the same of numbers that names have
  pub all_same_below : (end : ℕ) (parts : List Part) → end < 2 ^ 64 → AllByRecursion (λ part. part.first < end) parts → ((k : ℕ) → k < 2 ^ 64 → c (segment_name k) ≡ old (segment_name k))
      → AllByRecursion (λ part. c (segment_name part.first) ≡ old (segment_name part.first)) parts
  all_same_below end [] low below same = tt
  all_same_below end (part ∷ parts) low below same = (same part.first (omega (arith, low, below.0)), all_same_below end parts low below.1 same)

  -- nothing changed under the names of segments
  pub same_segments : (segments : List Part) (tail file : List ℕ) → Holds segments tail old → AllByRecursion (λ part. c (segment_name part.first) ≡ old (segment_name part.first)) segments
      → ((k : ℕ) → k < 2 ^ 64 → c (segment_name k) ≡ old (segment_name k)) → c tail_name ≡ Some file → Holds segments file c
  same_segments segments tail file held own same is = record {
    each = each_stays segments own held.each;
    no_others = λ k low. ⊎_elim (λ none. inl (same k low ∙ none)) (λ known. inr known) (held.no_others k low);
    tail_is = is;
  }

-- only the tail changed, and files that are no log's
pub other_tail : (segments : List Part) (tail file : List ℕ) (old c : Look) → Holds segments tail old → ((k : ℕ) → c (segment_name k) ≡ old (segment_name k)) → c tail_name ≡ Some file
    → Holds segments file c
other_tail segments tail file old c held same is = same_segments old c segments tail file held (all_same old c segments same) (λ k low. same k) is

pub only_of : (segments : List Part) (tail : List ℕ) (c : Look) → Holds segments tail c → HasOnly segments c
only_of segments tail c held = record { each = held.each; no_others = held.no_others }
