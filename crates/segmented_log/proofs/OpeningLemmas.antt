-- What a crash leaves while a log is opened.
use Rattle.std.proofs.Common.{◌≡◌, inl, inr, ⊎_elim, ℕ, ◌-◌, ◌^◌, ◌<◌, ◌≤◌, List, [], ◌∷◌, ◌++◌, length, map, Option, Some, None, refl, sym, ◌∙◌, ap, subst, arith}
use Rattle.std.specs.List.{slice_get}
use Rattle.std.proofs.lemmas.List.{append-nil, drop_all}
use Rattle.store_folder.specs.Moments.{ComesFrom}
use Rattle.store_folder.specs.Folder.{Look, ElsewhereOfBoth, Keeps}
use Rattle.store_folder.specs.Publishing.{part, IsOldOrWhole}
use Rattle.store_format.specs.Block.{Slot, doc}
use Rattle.log_tail.specs.Tail.{records_of, first_of, IsTail}
use Rattle.segmented_log.specs.Names.{segment_name, tail_name}
use Rattle.segmented_log.specs.Parts.{Part, first_in, end_from, tail_end, log_slots, AreInLine, Ascend, AreParts}
use Rattle.segmented_log.specs.Log.{IsLog, IsBlank, KeepsLog}
use Rattle.segmented_log.proofs.NameLemmas.{segment_no_tail, segment_no_tail_beside}
use Rattle.segmented_log.specs.Opening.{IsOfLog, IsSyncedButTail, IsAsBefore, IsOldOrSeen, IsTailOf}
use Rattle.segmented_log.proofs.HoldLemmas.{same_segments, all_same_below}
use Rattle.segmented_log.proofs.PartLemmas.{more_parts, more_slots, begin_before}

pub some_is : {A : Type 0} (a b : A) → Some a ≡ Some b → a ≡ b
some_is a b e = cc e

pub none_some : {A : Type 0} (a : A) → None ≡ Some a → ⊥
none_some a e = cc e

-- the same log in another look, with this tail
pub log_with_tail : (first : ℕ) (all : List Slot) (d c : Look) (bytes file : List ℕ) → d tail_name ≡ Some bytes → IsTail file → first_of file ≡ first_of bytes → records_of file ≡ records_of bytes
    → ((k : ℕ) → k < 2 ^ 64 → c (segment_name k) ≡ d (segment_name k)) → c tail_name ≡ Some file → IsLog first all d → IsLog first all c
log_with_tail first all d c bytes file had is_tail first_same records same is log =
    let tails : log.tail ≡ bytes = some_is log.tail bytes (sym log.holds.tail_is ∙ had) in
    let first_now : first_of file ≡ first_of log.tail = first_same ∙ ap first_of (sym tails) in
    let records_now : records_of file ≡ records_of log.tail ++ [] = records ∙ ap records_of (sym tails) ∙ sym (append-nil (records_of log.tail)) in
    record {
      segments = log.segments;
      tail = file;
      parts = more_parts first log.segments log.tail log.parts file [] is_tail first_now records_now;
      slots_are = log.slots_are ∙ sym (append-nil (log_slots first log.segments log.tail)) ∙ sym (more_slots first log.segments log.tail log.parts file [] first_now records_now);
      holds = same_segments d c log.segments log.tail file log.holds
          (all_same_below d c (end_from first log.segments) log.segments log.parts.fits (begin_before first log.segments log.parts.in_line) same) same is;
    }

-- the same look
pub log_same : (first : ℕ) (all : List Slot) (d c : Look) → ((n : List ℕ) → IsOfLog n → c n ≡ d n) → IsLog first all d → IsLog first all c
log_same first all d c same log =
    log_with_tail first all d c log.tail log.tail log.holds.tail_is log.parts.is_tail refl refl (λ k low. same (segment_name k) (inr (k, low, refl))) (same tail_name (inl refl) ∙ log.holds.tail_is)
    log

pub blank_same : (d c : Look) → ((n : List ℕ) → IsOfLog n → c n ≡ d n) → IsBlank d → IsBlank c
blank_same d c same blank = record { no_segments = λ k low. same (segment_name k) (inr (k, low, refl)) ∙ blank.no_segments k low; no_tail = same tail_name (inl refl) ∙ blank.no_tail }

pub keeps_same : (seen c : Look) → ((n : List ℕ) → IsOfLog n → c n ≡ seen n) → KeepsLog seen c
keeps_same seen c same = record { same = λ first all log. log_same first all seen c same log; begun = λ blank. inl (blank_same seen c same blank) }

-- a log of no records
new_log : (d c : Look) (file : List ℕ) → IsBlank d → ((k : ℕ) → k < 2 ^ 64 → c (segment_name k) ≡ d (segment_name k)) → c tail_name ≡ Some file → IsTail file → first_of file ≡ 0 → records_of file ≡ []
    → IsLog 0 [] c
new_log d c file blank same is is_tail first none = record {
  segments = [];
  tail = file;
  parts = record {
    first_is = sym first;
    in_line = tt;
    ascend = tt;
    fits = omega arith;
    is_tail = is_tail;
    meets = omega (arith, first);
    reaches = omega arith;
  };
  slots_are = sym (drop_all (0 - first_of file) (map doc (records_of file)) (omega (arith, ap (λ (l : List (List ℕ)). length (map doc l)) none)));
  holds = record { each = tt; no_others = λ k low. inl (same k low ∙ blank.no_segments k low); tail_is = is };
}

-- what could be left before
pub as_before : (before : Look → Type 0) (c : Look) → before c → IsAsBefore before c
as_before before c was = (c, was, λ n of. refl)

module _ (seen : Look) (before : Look → Type 0) (synced : IsSyncedButTail seen before) where
  module _ (file : List ℕ) (c : Look) (o : IsOldOrWhole before (tail_name ++ part) tail_name (Some file) c) where
    segments_same : (k : ℕ) → k < 2 ^ 64 → c (segment_name k) ≡ seen (segment_name k)
    segments_same k low = o.elsewhere (segment_name k) (segment_no_tail_beside k) (segment_no_tail k) ∙ synced.segments o.old o.was k low

    old_tail : c tail_name ≡ o.old tail_name → IsAsBefore before c
    old_tail old = (
      o.old,
      o.was,
      λ n. ⊎_elim (λ is. subst (λ (m : List ℕ). c m ≡ o.old m) (sym is) old)
          (λ of. subst (λ (m : List ℕ). c m ≡ o.old m) (sym of.2) (o.elsewhere (segment_name of.0) (segment_no_tail_beside of.0) (segment_no_tail of.0))),
    )

  -- the tail is replaced by one of the same records
  pub keeps_replaced : (bytes file : List ℕ) → seen tail_name ≡ Some bytes → IsTail file → first_of file ≡ first_of bytes → records_of file ≡ records_of bytes
      → (c : Look) → IsOldOrWhole before (tail_name ++ part) tail_name (Some file) c → IsOldOrSeen before seen c
  keeps_replaced bytes file had is_tail first records c o =
      ⊎_elim (λ old. inl (old_tail file c o old))
      (λ whole. inr (record {
        same = λ n all log. log_with_tail n all seen c bytes file had is_tail first records (segments_same file c o) whole log;
        begun = λ blank. absurd (none_some bytes (sym blank.no_tail ∙ had));
      }))
      o.at_name

  -- a tail is made
  pub keeps_begun : (file : List ℕ) → seen tail_name ≡ None → IsTail file → first_of file ≡ 0 → records_of file ≡ [] → (c : Look) → IsOldOrWhole before (tail_name ++ part) tail_name (Some file) c
      → IsOldOrSeen before seen c
  keeps_begun file had is_tail first none c o =
      ⊎_elim (λ old. inl (old_tail file c o old))
      (λ whole. inr (record {
        same = λ n all log. absurd (none_some log.tail (sym had ∙ log.holds.tail_is));
        begun = λ blank. inr (new_log seen c file blank (segments_same file c o) whole is_tail first none);
      }))
      o.at_name

  -- the tail that is there in the end has the records of the one that was seen
  pub keeps_loaded : (file : List ℕ) → IsTail file → IsTailOf (seen tail_name) file → (after : Look → Type 0) → ComesFrom (ElsewhereOfBoth (tail_name ++ part) tail_name) before after
      → Keeps tail_name (Some file) after → (c : Look) → after c → KeepsLog seen c
  keeps_loaded file is_tail of after follows keeps c left = by (seen tail_name) refl of
    where
      same_segments : (k : ℕ) → k < 2 ^ 64 → c (segment_name k) ≡ seen (segment_name k)
      same_segments k low =
          let from = follows c left in from.2 (segment_name k) (segment_no_tail_beside k) (segment_no_tail k) ∙ synced.segments from.0 from.1 k low

      by : (o : Option (List ℕ)) → seen tail_name ≡ o → IsTailOf o file → KeepsLog seen c
      by (Some bytes) had was = record {
        same = λ n all log. log_with_tail n all seen c bytes file had is_tail was.1 was.2 same_segments (keeps c left) log;
        begun = λ blank. absurd (none_some bytes (sym blank.no_tail ∙ had));
      }
      by None had was = record {
        same = λ n all log. absurd (none_some log.tail (sym had ∙ log.holds.tail_is));
        begun = λ blank. inr (new_log seen c file blank same_segments (keeps c left) is_tail was.0 was.1);
      }

-- Segments and a tail that an opening found to be in line, by the numbers that it compared.
pub parts_found : (first sealed : ℕ) (segments : List Part) (tail : List ℕ) → first ≡ first_in segments (first_of tail)
    → AreInLine first segments → Ascend first segments → sealed ≡ end_from first segments → sealed < 2 ^ 64
    → IsTail tail → first_of tail ≤ sealed → sealed ≤ tail_end tail → AreParts first segments tail
parts_found first sealed segments tail first_is in_line ascend sealed_is fits is_tail low high = record {
  first_is = first_is;
  in_line = in_line;
  ascend = ascend;
  fits = omega (arith, sealed_is, fits);
  is_tail = is_tail;
  meets = omega (arith, sealed_is, low);
  reaches = omega (arith, sealed_is, high);
}

-- Parts in line begin at the number that was found of these segments and this tail.
pub first_same : (first found tail_first : ℕ) (segments : List Part) (tail : List ℕ) → AreParts first segments tail → tail_first ≡ first_of tail → found ≡ first_in segments tail_first → first ≡ found
first_same first found tail_first segments tail parts at is = parts.first_is ∙ ap (λ n. first_in segments n) (sym at) ∙ sym is

-- the first number of segments, by the first of them
pub first_found : {S : Type 0} (f : S → Part) (n : ℕ) (s : S) (list : List S) → Some s ≡ slice_get list 0 → (f s).first ≡ first_in (map f list) n
first_found f n s [] is = absurd (none_some s (sym is))
first_found f n s (x ∷ list) is = ap (λ y. (f y).first) (some_is s x is)

pub first_missing : {S : Type 0} (f : S → Part) (n : ℕ) (list : List S) → None ≡ slice_get list 0 → n ≡ first_in (map f list) n
first_missing f n [] is = refl
first_missing f n (x ∷ list) is = absurd (none_some x is)
