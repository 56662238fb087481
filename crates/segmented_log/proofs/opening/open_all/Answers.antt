use Rattle.std.proofs.Common.{rules, ◌≡◌, ◌<◌, ◌^◌, length, map, refl, ◌∙◌, ap, subst, arith, string_bytes}
use Rattle.std.specs.Prelude.{IsErrOf}
use Rattle.std.specs.List.{Contains}
use Rattle.std.proofs.lemmas.List.Elements.{All-map, recursion_from_All}
use Rattle.std.specs.Result.{IsErrAnd}
use Rattle.segmented_log.specs.Causes.{IsFailure}
use Rattle.segmented_log.specs.Parts.{part_of, first_in, end_from, AreInLine, Ascend}
use Rattle.segmented_log.specs.Log.{HasSegment}
use Rattle.segmented_log.specs.declared.error.LogError.TheVariants.{NoLog}
use Rattle.segmented_log.proofs.LoadLemmas.{no_others, firsts_of}
use Rattle.segmented_log.proofs.NoLogLemmas.{no_store, some_segment, not_one_log}
use Rattle.segmented_log.proofs.PartLemmas.{ascend_first}
use Rattle.segmented_log.proofs.UniqueLemmas.{from_zero}
use Rattle.segmented_log.proofs.opening.open_all.Goals as goal

pub returns-in_err-segments-clause-no_log : goal.returns-in_err-segments-clause-no_log
returns-in_err-segments-clause-no_log g c = λ h is.
    let seen = g.F.Folder.seen c.args.folder.now in
    let failed : IsErrOf c.open_segments.result NoLog = search rules in
    let bad = c.open_segments.ensures.no_log h failed in
    no_store seen (map string_bytes c.args.names.now) c.in_ok-numbers.numbers.items (c.requires h) c.in_ok-numbers.ensures.numbers bad.0
    (subst (λ l. Contains l bad.0) c.deref.ensures.value bad.1) bad.2

pub returns-in_err-segments-clause-failed : goal.returns-in_err-segments-clause-failed
returns-in_err-segments-clause-failed g c = λ h is.
    let seen = g.F.Folder.seen c.args.folder.now in
    let failed : IsErrAnd c.open_segments.result IsFailure = search rules in
    some_segment seen (map string_bytes c.args.names.now) c.in_ok-numbers.numbers.items (c.requires h) c.in_ok-numbers.ensures.numbers
    (subst (λ l. 0 < length l) c.deref.ensures.value (c.open_segments.ensures.failed failed))

pub returns-in_default-clause-no_log : goal.returns-in_default-clause-no_log
returns-in_default-clause-no_log g c = λ h is.
    let seen = g.F.Folder.seen c.args.folder.now in
    let segments = c.in_ok-segments.segments.items in
    let parts = map (λ x. part_of x.first x.reader) segments in
    let firsts_are = firsts_of (λ x. part_of x.first x.reader) (λ x. x.first) (λ x. refl) segments ∙ c.in_ok-segments.ensures.numbers ∙ c.deref.ensures.value in
    let each = recursion_from_All (HasSegment seen) parts (All-map (HasSegment seen) (λ x. part_of x.first x.reader) segments (c.in_ok-segments.ensures.found h)) in
    let first_is : c.first_number-first.result ≡ first_in parts 0 = c.first_number-first.ensures ∙ ap (λ l. first_in (map (λ x. part_of x.first x.reader) l) 0) c.deref-2.ensures.value in
    not_one_log seen (map string_bytes c.args.names.now) c.in_ok-numbers.numbers.items (c.requires h) c.in_ok-numbers.ensures.numbers parts firsts_are each c.stores_are_apart.ensures
    c.in_ok-numbers.ensures.ascend
    (λ are.
    let known = subst (λ l. AreInLine c.first_number-first.result (map (λ x. part_of x.first x.reader) l) → Ascend c.first_number-first.result (map (λ x. part_of x.first x.reader) l)
    → end_from c.first_number-first.result (map (λ x. part_of x.first x.reader) l) < 2 ^ 64 → ⊥) c.deref-3.ensures.value c.in_default.ensures.none in
    subst (λ n. AreInLine n parts → Ascend n parts → end_from n parts < 2 ^ 64 → ⊥) first_is known are.in_line (ascend_first parts are.ascend) are.fits)

pub returns-clause-are : goal.returns-clause-are
returns-clause-are g c =
    let parts = map (λ x. part_of x.first x.reader) c.in_ok-segments.segments.items in
    let first = c.first_number-first.result in
    let first_is : first ≡ first_in parts 0 = c.first_number-first.ensures ∙ ap (λ l. first_in (map (λ x. part_of x.first x.reader) l) 0) c.deref-2.ensures.value in
    let end : c.in-Some.field-0 ≡ end_from first parts = c.in-Some.ensures.end ∙ ap (λ l. end_from first (map (λ x. part_of x.first x.reader) l)) c.deref-3.ensures.value in
    record {
      in_line = subst (λ n. AreInLine n parts) first_is (subst (λ l. AreInLine first (map (λ x. part_of x.first x.reader) l)) c.deref-3.ensures.value c.in-Some.ensures.line);
      ascend = from_zero first parts (subst (λ l. Ascend first (map (λ x. part_of x.first x.reader) l)) c.deref-3.ensures.value c.in-Some.ensures.ascend);
      fits = subst (λ n. end_from n parts < 2 ^ 64) first_is (omega (arith, end, c.in-Some.ensures.fits));
    }

pub returns-clause-only : goal.returns-clause-only
returns-clause-only g c = λ h.
    let seen = g.F.Folder.seen c.args.folder.now in
    let segments = c.in_ok-segments.segments.items in
    let parts = map (λ x. part_of x.first x.reader) segments in
    let firsts_are = firsts_of (λ x. part_of x.first x.reader) (λ x. x.first) (λ x. refl) segments ∙ c.in_ok-segments.ensures.numbers ∙ c.deref.ensures.value in
    record {
      each = recursion_from_All (HasSegment seen) parts (All-map (HasSegment seen) (λ x. part_of x.first x.reader) segments (c.in_ok-segments.ensures.found h));
      no_others = no_others seen (map string_bytes c.args.names.now) c.in_ok-numbers.numbers.items (c.requires h) c.in_ok-numbers.ensures.numbers parts firsts_are;
    }
