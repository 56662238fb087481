use Rattle.std.proofs.Common.{rules, ◌≡◌, ◌<◌, ◌^◌, ℕ, List, length, map, sym, ◌∙◌, ap, subst, arith, ⊎_elim}
use Rattle.std.proofs.lemmas.List.{length-map}
use Rattle.segmented_log.specs.declared.error.LogError.TheVariants.{NoLog, Full}
use Rattle.log_tail.specs.declared.batches.Place.{Place}
use Rattle.log_tail.specs.Place.{content, contents}
use Rattle.log_tail.specs.Tail.{records_of}
use Rattle.segmented_log.specs.Parts.{part_of, first_in, end_from, AreInLine, Ascend}
use Rattle.segmented_log.proofs.CauseLemmas.{err_alone}
use Rattle.segmented_log.proofs.OpeningLemmas.{parts_found, first_same}
use Rattle.segmented_log.proofs.loading.assemble.Goals as goal

-- two errors that differ
none_full : NoLog ≡ Full → ⊥
none_full is = cc is

full_none : Full ≡ NoLog → ⊥
full_none is = cc is

count : (tail : List ℕ) (places : List Place) → contents tail places ≡ records_of tail → length places ≡ length (records_of tail)
count tail places is = sym (length-map places (content tail)) ∙ ap length is

pub returns-in_default-clause-no_log : goal.returns-in_default-clause-no_log
returns-in_default-clause-no_log g c = λ is first parts.
    let list = map (λ s. part_of s.first s.reader) c.args.segments.items in
    let first_is = subst (λ l. c.first_number-first.result ≡ first_in (map (λ s. part_of s.first s.reader) l) c.args.tail.first) c.deref.ensures.value c.first_number-first.ensures in
    let same = first_same first c.first_number-first.result _ list _ parts c.requires.first_is first_is in
    let back = sym c.deref-2.ensures.value in
    c.in_default.ensures.none
    (subst (λ l. AreInLine c.first_number-first.result (map (λ s. part_of s.first s.reader) l)) back (subst (λ n. AreInLine n list) same parts.in_line))
    (subst (λ l. Ascend c.first_number-first.result (map (λ s. part_of s.first s.reader) l)) back (subst (λ n. Ascend n list) same parts.ascend))
    (subst (λ l. end_from c.first_number-first.result (map (λ s. part_of s.first s.reader) l) < 2 ^ 64) back (subst (λ n. end_from n list < 2 ^ 64) same parts.fits))

pub returns-in_default-clause-full : goal.returns-in_default-clause-full
returns-in_default-clause-full g c = λ is. absurd (err_alone NoLog Full none_full is)

pub returns-in_default-checked_add-clause-no_log : goal.returns-in_default-checked_add-clause-no_log
returns-in_default-checked_add-clause-no_log g c = λ is. absurd (err_alone Full NoLog full_none is)

pub returns-in_default-checked_add-clause-full : goal.returns-in_default-checked_add-clause-full
returns-in_default-checked_add-clause-full g c = λ is.
    omega (arith, count _ _ c.requires.records, c.requires.first_is, c.len.ensures, c.in_default-checked_add.ensures)

pub returns-then-sealed-tail-clause-no_log : goal.returns-then-sealed-tail-clause-no_log
returns-then-sealed-tail-clause-no_log g c = λ is first parts.
    let list = map (λ s. part_of s.first s.reader) c.args.segments.items in
    let first_is = subst (λ l. c.first_number-first.result ≡ first_in (map (λ s. part_of s.first s.reader) l) c.args.tail.first) c.deref.ensures.value c.first_number-first.ensures in
    let same = first_same first c.first_number-first.result _ list _ parts c.requires.first_is first_is in
    let sealed_is : c.in-Some.sealed ≡ end_from first list =
    subst (λ l. c.in-Some.sealed ≡ end_from c.first_number-first.result (map (λ s. part_of s.first s.reader) l)) c.deref-2.ensures.value c.in-Some.ensures.end
    ∙ ap (λ n. end_from n list) (sym same) in
    let many = count _ _ c.requires.records in
    ⊎_elim (λ low. omega (arith, sealed_is, low, parts.meets, c.requires.first_is))
    (λ high. omega (arith, sealed_is, high.1, parts.reaches, c.requires.first_is, many, c.len.ensures, c.in-Some-checked_add.ensures.1)) c.then-sealed-tail.either

pub returns-then-sealed-tail-clause-full : goal.returns-then-sealed-tail-clause-full
returns-then-sealed-tail-clause-full g c = λ is. absurd (err_alone NoLog Full none_full is)

pub returns-clause-settled : goal.returns-clause-settled
returns-clause-settled g c = record {
  is_tail = c.requires.is_tail;
  whole = c.requires.whole;
  records = c.requires.records;
  within = c.requires.within;
  first_is = c.requires.first_is;
  low = omega (arith, c.if-sealed-tail.false);
  high = omega (arith, c.if-next-sealed.false, c.in-Some-checked_add.ensures.1, c.len.ensures);
  next_is = omega (arith, c.in-Some-checked_add.ensures.1, c.len.ensures);
  fits = omega (arith, c.in-Some-checked_add.ensures.0, c.in-Some-checked_add.ensures.1);
  pending_whole = search rules;
  small = omega arith;
}

pub returns-clause-parts : goal.returns-clause-parts
returns-clause-parts g c =
    let first_is = subst (λ l. c.first_number-first.result ≡ first_in (map (λ s. part_of s.first s.reader) l) c.args.tail.first) c.deref.ensures.value c.first_number-first.ensures in
    let at = c.deref-2.ensures.value in
    parts_found _ c.in-Some.sealed _ _ (first_is ∙ ap (λ n. first_in (map (λ s. part_of s.first s.reader) c.args.segments.items) n) c.requires.first_is)
    (subst (λ l. AreInLine c.first_number-first.result (map (λ s. part_of s.first s.reader) l)) at c.in-Some.ensures.line)
    (subst (λ l. Ascend c.first_number-first.result (map (λ s. part_of s.first s.reader) l)) at c.in-Some.ensures.ascend)
    (subst (λ l. c.in-Some.sealed ≡ end_from c.first_number-first.result (map (λ s. part_of s.first s.reader) l)) at c.in-Some.ensures.end)
    (omega (arith, c.if-next-sealed.false, c.in-Some-checked_add.ensures.0, c.in-Some-checked_add.ensures.1)) c.requires.is_tail
    (omega (arith, c.if-sealed-tail.false, c.requires.first_is))
    (omega (arith, c.if-next-sealed.false, c.requires.first_is, count _ _ c.requires.records, c.len.ensures, c.in-Some-checked_add.ensures.1))
