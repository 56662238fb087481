use Rattle.std.proofs.Common.{◌≡◌, ℕ, ◌-◌, ◌+◌, ◌≤◌, length, inl, inr, sym, ap, ◌∙◌, arith}
use Rattle.std.specs.Prelude.{slice_range, Err}
use Rattle.store_reader.specs.declared.tail_error.TailError.TheVariants.{Short}
use Rattle.store_reader.proofs.FindsOnceLemmas.{footer_or_refusal}
use Rattle.store_reader.proofs.StoreTailLemmas.{short_file, bad_footer, bad_offset, bad_index, wanted_index, none_wanted, wanted_from, tail_laid_out}
use Rattle.store_reader.proofs.store_tail.StoreTail.new.Goals as goal
use Rattle.store_reader.proofs.store_tail.StoreTail.new.Goals.{then-file_len-via-then-file_len, then-file_len-via-else-file_len+then-file_len-tail}

pub returns-then-file_len-clause-refused : goal.returns-then-file_len-clause-refused
returns-then-file_len-clause-refused c =
    short_file c.args.file_len c.args.tail.now (elim c.then-file_len.branch [
      | then-file_len-via-then-file_len w ↦ inl (omega (arith, w.if-file_len.true))
      | then-file_len-via-else-file_len+then-file_len-tail w ↦ inr (omega (arith, w.if-file_len-tail.true))
    ])

pub returns-in-Err-clause-refused : goal.returns-in-Err-clause-refused
returns-in-Err-clause-refused c = bad_footer c.args.file_len c.args.tail.now c.in-Err.error (omega arith) (omega arith) c.in-Err.ensures.found

pub returns-in-Err-index_range-clause-refused : goal.returns-in-Err-index_range-clause-refused
returns-in-Err-index_range-clause-refused c =
    rw c.in-Err-index_range.ensures.cause (bad_offset c.args.file_len c.args.tail.now c.in-Ok.footer (omega arith) (omega arith) c.in-Ok.ensures.found c.in-Err-index_range.ensures.past)

pub returns-then-tail-wanted-clause-refused : goal.returns-then-tail-wanted-clause-refused
returns-then-tail-wanted-clause-refused c =
    let range = c.in-Ok-index_range.ensures in
    let start = range.start in let order = range.order in
    rw start (wanted_index c.args.file_len c.args.tail.now c.in-Ok.footer (omega arith) (omega arith) c.in-Ok.ensures.found (omega arith) (omega arith))

pub invariant_of-result : goal.invariant_of-result
invariant_of-result c =
    let f = c.in-Ok.footer in
    let n = c.args.file_len in
    let tail = c.args.tail.now in
    let start = c.in-Ok-index_range.ensures.start in let order = c.in-Ok-index_range.ensures.order in
    let part : c.part-index_bytes.result.now ≡ slice_range tail (length tail - (n - f.offset)) (length tail - 28) = c.part-index_bytes.ensures
    ∙ (λ i. slice_range tail (length tail - (n - start i)) (length tail - 28)) in
    let is : c.in-Ok-new.index ≡ record { period = f.period; bytes = slice_range tail (length tail - (n - f.offset)) (length tail - 28) } = c.in-Ok-new.ensures.ok
    ∙ (λ i. record { period = f.period; bytes = part i }) in
    let fits : 28 + f.offset ≤ n = omega arith in
    let enough : n - f.offset ≤ length tail = omega arith in
    rw start (record {
      within = omega arith;
      laid_out = λ file t. tail_laid_out file n tail f c.in-Ok-new.index t (omega arith) c.in-Ok.ensures.found fits enough is;
    })

pub returns-in-Err-new-clause-refused : goal.returns-in-Err-new-clause-refused
returns-in-Err-new-clause-refused c =
    let start = c.in-Ok-index_range.ensures.start in let order = c.in-Ok-index_range.ensures.order in
    let none = rw (c.part-index_bytes.ensures, start) at c.in-Err-new.ensures.refused in
    bad_index c.args.file_len c.args.tail.now c.in-Ok.footer c.in-Err-new.error (omega arith) (omega arith) c.in-Ok.ensures.found (omega arith) (omega arith) none

pub returns-then-file_len-clause-short : goal.returns-then-file_len-clause-short
returns-then-file_len-clause-short c wanted lacks =
    absurd (none_wanted c.args.file_len c.args.tail.now wanted
    (elim c.then-file_len.branch [
      | then-file_len-via-then-file_len w ↦ inl (omega (arith, w.if-file_len.true))
      | then-file_len-via-else-file_len+then-file_len-tail w ↦ inr (omega (arith, w.if-file_len-tail.true))
    ])
    lacks)

pub returns-then-tail-clause-short : goal.returns-then-tail-clause-short
returns-then-tail-clause-short c wanted lacks = ap (λ (n : ℕ). Err (Short n)) (sym (lacks.footer (omega arith)))

pub returns-in-Err-clause-short : goal.returns-in-Err-clause-short
returns-in-Err-clause-short c wanted lacks =
    let is = lacks.index (omega arith) in
    absurd (footer_or_refusal c.args.tail.now is.0 c.in-Err.error is.1 c.in-Err.ensures.found)

pub returns-in-Err-index_range-clause-short : goal.returns-in-Err-index_range-clause-short
returns-in-Err-index_range-clause-short c wanted lacks =
    let past = c.in-Err-index_range.ensures.past in
    let from = wanted_from c.args.file_len c.args.tail.now c.in-Ok.footer wanted (omega arith) c.in-Ok.ensures.found lacks in
    let short = lacks.short in
    absurd (omega arith)

pub returns-then-tail-wanted-clause-short : goal.returns-then-tail-wanted-clause-short
returns-then-tail-wanted-clause-short c wanted lacks =
    let start = c.in-Ok-index_range.ensures.start in let order = c.in-Ok-index_range.ensures.order in
    let from = wanted_from c.args.file_len c.args.tail.now c.in-Ok.footer wanted (omega arith) c.in-Ok.ensures.found lacks in
    let same : c.args.file_len - c.in-Ok-index_range.range.start ≡ wanted = omega arith in
    ap (λ (n : ℕ). Err (Short n)) same

pub returns-in-Ok-new-clause-index : goal.returns-in-Ok-new-clause-index
returns-in-Ok-new-clause-index c =
    let start = c.in-Ok-index_range.ensures.start in let order = c.in-Ok-index_range.ensures.order in
    record { footer = c.in-Ok.footer; reads = c.in-Ok.ensures.found; within = omega arith; whole = omega arith }

pub returns-in-Ok-new-clause-short : goal.returns-in-Ok-new-clause-short
returns-in-Ok-new-clause-short c wanted lacks =
    let start = c.in-Ok-index_range.ensures.start in let order = c.in-Ok-index_range.ensures.order in
    let from = wanted_from c.args.file_len c.args.tail.now c.in-Ok.footer wanted (omega arith) c.in-Ok.ensures.found lacks in
    let short = lacks.short in
    absurd (omega arith)

pub returns-in-Err-new-clause-short : goal.returns-in-Err-new-clause-short
returns-in-Err-new-clause-short c wanted lacks =
    let start = c.in-Ok-index_range.ensures.start in let order = c.in-Ok-index_range.ensures.order in
    let from = wanted_from c.args.file_len c.args.tail.now c.in-Ok.footer wanted (omega arith) c.in-Ok.ensures.found lacks in
    let short = lacks.short in
    absurd (omega arith)
