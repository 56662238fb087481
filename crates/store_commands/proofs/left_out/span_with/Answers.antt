use Rattle.std.proofs.Common.{◌≡◌, ◌<◌, true, false, length, get_or, arith, rules, ap, sym, ◌∙◌}
use Rattle.std.specs.Prelude.{nat_le}
use Rattle.std.specs.List.Sorted.{IsPartitionPoint}
use Rattle.std.proofs.lemmas.Bool.{leb-false, ltb-true}
use Rattle.std.proofs.lemmas.List.{get_or_default}
use Rattle.std.proofs.lemmas.List.Sorted.{IsPartitionPoint-from_clause, IsPartitionedBy-leb}
use Rattle.store_commands.specs.declared.left_out.IdSpan.{IdSpan}
use Rattle.store_commands.proofs.SpanLemmas.{ends_rise, starts_rise, among_none, is_in_true}
use Rattle.store_commands.proofs.left_out.span_with.Goals as goal

pub returns-in_err-span-clause-has : goal.returns-in_err-span-clause-has
returns-in_err-span-clause-has c =
    let spans = c.args.spans.now in let id = c.args.doc_id in
    let point : IsPartitionPoint (λ (s : IdSpan). nat_le s.end id ≡ true) (λ (s : IdSpan). nat_le s.end id ≡ false) spans c.partition_point-place.result =
    IsPartitionPoint-from_clause (λ (s : IdSpan). nat_le s.end id) spans c.partition_point-place.result c.partition_point-place.ensures.partitioned
    (IsPartitionedBy-leb (λ (s : IdSpan). s.end) spans id (ends_rise spans c.requires)) (λ a r q k. search rules) in
    rw c.from_residual.ensures (among_none spans c.partition_point-place.result id (starts_rise spans c.requires) point.0 (λ lt d. absurd (grind (arith, c.in_err-span.ensures.lookup))))

pub returns-then-doc_id-span-clause-has : goal.returns-then-doc_id-span-clause-has
returns-then-doc_id-span-clause-has c =
    let spans = c.args.spans.now in let id = c.args.doc_id in
    let point : IsPartitionPoint (λ (s : IdSpan). nat_le s.end id ≡ true) (λ (s : IdSpan). nat_le s.end id ≡ false) spans c.partition_point-place.result =
    IsPartitionPoint-from_clause (λ (s : IdSpan). nat_le s.end id) spans c.partition_point-place.result c.partition_point-place.ensures.partitioned
    (IsPartitionedBy-leb (λ (s : IdSpan). s.end) spans id (ends_rise spans c.requires)) (λ a r q k. search rules) in
    among_none spans c.partition_point-place.result id (starts_rise spans c.requires) point.0 (λ lt d.
    let same : c.in_ok-span.field-0.now ≡ get_or spans c.partition_point-place.result d =
    c.in_ok-span.ensures.lookup.1 ∙ get_or_default spans c.partition_point-place.result c.in_ok-span.field-0.now d lt in
    omega (arith, ap (λ (s : IdSpan). s.start) same, c.if-doc_id-span.true))

pub returns-clause-has : goal.returns-clause-has
returns-clause-has c =
    let spans = c.args.spans.now in let id = c.args.doc_id in
    let point : IsPartitionPoint (λ (s : IdSpan). nat_le s.end id ≡ true) (λ (s : IdSpan). nat_le s.end id ≡ false) spans c.partition_point-place.result =
    IsPartitionPoint-from_clause (λ (s : IdSpan). nat_le s.end id) spans c.partition_point-place.result c.partition_point-place.ensures.partitioned
    (IsPartitionedBy-leb (λ (s : IdSpan). s.end) spans id (ends_rise spans c.requires)) (λ a r q k. search rules) in
    let span = c.in_ok-span.field-0.now in
    let lt : c.partition_point-place.result < length spans = ltb-true _ _ (sym c.in_ok-span.ensures.lookup.0) in
    let past = leb-false _ _ (point.1 c.partition_point-place.result span (omega arith) lt) in
    is_in_true span id c.if-doc_id-span.false (omega (arith, past, ap (λ (s : IdSpan). s.end) c.in_ok-span.ensures.lookup.1))
