use Rattle.std.proofs.Common.{◌≡◌, ◌≤◌, ℕ, ◌-◌, ◌++◌, List, take, drop, length, sym, ap, refl, ◌∙◌, subst, arith, inl, inr}
use Rattle.std.proofs.Math.Seq.{take-append_seam, drop-append_seam}
use Rattle.layered_index.specs.declared.row.Row.{Row}
use Rattle.layered_index.specs.declared.row.RowEnd.{RowEnd}
use Rattle.store_c.specs.declared.writer.Writer.{Writer}
use Rattle.layered_index.specs.Rows.{ends_in}
use Rattle.store_c.specs.Writing.{EndsFile, IsEndOf, HasEnd}
use Rattle.store_c.proofs.StackLemmas.{rows_fit}
use Rattle.store_c.proofs.CloseLemmas.{counted_rows, other_index, closed, same_end, no_blocks, not_refused}
use Rattle.store_c.proofs.writing.zevk_writer_close.Goals as goal

-- a part from the front on
front_part : (n : ℕ) (table ends : List Row) → ends ≡ take (n - 0) table → ends ≡ take n table
front_part n table ends is = is ∙ ap (λ (i : ℕ). take i table) (omega arith)

pub returns-in_default-clause-other : goal.returns-in_default-clause-other
returns-in_default-clause-other c is =
    rows_fit c.args.writer.now c.args.table.now (elim c.in_default.ensures.lookup.0 [ inl x ↦ absurd (omega (arith, x)) | inr x ↦ x ])

pub returns-in-Err-clause-other : goal.returns-in-Err-clause-other
returns-in-Err-clause-other c is =
    let ends = front_part c.args.writer.now.blocks c.args.table.now c.in-Some.ends.now c.in-Some.ensures.lookup.0.2 in
    other_index c.args.writer.now c.args.table.now c.in-Some.ends.now ends
    (no_blocks (ends_in c.in-Some.ends.now) c.in-Err.refusal _ c.number-in-Err.ensures c.in-Err.ensures.refused (λ ten. omega (arith, ten, is)))

pub returns-in-Err-clause-room : goal.returns-in-Err-clause-room
returns-in-Err-clause-room c n has kept =
    let ends = front_part c.args.writer.now.blocks c.args.table.now c.in-Some.ends.now c.in-Some.ensures.lookup.0.2 in
    absurd (not_refused c.args.period (ends_in c.in-Some.ends.now) _ has.end (counted_rows c.args.writer.now c.args.table.now c.in-Some.ends.now ends) has.is
    (no_blocks (ends_in c.in-Some.ends.now) c.in-Err.refusal _ c.number-in-Err.ensures c.in-Err.ensures.refused kept))

pub returns-then-len-end-clause-closed : goal.returns-then-len-end-clause-closed
returns-then-len-end-clause-closed c is =
    let bytes = c.in-Ok.bytes.items in
    let ends = front_part c.args.writer.now.blocks c.args.table.now c.in-Some.ends.now c.in-Some.ensures.lookup.0.2 in
    let done = closed c.args.writer.now c.args.table.now c.in-Some.ends.now c.args.period bytes (omega arith) ends (omega arith) (omega arith) c.in-Ok.ensures.end in
    let text : c.copy_from_slice.new.self ≡ bytes = c.copy_from_slice.ensures.after ∙ c.deref.ensures.value in
    let size : c.len.result ≡ length bytes = omega (arith, c.len.ensures, c.deref.ensures.len, ap length c.deref.ensures.value) in
    let all : bytes ≡ take c.len.result (c.copy_from_slice.new.self ++ drop c.len-then-len-end.result c.args.end.now) =
    sym ((λ i. take (size i) (text i ++ drop c.len-then-len-end.result c.args.end.now)) ∙ take-append_seam bytes _) in
    subst (λ (end : List ℕ). EndsFile c.args.period end c.args.writer.now c.args.table.now) all done

pub returns-then-len-end-clause-rest : goal.returns-then-len-end-clause-rest
returns-then-len-end-clause-rest c is =
    let bytes = c.in-Ok.bytes.items in
    let text : c.copy_from_slice.new.self ≡ bytes = c.copy_from_slice.ensures.after ∙ c.deref.ensures.value in
    let size : c.len.result ≡ length bytes = omega (arith, c.len.ensures, c.deref.ensures.len, ap length c.deref.ensures.value) in
    let same : c.len-then-len-end.result ≡ c.len.result = omega (arith, c.len.ensures, c.len-then-len-end.ensures) in
    (λ i. drop (size i) (text i ++ drop c.len-then-len-end.result c.args.end.now)) ∙ drop-append_seam bytes _ ∙ ap (λ (n : ℕ). drop n c.args.end.now) same

-- what is to be written
made : (period : ℕ) (writer : Writer) (table ends : List Row) (bytes : List ℕ) (len : ℕ) → 2 ≤ period → period ≤ 64 → writer.docs ≡ 0 → writer.blocks ≤ length table → ends ≡ take writer.blocks table
    → IsEndOf period (ends_in ends) bytes → length bytes ≡ len → HasEnd period len writer table
made period writer table ends bytes len least most none rows is end size = record {
  least = least;
  most = most;
  none_open = none;
  rows = rows;
  end = bytes;
  is = subst (λ (es : List RowEnd). IsEndOf period es bytes) (counted_rows writer table ends is) end;
  size = size;
  ends = closed writer table ends period bytes none is least most end;
}

-- it has one length
one_length : (period n len : ℕ) (writer : Writer) (table : List Row) → HasEnd period n writer table → HasEnd period len writer table → len ≡ n
one_length period n len writer table has here =
    sym here.size ∙ ap length (same_end period (take writer.blocks (ends_in table)) here.end has.end here.is has.is) ∙ has.size

pub returns-then-len-end-clause-exact : goal.returns-then-len-end-clause-exact
returns-then-len-end-clause-exact c is =
    let some = c.in-Some.ensures.lookup.0 in
    let ends = front_part c.args.writer.now.blocks c.args.table.now c.in-Some.ends.now some.2 in
    made c.args.period c.args.writer.now c.args.table.now c.in-Some.ends.now c.in-Ok.bytes.items _ (omega arith) (omega arith) (omega arith) (omega (arith, some)) ends c.in-Ok.ensures.end
    (sym (c.len.ensures ∙ c.in-Ok.bytes.ok.0))

pub returns-clause-exact : goal.returns-clause-exact
returns-clause-exact c is =
    let some = c.in-Some.ensures.lookup.0 in
    let ends = front_part c.args.writer.now.blocks c.args.table.now c.in-Some.ends.now some.2 in
    made c.args.period c.args.writer.now c.args.table.now c.in-Some.ends.now c.in-Ok.bytes.items _ (omega arith) (omega arith) (omega arith) (omega (arith, some)) ends c.in-Ok.ensures.end
    (sym (c.len.ensures ∙ c.in-Ok.bytes.ok.0))

pub returns-then-len-end-clause-room : goal.returns-then-len-end-clause-room
returns-then-len-end-clause-room c n has kept =
    let size = one_length c.args.period n c.len.result c.args.writer.now c.args.table.now has (returns-then-len-end-clause-exact c (inl refl)) in
    let room = c.if-len-end.true in
    (size, inl (refl, omega arith))

pub returns-clause-room : goal.returns-clause-room
returns-clause-room c n has kept =
    let size = one_length c.args.period n c.len.result c.args.writer.now c.args.table.now has (returns-clause-exact c (inr c.number-else-len-end.ensures)) in
    let room = c.if-len-end.false in
    (size, inr (c.number-else-len-end.ensures, omega arith))
