use Rattle.std.proofs.Common.{◌≡◌, ℕ, ◌-◌, List, length, refl, ◌∙◌, arith}
use Rattle.std.specs.Prelude.{slice_range}
use Rattle.std.proofs.lemmas.Result.{err_from_is_err_and}
use Rattle.store_reader.proofs.StoreSliceLemmas.{footer_no_store, offset_no_store, index_no_store, finds_no_index}
use Rattle.store_reader.proofs.store_slice.StoreSlice.new.Goals as goal

-- a part of a file, by where it begins and ends
part_is : (file part : List ℕ) (a b c d : ℕ) → a ≡ c → b ≡ d → part ≡ slice_range file a b → part ≡ slice_range file c d
part_is file part a b c d start end is = is ∙ (λ i. slice_range file (start i) (end i))

pub returns-in_err-footer-clause-refused : goal.returns-in_err-footer-clause-refused
returns-in_err-footer-clause-refused c =
    let given = err_from_is_err_and c.from_residual.result c.from_residual.ensures.1 in
    rw given.1 (footer_no_store c.args.file.now _ c.in_err-footer.ensures.found)

pub returns-in_err-range-clause-refused : goal.returns-in_err-range-clause-refused
returns-in_err-range-clause-refused c =
    let given = err_from_is_err_and c.from_residual-in_err-range.result c.from_residual-in_err-range.ensures.1 in
    rw given.1 (offset_no_store c.args.file.now c.in_ok-footer.footer c.in_ok-footer.ensures.long c.in_ok-footer.ensures.found c.in_err-range.ensures.past)

pub returns-in_err-index-clause-found : goal.returns-in_err-index-clause-found
returns-in_err-index-clause-found c =
    let given = err_from_is_err_and c.from_residual-in_err-index.result c.from_residual-in_err-index.ensures.1 in
    let part = part_is c.args.file.now c.part.result.now _ _ _ _ c.in_ok-range.ensures.start c.in_ok-range.ensures.end c.part.ensures in
    rw (given.1, given.2) (finds_no_index c.args.file.now c.in_ok-footer.footer _ c.in_ok-footer.ensures.found c.in_ok-range.ensures.order (rw part at c.in_err-index.ensures.refused))

pub returns-in_err-index-clause-refused : goal.returns-in_err-index-clause-refused
returns-in_err-index-clause-refused c =
    let given = err_from_is_err_and c.from_residual-in_err-index.result c.from_residual-in_err-index.ensures.1 in
    let part = part_is c.args.file.now c.part.result.now _ _ _ _ c.in_ok-range.ensures.start c.in_ok-range.ensures.end c.part.ensures in
    let none = rw part at c.in_err-index.ensures.refused in
    rw given.1 (index_no_store c.args.file.now c.in_ok-footer.footer c.in_ok-footer.ensures.long c.in_ok-footer.ensures.found none.1)

pub invariant_of-result : goal.invariant_of-result
invariant_of-result c =
    let f = c.in_ok-footer.footer in
    let bytes = c.args.file.now in
    let part : c.part.result.now ≡ slice_range bytes f.offset (length bytes - 28) = part_is bytes c.part.result.now _ _ _ _ c.in_ok-range.ensures.start c.in_ok-range.ensures.end c.part.ensures in
    rw c.in_ok-range.ensures.start (record {
      footer = f;
      reads = c.in_ok-footer.ensures.found;
      within = omega (arith, c.in_ok-range.ensures.order, c.in_ok-footer.ensures.long);
      data_is = refl;
      index_is = c.in_ok-index.ensures.ok ∙ (λ i. record { period = f.period; bytes = part i });
      version_is = refl;
    })

pub returns-clause-index : goal.returns-clause-index
returns-clause-index c = record {
  footer = c.in_ok-footer.footer;
  reads = c.in_ok-footer.ensures.found;
  within = omega (arith, c.in_ok-range.ensures.order, c.in_ok-footer.ensures.long);
  whole = omega arith;
}
