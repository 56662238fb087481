use Rattle.std.proofs.Common.{◌≡◌, sym, ap, ◌∙◌}
use Rattle.store_base.specs.Files.{Part}
use Rattle.store_reader.specs.Reading.{Reading}
use Rattle.main_theorem.proofs.StackingLemmas.{is_that, put_after}
use Rattle.main_theorem.proofs.stacking.stack_file.Goals as goal

pub returns : goal.returns
returns c = record {
  stacked = λ bs new few.
      let r = c.in_ok-reader.reader in
      let left = c.stack.new.reader in
      let that = is_that _ bs r c.stores_are_apart.ensures new c.in_ok-reader.ensures.store c.in_ok-reader.ensures.seen in
      let file : left.file ≡ c.reader.inside.file = sym (ap (λ (x : Reading). x.file) c.reader.view_is) in
      let none = ap (λ (p : Part). p.failures) file ∙ ap (λ (p : Part). p.failures) (sym c.reader-2.view_is) in
      put_after r left bs c.args.writer.now c.stack.new.self c.stack.result that c.in_ok-reader.ensures.honest c.in_ok-reader.ensures.failures none few
      c.stack.ensures.stacked c.stack.ensures.old_version c.stack.ensures.too_many c.stack.ensures.err;
}
