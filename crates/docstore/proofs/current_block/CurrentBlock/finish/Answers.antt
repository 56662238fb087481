use Rattle.std.proofs.Common.{◌≡◌, ℕ, List, ◌++◌, length, sym, ◌∙◌, ap, arith}
use Rattle.std.specs.Prelude.{vec_capacity}
use Rattle.std.specs.List.{flat_map}
use Rattle.store_base.specs.Serialize.{fixed}
use Rattle.store_format.specs.Block.{block}
use Rattle.docstore.specs.Pending.{documents_at}
use Rattle.docstore.proofs.PendingLemmas.{length-documents_at, length-block-pending, block_is}
use Rattle.store_format.proofs.BlockLemmas.{length-block}
use Rattle.docstore.proofs.current_block.CurrentBlock.finish.Goals as goal

pub append_table-requires-clause-room : goal.append_table-requires-clause-room
append_table-requires-clause-room c =
    let count : length c.self.inside.starts.items ≡ length c.args.self = sym (length-documents_at c.self.inside.starts.items c.self.inside.bytes.items) ∙ ap length c.self.view_is in
    omega (arith, c.self.invariant.room, c.self.invariant.within (omega arith))

text_is : (c : goal.After-append_table) → c.append_table.new.bytes.items ≡ block c.args.self
text_is c =
    let starts = c.self.inside.starts.items in
    let bytes = c.self.inside.bytes.items in
    c.append_table.ensures.items
    ∙ ap (λ (ss : List ℕ). (bytes ++ flat_map (fixed 4) ss) ++ fixed 4 (length ss)) c.deref.ensures.value
    ∙ block_is starts bytes c.self.inside.limit (vec_capacity c.self.inside.bytes) c.self.invariant ∙ ap block c.self.view_is

pub invariant_of-result : goal.invariant_of-result
invariant_of-result c =
    let starts = c.self.inside.starts.items in
    let bytes = c.self.inside.bytes.items in
    let count = sym (length-documents_at starts bytes) ∙ ap length c.self.view_is in
    let size : length (block (documents_at starts bytes)) ≡ length (block c.args.self) = ap (λ (docs : List (List ℕ)). length (block docs)) c.self.view_is in
    let long = length-block-pending starts bytes c.self.inside.limit (vec_capacity c.self.inside.bytes) c.self.invariant in
    record {
      some_docs = omega (arith, count, c.requires);
      few_docs = omega (arith, c.self.invariant.fits);
      some_bytes = omega (arith, ap length (text_is c), length-block c.args.self);
      few_bytes = omega (arith, ap length (text_is c), size, long, c.self.invariant.fits);
      small = c.self.invariant.small;
      room = omega (arith, c.self.invariant.room, c.append_table.ensures.capacity);
    }

pub returns : goal.returns
returns c =
    let starts = c.self.inside.starts.items in
    let bytes = c.self.inside.bytes.items in
    let count : length starts ≡ length c.args.self = sym (length-documents_at starts bytes) ∙ ap length c.self.view_is in
    λ i. record { count = count i; bytes = text_is c i }
