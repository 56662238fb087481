use Rattle.std.proofs.Common.{◌≡◌, ◌+◌, ◌<◌, ◌≤◌, inl, inr, List, [], drop, refl, sym, ◌∙◌, ap, arith}
use Rattle.layered_index.specs.declared.checkpoint.Checkpoint.{Checkpoint}
use Rattle.store_reader.specs.Parts.{parts_beyond, number_of_parts}
use Rattle.store_reader.proofs.PartLemmas.{block_at, none_at, none_following, few_blocks, first_part, fresh_part, same_part, few_part}
use Rattle.store_reader.proofs.reader.StoreReader.end_of_part.Goals as goal

pub overflow_add-end : goal.overflow_add-end
overflow_add-end g c =
    let here = block_at _ _ _ _ c.requires.covers c.requires.found in
    omega (arith, here.below, few_blocks _ _ c.requires.covers)

pub loop-block-init : goal.loop-block-init
loop-block-init g c =
    let here = block_at _ _ _ _ c.requires.covers c.requires.found in
    record { some = omega arith; last = omega (arith, here.below); byte = here.byte_end; following = omega arith; few_bytes = inl refl; parts = refl }

pub overflow_sub-block : goal.overflow_sub-block
overflow_sub-block g c =
    let first = block_at _ _ _ _ c.requires.covers c.requires.found in
    let next = block_at _ _ _ _ c.requires.covers (sym c.in-Some.ensures.checkpoint) in
    omega (arith, first.some_bytes, next.some_bytes, next.byte_start, c.loop-block.invariant.byte, c.loop-block.invariant.following)

pub overflow_add-end-in-Some : goal.overflow_add-end-in-Some
overflow_add-end-in-Some g c =
    let next = block_at _ _ _ _ c.requires.covers (sym c.in-Some.ensures.checkpoint) in
    omega (arith, next.below, few_blocks _ _ c.requires.covers)

pub loop-block-smaller : goal.loop-block-smaller
loop-block-smaller g c =
    let next = block_at _ _ _ _ c.requires.covers (sym c.in-Some.ensures.checkpoint) in
    omega (arith, next.below)

pub loop-block-preserved : goal.loop-block-preserved
loop-block-preserved g c =
    let first = block_at _ _ _ _ c.requires.covers c.requires.found in
    let next = block_at _ _ _ _ c.requires.covers (sym c.in-Some.ensures.checkpoint) in
    let inv = c.loop-block.invariant in
    let size = c.args.part_bytes in
    let limit = c.args.first.byte_range.start + size in
    let within : c.in-Some.block.byte_range.end ≤ limit = omega (arith, c.if-block-start.false, first.some_bytes, next.some_bytes, next.byte_start, inv.byte, inv.following) in
    record {
      some = omega (arith, inv.some);
      last = omega (arith, next.below);
      byte = next.byte_end;
      following = omega (arith, next.some_bytes, next.byte_start, inv.byte, inv.following);
      few_bytes = inr within;
      parts = inv.parts ∙ ap (λ (cs : List Checkpoint). parts_beyond size limit cs) next.rest
          ∙ same_part size limit c.in-Some.block (drop (c.loop-block.end.block + 1) c.args.self.now.checkpoints) within;
    }

pub returns-then-block-start-clause-part : goal.returns-then-block-start-clause-part
returns-then-block-start-clause-part g c =
    let cs = c.args.self.now.checkpoints in
    let first = block_at _ _ _ _ c.requires.covers c.requires.found in
    let next = block_at _ _ _ _ c.requires.covers (sym c.in-Some.ensures.checkpoint) in
    let inv = c.loop-block.invariant in
    let size = c.args.part_bytes in
    let limit = c.args.first.byte_range.start + size in
    let past : limit < c.in-Some.block.byte_range.end = omega (arith, c.if-block-start.true, first.some_bytes, next.some_bytes, next.byte_start, inv.byte, inv.following) in
    record {
      some = inv.some;
      last = inv.last;
      few_bytes = few_part _ _ _ _ _ _ inv.few_bytes inv.byte first.byte_start;
      full = rw (sym c.in-Some.ensures.checkpoint) (omega (arith, past, first.byte_start));
      parts = ap (number_of_parts size) first.rest ∙ first_part size c.args.first (drop (c.args.number + 1) cs) (omega (arith, first.some_bytes))
          ∙ ap (λ n. 1 + n) (inv.parts ∙ ap (λ (xs : List Checkpoint). parts_beyond size limit xs) next.rest
          ∙ fresh_part size limit c.in-Some.block (drop (c.loop-block.end.block + 1) cs) past ∙ ap (λ (xs : List Checkpoint). number_of_parts size xs) (sym next.rest));
    }

pub returns-in_default-clause-part : goal.returns-in_default-clause-part
returns-in_default-clause-part g c =
    let cs = c.args.self.now.checkpoints in
    let first = block_at _ _ _ _ c.requires.covers c.requires.found in
    let inv = c.loop-block.invariant in
    let size = c.args.part_bytes in
    let limit = c.args.first.byte_range.start + size in
    let none : drop c.loop-block.end.block cs ≡ [] = none_following cs c.loop-block.end.block (none_at cs c.loop-block.end.block (sym c.in_default.ensures.checkpoint)) in
    record {
      some = inv.some;
      last = inv.last;
      few_bytes = few_part _ _ _ _ _ _ inv.few_bytes inv.byte first.byte_start;
      full = rw (sym c.in_default.ensures.checkpoint) tt;
      parts = ap (number_of_parts size) first.rest ∙ first_part size c.args.first (drop (c.args.number + 1) cs) (omega (arith, first.some_bytes))
          ∙ ap (λ n. 1 + n) (inv.parts ∙ ap (λ (xs : List Checkpoint). parts_beyond size limit xs) none ∙ ap (λ (xs : List Checkpoint). number_of_parts size xs) (sym none));
    }
