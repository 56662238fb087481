use Rattle.std.proofs.Common.{◌≡◌, ℕ, ◌+◌, length, List, Some, refl, sym, ◌∙◌, ap, arith}
use Rattle.std.proofs.lemmas.Result.{err_from_is_err_and}
use Rattle.layered_index.specs.declared.checkpoint.Checkpoint.{Checkpoint}
use Rattle.layered_index.specs.Checkpoint.{first_past, Covers}
use Rattle.store_reader.proofs.SeekLemmas.{IsWithin, within, none_past}
use Rattle.store_reader.proofs.reader.StoreReader.read_block.Goals as goal

place : (cs : List Checkpoint) (len id : ℕ) (c : Checkpoint) → Covers cs len → Some c ≡ first_past cs id → IsWithin 0 0 cs id c
place cs len id c covers found = within 0 0 cs id c (omega arith) covers.in_line (sym found)

pub returns-in_default-clause-none : goal.returns-in_default-clause-none
returns-in_default-clause-none g c =
    let past = none_past 0 0 c.args.self.now.checkpoints c.args.doc_id c.in_default.ensures.covers.in_line (sym c.in_default.ensures.checkpoint) (omega arith) in
    (λ _. past, λ _. refl)

pub returns-in_default-clause-once : goal.returns-in_default-clause-once
returns-in_default-clause-once g c below =
    let past = none_past 0 0 c.args.self.now.checkpoints c.args.doc_id c.in_default.ensures.covers.in_line (sym c.in_default.ensures.checkpoint) (omega arith) in
    absurd (omega arith)

pub read_data-requires-clause-order : goal.read_data-requires-clause-order
read_data-requires-clause-order g c = (place _ _ _ _ c.in-Some.ensures.covers c.in-Some.ensures.checkpoint).order

pub read_data-requires-clause-within : goal.read_data-requires-clause-within
read_data-requires-clause-within g c =
    let end = (place _ _ _ _ c.in-Some.ensures.covers c.in-Some.ensures.checkpoint).end in
    omega (arith, c.in-Some.ensures.covers.end)

pub returns-in_err-bytes-clause-none : goal.returns-in_err-bytes-clause-none
returns-in_err-bytes-clause-none g c =
    let here = place _ _ _ _ c.in-Some.ensures.covers c.in-Some.ensures.checkpoint in
    let given = err_from_is_err_and c.from_residual.result c.from_residual.ensures.1 in
    rw given.1 (λ is. absurd is, λ past. absurd (omega (arith, here.to, here.last)))

pub returns-in_err-bytes-clause-no_read : goal.returns-in_err-bytes-clause-no_read
returns-in_err-bytes-clause-no_read g c past =
    let here = place _ _ _ _ c.in-Some.ensures.covers c.in-Some.ensures.checkpoint in
    absurd (omega (arith, here.to, here.last))

pub returns-clause-place : goal.returns-clause-place
returns-clause-place g c =
    let block = c.in-Some.block in
    let order = (place _ _ _ _ c.in-Some.ensures.covers c.in-Some.ensures.checkpoint).order in
    let end : block.byte_range.start + length c.in_ok-bytes.bytes ≡ block.byte_range.end = omega (arith, order, c.in_ok-bytes.ensures.length) in
    ap (λ (byte : ℕ). Some (record { doc_range = block.doc_range; byte_range = record { start = block.byte_range.start; end = byte } })) end ∙ c.in-Some.ensures.checkpoint

pub returns-clause-has : goal.returns-clause-has
returns-clause-has g c =
    let here = place _ _ _ _ c.in-Some.ensures.covers c.in-Some.ensures.checkpoint in
    (here.from, here.to)

pub returns-clause-within : goal.returns-clause-within
returns-clause-within g c = (place _ _ _ _ c.in-Some.ensures.covers c.in-Some.ensures.checkpoint).last

pub returns-clause-none : goal.returns-clause-none
returns-clause-none g c =
    let here = place _ _ _ _ c.in-Some.ensures.covers c.in-Some.ensures.checkpoint in
    (λ is. absurd cc, λ past. absurd (omega (arith, here.to, here.last)))

pub returns-clause-no_read : goal.returns-clause-no_read
returns-clause-no_read g c past =
    let here = place _ _ _ _ c.in-Some.ensures.covers c.in-Some.ensures.checkpoint in
    absurd (omega (arith, here.to, here.last))

pub returns-in_err-bytes-clause-once : goal.returns-in_err-bytes-clause-once
returns-in_err-bytes-clause-once g c below = record { block = c.in-Some.block; seeks = sym c.in-Some.ensures.checkpoint; once = c.in_err-bytes.ensures.once }

pub returns-clause-once : goal.returns-clause-once
returns-clause-once g c below = record { block = c.in-Some.block; seeks = sym c.in-Some.ensures.checkpoint; once = c.in_ok-bytes.ensures.once }
