use Rattle.std.proofs.Common.{◌≡◌, ◌-◌, length, sym, ◌∙◌, subst, arith}
use Rattle.std.specs.Prelude.{IsTrue}
use Rattle.store_format.specs.Block.{u32_at}
use Rattle.store_reader.specs.TwoReads.{IsEndFrom, entries_len}
use Rattle.store_reader.specs.Reading.{part_of}
use Rattle.store_reader.proofs.TwoReadsLemmas.{IsBegun, IsEndRead, read_at_end, other_count, end_from, by_block, begun_by_one, damaged_by_entries, by_entries}
use Rattle.store_reader.proofs.two_reads.read_apart.Goals as goal
use Rattle.store_reader.proofs.two_reads.read_apart.Goals.{In_ok-entries}

-- the entries came by one read
begun : (g : _) (c : In_ok-entries g) → IsBegun (entries_len c.args.checkpoint.now c.args.doc_id) c.args.file.now c.read_entries.new.file
begun g c =
    let end = c.args.checkpoint.now.byte_range.end in
    begun_by_one (entries_len c.args.checkpoint.now c.args.doc_id) (end - entries_len c.args.checkpoint.now c.args.doc_id) end c.in_ok-entries.entries c.args.file.now c.read_entries.new.file
    (omega arith) c.in_ok-entries.ensures

-- they are the end of the block, where reads give what is there
read : (g : _) (c : In_ok-entries g) → IsTrue c.args.file.now.honest
    → IsEndRead c.args.file.now.content c.args.checkpoint.now c.args.doc_id c.in-Some.table c.in_ok-entries.entries
read g c honest = record {
  from = c.requires.from;
  to = c.requires.to;
  order = c.requires.order;
  within = c.requires.within;
  table_is = omega (arith, c.in-Some.ensures);
  read = c.in_ok-entries.ensures.bytes honest;
}

pub returns-then-u32_at-count : goal.returns-then-u32_at-count
returns-then-u32_at-count g c =
    let b = c.read_in_block-then-u32_at-count.ensures in
    let number : c.u32_at.result ≡ u32_at c.in_ok-entries.entries (length c.in_ok-entries.entries - 4) = read_at_end _ _ _ _ c.as_slice.ensures c.len.ensures c.u32_at.ensures in
    by_block c.args.checkpoint.now c.args.doc_id c.args.file.now c.read_entries.new.file c.read_in_block-then-u32_at-count.new.file b.0 c.read_in_block-then-u32_at-count.result
    (begun g (goal.at.returns-then-u32_at-count g c).In_ok-entries)
    (λ honest. other_count _ _ _ _ _ (read g (goal.at.returns-then-u32_at-count g c).In_ok-entries honest) (λ same. c.if-u32_at-count.true (number ∙ same))) b.1 b.2

pub returns-in_default-place_by_entry : goal.returns-in_default-place_by_entry
returns-in_default-place_by_entry g c =
    let number : c.u32_at.result ≡ u32_at c.in_ok-entries.entries (length c.in_ok-entries.entries - 4) = read_at_end _ _ _ _ c.as_slice.ensures c.len.ensures c.u32_at.ensures in
    damaged_by_entries c.args.checkpoint.now c.args.doc_id c.args.file.now c.read_entries.new.file (begun g (goal.at.returns-in_default-place_by_entry g c).In_ok-entries)
    (λ honest. c.in_default-place_by_entry.ensures.slot (part_of c.args.file.now.content c.args.checkpoint.now) (c.args.doc_id - c.args.checkpoint.now.doc_range.start)
    (subst (IsEndFrom (part_of c.args.file.now.content c.args.checkpoint.now) c.in-Some.table (c.args.doc_id - c.args.checkpoint.now.doc_range.start)) (sym c.as_slice-2.ensures)
    (end_from _ _ _ _ _ (read g (goal.at.returns-in_default-place_by_entry g c).In_ok-entries honest) (sym number ∙ c.if-u32_at-count.false))))

pub returns : goal.returns
returns g c =
    let place = c.in-Some-place_by_entry.place in
    let number : c.u32_at.result ≡ u32_at c.in_ok-entries.entries (length c.in_ok-entries.entries - 4) = read_at_end _ _ _ _ c.as_slice.ensures c.len.ensures c.u32_at.ensures in
    by_entries c.args.checkpoint.now c.args.doc_id c.args.file.now c.read_entries.new.file c.read_place.new.file place.start place.end c.read_place.result (begun g (goal.at.returns g c).In_ok-entries)
    c.requires.order c.requires.within c.in-Some-place_by_entry.ensures.order (let h = c.in-Some-place_by_entry.ensures.within in let t = c.in-Some.ensures in omega arith)
    (λ honest. c.in-Some-place_by_entry.ensures.slot (part_of c.args.file.now.content c.args.checkpoint.now) (c.args.doc_id - c.args.checkpoint.now.doc_range.start)
    (subst (IsEndFrom (part_of c.args.file.now.content c.args.checkpoint.now) c.in-Some.table (c.args.doc_id - c.args.checkpoint.now.doc_range.start)) (sym c.as_slice-2.ensures)
    (end_from _ _ _ _ _ (read g (goal.at.returns g c).In_ok-entries honest) (sym number ∙ c.if-u32_at-count.false))))
    c.read_place.ensures
