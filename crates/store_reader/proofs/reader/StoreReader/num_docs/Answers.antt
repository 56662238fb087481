use Rattle.std.proofs.Common.{◌≡◌, List, length, ap, ◌∙◌, sym, arith}
use Rattle.std.proofs.lemmas.Option.{none-some}
use Rattle.layered_index.specs.Checkpoint.{docs_end}
use Rattle.store_format.specs.Slots.{slots}
use Rattle.store_format.specs.StoreFile.{StoreBlock}
use Rattle.store_reader.proofs.CoveringLemmas.{covers_again, some_pair}
use Rattle.store_reader.proofs.ReaderStoreLemmas.{store_is}
use Rattle.store_reader.proofs.StoreSlotLemmas.{length-slots_of}
use Rattle.store_reader.proofs.reader.StoreReader.num_docs.Goals as goal
use Rattle.store_reader.proofs.reader.StoreReader.num_docs.Goals.{In-Some}

pub unreachable-requires : goal.unreachable-requires
unreachable-requires g c = none-some _ (sym c.in_default.is ∙ c.covered_to.ensures ∙ covers_again c.self.inside.index.checkpoints _ c.self.invariant.covers)

-- the checkpoints have as many documents
count : (g : _) (c : In-Some g) → c.in-Some.num_docs ≡ docs_end 0 c.self.inside.index.checkpoints
count g c = (some_pair c.in-Some.num_docs c.in-Some._end _ _ (c.in-Some.ensures ∙ covers_again c.self.inside.index.checkpoints _ c.self.invariant.covers)).0

pub returns-clause-count : goal.returns-clause-count
returns-clause-count g c = rw (← c.self.view_is) (count g c)

pub returns-clause-slots : goal.returns-clause-slots
returns-clause-slots g c =
    let content = c.self.inside.file.content in
    let cs = c.self.inside.index.checkpoints in
    let number = length-slots_of content 0 0 cs c.self.invariant.covers.in_line in
    let same = ap (λ (bs : List StoreBlock). length (slots bs)) (store_is content cs c.self.invariant.covers) in
    rw (← c.self.view_is) (omega (arith, count g c))
