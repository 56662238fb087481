use Rattle.std.proofs.Common.{◌≡◌, ℕ, ◌<◌, List, take, Option, Some, refl, sym, ◌∙◌, arith}
use Rattle.std.specs.Prelude.{slice_get}
use Rattle.layered_index.specs.declared.checkpoint.Checkpoint.{Checkpoint}
use Rattle.layered_index.specs.Checkpoint.{Covers, docs_end, first_past}
use Rattle.store_reader.proofs.SeekLemmas.{IsWithin, within, some_below, first_sought}
use Rattle.store_reader.proofs.LookUpLemmas.{stays_honest, reader_after}
use Rattle.store_reader.proofs.reader.StoreReader.enter.Goals as goal

-- the block with a number is found by a seek of its first document
seeks : (cs : List Checkpoint) (bytes n : ℕ) (got : Option Checkpoint) (block : Checkpoint) → Covers cs bytes → docs_end 0 (take n cs) < docs_end 0 cs → got ≡ slice_get cs n → got ≡ Some block
    → first_past cs (docs_end 0 (take n cs)) ≡ Some block
seeks cs bytes n got block covers lt at some = first_sought cs bytes n covers lt ∙ sym at ∙ some

pub unwrap-checkpoint-requires : goal.unwrap-checkpoint-requires
unwrap-checkpoint-requires g c =
    let cs = c.self.inside.index.checkpoints in
    let covers = c.self.invariant.covers in
    let below : docs_end 0 (take c.args.number cs) < docs_end 0 cs = rw (← c.self.view_is) at c.requires in
    rw (c.get.ensures ∙ sym (first_sought cs _ c.args.number covers below)) (some_below 0 0 cs (docs_end 0 (take c.args.number cs)) covers.in_line (omega arith) below)

-- where the first document of the block lies
place : (g : _) (c : goal.After-checkpoint-1 g) → IsWithin 0 0 c.self.inside.index.checkpoints (docs_end 0 (take c.args.number c.self.inside.index.checkpoints)) c.unwrap-checkpoint.result
place g c =
    let cs = c.self.inside.index.checkpoints in
    let covers = c.self.invariant.covers in
    let below : docs_end 0 (take c.args.number cs) < docs_end 0 cs = rw (← c.self.view_is) at c.requires in
    within 0 0 cs _ c.unwrap-checkpoint.result (omega arith) covers.in_line (seeks cs _ _ _ _ covers below c.get.ensures c.unwrap-checkpoint.ensures)

pub look_up-block-requires-clause-order : goal.look_up-block-requires-clause-order
look_up-block-requires-clause-order g c = (place g c).order

pub look_up-block-requires-clause-within : goal.look_up-block-requires-clause-within
look_up-block-requires-clause-within g c = let end = (place g c).end in omega (arith, c.self.invariant.covers.end)

pub invariant_of-self : goal.invariant_of-self
invariant_of-self g c =
    let cs = c.self.inside.index.checkpoints in
    let below : docs_end 0 (take c.args.number cs) < docs_end 0 cs = rw (← c.self.view_is) at c.requires in
    let found = seeks cs _ _ _ _ c.self.invariant.covers below c.get.ensures c.unwrap-checkpoint.ensures in
    reader_after c.self.inside.file c.look_up-block.new.file cs c.self.inside.index.period (docs_end 0 (take c.args.number cs)) c.unwrap-checkpoint.result c.self.inside.cache
    c.look_up-block.new.cache c.look_up-block.ensures.0 c.self.invariant found c.look_up-block.ensures.1

pub returns-clause-entered : goal.returns-clause-entered
returns-clause-entered g c =
    let cs = c.self.inside.index.checkpoints in
    let below : docs_end 0 (take c.args.number cs) < docs_end 0 cs = rw (← c.self.view_is) at c.requires in
    let found = seeks cs _ _ _ _ c.self.invariant.covers below c.get.ensures c.unwrap-checkpoint.ensures in
    rw (← c.self.view_is) (record {
      checkpoint = c.unwrap-checkpoint.result;
      looked = record {
        came = c.look_up-block.ensures.0;
        looked = record {
          seeks = found;
          looks_up = c.look_up-block.ensures.1;
          stays = refl;
          honest = (stays_honest c.self.inside.file c.look_up-block.new.file cs c.self.inside.index.period (docs_end 0 (take c.args.number cs)) c.unwrap-checkpoint.result c.self.inside.cache
              c.look_up-block.new.cache c.look_up-block.ensures.0 c.self.invariant found c.look_up-block.ensures.1).given;
        };
        taken = c.look_up-block.ensures.2;
      };
      first = refl;
      end = refl;
    })
