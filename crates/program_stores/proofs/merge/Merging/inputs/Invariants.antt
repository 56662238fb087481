-- The files of the paths so far, each with the store that is there.
use Rattle.std.proofs.Common.{◌≡◌, ℕ, List, map, take}
use Rattle.std.specs.Prelude.{IsTrue}
use Rattle.std.specs.List.{AllByRecursion}
use Rattle.program_base.specs.StoresOnDisk.{HasStore}
use Rattle.store_files.specs.Disk.{replay, seen}
use Rattle.store_files.specs.Paths.{IsPath}
use Rattle.program_stores.proofs.merge.Merging.inputs.Given as goal

abbrev pub invariant-loop-path : goal.invariant-loop-path
invariant-loop-path g l = record {
  paths : map (λ input. input.path.now) l.inputs.items ≡ map (λ path. path.now) (take l.path-index l.path-items);
  honest : IsTrue g.S.SystemFiles.honest → AllByRecursion (λ input. IsTrue input.file.honest) l.inputs.items;
  stores : IsTrue g.S.SystemFiles.honest → AllByRecursion (λ input. (d n : List ℕ) → IsPath d n input.path.now
      → HasStore l.self.is_tantivy (seen (replay (g.S.SystemFiles.changes l.system d) (g.S.SystemFiles.start d)) n) input.file.content) l.inputs.items;
}
