use Rattle.std.proofs.Common.{◌≡◌, ◌≢◌, ◌+◌, ◌<◌, ◌≤◌, ◌^◌, map, take, length}
use Rattle.store_format.specs.declared.version.DocStoreVersion.TheVariants.{V1}
use Rattle.segmented_log.specs.Parts.{part_of, sealed_of, end_of}
use Rattle.segmented_log.specs.Compacting.{slots_in, bytes_in, AreNext}
use Rattle.segmented_log.proofs.StepLemmas.{end_after}
use Rattle.segmented_log.proofs.compacting.count_next.Given as goal

-- the segments so far follow the one before them, and the run ends where they end
abbrev pub invariant-loop-i : goal.invariant-loop-i
invariant-loop-i g l = let first = part_of l.segment.first l.segment.reader in
    let parts = map (λ s. part_of s.first s.reader) (take l.i l.others) in
    record {
      next : AreNext (end_of first) parts;
      end : l.run.end ≡ end_after (end_of first) parts;
      begun : l.i ≡ 0 → l.run.end ≡ end_of first;
      bytes : l.run.bytes ≡ length l.segment.reader.file.content + bytes_in (map (λ s. sealed_of s.first s.reader) (take l.i l.others));
      small : 0 < l.i → l.run.bytes ≤ l.size;
      newer : l.segment.reader.version ≢ V1;
      records : l.run.records ≡ length first.slots + length (slots_in parts);
      few : 0 < l.i → l.run.records < 2 ^ 32;
    }
