-- Blocks that are copied a part at a time, and the file that they come to.
use Rattle.std.proofs.Common.{◌≡◌, inl, inr, ℕ, ◌+◌, ◌≤◌, IsTrue, List, [], ◌++◌, length, replicate, refl, sym, ◌∙◌, ap, subst, arith, append_assoc, length-append}
use Rattle.std.specs.Prelude.{slice_range}
use Rattle.std.proofs.lemmas.List.{append-nil, take_all}
use Rattle.layered_index.specs.declared.checkpoint.Checkpoint.{Checkpoint}
use Rattle.layered_index.specs.Checkpoint.{Covers, bytes_end}
use Rattle.layered_index.specs.Layers.{Index, index_part}
use Rattle.store_format.specs.Footer.{footer}
use Rattle.store_format.specs.StoreFile.{StoreBlock, data_of, checkpoints_of, blocks_at, file, IsStore}
use Rattle.store_reader.specs.Reading.{Reading}
use Rattle.store_reader.specs.Parts.{byte_at, IsPartFrom}
use Rattle.store_reader.specs.declared.reader.parts.StorePart.{StorePart}
use Rattle.store_reader.proofs.ReaderStoreLemmas.{slices_joined, all_of, store_seen}
use Rattle.docstore.specs.Stacking.{AreRead}
use Rattle.docstore.specs.StackingInParts.{IsReadTimes, IsReadUpTo}
use Rattle.docstore.proofs.ReadInPartsLemmas.{IsPartTaken, same_checkpoints}
use Rattle.store_base.specs.Outputs.{Output}
use Rattle.tantivy_export.specs.Exporting.{IsCopied}

-- one more part is after those before it
pub part_copied : (size n times bytes : ℕ) (reader read : Reading) (part : StorePart) (text old mid new : List ℕ) → IsReadTimes times bytes reader read → IsPartFrom size read n part
    → IsCopied reader n old mid → text ≡ part.bytes → new ≡ mid ++ text → IsCopied reader part.blocks.end old new
part_copied size n times bytes reader read part text old mid new kept p before text_is after =
    let cs = reader.checkpoints in
    let m = part.blocks.end in
    let same = same_checkpoints times bytes reader read kept in
    let len : byte_at n cs + length part.bytes ≡ byte_at m cs = subst (λ (xs : List Checkpoint). byte_at n xs + length part.bytes ≡ byte_at m xs) same p.len in
    let here : IsTrue reader.file.honest → part.bytes ≡ slice_range reader.file.content (byte_at n cs) (byte_at m cs) =
    λ is. p.bytes (subst IsTrue (sym kept.honest) is) ∙ (λ i. slice_range (kept.content i) (byte_at n (same i)) (byte_at m (same i))) in
    record {
      bytes = before.bytes ++ part.bytes;
      len = omega (arith, length-append before.bytes part.bytes, before.len, len);
      honest = λ is. (λ i. before.honest is i ++ here is i) ∙ sym (slices_joined reader.file.content 0 (byte_at n cs) (byte_at m cs) (omega arith) (omega (arith, len)));
      after = after ∙ (λ i. before.after i ++ text_is i) ∙ append_assoc old before.bytes part.bytes;
    }

-- what is known once the blocks before a place were read and copied
pub record HasCopied (size n : ℕ) (store now : Reading) (old new : Output) : Type 0 where
  pub put : IsCopied store n old.content new.content
  pub read : IsReadUpTo size n store now
  pub within : n ≤ length store.checkpoints
  pub reader : now.file.failures ≡ store.file.failures
  pub termination : new.termination ≡ old.termination
  pub steady : new.failures ≡ old.failures

pub copied_more : (size n : ℕ) (store now left : Reading) (part : StorePart) (text : List ℕ) (old mid new : Output) → HasCopied size n store now old mid → IsPartTaken size n store now left part
    → text ≡ part.bytes → new.content ≡ mid.content ++ text → left.file.failures ≡ now.file.failures → new.termination ≡ mid.termination → new.failures ≡ mid.failures
    → HasCopied size part.blocks.end store left old new
copied_more size n store now left part text old mid new has taken text_is after still termination steady = record {
  put = part_copied size n has.read.times (byte_at n store.checkpoints) store now part text old.content mid.content new.content has.read.read taken.came has.put text_is after;
  read = taken.up;
  within = taken.within;
  reader = still ∙ has.reader;
  termination = termination ∙ has.termination;
  steady = steady ∙ has.steady;
}

-- the data, the index and the footer are the file of the blocks that came
pub record IsExported (reader : Reading) (old new : List ℕ) : Type 0 where
  pub blocks : List StoreBlock
  pub came : AreRead reader blocks
  pub store : IsStore 8 (file 8 2 blocks) 2 blocks
  pub content : new ≡ old ++ file 8 2 blocks

pub exported : (reader : Reading) (old mid new : List ℕ) (offset : ℕ) (index : Index) → index ≡ record { period = 8; checkpoints = reader.checkpoints }
    → Covers reader.checkpoints (length reader.file.content) → IsCopied reader (length reader.checkpoints) old mid → offset ≡ length reader.file.content
    → new ≡ mid ++ index_part index.period index.checkpoints ++ footer 2 offset 0 (replicate 15 0) → IsExported reader old new
exported reader old mid new offset index index_is covers p offset_is new_is =
    let cs = reader.checkpoints in
    let end : byte_at (length cs) cs ≡ length reader.file.content = ap (bytes_end 0) (take_all (length cs) cs (omega arith)) ∙ covers.end in
    let size : length p.bytes ≡ length reader.file.content = p.len ∙ end in
    let seen = store_seen p.bytes cs (subst (Covers cs) (sym size) covers) in
    let bs = blocks_at cs p.bytes in
    let at : offset ≡ length (data_of bs) = offset_is ∙ sym size ∙ ap length (sym seen.data_is) in
    let last = footer 2 (length (data_of bs)) 0 (replicate 15 0) in
    record {
      blocks = bs;
      came = record {
        places = seen.checkpoints_are;
        honest = λ is. ap (blocks_at cs) (p.honest is ∙ all_of reader.file.content (byte_at (length cs) cs) end);
      };
      store = record { blocks = seen.blocks; reserved = replicate 15 0; form = inl (inr refl, refl, refl); parts = refl };
      content = new_is
          ∙ ap (λ (x : Index). mid ++ index_part x.period x.checkpoints ++ footer 2 offset 0 (replicate 15 0)) index_is
          ∙ (λ i. p.after i ++ index_part 8 cs ++ footer 2 offset 0 (replicate 15 0))
          ∙ (λ i. (old ++ sym seen.data_is i) ++ index_part 8 (sym seen.checkpoints_are i) ++ footer 2 (at i) 0 (replicate 15 0))
          ∙ ap (λ (x : List ℕ). x ++ last) (append_assoc old (data_of bs) (index_part 8 (checkpoints_of bs)))
          ∙ append_assoc old (data_of bs ++ index_part 8 (checkpoints_of bs)) last;
    }

-- how many bytes of data a reader tells of, after its data was read
pub offset_is : (times bytes index : ℕ) (reader read : Reading) (usage : ℕ × ℕ) (offset : ℕ) → offset ≡ usage.0 → usage ≡ (length read.file.content, index) → IsReadTimes times bytes reader read
    → offset ≡ length reader.file.content
offset_is times bytes index reader read usage offset is told kept = is ∙ ap (λ (u : ℕ × ℕ). u.0) told ∙ ap length kept.content
