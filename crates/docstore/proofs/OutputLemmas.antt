-- The output of a writer of blocks.
use Rattle.std.proofs.Common.{◌≡◌, ℕ, suc, ◌+◌, ◌-◌, ◌^◌, ◌<◌, ◌≤◌, List, [], ◌∷◌, ◌++◌, length, take, drop, Option, Some, None, refl, sym, ◌∙◌, ap, subst, arith, append_assoc, length-append}
use Rattle.std.proofs.lemmas.List.{take_all, append-nil, drop-append-le, take-append-le, take-append-drop, length-drop}
use Rattle.std.proofs.Math.ListN.{drop_of_length-le}
use Rattle.std.specs.List.{AllByRecursion}
use Rattle.store_base.specs.Outputs.{Termination}
use Rattle.layered_index.specs.declared.checkpoint.Checkpoint.{Checkpoint}
use Rattle.store_base.specs.declared.error.Cause.{Cause}
use Rattle.layered_index.specs.Checkpoint.{byte_len, IsInLineFrom, IsInLine}
use Rattle.store_format.specs.StoreFile.{StoreBlock, IsStoreBlock, docs_in, AreBlocks, blocks_at, data_of, checkpoints_from, checkpoints_of, file, reserved_of}
use Rattle.store_format.specs.declared.kinds.Compressor.{Compressor}
use Rattle.store_format.specs.declared.kinds.Compressor.TheVariants as packed
use Rattle.store_format.specs.Footer.{footer, kind_of, unpacks}
use Rattle.layered_index.specs.Layers.{index_part}
use Rattle.docstore.specs.BlockOutput.{BlockOutput, new_output, with_blocks, with_risen, IsSound, data_in, front_of, blocks_in, AreWritten, IsCompressing, compressing}
use Rattle.store_format.proofs.StoreLemmas.{docs_in-cons, docs_in-append, data_of-append, data_fits, AreBlocks-append, checkpoints_from-append, checkpoints_in_line_from, checkpoints_in_line}
use Rattle.store_format.proofs.StoreLemmas.{docs_in-blocks_at}
use Rattle.store_format.proofs.StoreLemmas.{blocks_from, blocks_none}

-- what is known once these blocks are written after the others
pub record AreAdded (period next_id : ℕ) (cs : List Checkpoint) (content : List ℕ) (written : ℕ) (bs : List StoreBlock) (bytes : List ℕ) (count : ℕ) : Type 0 where
  pub ids : next_id + count < 2 ^ 32
  pub fits : written + length bytes < 2 ^ 64
  pub in_line : IsInLine (cs ++ checkpoints_from next_id written bs)
  pub runs : IsInLineFrom 0 0 (cs ++ checkpoints_from next_id written bs)
  pub compressing : IsCompressing period (next_id + count) (cs ++ checkpoints_from next_id written bs) (content ++ bytes) (written + length bytes) None
  pub finished : blocks_in (cs ++ checkpoints_from next_id written bs) (content ++ bytes) (written + length bytes) ≡ blocks_in cs content written ++ bs
  pub before : front_of (content ++ bytes) (written + length bytes) ≡ front_of content written

length-data_in : (content : List ℕ) (written : ℕ) → written ≤ length content → length (data_in content written) ≡ written
length-data_in content written le = omega (arith, length-drop (length content - written) content)

pub are_added : (period next_id : ℕ) (cs : List Checkpoint) (content : List ℕ) (written : ℕ) (bs : List StoreBlock) → IsCompressing period next_id cs content written None
    → AllByRecursion IsStoreBlock bs → next_id + docs_in bs < 2 ^ 32 → AreAdded period next_id cs content written bs (data_of bs) (docs_in bs)
are_added period next_id cs content written bs h each few =
    let is : AreWritten cs content written = h.works refl in
    let old = blocks_in cs content written in
    let new = old ++ bs in
    let docs : next_id ≡ docs_in old = h.ids ∙ sym (docs_in-blocks_at cs (data_in content written)) in
    let len : written ≡ length (data_of old) = sym (length-data_in content written is.held) ∙ ap length is.joined in
    let blocks : AreBlocks new = AreBlocks-append old bs is.blocks each (omega arith) in
    let marked : cs ++ checkpoints_from next_id written bs ≡ checkpoints_of new =
    (λ i. is.places i ++ checkpoints_from (docs i) (len i) bs) ∙ sym (checkpoints_from-append 0 0 old bs
    ∙ ap (λ (n : ℕ). checkpoints_of old ++ checkpoints_from n (0 + length (data_of old)) bs) (omega arith)
    ∙ ap (λ (n : ℕ). checkpoints_of old ++ checkpoints_from (docs_in old) n bs) (omega arith)) in
    let size : length (data_of new) ≡ written + length (data_of bs) = ap length (data_of-append old bs) ∙ length-append (data_of old) (data_of bs)
    ∙ ap (λ (n : ℕ). n + length (data_of bs)) (sym len) in
    let cut : length (content ++ data_of bs) - (written + length (data_of bs)) ≡ length content - written = omega (arith, length-append content (data_of bs)) in
    let shorter : length content - written ≤ length content = omega arith in
    let data_is : data_in (content ++ data_of bs) (written + length (data_of bs)) ≡ data_of new =
    ap (λ (n : ℕ). drop n (content ++ data_of bs)) cut ∙ drop-append-le (length content - written) content (data_of bs) shorter ∙ ap (λ (x : List ℕ). x ++ data_of bs) is.joined
    ∙ sym (data_of-append old bs) in
    let same : blocks_in (cs ++ checkpoints_from next_id written bs) (content ++ data_of bs) (written + length (data_of bs)) ≡ new =
    blocks_from (cs ++ checkpoints_from next_id written bs) (data_in (content ++ data_of bs) (written + length (data_of bs))) new marked data_is in
    record {
      ids = few;
      fits = omega (arith, size, data_fits new blocks);
      in_line = subst IsInLine (sym marked) (checkpoints_in_line new blocks);
      runs = subst (IsInLineFrom 0 0) (sym marked) (checkpoints_in_line_from 0 0 new blocks.each (omega (arith, blocks.few_docs)) (omega (arith, data_fits new blocks)));
      compressing = record {
        least = h.least;
        most = h.most;
        ids = ap (λ (n : ℕ). n + docs_in bs) docs ∙ sym (docs_in-append old bs) ∙ ap docs_in (sym same)
            ∙ docs_in-blocks_at (cs ++ checkpoints_from next_id written bs) (data_in (content ++ data_of bs) (written + length (data_of bs)));
        few_ids = few;
        works = λ _. record {
          held = omega (arith, length-append content (data_of bs), is.held);
          places = marked ∙ ap checkpoints_of (sym same);
          joined = data_is ∙ ap data_of (sym same);
          blocks = subst AreBlocks (sym same) blocks;
        };
      };
      finished = same;
      before = ap (λ (n : ℕ). take n (content ++ data_of bs)) cut ∙ take-append-le (length content - written) content (data_of bs) shorter;
    }

-- the same of one block
pub is_added : (period next_id : ℕ) (cs : List Checkpoint) (content : List ℕ) (written : ℕ) (b : StoreBlock) → IsCompressing period next_id cs content written None → IsStoreBlock b
    → next_id + b.count < 2 ^ 32 → AreAdded period next_id cs content written (b ∷ []) b.bytes b.count
is_added period next_id cs content written b h one few =
    let count : docs_in (b ∷ []) ≡ b.count = omega (arith, docs_in-cons b []) in
    let all = are_added period next_id cs content written (b ∷ []) h (one, tt) (omega arith) in
    let P : ℕ → Type 0 = λ n. AreAdded period next_id cs content written (b ∷ []) b.bytes n in
    subst P count (subst (λ (x : List ℕ). AreAdded period next_id cs content written (b ∷ []) x (docs_in (b ∷ []))) (append-nil b.bytes) all)

-- ---- what clauses see

-- there is a block for each checkpoint
pub length-blocks_at : (cs : List Checkpoint) (bytes : List ℕ) → length (blocks_at cs bytes) ≡ length cs
unfolding blocks_at
length-blocks_at [] bytes = refl
length-blocks_at (c ∷ cs) bytes = ap suc (length-blocks_at cs (drop (byte_len c) bytes))

pub docs_seen : (period next_id : ℕ) (cs : List Checkpoint) (content : List ℕ) (written : ℕ) (failure : Option Cause) → IsCompressing period next_id cs content written failure
    → docs_in (blocks_in cs content written) ≡ next_id
docs_seen period next_id cs content written failure h = docs_in-blocks_at cs (data_in content written) ∙ sym h.ids

pub sound : (compressor : Compressor) (period next_id : ℕ) (cs : List Checkpoint) (content : List ℕ) (written : ℕ) (termination : Termination) (failures : ℕ) (failure : Option Cause)
    → IsCompressing period next_id cs content written failure → IsSound (compressing compressor period cs content written termination failures failure)
sound compressor period next_id cs content written termination failures failure h = record {
  least = h.least;
  most = h.most;
  ids = omega (arith, docs_seen period next_id cs content written failure h, h.few_ids);
  works = λ none. let is = h.works none in record {
    written = sym (take-append-drop (length content - written) content) ∙ ap (λ (x : List ℕ). front_of content written ++ x) is.joined;
    blocks = is.blocks;
  };
}

-- a writer that fails keeps its checkpoints
pub failed : (period next_id : ℕ) (cs : List Checkpoint) (content new_content : List ℕ) (written new_written : ℕ) (failure : Option Cause) (cause : Cause)
    → IsCompressing period next_id cs content written failure → IsCompressing period next_id cs new_content new_written (Some cause)
failed period next_id cs content new_content written new_written failure cause h = record {
  least = h.least;
  most = h.most;
  ids = h.ids;
  few_ids = h.few_ids;
  works = λ none. absurd cc;
}

pub begins : (period : ℕ) (content : List ℕ) (failure : Option Cause) → 2 ≤ period → period ≤ 64 → IsCompressing period 0 [] content 0 failure
begins period content failure least most =
    let whole : data_in content 0 ≡ [] = drop_of_length-le content (omega arith) in
    record {
      least = least;
      most = most;
      ids = refl;
      few_ids = omega arith;
      works = λ _. record {
        held = omega arith;
        places = ap checkpoints_of (sym (blocks_none (data_in content 0)));
        joined = whole ∙ ap data_of (sym (blocks_none (data_in content 0)));
        blocks = subst AreBlocks (sym (blocks_none (data_in content 0))) (record { each = tt; few_docs = omega arith });
      };
    }

-- ---- a block that is written

-- a writer that has written nothing
pub first_seen : (compressor : Compressor) (period : ℕ) (content : List ℕ) (termination : Termination) (failures : ℕ)
    → compressing compressor period [] content 0 termination failures None ≡ new_output compressor period content termination failures
first_seen compressor period content termination failures =
    let all : front_of content 0 ≡ content = take_all (length content - 0) content (omega arith) in
    λ i. record {
      compressor = compressor;
      period = period;
      finished = blocks_none (data_in content 0) i;
      failure = None;
      before = all i;
      content = content;
      termination = termination;
      failures =
          failures;
    }

pub block_added : (compressor : Compressor) (period next_id : ℕ) (cs : List Checkpoint) (content : List ℕ) (written : ℕ) (termination : Termination) (failures : ℕ) (failure : Option Cause)
    (now : BlockOutput) (count : ℕ) (bytes : List ℕ) → compressing compressor period cs content written termination failures failure ≡ now → IsCompressing period next_id cs content written failure
    → now.failure ≡ None → 0 < length bytes → length bytes < 2 ^ 32 → 0 < count → docs_in now.finished + count < 2 ^ 32
    → AreAdded period next_id cs content written (record { count = count; bytes = bytes } ∷ []) bytes count
block_added compressor period next_id cs content written termination failures failure now count bytes view_is h works some few some_docs few_docs =
    let none : failure ≡ None = ap (λ (out : BlockOutput). out.failure) view_is ∙ works in
    let inv : IsCompressing period next_id cs content written None = subst (IsCompressing period next_id cs content written) none h in
    let docs : docs_in now.finished ≡ next_id = sym (ap (λ (out : BlockOutput). docs_in out.finished) view_is) ∙ docs_seen period next_id cs content written failure h in
    is_added period next_id cs content written (record { count = count; bytes = bytes }) inv (record { some_docs = some_docs; some_bytes = some; few_bytes = few }) (omega (arith, docs, few_docs))

-- what is seen once blocks are added
pub seen_added : (compressor : Compressor) (period next_id : ℕ) (cs : List Checkpoint) (content : List ℕ) (written : ℕ) (termination : Termination) (failures new_failures : ℕ) (failure : Option Cause)
    (now : BlockOutput) (bs : List StoreBlock) (bytes : List ℕ) (count : ℕ) → compressing compressor period cs content written termination failures failure ≡ now
    → AreAdded period next_id cs content written bs bytes count → bytes ≡ data_of bs → compressing compressor period (cs ++ checkpoints_from next_id written bs) (content ++ bytes)
    (written + length bytes) termination new_failures failure ≡ with_risen new_failures (with_blocks now bs)
seen_added compressor period next_id cs content written termination failures new_failures failure now bs bytes count view_is a bytes_is =
    let step : compressing compressor period (cs ++ checkpoints_from next_id written bs) (content ++ bytes) (written + length bytes) termination new_failures failure
    ≡ with_risen new_failures (with_blocks (compressing compressor period cs content written termination failures failure) bs) =
    λ i. record {
      compressor = compressor;
      period = period;
      finished = a.finished i;
      failure = failure;
      before = a.before i;
      content = content ++ bytes_is i;
      termination = termination;
      failures =
          new_failures;
    } in
    step ∙ ap (λ (out : BlockOutput). with_risen new_failures (with_blocks out bs)) view_is

-- ---- the end of a file

kind_none : (compressor : Compressor) → kind_of (unpacks compressor) ≡ 0
kind_none packed.None = refl

pub closed_file : (compressor : Compressor) (period next_id : ℕ) (cs : List Checkpoint) (content : List ℕ) (written : ℕ) → IsCompressing period next_id cs content written None
    → (content ++ index_part period cs) ++ footer 3 written (kind_of (unpacks compressor)) (reserved_of period 3) ≡ front_of content written ++ file period 3 (blocks_in cs content written)
closed_file compressor period next_id cs content written h =
    let is = h.works refl in
    let bs = blocks_in cs content written in
    let front = front_of content written in
    let len : written ≡ length (data_of bs) = sym (length-data_in content written is.held) ∙ ap length is.joined in
    let content_is : content ≡ front ++ data_of bs = sym (take-append-drop (length content - written) content) ∙ ap (λ (x : List ℕ). front ++ x) is.joined in
    let end = footer 3 (length (data_of bs)) 0 (reserved_of period 3) in
    (λ i. (content_is i ++ index_part period (is.places i)) ++ footer 3 (len i) (kind_none compressor i) (reserved_of period 3))
    ∙ ap (λ (x : List ℕ). x ++ end) (append_assoc front (data_of bs) (index_part period (checkpoints_of bs)))
    ∙ append_assoc front (data_of bs ++ index_part period (checkpoints_of bs)) end
