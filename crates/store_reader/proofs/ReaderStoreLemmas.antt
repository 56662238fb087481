-- The store that a reader sees.
use Rattle.std.proofs.Common.{◌≡◌, ℕ, ◌+◌, ◌-◌, ◌≤◌, List, [], ◌∷◌, ◌++◌, length, map, take, drop, refl, sym, ap, ◌∙◌, subst, arith}
use Rattle.std.specs.Prelude.{slice_range}
use Rattle.std.specs.List.{AllByRecursion}
use Rattle.std.proofs.lemmas.List.{take_all, drop-drop}
use Rattle.std.proofs.Math.Seq.{take-add}
use Rattle.layered_index.proofs.LayerLemmas.{docs_fit}
use Rattle.store_base.proofs.ListLemmas.{length-slice}
use Rattle.layered_index.specs.declared.checkpoint.Checkpoint.{Checkpoint}
use Rattle.layered_index.specs.Checkpoint.{IsInLineFrom, docs_end, bytes_end, doc_count, IsFilled, Covers}
use Rattle.store_format.specs.StoreFile.{StoreBlock, IsStoreBlock, AreBlocks, docs_in, data_of, checkpoints_from, checkpoints_of, blocks_at}
use Rattle.store_reader.specs.Reading.{part_of}
use Rattle.store_reader.proofs.SeekLemmas.{bytes_go_on}
use Rattle.store_format.proofs.StoreLemmas.{docs_in-cons, blocks_from}

-- the blocks that checkpoints have in data, by their ranges
abbrev pub blocks_of : List ℕ → List Checkpoint → List StoreBlock
blocks_of content cs = map (λ c. record { count = doc_count c; bytes = part_of content c }) cs

-- a range is its two parts
pub slices_joined : (content : List ℕ) (from middle to : ℕ) → from ≤ middle → middle ≤ to → slice_range content from to ≡ slice_range content from middle ++ slice_range content middle to
slices_joined content from middle to below above =
    let whole : to - from ≡ (middle - from) + (to - middle) = omega arith in
    let place : from + (middle - from) ≡ middle = omega arith in
    ap (λ (k : ℕ). take k (drop from content)) whole ∙ take-add (middle - from) (to - middle) (drop from content)
    ∙ ap (λ (ys : List ℕ). take (middle - from) (drop from content) ++ take (to - middle) ys) (drop-drop (middle - from) from content ∙ ap (λ (k : ℕ). drop k content) place)

-- the parts, joined, are the data from the first to the last
parts_joined : (content : List ℕ) (doc byte : ℕ) (cs : List Checkpoint) → IsInLineFrom doc byte cs → data_of (blocks_of content cs) ≡ slice_range content byte (bytes_end byte cs)
parts_joined content doc byte [] r = let none : byte - byte ≡ 0 = omega arith in rw none refl
parts_joined content doc byte (c ∷ cs) r =
    let start = r.1 in let order = r.2.byte_order in
    let more = bytes_go_on c.doc_range.end c.byte_range.end cs r.3 in
    ap (λ (ys : List ℕ). part_of content c ++ ys) (parts_joined content c.doc_range.end c.byte_range.end cs r.3)
    ∙ sym (slices_joined content c.byte_range.start c.byte_range.end (bytes_end c.byte_range.end cs) order more)
    ∙ ap (λ (k : ℕ). slice_range content k (bytes_end c.byte_range.end cs)) start

-- the checkpoints_of are the checkpoints
checkpoints_again : (content : List ℕ) (doc byte : ℕ) (cs : List Checkpoint) → IsInLineFrom doc byte cs → bytes_end byte cs ≤ length content → checkpoints_from doc byte (blocks_of content cs) ≡ cs
checkpoints_again content doc byte [] r le = refl
checkpoints_again content doc byte (c ∷ cs) r le =
    let docs = r.2.doc_order in let bytes = r.2.byte_order in let d = r.0 in let b = r.1 in
    let more = bytes_go_on c.doc_range.end c.byte_range.end cs r.3 in
    let size : length (part_of content c) ≡ c.byte_range.end - c.byte_range.start = length-slice content c.byte_range.start c.byte_range.end (omega arith) in
    let doc_end : doc + doc_count c ≡ c.doc_range.end = omega arith in
    let byte_end : byte + length (part_of content c) ≡ c.byte_range.end = omega arith in
    rw (doc_end, byte_end, ← d, ← b) (ap (λ (ys : List Checkpoint). c ∷ ys) (checkpoints_again content c.doc_range.end c.byte_range.end cs r.3 le))

each_block : (content : List ℕ) (doc byte : ℕ) (cs : List Checkpoint) → IsInLineFrom doc byte cs → AllByRecursion IsFilled cs → bytes_end byte cs ≤ length content
    → AllByRecursion IsStoreBlock (blocks_of content cs)
each_block content doc byte [] r f le = tt
each_block content doc byte (c ∷ cs) r f le =
    let more = bytes_go_on c.doc_range.end c.byte_range.end cs r.3 in
    let size : length (part_of content c) ≡ c.byte_range.end - c.byte_range.start = length-slice content c.byte_range.start c.byte_range.end (omega arith) in
    let docs = f.0.0 in let bytes = f.0.1 in let few = r.2.byte_len in
    (record { some_docs = docs; some_bytes = omega arith; few_bytes = omega arith }, each_block content c.doc_range.end c.byte_range.end cs r.3 f.1 le)

docs_again : (content : List ℕ) (doc byte : ℕ) (cs : List Checkpoint) → IsInLineFrom doc byte cs → doc + docs_in (blocks_of content cs) ≡ docs_end doc cs
docs_again content doc byte [] r = omega arith
docs_again content doc byte (c ∷ cs) r =
    let on = docs_again content c.doc_range.end c.byte_range.end cs r.3 in
    let cons = docs_in-cons (record { count = doc_count c; bytes = part_of content c }) (blocks_of content cs) in
    let docs = r.2.doc_order in let d = r.0 in
    omega arith

pub all_of : (xs : List ℕ) (n : ℕ) → n ≡ length xs → slice_range xs 0 n ≡ xs
all_of xs n e = take_all (n - 0) xs (omega arith)

seen_checkpoints : (content : List ℕ) (cs : List Checkpoint) → Covers cs (length content) → checkpoints_of (blocks_of content cs) ≡ cs
seen_checkpoints content cs covers = let end = covers.end in checkpoints_again content 0 0 cs covers.in_line (omega arith)

seen_data : (content : List ℕ) (cs : List Checkpoint) → Covers cs (length content) → data_of (blocks_of content cs) ≡ content
seen_data content cs covers = parts_joined content 0 0 cs covers.in_line ∙ all_of content (bytes_end 0 cs) covers.end

-- cutting data by checkpoints gives the blocks by their ranges
pub store_is : (content : List ℕ) (cs : List Checkpoint) → Covers cs (length content) → blocks_at cs content ≡ blocks_of content cs
store_is content cs covers = blocks_from cs content (blocks_of content cs) (sym (seen_checkpoints content cs covers)) (sym (seen_data content cs covers))

-- what the blocks of checkpoints that cover are
pub record IsStoreOf (content : List ℕ) (cs : List Checkpoint) : Type 0 where
  pub blocks : AreBlocks (blocks_at cs content)
  pub checkpoints_are : checkpoints_of (blocks_at cs content) ≡ cs
  pub data_is : data_of (blocks_at cs content) ≡ content

pub store_seen : (content : List ℕ) (cs : List Checkpoint) → Covers cs (length content) → IsStoreOf content cs
store_seen content cs covers =
    let end = covers.end in
    let same = store_is content cs covers in
    let docs = docs_again content 0 0 cs covers.in_line in
    let fit = docs_fit 0 0 cs (omega arith) covers.in_line in
    record {
      blocks = subst AreBlocks (sym same) (record { each = each_block content 0 0 cs covers.in_line covers.filled (omega arith); few_docs = omega arith });
      checkpoints_are = ap checkpoints_of same ∙ seen_checkpoints content cs covers;
      data_is = ap data_of same ∙ seen_data content cs covers;
    }
