-- The end of the file of a writer's memory.
use Rattle.std.proofs.Common.{◌≡◌, ℕ, ◌≤◌, List, ◌++◌, length, take, map, sym, ap, ◌∙◌, subst, append_assoc}
use Rattle.std.proofs.lemmas.List.{append-nil, take-map}
use Rattle.std.specs.List.{concat}
use Rattle.layered_index.specs.declared.checkpoint.Checkpoint.{Checkpoint}
use Rattle.layered_index.specs.Checkpoint.{bytes_end, IsInLineFrom}
use Rattle.layered_index.specs.Layers.{index_part}
use Rattle.store_format.specs.Footer.{footer}
use Rattle.store_format.specs.StoreFile.{IsStore, data_of, checkpoints_of, file, reserved_of}
use Rattle.store_format.proofs.ApartLemmas.{files_are_stores}
use Rattle.store_format.proofs.StoreLemmas.{checkpoints_cover}
use Rattle.docstore.specs.Writer.{Writing}
use Rattle.layered_index.specs.declared.row.Row.{Row}
use Rattle.layered_index.specs.declared.row.RowEnd.{RowEnd}
use Rattle.store_c.specs.declared.writer.Writer.{Writer}
use Rattle.store_c.specs.declared.writer_refusal.WriterRefusal.{WriterRefusal}
use Rattle.store_c.specs.declared.writer_refusal.WriterRefusal.TheVariants.{NoMemory, OldVersion, BlockTooLarge, TooManyDocs, BadPeriod, NoRoom, OpenBlock, OtherWriter}
use Rattle.layered_index.specs.Rows.{end_of, ends_in, ends_of}
use Rattle.store_c.specs.Writing.{memory, Holds, IsOther, IsEndOf, EndsFile, RefusesIndex, writer_number}
use Rattle.store_c.proofs.EndLemmas.{same_blocks}
use Rattle.store_c.proofs.MemoryLemmas.{none_pending}

-- the rows of a table that count
pub counted_rows : (writer : Writer) (table ends : List Row) → ends ≡ take writer.blocks table → ends_in ends ≡ take writer.blocks (ends_in table)
counted_rows writer table ends is = ap ends_in is ∙ sym (take-map end_of writer.blocks table)

-- the ends of a writer's blocks
rows_are : (writer : Writer) (table ends : List Row) (starts text : List ℕ) (w : Writing) → ends ≡ take writer.blocks table → Holds (memory writer starts table) text w
    → ends_in ends ≡ map ends_of (checkpoints_of w.output.finished)
rows_are writer table ends starts text w is h =
    counted_rows writer table ends is ∙ ap (λ (n : ℕ). take n (ends_in table)) h.blocks ∙ h.rows

-- where no blocks end so, no writer has them
pub other_index : (writer : Writer) (table ends : List Row) → ends ≡ take writer.blocks table → RefusesIndex (ends_in ends) OtherWriter → IsOther writer table
other_index writer table ends is refused starts text w h =
    refused (checkpoints_of w.output.finished) (checkpoints_cover w.output.finished (h.sound.output.works h.works).blocks).in_line (rows_are writer table ends starts text w is h)

-- the index and the footer are those of the blocks that end so
one_end : (period : ℕ) (ends : List RowEnd) (end : List ℕ) (made : IsEndOf period ends end) (cs : List Checkpoint) → IsInLineFrom 0 0 cs → ends ≡ map ends_of cs
    → end ≡ index_part period cs ++ footer 3 (bytes_end 0 cs) 0 (reserved_of period 3)
one_end period ends end made cs line is =
    let same : made.checkpoints ≡ cs = same_blocks 0 0 made.checkpoints cs made.in_line line (sym made.ends_are ∙ is) in
    made.is ∙ ap (λ (ds : List Checkpoint). index_part period ds ++ footer 3 (bytes_end 0 ds) 0 (reserved_of period 3)) same

-- so they are one text
pub same_end : (period : ℕ) (ends : List RowEnd) (a b : List ℕ) → IsEndOf period ends a → IsEndOf period ends b → a ≡ b
same_end period ends a b made other = one_end period ends a made other.checkpoints other.in_line other.ends_are ∙ sym other.is

-- no blocks end so, if memory did not run out
pub no_blocks : (ends : List RowEnd) (r : WriterRefusal) (result : ℕ) → result ≡ writer_number r → RefusesIndex ends r → (result ≡ 10 → ⊥) → RefusesIndex ends OtherWriter
no_blocks ends OtherWriter result is why kept = why
no_blocks ends NoMemory result is why kept = absurd (kept is)
no_blocks ends OldVersion result is why kept = absurd why
no_blocks ends BlockTooLarge result is why kept = absurd why
no_blocks ends TooManyDocs result is why kept = absurd why
no_blocks ends BadPeriod result is why kept = absurd why
no_blocks ends NoRoom result is why kept = absurd why
no_blocks ends OpenBlock result is why kept = absurd why

-- blocks that have an end of a file are not refused
pub not_refused : (period : ℕ) (ends rows : List RowEnd) (end : List ℕ) → ends ≡ rows → IsEndOf period rows end → RefusesIndex ends OtherWriter → ⊥
not_refused period ends rows end is made refused = refused made.checkpoints made.in_line (is ∙ made.ends_are)

pub closed : (writer : Writer) (table ends : List Row) (period : ℕ) (end : List ℕ) → writer.docs ≡ 0 → ends ≡ take writer.blocks table → 2 ≤ period → period ≤ 64 → IsEndOf period (ends_in ends) end
    → EndsFile period end writer table
closed writer table ends period end none is least most made starts text w h =
    let bs = w.output.finished in
    let blocks = (h.sound.output.works h.works).blocks in
    let covers = checkpoints_cover bs blocks in
    let pending = none_pending w.pending (sym h.docs ∙ none) in
    let front_bytes = data_of bs in
    let index = index_part period (checkpoints_of bs) in
    let front : text ≡ front_bytes = h.written ∙ ap (λ (docs : List (List ℕ)). front_bytes ++ concat docs) pending ∙ append-nil front_bytes in
    let following : end ≡ index ++ footer 3 (length front_bytes) 0 (reserved_of period 3) =
    one_end period (ends_in ends) end made (checkpoints_of bs) covers.in_line (rows_are writer table ends starts text w is h)
    ∙ ap (λ (n : ℕ). index ++ footer 3 n 0 (reserved_of period 3)) covers.end in
    let all : text ++ end ≡ file period 3 bs = (λ i. front i ++ following i) ∙ sym (append_assoc front_bytes index (footer 3 (length front_bytes) 0 (reserved_of period 3))) in
    record {
      pending = pending;
      file = all;
      store = subst (λ (bytes : List ℕ). IsStore period bytes 3 bs) (sym all) (files_are_stores period bs least most blocks);
    }
