-- What is known of a store that was filled, closed and published.
use Rattle.std.proofs.Common.{◌≡◌, ℕ, List, [], ◌++◌, length, refl, sym, ◌∙◌, ap, subst}
use Rattle.docstore.specs.Laws.{taken, file_of, WrittenDocumentsAreFound, IdsAreGivenInOrder}
use Rattle.docstore.specs.Writer.{Writing, num_docs, flushed, blocks_in, IsSameFile}
use Rattle.store_format.specs.Block.{Slot}
use Rattle.store_format.specs.Slots.{slots}
use Rattle.store_format.specs.StoreFile.{StoreBlock, file, IsStore}
use Rattle.store_published.specs.declared.publishing.Written.{Written}
use Rattle.store_published.specs.Filling.{IsStoreOf, AreNumbersOf}

-- a store of these slots in such blocks, and its numbers
abbrev pub HasStore : (List Slot → Type 0) → (List StoreBlock → Type 0) → ℕ → List ℕ → Written → Type 0
HasStore brought cut period content written = (store : IsStoreOf brought cut period content) × AreNumbersOf content store.blocks written

-- the store of a writer that was closed
module _ (w : Writing) (content : List ℕ) (written : Written) where
  pub closed_store : WrittenDocumentsAreFound → IdsAreGivenInOrder → written.documents ≡ num_docs w → written.blocks ≡ length (flushed w).output.finished → written.bytes ≡ length content
      → content ≡ w.output.before ++ file_of w → IsStore w.output.period (file_of w) 3 (flushed w).output.finished → w.output.before ≡ []
      → HasStore (λ all. all ≡ taken w) (λ bs. bs ≡ blocks_in w) w.output.period content written
  closed_store found ids documents count bytes is store empty =
      let blocks = (flushed w).output.finished in
      let whole : content ≡ file_of w = is ∙ ap (λ (xs : List ℕ). xs ++ file_of w) empty in
      let came : slots blocks ≡ taken w = found w w.output.period 3 blocks store store in (
        record { blocks = blocks; is_file = whole; store = subst (λ (xs : List ℕ). IsStore w.output.period xs 3 blocks) (sym whole) store; came = came; cut_is = refl },
        record { documents = documents ∙ sym (ids w) ∙ ap length (sym came); count = count; bytes = bytes },
      )

-- the same, by what was brought
pub filled_store : (brought : List Slot → Type 0) (cut : List StoreBlock → Type 0) (first w : Writing) (period : ℕ) (content : List ℕ) (written : Written) → brought (taken w) → cut (blocks_in w)
    → IsSameFile first w → first.output.before ≡ [] → first.output.period ≡ period
    → (w.output.before ≡ [] → HasStore (λ all. all ≡ taken w) (λ bs. bs ≡ blocks_in w) w.output.period content written) → HasStore brought cut period content written
filled_store brought cut first w period content written came cut_is same empty period_is closed =
    let s = closed (same.before ∙ empty) in
    let blocks = s.0.blocks in
    let p : w.output.period ≡ period = same.period ∙ period_is in (
      record {
        blocks = blocks;
        is_file = s.0.is_file ∙ ap (λ (n : ℕ). file n 3 blocks) p;
        store = subst (λ (n : ℕ). IsStore n content 3 blocks) p s.0.store;
        came = subst brought (sym s.0.came) came;
        cut_is = subst cut (sym s.0.cut_is) cut_is;
      },
      s.1,
    )
