-- The bytes of a list in line tell the list.
use Rattle.std.proofs.Common.{◌≡◌, ℕ, ◌<◌, List, [], ◌∷◌, ◌++◌, length, refl, sym, ◌∙◌, subst, arith, append_assoc, length-append}
use Rattle.std.specs.List.{flat_map}
use Rattle.store_base.specs.VInt.{number}
use Rattle.store_base.specs.VIntLemmas.{numbers_are_apart, number_some}
use Rattle.layered_index.specs.declared.checkpoint.Checkpoint.{Checkpoint}
use Rattle.layered_index.specs.Checkpoint.{doc_count, byte_len, IsWithinLimits, IsInLineFrom, IsInLine, step, starts, checkpoint_block}
use Rattle.layered_index.specs.Laws.{CheckpointBlocksAreApart}
use Rattle.layered_index.proofs.ListLemmas.{regroup_3}

-- a checkpoint is its four numbers
pub same_checkpoint : (c d : Checkpoint) → c.doc_range.start ≡ d.doc_range.start → c.doc_range.end ≡ d.doc_range.end → c.byte_range.start ≡ d.byte_range.start → c.byte_range.end ≡ d.byte_range.end
    → c ≡ d
same_checkpoint c d e f g h = λ i. record { doc_range = record { start = e i; end = f i }; byte_range = record { start = g i; end = h i } }

-- the step of a checkpoint tells it, where it is known to begin
step_apart : (c d : Checkpoint) (r s : List ℕ) → IsWithinLimits c → IsWithinLimits d → c.doc_range.start ≡ d.doc_range.start → c.byte_range.start ≡ d.byte_range.start → step c ++ r ≡ step d ++ s
    → (c ≡ d) × (r ≡ s)
step_apart c d r s p q doc byte e =
    let regrouped : number (doc_count c) ++ (number (byte_len c) ++ r) ≡ number (doc_count d) ++ (number (byte_len d) ++ s) =
    sym (append_assoc (number (doc_count c)) (number (byte_len c)) r) ∙ e ∙ append_assoc (number (doc_count d)) (number (byte_len d)) s in
    let docs = numbers_are_apart (doc_count c) (doc_count d) (number (byte_len c) ++ r) (number (byte_len d) ++ s) regrouped in
    let bytes = numbers_are_apart (byte_len c) (byte_len d) r s docs.1 in
    (same_checkpoint c d doc (omega (arith, docs.0, p.doc_order, q.doc_order)) byte (omega (arith, bytes.0, p.byte_order, q.byte_order)), bytes.1)

-- the steps of a list tell it, where it is known to begin and how long it is
pub steps_apart : (doc byte : ℕ) (cs ds : List Checkpoint) (r s : List ℕ) → IsInLineFrom doc byte cs → IsInLineFrom doc byte ds → length cs ≡ length ds → flat_map step cs ++ r ≡ flat_map step ds ++ s
    → (cs ≡ ds) × (r ≡ s)
steps_apart doc byte [] [] r s p q n e = (refl, e)
steps_apart doc byte [] (d ∷ ds) r s p q n e = absurd (omega arith)
steps_apart doc byte (c ∷ cs) [] r s p q n e = absurd (omega arith)
steps_apart doc byte (c ∷ cs) (d ∷ ds) r s p q n e =
    let regrouped : step c ++ (flat_map step cs ++ r) ≡ step d ++ (flat_map step ds ++ s) =
    sym (append_assoc (step c) (flat_map step cs) r) ∙ e ∙ append_assoc (step d) (flat_map step ds) s in
    let here = step_apart c d (flat_map step cs ++ r) (flat_map step ds ++ s) p.2 q.2 (p.0 ∙ sym q.0) (p.1 ∙ sym q.1) regrouped in
    let following : IsInLineFrom c.doc_range.end c.byte_range.end ds = subst (λ (x : Checkpoint). IsInLineFrom x.doc_range.end x.byte_range.end ds) (sym here.0) q.3 in
    let others = steps_apart c.doc_range.end c.byte_range.end cs ds r s p.3 following (omega arith) here.1 in
    (λ i. here.0 i ∷ others.0 i, others.1)

-- the block of checkpoints, with what follows it
pub block_then : (cs : List Checkpoint) (r : List ℕ) → checkpoint_block cs ++ r ≡ number (length cs) ++ (starts cs ++ (flat_map step cs ++ r))
unfolding checkpoint_block
block_then cs r = regroup_3 (number (length cs)) (starts cs) (flat_map step cs) r

-- where two lists begin, and their steps
starts_apart : (cs ds : List Checkpoint) (r s : List ℕ) → IsInLine cs → IsInLine ds → length cs ≡ length ds → starts cs ++ (flat_map step cs ++ r) ≡ starts ds ++ (flat_map step ds ++ s)
    → (cs ≡ ds) × (r ≡ s)
starts_apart [] [] r s p q n e = (refl, e)
starts_apart [] (d ∷ ds) r s p q n e = absurd (omega arith)
starts_apart (c ∷ cs) [] r s p q n e = absurd (omega arith)
starts_apart (c ∷ cs) (d ∷ ds) r s p q n e =
    let regrouped = sym (append_assoc (number c.doc_range.start) (number c.byte_range.start) (flat_map step (c ∷ cs) ++ r)) ∙ e
    ∙ append_assoc (number d.doc_range.start) (number d.byte_range.start) (flat_map step (d ∷ ds) ++ s) in
    let docs = numbers_are_apart c.doc_range.start d.doc_range.start _ _ regrouped in
    let bytes = numbers_are_apart c.byte_range.start d.byte_range.start _ _ docs.1 in
    let following : IsInLineFrom c.doc_range.start c.byte_range.start (d ∷ ds) = (sym docs.0, sym bytes.0, q.2, q.3) in
    steps_apart c.doc_range.start c.byte_range.start (c ∷ cs) (d ∷ ds) r s p following n bytes.1

pub checkpoint_blocks_are_apart : CheckpointBlocksAreApart
checkpoint_blocks_are_apart cs ds r s p q e =
    let counts = numbers_are_apart (length cs) (length ds) _ _ (sym (block_then cs r) ∙ e ∙ block_then ds s) in
    starts_apart cs ds r s p q counts.0 counts.1

-- a block has a byte
pub block_some : (cs : List Checkpoint) → 0 < length (checkpoint_block cs)
unfolding checkpoint_block
block_some cs = omega (arith, length-append (number (length cs) ++ starts cs) (flat_map step cs), length-append (number (length cs)) (starts cs), number_some (length cs))
