use Rattle.std.proofs.Common.{◌≡◌, ◌<◌, refl, sym, ap, subst, arith}
use Rattle.store_reader.specs.declared.slice_documents.SliceDocuments.{SliceDocuments}
use Rattle.store_reader.specs.Opening.{IsSomeStore}
use Rattle.store_reader.specs.StoreSlices.{BlocksLeft, IsAmid}
use Rattle.store_reader.proofs.AmidLemmas.{amid_ends, amid_here, amid_in}
use Rattle.store_reader.proofs.slice_documents.SliceDocumentsIterator.next.Goals as goal
use Rattle.store_reader.proofs.slice_documents.SliceDocumentsIterator.next.Goals.{then-doc_id-self+in_ok-block+in-Ok, else-doc_id-self}

pub returns-in_err-block-clause-steps : goal.returns-in_err-block-clause-steps
returns-in_err-block-clause-steps c =
    let d = c.args.self.now in
    let step = c.in_err-block.ensures.steps in
    rw c.from_residual.ensures (
      ap (λ (left : BlocksLeft). left.bytes) step.0.1,
      λ z amid. (
        amid_ends d.blocks.bytes z d.next d.block.first d.block.end d.block.bytes.now d.blocks amid c.if-doc_id-self.true (step.1 d.blocks.bytes z amid.are_left).0,
        subst (λ (left : BlocksLeft). IsAmid d.blocks.bytes z d.next d.block.first d.block.end d.block.bytes.now left) (sym step.0.1) amid,
      ),
    )

pub returns-in-Err-clause-steps : goal.returns-in-Err-clause-steps
returns-in-Err-clause-steps c =
    let d = c.args.self.now in
    let step = rw c.in-Err.is at c.in_ok-block.ensures.steps in
    (ap (λ (left : BlocksLeft). left.bytes) step.0.3, λ z amid. absurd (step.1 d.blocks.bytes z amid.are_left).0)

-- the next document is in the block
abbrev IsIn : (d e : SliceDocuments) → Type 0
IsIn d e = (e.blocks.bytes ≡ d.blocks.bytes) × ((z : IsSomeStore d.blocks.bytes) → IsAmid d.blocks.bytes z d.next d.block.first d.block.end d.block.bytes.now d.blocks
    → IsAmid d.blocks.bytes z d.next e.block.first e.block.end e.block.bytes.now e.blocks) × (d.next < e.block.end)

pub returns-clause-steps : goal.returns-clause-steps
returns-clause-steps c =
    let d = c.args.self.now in
    let e = c.if-doc_id-self.self in
    let known : IsIn d e = elim c.if-doc_id-self.branch [
      | then-doc_id-self+in_ok-block+in-Ok w ↦
          let step = rw w.in-Ok.is at w.in_ok-block.ensures.steps in
          let part = step.0.0 in
          let here : w.in-Ok.block.first ≡ d.next = omega (arith, part.first_is, c.requires, w.if-doc_id-self.true) in
          subst (IsIn d) (sym w.self-is) (
            ap (λ (left : BlocksLeft). left.bytes) step.0.3,
            λ z amid.
                let gives = step.1 d.blocks.bytes z amid.are_left in
                amid_in d.blocks.bytes z d.next w.in-Ok.block w.next.new.self gives.1 (ap (λ (left : BlocksLeft). left.next) step.0.3) (omega (arith, here)) (omega (arith, here, part.some)) gives.0,
            omega (arith, here, part.some),
          )
      | else-doc_id-self w ↦ subst (IsIn d) (sym w.self-is) (refl, (λ z amid. amid), w.if-doc_id-self.false)
    ] in (
      known.0,
      λ z amid. amid_here d.blocks.bytes z d.next e.block.first e.block.end e.block.bytes.now e.blocks c.document_at.result (known.1 z amid) known.2 c.document_at.ensures,
    )
