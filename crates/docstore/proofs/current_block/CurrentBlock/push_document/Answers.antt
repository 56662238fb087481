use Rattle.std.proofs.Common.{ℕ, ◌+◌, ◌*◌, ◌^◌, ◌<◌, ◌≤◌, List, [], ◌∷◌, ◌++◌, length, ◌∙◌, ap, arith, subst}
use Rattle.std.specs.Prelude.{vec_capacity}
use Rattle.store_format.specs.Block.{block}
use Rattle.docstore.specs.Pending.{documents_at}
use Rattle.docstore.proofs.PendingLemmas.{length-block-pushed, documents_pushed, pushed, refusal_weaker}
use Rattle.docstore.proofs.current_block.CurrentBlock.push_document.Goals as goal

pub invariant_of-self : goal.invariant_of-self
invariant_of-self g c =
    let starts = c.self.inside.starts.items in
    let bytes = c.self.inside.bytes.items in
    let h = c.in-Ok.ensures.ok in
    rw (h.3, h.2) (pushed starts bytes c.self.inside.limit (vec_capacity c.self.inside.bytes) h.0 c.in-Ok.limit
    (vec_capacity c.append_document.new.bytes) c.self.invariant h.4.within h.4.small h.4.room)

pub returns-in-Ok-clause-ok : goal.returns-in-Ok-clause-ok
returns-in-Ok-clause-ok g c =
    let starts = c.self.inside.starts.items in
    let bytes = c.self.inside.bytes.items in
    let h = c.in-Ok.ensures.ok in
    let size = length-block-pushed starts bytes c.self.inside.limit (vec_capacity c.self.inside.bytes) h.0 c.self.invariant in (
      h.0,
      h.1,
      subst (λ (docs : List (List ℕ)). length (block (docs ++ h.0 ∷ [])) < 2 ^ 32) c.self.view_is (omega (arith, size, h.4.within, h.4.small)),
      (λ i. documents_at (h.3 i) (h.2 i)) ∙ documents_pushed starts bytes c.self.inside.limit (vec_capacity c.self.inside.bytes) h.0 c.self.invariant
          ∙ ap (λ (docs : List (List ℕ)). docs ++ h.0 ∷ []) c.self.view_is,
    )

pub returns-in-Err-clause-cause : goal.returns-in-Err-clause-cause
returns-in-Err-clause-cause g c =
    let starts = c.self.inside.starts.items in
    let bytes = c.self.inside.bytes.items in
    let o = g.D.Document.doc_bytes c.args.document.now c.args.schema.now in
    let before : List ℕ → Type 0 = λ d. 2 ^ 32 ≤ length bytes + length d + 4 * (length starts + 2) in
    let after : List ℕ → Type 0 = λ d. 2 ^ 32 ≤ length (block (c.args.self.now ++ d ∷ [])) in
    refusal_weaker o before after c.in-Err.refusal (λ d le.
    subst (λ (docs : List (List ℕ)). 2 ^ 32 ≤ length (block (docs ++ d ∷ []))) c.self.view_is
    (omega (arith, length-block-pushed starts bytes c.self.inside.limit (vec_capacity c.self.inside.bytes) d c.self.invariant, le)))
    c.in-Err.ensures.cause
