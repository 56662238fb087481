use Rattle.std.proofs.Common.{◌≡◌, ℕ, List, [], ◌∷◌, ◌++◌, length, ◌∙◌, ap, arith}
use Rattle.std.specs.Prelude.{vec_capacity}
use Rattle.std.proofs.lemmas.Grind.{common_steps}
use Rattle.docstore.specs.Pending.{documents_at}
use Rattle.docstore.proofs.PendingLemmas.{length-block-seen, documents_pushed, pushed}
use Rattle.docstore.proofs.current_block.CurrentBlock.push.Goals as goal

pub returns-in_err-self-inside-clause-too_large : goal.returns-in_err-self-inside-clause-too_large
returns-in_err-self-inside-clause-too_large c =
    let len = length-block-seen c.args.self.now _ _ _ _ c.args.document.now c.self.view_is c.self.invariant in
    grind (arith, common_steps, len)

pub returns-in_err-push-clause-too_large : goal.returns-in_err-push-clause-too_large
returns-in_err-push-clause-too_large c =
    let len = length-block-seen c.args.self.now _ _ _ _ c.args.document.now c.self.view_is c.self.invariant in
    grind (arith, common_steps, len)

pub invariant_of-self-2 : goal.invariant_of-self-2
invariant_of-self-2 c =
    let starts = c.self.inside.starts.items in
    let bytes = c.self.inside.bytes.items in
    let d = c.args.document.now in
    let h = c.in_ok-self-inside.ensures.room.ok in
    let starts_is : c.push.new.self.items ≡ starts ++ length bytes ∷ [] = grind (arith, common_steps) in
    let bytes_is : c.extend_from_slice.new.self.items ≡ bytes ++ d = grind (arith, common_steps) in
    rw (starts_is, bytes_is) (pushed starts bytes c.self.inside.limit (vec_capacity c.self.inside.bytes) d c.in_ok-self-inside.field-0 (vec_capacity c.extend_from_slice.new.self) c.self.invariant
    (omega (arith, h.within)) h.small (omega (arith, h.room, c.extend_from_slice.ensures.capacity)))

pub returns-clause-ok : goal.returns-clause-ok
returns-clause-ok c =
    let starts = c.self.inside.starts.items in
    let bytes = c.self.inside.bytes.items in
    let d = c.args.document.now in
    let starts_is : c.push.new.self.items ≡ starts ++ length bytes ∷ [] = grind (arith, common_steps) in
    let bytes_is : c.extend_from_slice.new.self.items ≡ bytes ++ d = grind (arith, common_steps) in
    (λ i. documents_at (starts_is i) (bytes_is i)) ∙ documents_pushed starts bytes c.self.inside.limit (vec_capacity c.self.inside.bytes) d c.self.invariant
    ∙ ap (λ (docs : List (List ℕ)). docs ++ d ∷ []) c.self.view_is

pub returns-clause-too_large : goal.returns-clause-too_large
returns-clause-too_large c =
    let len = length-block-seen c.args.self.now _ _ _ _ c.args.document.now c.self.view_is c.self.invariant in
    grind (arith, common_steps, len)
