use Rattle.std.proofs.Common.{◌≡◌, ◌∙◌, ℕ, List, ◌∷◌, subst}
use Rattle.std.specs.Prelude.{Option, IfSome, Vec}
use Rattle.std.specs.declared.alloc.Global.{Global}
use Rattle.store_files.specs.Mark.{word, texts, fields}
use Rattle.store_files.proofs.ByteLemmas.{after_head, whole_mark}
use Rattle.store_files.proofs.mark.mark_of_kind.Goals as goal

pub returns-in-Some-2 : goal.returns-in-Some-2
returns-in-Some-2 c =
    let found = subst (λ (f : Option (Vec (Vec ℕ Global) Global)). IfSome f (λ names.
    (more : List ℕ) × (c.in-Some.rest.now ≡ fields (texts names.items) (0 ∷ more))))
    c.in-Some-2.is c.in_ok-names.ensures in
    let cases = c.in-Some.ensures.cases in
    whole_mark c.args.bytes.now c.as_slice.result.now c.in-Some.rest.now (word c.args.kind) c.args.boot.now c.args.inode.now c.in-Some-2.names.items
    (c.as_slice.ensures.value ∙ c.in_ok-head.ensures) (after_head c.args.bytes.now c.as_slice.result.now c.in-Some.rest.now cases.0 cases.1) found
