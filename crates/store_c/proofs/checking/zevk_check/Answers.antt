use Rattle.std.proofs.Common.{◌≡◌, ◌∙◌, refl, subst, sym, arith}
use Rattle.std.proofs.Common.{rules}
use Rattle.store_base.specs.declared.error.StoreError.TheVariants.{BadIndex}
use Rattle.store_c.specs.Checking.{IsIndexFault}
use Rattle.store_c.proofs.CheckingLemmas.{none_damaged, not_sound, same_fault}
use Rattle.store_c.proofs.FirstRefusalLemmas.{five_is, other_number, refused_first}
use Rattle.store_c.proofs.checking.zevk_check.Goals.{then-eq, else-eq}
use Rattle.store_c.proofs.checking.zevk_check.Goals as goal

pub returns-in-Err-clause-index : goal.returns-in-Err-clause-index
returns-in-Err-clause-index c five = elim c.if-eq.branch [
  | then-eq w ↦ subst (IsIndexFault c.args.file.now) (sym w.fault-is) (record {
    start = w.index_fault.result.start;
    fault = w.index_fault.result.index;
    breaks = w.index_fault.ensures;
    place = w.fault_at.ensures.place;
    no_document = w.fault_at.ensures.no_document;
  })
  | else-eq w ↦ absurd (let bad : c.in-Err.error ≡ BadIndex = five_is c.args.file.now c.in-Err.error c.in-Err.ensures.found (sym c.number.ensures ∙ five) in search rules)
]

pub returns-in-Err-clause-damaged : goal.returns-in-Err-clause-damaged
returns-in-Err-clause-damaged c seven =
    absurd (other_number c.args.file.now c.in-Err.error 7 c.in-Err.ensures.found (omega arith) (omega arith) (λ e. omega (arith, e)) (sym c.number.ensures ∙ seven))

pub returns-in-Err-clause-first : goal.returns-in-Err-clause-first
returns-in-Err-clause-first c number refused = c.number.ensures ∙ refused_first c.args.file.now number c.in-Err.error refused c.in-Err.ensures.found c.in-Err.ensures.causes

pub returns-in_default-clause-done : goal.returns-in_default-clause-done
returns-in_default-clause-done c =
    let s = c.in-Ok.ensures.checked.store in
    let none = (rw c.in-Ok.ensures.store at c.in_default.ensures) s in
    (λ _. record { store = s; whole = none }, λ _. refl)

pub returns-in_default-clause-found : goal.returns-in_default-clause-found
returns-in_default-clause-found c at first =
    let s = c.in-Ok.ensures.checked.store in
    let none = (rw c.in-Ok.ensures.store at c.in_default.ensures) s in
    absurd (none_damaged c.args.file.now s none at first)

pub returns-clause-done : goal.returns-clause-done
returns-clause-done c =
    let s = c.in-Ok.ensures.checked.store in
    let id = c.in-Some.doc_id in
    let is = (rw c.in-Ok.ensures.store at c.in-Some.ensures) s in
    (λ zero. absurd (omega (arith, zero, c.number-2.ensures)), λ sound. absurd (not_sound c.args.file.now s id is.0 sound))

pub returns-clause-damaged : goal.returns-clause-damaged
returns-clause-damaged c seven =
    let s = c.in-Ok.ensures.checked.store in
    let id = c.in-Some.doc_id in
    let is = (rw c.in-Ok.ensures.store at c.in-Some.ensures) s in
    record { store = s; is = is.0; before = is.1; no_byte = refl; no_layer = refl }

pub returns-clause-found : goal.returns-clause-found
returns-clause-found c at first =
    let s = c.in-Ok.ensures.checked.store in
    let id = c.in-Some.doc_id in
    let is = (rw c.in-Ok.ensures.store at c.in-Some.ensures) s in
    (c.number-2.ensures, same_fault c.args.file.now s id is.0 is.1 at first)
