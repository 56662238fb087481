use Rattle.std.proofs.Common.{rules, ◌≡◌, ⊎_elim, map, Some, false, sym, ◌∙◌, subst}
use Rattle.std.specs.Prelude.{All, IsTrue, IsErrOf}
use Rattle.log_tail.specs.Heads.{is_damaged}
use Rattle.segmented_log.specs.Parts.{part_of}
use Rattle.segmented_log.specs.Names.{tail_name}
use Rattle.segmented_log.specs.Opening.{IsTailOf}
use Rattle.segmented_log.specs.Dropping.{HasOnly}
use Rattle.segmented_log.specs.declared.error.LogError.TheVariants.{Changed, DamagedTail, Full, NoLog}
use Rattle.segmented_log.proofs.CauseLemmas.{never}
use Rattle.segmented_log.proofs.LoadLemmas.{is_log}
use Rattle.segmented_log.proofs.NoLogLemmas.{not_in_line, full_tail}
use Rattle.segmented_log.proofs.OpeningLemmas.{some_is}
use Rattle.segmented_log.proofs.reader.read_parts.Goals.{After-assemble}
use Rattle.segmented_log.proofs.reader.read_parts.Goals as goal

damaged_changed : DamagedTail ≡ Changed → ⊥
damaged_changed is = cc is

full_changed : Full ≡ Changed → ⊥
full_changed is = cc is

pub returns-in_err-names-clause-damaged_err : goal.returns-in_err-names-clause-damaged_err
returns-in_err-names-clause-damaged_err g c = λ h is.
    let refused : IsErrOf c.read_at_once.result DamagedTail = search rules in
    absurd (never _ DamagedTail (⊎_elim damaged_changed (λ no. no)) c.read_at_once.result c.read_at_once.ensures.kind refused)

pub returns-in_err-names-clause-full : goal.returns-in_err-names-clause-full
returns-in_err-names-clause-full g c = λ h is.
    let refused : IsErrOf c.read_at_once.result Full = search rules in
    absurd (never _ Full (⊎_elim full_changed (λ no. no)) c.read_at_once.result c.read_at_once.ensures.kind refused)

pub returns-in_err-segments-clause-no_log : goal.returns-in_err-segments-clause-no_log
returns-in_err-segments-clause-no_log g c = λ h is first all log.
    let refused : IsErrOf c.open_all.result NoLog = search rules in
    (c.open_all.ensures.no_log h refused).not_log first all log

pub returns-then-len-clause-damaged_err : goal.returns-then-len-clause-damaged_err
returns-then-len-clause-damaged_err g c = λ h is.
    let damaged : IsTrue c.in_ok-tail.field-0.is_damaged = search rules in
    (c.in_ok-names.bytes.items, c.in_ok-names.ensures.tail h, c.in_ok-tail.ensures.damaged damaged)

-- the tail has the records of the file
same_tail : (g : _) (c : After-assemble g) → IsTrue g.F.Folder.honest → IsTailOf (g.F.Folder.seen c.args.folder.now tail_name) c.in_ok-tail.field-0.tail.bytes.items
same_tail g c h =
    subst (λ o. IsTailOf o c.in_ok-tail.field-0.tail.bytes.items) (sym (c.in_ok-names.ensures.tail h)) c.in_ok-tail.ensures.same

pub returns-in_err-parts-clause-no_log : goal.returns-in_err-parts-clause-no_log
returns-in_err-parts-clause-no_log g c = λ h is first all log.
    let here = (goal.at.returns-in_err-parts-clause-no_log g c).After-assemble in
    let parts = map (λ x. part_of x.first x.reader) c.in_ok-segments.segments.items in
    let refused : IsErrOf c.assemble.result NoLog = search rules in
    (not_in_line (g.F.Folder.seen c.args.folder.now) parts c.in_ok-segments.ensures.are (c.in_ok-segments.ensures.only h) c.stores_are_apart.ensures c.in_ok-tail.field-0.tail.bytes.items
    c.in_ok-tail.ensures.tail.is_tail
    (same_tail g here h) (c.assemble.ensures.no_log refused)).not_log first all log

pub returns-in_err-parts-clause-full : goal.returns-in_err-parts-clause-full
returns-in_err-parts-clause-full g c = λ h is.
    let refused : IsErrOf c.assemble.result Full = search rules in
    full_tail (g.F.Folder.seen c.args.folder.now) c.in_ok-tail.field-0.tail.bytes.items (same_tail g (goal.at.returns-in_err-parts-clause-full g c).After-assemble h) (c.assemble.ensures.full refused)

pub returns-clause-honest : goal.returns-clause-honest
returns-clause-honest g c = λ h.
    subst (λ v. All (λ x. IsTrue x.reader.file.honest) v.items) (sym c.in_ok-parts.ensures.segments) (c.in_ok-segments.ensures.honest h)

pub returns-clause-log : goal.returns-clause-log
returns-clause-log g c = λ h.
    let seen = g.F.Folder.seen c.args.folder.now in
    let p = c.in_ok-parts.parts in
    let bytes = c.in_ok-names.bytes.items in
    let only = subst (λ v. HasOnly (map (λ x. part_of x.first x.reader) v.items) seen) (sym c.in_ok-parts.ensures.segments) (c.in_ok-segments.ensures.only h) in
    is_log seen (map (λ x. part_of x.first x.reader) p.segments.items) only p.first bytes p.tail.bytes.items (c.in_ok-names.ensures.tail h)
    (subst (λ t. IsTailOf (Some bytes) t.bytes.items) (sym c.in_ok-parts.ensures.tail) c.in_ok-tail.ensures.same) c.in_ok-parts.ensures.parts

pub returns-clause-damaged : goal.returns-clause-damaged
returns-clause-damaged g c = λ h is.
    let damaged : IsTrue c.in_ok-tail.field-0.is_damaged = search rules in
    (c.in_ok-names.bytes.items, c.in_ok-names.ensures.tail h, c.in_ok-tail.ensures.damaged damaged)

pub returns-clause-sound : goal.returns-clause-sound
returns-clause-sound g c = λ h is tail at.
    let whole : c.in_ok-tail.field-0.is_damaged ≡ false = search rules in
    subst (λ b. is_damaged b ≡ false) (some_is c.in_ok-names.bytes.items tail (sym (c.in_ok-names.ensures.tail h) ∙ at)) (c.in_ok-tail.ensures.sound c.found_cut.ensures whole)
