use Rattle.std.proofs.Common.{rules, ◌≡◌, Some, None, sym, ◌∙◌, subst}
use Rattle.std.proofs.lemmas.Result.{IfOk-weaker}
use Rattle.log_tail.specs.Tail.{first_of, IsTail}
use Rattle.segmented_log.specs.Names.{tail_name}
use Rattle.segmented_log.specs.Opening.{HasDamage}
use Rattle.segmented_log.proofs.OpeningLemmas.{some_is, none_some}
use Rattle.segmented_log.proofs.found_tail.find_tail.Goals as goal

pub returns-in-Some-clause-first : goal.returns-in-Some-clause-first
returns-in-Some-clause-first g c = λ h.
    let read = c.in-Some.bytes.items in
    let there : g.F.Folder.seen c.args.folder.now tail_name ≡ Some read = search rules in
    IfOk-weaker c.look_at.result _ _
    (λ t first bytes is. subst (λ b. IsTail b → t.first ≡ first_of b) (c.deref.ensures.value ∙ some_is read bytes (sym there ∙ is)) first)
    c.look_at.ensures.first

pub returns-in-Some-clause-whole : goal.returns-in-Some-clause-whole
returns-in-Some-clause-whole g c = λ h.
    let read = c.in-Some.bytes.items in
    let there : g.F.Folder.seen c.args.folder.now tail_name ≡ Some read = search rules in
    IfOk-weaker c.look_at.result _ _
    (λ t whole is damaged. whole is (subst HasDamage (some_is damaged.0 read (sym damaged.1 ∙ there) ∙ sym c.deref.ensures.value) damaged.2))
    c.look_at.ensures.whole

pub returns-in-Some-clause-tail : goal.returns-in-Some-clause-tail
returns-in-Some-clause-tail g c = λ h.
    let read = c.in-Some.bytes.items in
    let there : g.F.Folder.seen c.args.folder.now tail_name ≡ Some read = search rules in
    IfOk-weaker c.look_at.result _ _ (λ t tail is. (read, there, subst IsTail c.deref.ensures.value (tail is))) c.look_at.ensures.tail

pub returns-in-None-clause-first : goal.returns-in-None-clause-first
returns-in-None-clause-first g c = λ h bytes is tail.
    let none : g.F.Folder.seen c.args.folder.now tail_name ≡ None = search rules in
    absurd (none_some bytes (sym none ∙ is))
