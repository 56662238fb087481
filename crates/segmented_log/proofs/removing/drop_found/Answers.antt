use Rattle.std.proofs.Common.{◌≡◌, map, sym, ◌∙◌, ap, subst}
use Rattle.std.specs.Prelude.{IsTrue}
use Rattle.store_folder.specs.Folder.{Look}
use Rattle.log_tail.specs.Tail.{first_of}
use Rattle.segmented_log.specs.Parts.{part_of, first_in}
use Rattle.segmented_log.specs.Dropping.{BeginsAt, TailBeginsAt, HasOnly}
use Rattle.segmented_log.proofs.OpeningLemmas.{some_is}
use Rattle.segmented_log.proofs.RemoveLemmas.{only_outcomes, begins_at}
use Rattle.segmented_log.proofs.removing.drop_found.Goals.{After-known_first-tail_first}
use Rattle.segmented_log.proofs.removing.drop_found.Goals as goal

first_is : (g : _) (c : After-known_first-tail_first g) → c.first_number-first.result ≡ first_in (map (λ s. part_of s.first s.reader) c.in_ok-segments.segments.items) c.args.tail.first
first_is g c = c.first_number-first.ensures ∙ ap (λ l. first_in (map (λ s. part_of s.first s.reader) l) c.args.tail.first) c.deref.ensures.value

begins : (g : _) (c : After-known_first-tail_first g) → IsTrue g.F.Folder.honest → BeginsAt c.first_number-first.result (g.F.Folder.seen c.args.folder.now)
begins g c h =
    let seen = g.F.Folder.seen c.args.folder.now in
    subst (λ n. BeginsAt n seen) (sym (first_is g c))
    (begins_at (map (λ s. part_of s.first s.reader) c.in_ok-segments.segments.items) c.in_ok-segments.ensures.are seen (c.in_ok-segments.ensures.only h) c.stores_are_apart.ensures c.args.tail.first
    (c.requires.tail_first h))

pub remove_old-requires-clause-begins : goal.remove_old-requires-clause-begins
remove_old-requires-clause-begins g c = λ h. begins g (goal.at.remove_old-requires-clause-begins g c).After-known_first-tail_first h

-- where the tail is relied on, each crash leaves it
tail_begins : (g : _) (c : After-known_first-tail_first g) → IsTrue g.F.Folder.honest → (l : Look) → g.F.Folder.may_leave c.args.folder.now l → TailBeginsAt c.known_first-tail_first.result l
tail_begins g c h l left tail is pos =
    let known = c.known_first-tail_first.ensures.known pos in
    let kept = c.requires.tail h known.0 known.1 in
    ap first_of (some_is tail kept.0 (sym is ∙ kept.1 l left)) ∙ kept.2 ∙ sym known.2

pub remove_old-requires-clause-left : goal.remove_old-requires-clause-left
remove_old-requires-clause-left g c = λ h l left.
    let here = (goal.at.remove_old-requires-clause-left g c).After-known_first-tail_first in
    let seen = g.F.Folder.seen c.args.folder.now in
    let may_leave = g.F.Folder.may_leave c.args.folder.now in
    let parts = map (λ s. part_of s.first s.reader) c.in_ok-segments.segments.items in (
      subst (λ s. HasOnly (map (λ x. part_of x.first x.reader) s) l) (sym c.deref-2.ensures.value)
          (only_outcomes parts c.in_ok-segments.ensures.are seen (c.in_ok-segments.ensures.only h) may_leave (c.requires.synced h) l left),
      tail_begins g here h l left,
    )

pub returns-clause-numbers : goal.returns-clause-numbers
returns-clause-numbers g c = λ h. (begins g (goal.at.returns-clause-numbers g c).After-known_first-tail_first h, c.in_ok-end.ensures.begins h)

pub returns-clause-last : goal.returns-clause-last
returns-clause-last g c = λ h not_whole has. c.in_ok-end.ensures.last h (c.known_first-tail_first.ensures.none not_whole) has
