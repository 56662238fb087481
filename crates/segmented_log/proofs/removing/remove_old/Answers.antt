use Rattle.std.proofs.Common.{length, map, sym, ◌∙◌, ap, subst, arith}
use Rattle.std.specs.Prelude.{IsTrue}
use Rattle.std.proofs.lemmas.List.{drop-map}
use Rattle.std.proofs.lemmas.Slice.{between_to_end}
use Rattle.store_folder.specs.Moments.{LeavesOnly}
use Rattle.store_folder.proofs.Steps.{started, weaker, joined}
use Rattle.segmented_log.specs.Parts.{part_of}
use Rattle.segmented_log.specs.Dropping.{LosesSegment, IsOldWithout}
use Rattle.segmented_log.proofs.DropLemmas.{some_can}
use Rattle.segmented_log.proofs.RemoveLemmas.{AreLeft, loses_none, still_old, one_loses, one_more, none_more}
use Rattle.segmented_log.proofs.removing.remove_old.Goals.{In-Some}
use Rattle.segmented_log.proofs.removing.remove_old.Goals as goal

pub loop-next-init : goal.loop-next-init
loop-next-init g c = let F = g.F.Folder in
    let old = c.args.folder.now in
    record {
      left = λ h. record {
        are = c.requires.are;
        is = c.requires.first;
        loses = loses_none c.args.number (F.seen old);
        begins = c.requires.begins h;
        outcomes = λ l left. (still_old c.args.number (F.may_leave old) l left, (c.requires.left h l left).0, (c.requires.left h l left).1);
        synced = c.requires.synced h;
        some = λ zero has. has;
      };
      any_moment = λ h. started F.moment F.left_since old _ (λ l left. still_old c.args.number (F.may_leave old) l (g.met.F.Folder.only_now old l left));
      failures = omega arith;
    }

-- while a segment is removed, each moment has what could be left at first, without some
removing : (g : _) (c : In-Some g) (new : _) → IsTrue g.F.Folder.honest
    → LeavesOnly g.F.Folder.moment g.F.Folder.left_since c.loop-next.folder new (LosesSegment (g.F.Folder.may_leave c.loop-next.folder) c.loop-next.first)
    → LeavesOnly g.F.Folder.moment g.F.Folder.left_since c.args.folder.now new (IsOldWithout c.args.number (g.F.Folder.may_leave c.args.folder.now))
removing g c new h losing =
    let F = g.F.Folder in
    let old = c.args.folder.now in
    let mid = c.loop-next.folder in
    let so_far = c.loop-next.invariant in
    joined F.moment F.left_since old mid new _ (so_far.any_moment h)
    (weaker F.moment F.left_since mid new _ _
    (λ l loses. one_loses c.stores_are_apart.ensures c.args.number c.args.tail_first c.loop-next.first (F.seen old) (F.may_leave old) (F.seen mid) (F.may_leave mid)
    (g.met.F.Folder.seen_may_be_left mid h) (map (λ s. part_of s.first s.reader) c.loop-next.rest.now) c.in-Some.next (so_far.left h) c.in-Some.ensures.some l loses) losing)

pub returns-in_err-remove_segment-clause-any_moment : goal.returns-in_err-remove_segment-clause-any_moment
returns-in_err-remove_segment-clause-any_moment g c = λ h.
    removing g (goal.at.returns-in_err-remove_segment-clause-any_moment g c).In-Some c.remove_segment.new.folder h (c.remove_segment.ensures.any_moment h)

pub loop-next-preserved : goal.loop-next-preserved
loop-next-preserved g c =
    let F = g.F.Folder in
    let here = (goal.at.loop-next-preserved g c).In-Some in
    let old = c.args.folder.now in
    let mid = c.loop-next.folder in
    let new = c.remove_segment.new.folder in
    let so_far = c.loop-next.invariant in
    let rest = c.loop-next.rest.now in
    let parts = map (λ s. part_of s.first s.reader) rest in
    let some = some_can (λ s. part_of s.first s.reader) rest _ _ _ _ c.in-Some.ensures.some in
    let left = between_to_end rest 1 (length rest) (omega arith) in
    let parts_left = ap (λ l. map (λ s. part_of s.first s.reader) l) left ∙ sym (drop-map (λ s. part_of s.first s.reader) 1 rest) in
    record {
      left = λ h. subst (λ l. AreLeft c.args.number l c.args.tail_first c.in-Some.next (F.seen old) (F.may_leave old) (F.seen new) (F.may_leave new)) (sym parts_left)
          (one_more c.stores_are_apart.ensures c.args.number c.args.tail_first c.loop-next.first (F.seen old) (F.may_leave old) (F.seen mid) (F.may_leave mid)
          (g.met.F.Folder.seen_may_be_left mid h) parts c.in-Some.next (so_far.left h) c.in-Some.ensures.some (F.seen new) (F.may_leave new)
          (c.remove_segment.ensures.elsewhere h) (c.in_ok-remove_segment.ensures.seen h) (c.remove_segment.ensures.crash h) (c.in_ok-remove_segment.ensures.gone h));
      any_moment = λ h. removing g here new h (c.remove_segment.ensures.any_moment h);
      failures = omega (arith, so_far.failures, c.remove_segment.ensures.failures);
    }

pub returns-clause-begins : goal.returns-clause-begins
returns-clause-begins g c = λ h. (c.loop-next.invariant.left h).begins

pub returns-clause-stays : goal.returns-clause-stays
returns-clause-stays g c = λ h.
    let F = g.F.Folder in
    let old = c.args.folder.now in
    let new = c.loop-next.folder in
    none_more c.stores_are_apart.ensures c.args.number c.args.tail_first c.loop-next.first (F.seen old) (F.may_leave old) (F.seen new) (F.may_leave new)
    (g.met.F.Folder.seen_may_be_left new h) (map (λ s. part_of s.first s.reader) c.loop-next.rest.now) (c.loop-next.invariant.left h) c.in_default.ensures.none
