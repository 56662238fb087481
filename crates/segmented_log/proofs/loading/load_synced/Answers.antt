use Rattle.std.proofs.Common.{rules, inl, [], length, ◌≡◌, ◌==◌, arith, map, sym, ◌∙◌, ap, subst}
use Rattle.std.specs.Prelude.{All, IsTrue, IsErrOf}
use Rattle.std.proofs.lemmas.List.{length-map}
use Rattle.store_folder.proofs.Steps.{started}
use Rattle.segmented_log.specs.Parts.{part_of}
use Rattle.segmented_log.specs.Dropping.{AreOfOneLog, HasOnly}
use Rattle.segmented_log.specs.Settled.{TailIsKept}
use Rattle.segmented_log.specs.declared.error.LogError.TheVariants.{Full, NoLog}
use Rattle.segmented_log.proofs.OpeningLemmas.{as_before, keeps_loaded}
use Rattle.segmented_log.proofs.LoadLemmas.{loaded_outcomes}
use Rattle.segmented_log.proofs.NoLogLemmas.{no_tail, not_in_line, full_tail}
use Rattle.segmented_log.proofs.loading.load_synced.Goals as goal

pub returns-in_err-segments-clause-any_moment : goal.returns-in_err-segments-clause-any_moment
returns-in_err-segments-clause-any_moment g c = λ h.
    let F = g.F.Folder in
    let old = c.args.folder.now in
    started F.moment F.left_since old _ (λ l left. inl (as_before (F.may_leave old) l (g.met.F.Folder.only_now old l left)))

pub returns-clause-folder : goal.returns-clause-folder
returns-clause-folder g c = λ h.
    let F = g.F.Folder in
    let seen = F.seen c.args.folder.now in
    let new = c.load_tail.new.folder in
    let p = c.in_ok-parts.parts in
    let parts = map (λ x. part_of x.first x.reader) p.segments.items in
    let are = subst (λ v. AreOfOneLog (map (λ x. part_of x.first x.reader) v.items)) (sym c.in_ok-parts.ensures.segments) c.in_ok-segments.ensures.are in
    let only = subst (λ v. HasOnly (map (λ x. part_of x.first x.reader) v.items) seen) (sym c.in_ok-parts.ensures.segments) (c.in_ok-segments.ensures.only h) in
    let kept = subst (λ t. TailIsKept (F.may_hold new) (F.may_leave new) (F.entry_kept new) (F.trusted new) t.bytes.items) (sym c.in_ok-parts.ensures.tail) (c.in_ok-tail.ensures.kept h) in
    record {
      parts = c.in_ok-parts.ensures.parts;
      sealed_is = c.in_ok-parts.ensures.sealed;
      on_disk = record {
        outcomes = loaded_outcomes seen parts are only p.tail.bytes.items (F.may_leave c.args.folder.now) (F.may_leave new) (c.requires.synced h) (c.load_tail.ensures.crash h) kept.outcomes;
        tail_kept = kept;
      };
    }

pub returns-clause-kept : goal.returns-clause-kept
returns-clause-kept g c = λ h.
    let F = g.F.Folder in
    let old = c.args.folder.now in
    let t = c.in_ok-tail.ensures in
    keeps_loaded (F.seen old) (F.may_leave old) (c.requires.synced h) c.in_ok-tail.tail.bytes.items t.tail.is_tail (t.same h) (F.may_leave c.load_tail.new.folder) (c.load_tail.ensures.crash h)
    (t.kept h).outcomes

pub returns-clause-honest : goal.returns-clause-honest
returns-clause-honest g c = λ h.
    subst (λ v. All (λ x. IsTrue x.reader.file.honest) v.items) (sym c.in_ok-parts.ensures.segments) (c.in_ok-segments.ensures.honest h)

pub returns-in_err-tail-clause-no_log : goal.returns-in_err-tail-clause-no_log
returns-in_err-tail-clause-no_log g c = λ h is.
    let segments = c.in_ok-segments.segments in
    let parts = map (λ x. part_of x.first x.reader) segments.items in
    let failed : IsErrOf c.load_tail.result NoLog = search rules in
    let none : parts ≡ [] → segments.len ≡ 0 = λ no. omega (arith, segments.ok.0, ap length no, length-map segments.items (λ x. part_of x.first x.reader)) in
    no_tail (g.F.Folder.seen c.args.folder.now) parts c.in_ok-segments.ensures.are (c.in_ok-segments.ensures.only h) c.is_empty-is_blank.result
    (λ no. c.is_empty-is_blank.ensures ∙ ap (λ n. n == 0) (none no)) (c.load_tail.ensures.no_log h failed)

pub returns-in_err-parts-clause-no_log : goal.returns-in_err-parts-clause-no_log
returns-in_err-parts-clause-no_log g c = λ h is.
    let parts = map (λ x. part_of x.first x.reader) c.in_ok-segments.segments.items in
    let tail = c.in_ok-tail.ensures in
    let failed : IsErrOf c.assemble.result NoLog = search rules in
    not_in_line (g.F.Folder.seen c.args.folder.now) parts c.in_ok-segments.ensures.are (c.in_ok-segments.ensures.only h) c.stores_are_apart.ensures c.in_ok-tail.tail.bytes.items tail.tail.is_tail
    (tail.same h) (c.assemble.ensures.no_log failed)

pub returns-in_err-parts-clause-full : goal.returns-in_err-parts-clause-full
returns-in_err-parts-clause-full g c = λ h is.
    let failed : IsErrOf c.assemble.result Full = search rules in
    full_tail (g.F.Folder.seen c.args.folder.now) c.in_ok-tail.tail.bytes.items (c.in_ok-tail.ensures.same h) (c.assemble.ensures.full failed)
