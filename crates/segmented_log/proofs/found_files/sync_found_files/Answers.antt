use Rattle.std.proofs.Common.{◌≡◌, ◌+◌, map, take, [], ◌∷◌, ◌++◌, string_bytes, sym, ◌∙◌, ap, subst, arith}
use Rattle.std.specs.Prelude.{IsTrue}
use Rattle.std.proofs.lemmas.List.{map_more, take_all}
use Rattle.store_folder.proofs.Steps.{started, joined, weaker}
use Rattle.segmented_log.proofs.FoundLemmas.{AreSynced, none_synced, one_synced, all_synced, tail_synced}
use Rattle.segmented_log.proofs.found_files.sync_found_files.Goals.{After-sync_entries, then-all, else-all}
use Rattle.segmented_log.proofs.found_files.sync_found_files.Goals as goal

pub loop-name-init : goal.loop-name-init
loop-name-init g c = let F = g.F.Folder in
    let old = c.args.folder.now in
    record {
      synced = λ h. none_synced (F.seen old) (F.may_leave old) (F.may_hold old) (F.trusted old);
      any_moment = λ h. started F.moment F.left_since old (F.may_leave old) (λ l left. g.met.F.Folder.only_now old l left);
      failures = omega arith;
    }

pub loop-name-preserved : goal.loop-name-preserved
loop-name-preserved g c = let F = g.F.Folder in
    let old = c.args.folder.now in
    let mid = c.loop-name.folder in
    let new = c.sync_found_file.new.folder in
    let so_far = c.loop-name.invariant in
    let before = map string_bytes (take c.loop-name.name-index c.args.names.now) in
    let more : before ++ c.as_str.result.now ∷ [] ≡ map string_bytes (take (c.loop-name.name-index + 1) c.args.names.now) =
    ap (λ n. before ++ n ∷ []) c.as_str.ensures.value
    ∙ sym (map_more string_bytes c.args.names.now c.loop-name.name-index c.name-item.result c.loop-name-test.true ∙ ap (λ y. before ++ string_bytes y ∷ []) (sym c.name-item.is)) in
    let both : IsTrue c.if-all.all → IsTrue c.loop-name.all × IsTrue c.in_ok-done.done = λ is. elim c.if-all.branch [
      | then-all w ↦ (w.if-all.true, sym w.all-is ∙ is)
      | else-all w ↦ let no : ⊥ = let is_false = sym w.all-is ∙ is in cc in absurd no
    ] in
    record {
      synced = λ h. subst (λ l. AreSynced (F.seen old) (F.may_leave old) l c.if-all.all (F.seen new) (F.may_hold new) (F.may_leave new) (F.trusted new)) more
          (one_synced (F.seen old) (F.may_leave old) before c.as_str.result.now c.loop-name.all c.in_ok-done.done c.if-all.all (F.seen mid) (F.seen new) (F.may_hold mid) (F.may_hold new)
          (F.may_leave mid) (F.may_leave new) (F.trusted mid) (F.trusted new) (so_far.synced h) both
          (c.in_ok-done.ensures.durable h) (c.in_ok-done.ensures.trusted h) (c.in_ok-done.ensures.seen h) (c.sync_found_file.ensures.files h) (c.sync_found_file.ensures.crash h)
          (c.in_ok-done.ensures.trust h));
      any_moment = λ h. joined F.moment F.left_since old mid new (F.may_leave old) (so_far.any_moment h)
          (weaker F.moment F.left_since mid new _ _ (so_far.synced h).no_more (c.sync_found_file.ensures.any_moment h));
      failures = omega (arith, so_far.failures, c.sync_found_file.ensures.failures);
    }

-- all of the files were synced, and then the folder
was : (g : _) (c : After-sync_entries g) → IsTrue g.F.Folder.honest
    → AreSynced (g.F.Folder.seen c.args.folder.now) (g.F.Folder.may_leave c.args.folder.now) (map string_bytes c.args.names.now) c.loop-name.all (g.F.Folder.seen c.loop-name.folder)
    (g.F.Folder.may_hold c.loop-name.folder) (g.F.Folder.may_leave c.loop-name.folder) (g.F.Folder.trusted c.loop-name.folder)
was g c h =
    let F = g.F.Folder in
    let old = c.args.folder.now in
    let mid = c.loop-name.folder in
    subst (λ l. AreSynced (F.seen old) (F.may_leave old) (map string_bytes l) c.loop-name.all (F.seen mid) (F.may_hold mid) (F.may_leave mid) (F.trusted mid))
    (take_all c.loop-name.name-index c.args.names.now (omega (arith, c.loop-name-test.false))) (c.loop-name.invariant.synced h)

pub returns-clause-synced : goal.returns-clause-synced
returns-clause-synced g c = λ h.
    let F = g.F.Folder in
    let old = c.args.folder.now in
    let mid = c.loop-name.folder in
    let new = c.sync_entries.new.folder in
    all_synced (F.seen old) (F.may_leave old) (map string_bytes c.args.names.now) (c.requires.names h) c.loop-name.all (F.seen mid) (F.seen new) (F.may_hold mid) (F.may_hold new) (F.may_leave mid)
    (F.may_leave new)
    (F.trusted mid) (F.trusted new) (was g (goal.at.returns-clause-synced g c).After-sync_entries h) (c.in_ok-sync_entries.ensures.durable h) (c.sync_entries.ensures.seen h)

pub returns-clause-tail : goal.returns-clause-tail
returns-clause-tail g c = λ h.
    let F = g.F.Folder in
    let old = c.args.folder.now in
    let mid = c.loop-name.folder in
    let new = c.sync_entries.new.folder in
    tail_synced (F.seen old) (F.may_leave old) (map string_bytes c.args.names.now) (c.requires.names h) c.loop-name.all (F.seen mid) (F.seen new) (F.may_hold mid) (F.may_hold new) (F.may_leave mid)
    (F.may_leave new)
    (F.trusted mid) (F.trusted new) (was g (goal.at.returns-clause-tail g c).After-sync_entries h) (c.in_ok-sync_entries.ensures.durable h) (c.sync_entries.ensures.seen h)
    (F.entry_kept new) (c.in_ok-sync_entries.ensures.kept h) (c.sync_entries.ensures.files h) (c.sync_entries.ensures.trust h)
