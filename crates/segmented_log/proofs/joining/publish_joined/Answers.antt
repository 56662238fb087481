use Rattle.std.proofs.Common.{◌≡◌, ◌++◌, Some, ℕ, List, sym, ap, subst, ◌∙◌}
use Rattle.std.specs.List.{flat_map}
use Rattle.store_merge.specs.Choice.{alive_slots}
use Rattle.store_folder.specs.Moments.{ComesFrom}
use Rattle.store_folder.specs.Folder.{ElsewhereOfBoth, EntriesStayElsewhereOfBoth, FilesElsewhereOfBoth}
use Rattle.store_folder.specs.Publishing.{part}
use Rattle.segmented_log.specs.declared.error.LogError.TheVariants.{Full, Damaged}
use Rattle.segmented_log.proofs.FilledLemmas.{filled_run}
use Rattle.segmented_log.proofs.RefusalLemmas.{join_damaged, join_full}
use Rattle.segmented_log.proofs.joining.publish_joined.Goals as goal

pub returns-in-Ok-clause-published : goal.returns-in-Ok-clause-published
returns-in-Ok-clause-published g c = λ h honest d left.
    let stored = c.in-Ok.ensures.stored in
    let named = c.as_str.ensures.value ∙ c.in_ok-name.ensures in (
      stored.0,
      record { period = 8; version = 3; blocks = stored.1.0.blocks; store = stored.1.0.store; slots_are = stored.1.0.came honest },
      ap d (sym named) ∙ stored.2 h d left,
    )

pub returns-in-Ok-clause-cut : goal.returns-in-Ok-clause-cut
returns-in-Ok-clause-cut g c = λ h.
    let stored = c.in-Ok.ensures.stored in
    let named = c.as_str.ensures.value ∙ c.in_ok-name.ensures in
    record {
      blocks = stored.1.0.blocks;
      are = stored.1.0.cut_is;
      is = ap (g.F.Folder.seen c.publish_store.new.folder) (sym named) ∙ stored.3 h ∙ ap (λ (bytes : List ℕ). Some bytes) stored.1.0.is_file;
    }

pub returns-in-Ok-clause-trust : goal.returns-in-Ok-clause-trust
returns-in-Ok-clause-trust g c = λ h.
    let F = g.F.Folder in
    subst (λ (n : List ℕ). EntriesStayElsewhereOfBoth (n ++ part) n (F.trusted c.args.folder.now) (F.trusted c.publish_store.new.folder))
    (c.as_str.ensures.value ∙ c.in_ok-name.ensures) (c.publish_store.ensures.trust h)

pub returns-in-Ok-clause-elsewhere : goal.returns-in-Ok-clause-elsewhere
returns-in-Ok-clause-elsewhere g c = λ h.
    let F = g.F.Folder in
    subst (λ (n : List ℕ). ElsewhereOfBoth (n ++ part) n (F.seen c.args.folder.now) (F.seen c.publish_store.new.folder))
    (c.as_str.ensures.value ∙ c.in_ok-name.ensures) (c.publish_store.ensures.elsewhere h)

pub returns-in-Ok-clause-files : goal.returns-in-Ok-clause-files
returns-in-Ok-clause-files g c = λ h.
    let F = g.F.Folder in
    subst (λ (n : List ℕ). FilesElsewhereOfBoth (n ++ part) n (F.may_hold c.args.folder.now) (F.may_hold c.publish_store.new.folder))
    (c.as_str.ensures.value ∙ c.in_ok-name.ensures) (c.publish_store.ensures.files h)

pub returns-in-Ok-clause-crash : goal.returns-in-Ok-clause-crash
returns-in-Ok-clause-crash g c = λ h.
    let F = g.F.Folder in
    subst (λ (n : List ℕ). ComesFrom (ElsewhereOfBoth (n ++ part) n) (F.may_leave c.args.folder.now) (F.may_leave c.publish_store.new.folder)) (c.as_str.ensures.value ∙ c.in_ok-name.ensures)
    (c.publish_store.ensures.crash h)

pub returns-in-Ok-clause-any_moment : goal.returns-in-Ok-clause-any_moment
returns-in-Ok-clause-any_moment g c = λ h honest.
    let F = g.F.Folder in
    filled_run (record { first = c.args.first; slots = flat_map alive_slots c.args.inputs.items }) _ _ (λ slots is. is honest) _ F.may_leave F.moment F.left_since c.args.folder.now
    c.publish_store.new.folder _ (c.as_str.ensures.value ∙ c.in_ok-name.ensures) (c.publish_store.ensures.any_moment h)

pub returns-clause-crash : goal.returns-clause-crash
returns-clause-crash g c = λ h.
    let F = g.F.Folder in
    subst (λ (n : List ℕ). ComesFrom (ElsewhereOfBoth (n ++ part) n) (F.may_leave c.args.folder.now) (F.may_leave c.publish_store.new.folder)) (c.as_str.ensures.value ∙ c.in_ok-name.ensures)
    (c.publish_store.ensures.crash h)

pub returns-clause-any_moment : goal.returns-clause-any_moment
returns-clause-any_moment g c = λ h honest.
    let F = g.F.Folder in
    filled_run (record { first = c.args.first; slots = flat_map alive_slots c.args.inputs.items }) _ _ (λ slots is. is honest) _ F.may_leave F.moment F.left_since c.args.folder.now
    c.publish_store.new.folder _ (c.as_str.ensures.value ∙ c.in_ok-name.ensures) (c.publish_store.ensures.any_moment h)

pub returns-clause-damaged : goal.returns-clause-damaged
returns-clause-damaged g c = λ honest is.
    let refused : c.joining_error.result ≡ Damaged = cc is in
    join_damaged c.args.inputs.items _ _ honest c.requires.whole c.in-Err.error c.in-Err.ensures.refused (c.joining_error.ensures.damaged refused)

pub returns-clause-full : goal.returns-clause-full
returns-clause-full g c = λ honest few is.
    let refused : c.joining_error.result ≡ Full = cc is in
    join_full c.args.inputs.items _ _ honest c.requires.whole c.in-Err.error c.in-Err.ensures.refused few (c.joining_error.ensures.full refused)
