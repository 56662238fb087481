use Rattle.std.proofs.Common.{◌≡◌, reverse, sym, ◌∙◌, subst}
use Rattle.std.specs.Prelude.{true}
use Rattle.torn_folder.specs.Known.{synced_by}
use Rattle.torn_folder.proofs.KnownLemmas.{synced_trusted, synced_holds}
use Rattle.torn_folder.proofs.TornFolderFolder.is_synced.Goals as goal

pub returns-then-is_file_synced-clause-trusted : goal.returns-then-is_file_synced-clause-trusted
returns-then-is_file_synced-clause-trusted c = λ h synced.
    synced_trusted (reverse c.args.self.now.events.items) c.args.name.now
    (subst (λ es. synced_by (reverse es) c.args.name.now ≡ true) c.deref-2.ensures.value (sym c.is_file_synced.ensures ∙ c.if-is_file_synced.true))

pub returns-then-is_file_synced-clause-durable : goal.returns-then-is_file_synced-clause-durable
returns-then-is_file_synced-clause-durable c = λ h synced bytes held.
    synced_holds (reverse c.args.self.now.events.items) c.args.name.now bytes
    (subst (λ es. synced_by (reverse es) c.args.name.now ≡ true) c.deref-2.ensures.value (sym c.is_file_synced.ensures ∙ c.if-is_file_synced.true)) held
