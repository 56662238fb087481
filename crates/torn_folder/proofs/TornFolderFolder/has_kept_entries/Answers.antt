use Rattle.std.proofs.Common.{◌≡◌, reverse, sym, ◌∙◌, subst}
use Rattle.std.specs.Prelude.{true}
use Rattle.torn_folder.specs.Known.{entries_by}
use Rattle.torn_folder.proofs.KnownLemmas.{entries_kept}
use Rattle.torn_folder.proofs.TornFolderFolder.has_kept_entries.Goals as goal

pub returns : goal.returns
returns c = λ h kept.
    entries_kept (reverse c.args.self.now.events.items) (subst (λ es. entries_by (reverse es) ≡ true) c.deref.ensures.value (sym c.are_entries_kept.ensures ∙ kept))
