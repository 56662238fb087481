use Rattle.std.proofs.Common.{rules, ◌∙◌, ap, sym, string_bytes}
use Rattle.std.specs.Prelude.{not}
use Rattle.store_files.proofs.disk_folder.DiskFolder.renew.Goals as goal

pub invariant_of-self : goal.invariant_of-self
invariant_of-self g c = λ h.
    let before = c.self.invariant h in (
      search rules,
      search rules,
      λ none. c.renew.ensures.so h (string_bytes c.self.inside.path) (before.2 (ap not (sym c.renew.ensures.held) ∙ none)),
      search rules,
    )
