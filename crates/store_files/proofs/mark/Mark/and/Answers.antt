use Rattle.std.proofs.Common.{◌≡◌, rules}
use Rattle.store_files.specs.declared.mark.Mark.{Mark}
use Rattle.store_files.proofs.MarkLemmas.{claims_nothing}
use Rattle.store_files.proofs.mark.Mark.and.Goals as goal

pub returns-clause-named : goal.returns-clause-named
returns-clause-named c =
    let more : Mark = record { kind = c.args.self.kind; names = c.push.new.self } in
    let same : c.in_ok-name.name.items ≡ c.args.name.now = search rules in
    claims_nothing more c.args.self.names.items c.in_ok-name.name c.args.name.now same c.in_ok-push.ensures.items
