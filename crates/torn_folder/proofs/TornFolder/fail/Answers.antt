use Rattle.std.proofs.Common.{◌≡◌, [], ◌∷◌, ◌++◌, ◌∙◌, ap, subst}
use Rattle.torn_folder.proofs.Noted.{elapses}
use Rattle.torn_folder.proofs.TornFolder.fail.Goals as goal

pub returns-in-Ok-clause-time : goal.returns-in-Ok-clause-time
returns-in-Ok-clause-time c =
    let made = subst (λ v. c.push.new.events.items ≡ v.items ++ c.args.event ∷ []) c.is_made.ensures.events c.in-Ok.ensures.ok in
    elapses c.args.self.now.events.items c.refuse-in-Ok.new.self.events.items c.args.event (ap (λ v. v.items) c.refuse-in-Ok.ensures.events ∙ made)
