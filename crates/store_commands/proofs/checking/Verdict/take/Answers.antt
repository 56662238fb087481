use Rattle.std.proofs.Common.{◌≡◌, ℕ, ◌-◌, true, false, List, ap, ◌∙◌, refl}
use Rattle.store_commands.specs.Checks.{is_sound}
use Rattle.store_commands.proofs.checking.Verdict.take.Goals as goal
use Rattle.store_commands.proofs.checking.Verdict.take.Goals.{in-Some, in_default}

pub returns-clause-broken : goal.returns-clause-broken
returns-clause-broken c =
    let block = c.args.block.now in
    let same : is_sound c.as_slice-bytes.result.now c.saturating_sub-documents.result ≡ is_sound block.bytes (block.ids.end - block.ids.start) =
    ap (is_sound c.as_slice-bytes.result.now) c.saturating_sub-documents.ensures ∙ ap (λ (xs : List ℕ). is_sound xs (block.ids.end - block.ids.start)) c.as_slice-bytes.ensures in
    elim c.match-fault_in.branch [
      | in-Some w ↦ let broken : false ≡ is_sound block.bytes (block.ids.end - block.ids.start) = w.in-Some.ensures.sound ∙ same in rw (w.self-is, w.saturating_add-self.ensures, ← broken) refl
      | in_default w ↦ let sound : true ≡ is_sound block.bytes (block.ids.end - block.ids.start) = w.in_default.ensures.sound ∙ same in rw (w.self-is, ← sound) refl
    ]
