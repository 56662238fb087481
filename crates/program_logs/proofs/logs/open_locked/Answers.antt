use Rattle.program_logs.proofs.logs.open_locked.Goals as goal

pub returns : goal.returns
returns g c honest =
    rw (c.in_ok-log-in-Ok.ensures.ok, ← c.into_inner-folder.ensures)
    (record { found = c.in-Ok.ensures.found honest; begun = c.in-Ok.ensures.begun honest; pending = c.in-Ok.ensures.none_pending })
