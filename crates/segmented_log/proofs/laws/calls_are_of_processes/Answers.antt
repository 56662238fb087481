use Rattle.segmented_log.proofs.CrashLemmas.{openings_are_of_processes, calls_are_of_processes, restarts_are_ends}
use Rattle.segmented_log.proofs.laws.calls_are_of_processes.Goals as goal

pub returns : goal.returns
returns g c = let F = g.F.Folder in
    record {
      openings = openings_are_of_processes F.seen F.may_leave;
      calls = calls_are_of_processes F.seen F.may_leave;
      moments = λ process old from now end run of l left. run.each l (of l left);
      restarts = restarts_are_ends F.seen F.may_leave;
    }
