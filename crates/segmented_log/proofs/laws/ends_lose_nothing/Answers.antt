use Rattle.segmented_log.proofs.CrashLemmas.{ends_lose_nothing, new_logs_lose_nothing}
use Rattle.segmented_log.proofs.laws.ends_lose_nothing.Goals as goal

pub returns : goal.returns
returns g c = let F = g.F.Folder in
    record {
      kept = λ h. ends_lose_nothing F.seen F.may_leave (λ f. g.met.F.Folder.seen_may_be_left f h);
      begun = λ h. new_logs_lose_nothing F.seen F.may_leave (λ f. g.met.F.Folder.seen_may_be_left f h);
    }
