use Rattle.std.proofs.Common.{◌≡◌, ◌++◌, List, ℕ, Some, sym, ◌∙◌, ap, subst, string_bytes, rules, arith, length}
use Rattle.std.specs.Prelude.{IsTrue}
use Rattle.std.proofs.lemmas.List.{append-nil}
use Rattle.store_folder.specs.Moments.{LeavesOnly}
use Rattle.store_folder.specs.Folder.{Keeps}
use Rattle.store_folder.specs.Publishing.{IsOldOrWhole}
use Rattle.store_folder.specs.Beside.{Standing, standing, TouchesOnly}
use Rattle.store_folder.specs.Stages.{IsBeside, IsRun, IsSound}
use Rattle.store_folder.specs.declared.publication.Stage.TheVariants.{Open}
use Rattle.store_folder.proofs.Runs.{named}
use Rattle.store_folder.proofs.BesideLemmas.{touched_more}
use Rattle.store_folder.proofs.publication.PublicationTerminatingWrite.terminate.Goals.{After-publish-named}
use Rattle.store_folder.proofs.publication.PublicationTerminatingWrite.terminate.Goals as goal

abbrev at : (g : _) → After-publish-named g → g.row.F.Denot → Standing
at g c = standing g.F.Folder.seen g.F.Folder.may_hold g.F.Folder.may_leave g.F.Folder.moment g.F.Folder.left_since g.F.Folder.entry_kept g.F.Folder.trusted g.F.Folder.handle g.F.Folder.failures

abbrev beside : (g : _) → After-publish-named g → List ℕ
beside g c = string_bytes c.self.inside.beside

-- what was written, as it stands after what waited was handed over
abbrev content : (g : _) → After-publish-named g → List ℕ
content g c = c.hand_over.new.self.sent.bytes ++ c.hand_over.new.self.buffer.items

-- all of it is in the file beside, and no other file was touched
whole : (g : _) (c : After-publish-named g) → IsTrue g.F.Folder.honest → IsBeside (at g c c.self.inside.first.value) (at g c c.hand_over.new.folder) (beside g c) (content g c)
whole g c h =
    let F = g.F.Folder in
    let s = c.self.inside in
    let name = c.as_str.ensures.value in
    let is_open : s.stage ≡ Open = search rules in
    let was : IsBeside (at g c s.first.value) (at g c s.folder) (beside g c) s.waiting.sent.bytes =
    subst (λ st. IsSound (at g c) st s.first.value s.folder (beside g c) (string_bytes s.name) s.waiting.sent.bytes (s.waiting.sent.bytes ++ s.waiting.buffer.items)) is_open (c.self.invariant.1 h)
    in record {
      file = ap (F.seen c.hand_over.new.folder) (sym name) ∙ c.in_default.ensures.file h
          ∙ ap Some (sym (ap (λ (b : List ℕ). c.hand_over.new.self.sent.bytes ++ b) c.in_default.ensures.empty ∙ append-nil _));
      trust = subst (F.trusted c.hand_over.new.folder) name (c.hand_over.ensures.trust h (subst (F.trusted s.folder) (sym name) was.trust));
      touched = touched_more (beside g c) _ _ _ was.touched (subst (λ n. TouchesOnly n (at g c s.folder) (at g c c.hand_over.new.folder)) name (c.hand_over.ensures.follows.touched h));
    }

-- each moment since the first has the old file, or the whole one under the name
run : (g : _) (c : After-publish-named g) → IsTrue g.F.Folder.honest
    → IsRun (at g c) c.self.inside.first.value c.publish-named.new.folder (beside g c) (string_bytes c.self.inside.name) (content g c)
run g c h =
    let F = g.F.Folder in
    let s = c.self.inside in
    let mid = c.hand_over.new.folder in
    let new = c.publish-named.new.folder in
    let w = whole g c h in
    let run_beside = subst (λ (b : List ℕ). LeavesOnly F.moment F.left_since mid new (IsOldOrWhole (F.may_leave mid) b c.as_str-3.result.now (F.seen mid b)))
    c.as_str-2.ensures.value (c.publish-named.ensures.any_moment h) in
    let run_named = subst (λ (n : List ℕ). LeavesOnly F.moment F.left_since mid new (IsOldOrWhole (F.may_leave mid) (beside g c) n (F.seen mid (beside g c))))
    c.as_str-3.ensures.value run_beside in
    named F.seen F.may_hold F.may_leave F.moment F.left_since F.entry_kept F.trusted F.handle F.failures (beside g c) (string_bytes s.name) c.self.invariant.0 s.first.value mid new w.touched
    (content g c) w.file run_named

count : (g : _) (c : After-publish-named g) → c.hand_over.new.self.num_bytes ≡ length (content g c)
count g c = c.hand_over.ensures.count ∙ c.self.invariant.3 ∙ ap length (sym c.hand_over.ensures.content)

pub invariant_of-self-in-Err-named : goal.invariant_of-self-in-Err-named
invariant_of-self-in-Err-named g c =
    let here = (goal.at.invariant_of-self-in-Err-named g c).After-publish-named in (c.self.invariant.0, run g here, λ h none. absurd (omega arith), count g here)

pub invariant_of-self-2 : goal.invariant_of-self-2
invariant_of-self-2 g c =
    let here = (goal.at.invariant_of-self-2 g c).After-publish-named in
    let F = g.F.Folder in
    let kept : IsTrue F.honest → Keeps (string_bytes c.self.inside.name) (Some (content g here)) (F.may_leave c.publish-named.new.folder) =
    λ h l left.
    let named_is : c.as_str-3.result.now ≡ string_bytes c.self.inside.name = c.as_str-3.ensures.value in
    ap l (sym named_is) ∙ c.in_default-named.ensures.published h l left ∙ ap (F.seen c.hand_over.new.folder) c.as_str-2.ensures.value ∙ (whole g here h).file
    in (c.self.invariant.0, λ h. (kept h, run g here h), λ h none. absurd (omega arith), count g here)
