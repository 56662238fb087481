use Rattle.std.proofs.Common.{◌≡◌, ℕ, ◌+◌, ◌<◌, List, [], ◌∷◌, ◌++◌, length, map, take, drop, true, false, sym, ◌∙◌, ap, subst, arith, get_or, take-append-drop, append_assoc}
use Rattle.std.proofs.lemmas.List.{map-append, take_more}
use Rattle.std.proofs.lemmas.Result.{err_from_is_err_and}
use Rattle.store_folder.specs.Calls.{Doing, Kind, doing_of, kind, Carried, AreReady}
use Rattle.store_folder.specs.declared.calls.FolderCall.{FolderCall}
use Rattle.store_folder.specs.declared.calls.FolderCall.TheVariants.{Create}
use Rattle.store_folder.proofs.CallsLemmas.{one_more, no_more, ready_after}
use Rattle.store_folder.proofs.calls.carry_out.Goals as goal

abbrev none : FolderCall
none = Create (record { ref_ptr = (0, 0); now = [] })

-- one call more of a list
module _ (calls : List FolderCall) (i : ℕ) (d : FolderCall) (low : i < length calls) where
  next : map doing_of (take i calls) ++ doing_of (get_or calls i d) ∷ [] ≡ map doing_of (take (i + 1) calls)
  next = sym (map-append doing_of (take i calls) (get_or calls i d ∷ [])) ∙ ap (map doing_of) (sym (take_more calls i d low))

  rest : map doing_of (take (i + 1) calls) ++ map doing_of (drop (i + 1) calls) ≡ map doing_of calls
  rest = sym (map-append doing_of (take (i + 1) calls) (drop (i + 1) calls)) ∙ ap (map doing_of) (take-append-drop (i + 1) calls)

  whole : map doing_of (take i calls) ++ doing_of (get_or calls i d) ∷ map doing_of (drop (i + 1) calls) ≡ map doing_of calls
  whole = sym (append_assoc (map doing_of (take i calls)) (doing_of (get_or calls i d) ∷ []) (map doing_of (drop (i + 1) calls)))
      ∙ ap (λ (xs : List Doing). xs ++ map doing_of (drop (i + 1) calls)) next ∙ rest

pub make_call-requires-clause-ready : goal.make_call-requires-clause-ready
make_call-requires-clause-ready g c = λ h.
    let F = g.F.Folder in
    let k : Kind g.row.F.Denot = kind F.seen F.may_hold F.may_leave F.moment F.left_since F.entry_kept F.trusted in
    let calls = c.args.calls.now in
    let i = c.loop-call.call-index in
    (ready_after k (map doing_of (take i calls)) _ c.args.folder.now c.loop-call.folder
    (subst (λ (xs : List Doing). AreReady k xs c.args.folder.now) (sym (whole calls i none c.loop-call-test.true)) (c.requires.ready h))
    (c.loop-call.invariant.made h)).0

pub returns-in_err-make_call-clause-carried : goal.returns-in_err-make_call-clause-carried
returns-in_err-make_call-clause-carried g c = λ h.
    let F = g.F.Folder in
    let k : Kind g.row.F.Denot = kind F.seen F.may_hold F.may_leave F.moment F.left_since F.entry_kept F.trusted in
    let calls = c.args.calls.now in
    let i = c.loop-call.call-index in
    let p = err_from_is_err_and c.from_residual.result c.from_residual.ensures.1 in
    let made = one_more k (map doing_of (take i calls)) _ false c.args.folder.now c.loop-call.folder c.make_call.new.folder (c.loop-call.invariant.made h) (c.in_err-make_call.ensures.does h) in
    rw p.1
    (subst (λ (xs : List Doing). Carried k xs false c.args.folder.now c.make_call.new.folder) (rest calls i none c.loop-call-test.true)
    (no_more k (map doing_of (take (i + 1) calls)) (map doing_of (drop (i + 1) calls)) c.args.folder.now c.make_call.new.folder
    (subst (λ (xs : List Doing). Carried k xs false c.args.folder.now c.make_call.new.folder) (next calls i none c.loop-call-test.true) made)))

pub loop-call-preserved : goal.loop-call-preserved
loop-call-preserved g c = record {
  made = λ h.
      let F = g.F.Folder in
      let k : Kind g.row.F.Denot = kind F.seen F.may_hold F.may_leave F.moment F.left_since F.entry_kept F.trusted in
      let calls = c.args.calls.now in
      let i = c.loop-call.call-index in
      subst (λ (xs : List Doing). Carried k xs true c.args.folder.now c.make_call.new.folder) (next calls i none c.loop-call-test.true)
      (one_more k (map doing_of (take i calls)) _ true c.args.folder.now c.loop-call.folder c.make_call.new.folder (c.loop-call.invariant.made h) (c.in_ok-make_call.ensures.does h));
  count = omega (arith, c.loop-call.invariant.count, c.make_call.ensures.count);
}
