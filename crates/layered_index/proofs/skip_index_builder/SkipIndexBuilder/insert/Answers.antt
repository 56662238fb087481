use Rattle.std.proofs.Common.{◌≡◌, List, [], ◌∷◌, ◌++◌, inl, inr, subst, sym, ◌∙◌, ap}
use Rattle.std.proofs.lemmas.Result.{on_ok_weaker}
use Rattle.store_base.proofs.ListLemmas.{either}
use Rattle.layered_index.specs.declared.checkpoint.Checkpoint.{Checkpoint}
use Rattle.layered_index.specs.Checkpoint.{IsInLine}
use Rattle.layered_index.specs.Layers.{Index}
use Rattle.layered_index.specs.Building.{list_of, IsBuilder}
use Rattle.layered_index.proofs.BuilderLemmas.{builder_takes, list_of-inserted, inserted_is_builder}
use Rattle.layered_index.proofs.skip_index_builder.SkipIndexBuilder.insert.Goals as goal

pub insert_at-requires-clause-takes : goal.insert_at-requires-clause-takes
insert_at-requires-clause-takes c =
    let list : list_of c.self.inside.layers.items ≡ c.args.self.now.checkpoints = ap (λ (v : Index). v.checkpoints) c.self.view_is in
    builder_takes c.self.inside.period c.self.inside.layers.items c.args.checkpoint c.self.invariant (subst (λ (cs : List Checkpoint). IsInLine (cs ++ c.args.checkpoint ∷ [])) (sym list) c.requires)

pub invariant_of-self : goal.invariant_of-self
invariant_of-self c =
    let list : list_of c.self.inside.layers.items ≡ c.args.self.now.checkpoints = ap (λ (v : Index). v.checkpoints) c.self.view_is in
    let in_line : IsInLine (list_of c.self.inside.layers.items ++ c.args.checkpoint ∷ []) = subst (λ (cs : List Checkpoint). IsInLine (cs ++ c.args.checkpoint ∷ [])) (sym list) c.requires in
    elim (either c.insert_at.result c.insert_at.ensures.ok c.insert_at.ensures.err) [
      | inl ok ↦ subst (IsBuilder c.self.inside.period) (sym ok) (inserted_is_builder c.self.inside.period c.self.inside.layers.items c.args.checkpoint c.self.invariant in_line)
      | inr err ↦ subst (IsBuilder c.self.inside.period) (sym err) c.self.invariant
    ]

pub returns-clause-ok : goal.returns-clause-ok
returns-clause-ok c =
    let list : list_of c.self.inside.layers.items ≡ c.args.self.now.checkpoints = ap (λ (v : Index). v.checkpoints) c.self.view_is in
    let period = ap (λ (v : Index). v.period) c.self.view_is in
    let in_line : IsInLine (list_of c.self.inside.layers.items ++ c.args.checkpoint ∷ []) = subst (λ (cs : List Checkpoint). IsInLine (cs ++ c.args.checkpoint ∷ [])) (sym list) c.requires in
    on_ok_weaker c.insert_at.result
    (λ e.
    let same = ap list_of e ∙ list_of-inserted c.self.inside.period c.self.inside.layers.items c.args.checkpoint c.self.invariant in_line
    ∙ ap (λ (cs : List Checkpoint). cs ++ c.args.checkpoint ∷ []) list in
    λ i. record { period = period i; checkpoints = same i })
    c.insert_at.ensures.ok
