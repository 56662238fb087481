use Rattle.std.proofs.Common.{◌∙◌, sym, subst, ap, map, refl}
use Rattle.std.specs.Prelude.{IsTrue}
use Rattle.std.specs.List.{AllByRecursion}
use Rattle.program_stores.proofs.GivenLemmas.{if_ok_given}
use Rattle.program_stores.proofs.MergedLemmas.{all_more, names_more}
use Rattle.program_stores.proofs.merge.Merging.inputs.Goals as goal

pub loop-path-preserved : goal.loop-path-preserved
loop-path-preserved g c =
    let pushed = c.in_ok-push.ensures.items in
    record {
      paths = ap (map (λ input. input.path.now)) pushed
          ∙ names_more (λ input. input.path.now) c.loop-path.inputs.items _ c.args.self.now.paths.now c.loop-path.path-index _ c.loop-path-test.true refl c.loop-path.invariant.paths;
      honest = λ holds.
          let here = if_ok_given c.file.result c.in_ok-file.file _ c.in_ok-file.ensures (c.file.ensures.honest holds) in
          subst (AllByRecursion (λ input. IsTrue input.file.honest)) (sym pushed) (all_more (λ input. IsTrue input.file.honest) c.loop-path.inputs.items _ (c.loop-path.invariant.honest holds) here);
      stores = λ holds.
          subst (AllByRecursion _) (sym pushed) (all_more _ c.loop-path.inputs.items _ (c.loop-path.invariant.stores holds)
          (λ d n is. if_ok_given c.file.result c.in_ok-file.file _ c.in_ok-file.ensures (c.file.ensures.content holds d n is)));
    }
