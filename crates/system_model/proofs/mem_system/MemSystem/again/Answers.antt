use Rattle.std.proofs.Common.{rules, ◌≡◌, ◌+◌, ◌<◌, List, [], ◌∷◌, ◌++◌, take, length, sym, ap, subst, ◌∙◌}
use Rattle.std.proofs.lemmas.List.{take_more}
use Rattle.store_files.specs.Mark.{IsBlank}
use Rattle.system_model.specs.declared.content.Step.{Step}
use Rattle.system_model.specs.System.{change_of, made_by}
use Rattle.system_model.proofs.System.{blank_is_so, pushed}
use Rattle.system_model.proofs.mem_system.MemSystem.again.Goals as goal

pub loop-step-preserved : goal.loop-step-preserved
loop-step-preserved c =
    let step : Step = c.step-item.result in
    let steps : List Step = c.steps-step-items.result.now in
    let index = c.loop-step.step-index in
    let front = take index steps in
    let inside : index < length steps = search rules in
    let more : made_by (take (index + 1) steps) ≡ change_of step ∷ made_by front =
    ap made_by (take_more steps index step inside) ∙ ap (λ s. made_by (front ++ s ∷ [])) (sym c.step-item.is) ∙ pushed front step in
    let copied : change_of c.in_ok-copy.field-0 ≡ change_of step = c.in_ok-copy.ensures in
    record {
      folder = search rules;
      mark = subst IsBlank (sym c.in_ok-make.ensures.mark) c.loop-step.invariant.mark;
      possible = c.in_ok-make.ensures.possible;
      made = c.in_ok-make.ensures.made ∙ ap (λ change. change ∷ c.loop-step.system.changes) copied
          ∙ ap (λ changes. change_of step ∷ changes) c.loop-step.invariant.made ∙ sym more;
      all = search rules;
    }

pub returns-clause-so : goal.returns-clause-so
returns-clause-so c = blank_is_so c.loop-step.system c.loop-step.invariant.mark c.loop-step.invariant.possible
