use Rattle.std.proofs.Common.{◌∙◌, refl, sym, ap, arith}
use Rattle.layered_index.specs.Checkpoint.{docs_end}
use Rattle.layered_index.proofs.SoughtLemmas.{one_block, read_nothing}
use Rattle.store_base.specs.ReadingLemmas.{some_is}
use Rattle.layered_index.proofs.IndexHeadLemmas.{inside}
use Rattle.layered_index.proofs.OuterLayersLemmas.{head_none, top_there, top_is, end_is}
use Rattle.layered_index.proofs.index_slice.IndexSlice.docs_end.Goals as goal

pub returns-then-self-eq0-clause-answer : goal.returns-then-self-eq0-clause-answer
returns-then-self-eq0-clause-answer c cs is =
    let s = c.self.inside in
    end_is _ _ (sym (ap (docs_end 0) (head_none s.period s.bytes.now s.count s.ends.now s.texts.now cs c.self.invariant c.if-self-eq0.true (inside _ _ cs c.self.view_is is))))

pub returns-in_default-clause-answer : goal.returns-in_default-clause-answer
returns-in_default-clause-answer c cs is =
    let s = c.self.inside in
    absurd (top_there s.period s.bytes.now s.count s.ends.now s.texts.now cs c.self.invariant (omega arith) c.if-self-eq0.false (inside _ _ cs c.self.view_is is) (sym c.in_default.ensures))

pub returns-in_default-block_docs_end-clause-answer : goal.returns-in_default-block_docs_end-clause-answer
returns-in_default-block_docs_end-clause-answer c cs is =
    let s = c.self.inside in
    let top = top_is s.period s.bytes.now s.count s.ends.now s.texts.now cs c.in-Some.top.now c.in-Some.field-0-1 c.in-Some.field-0-2.now c.in-Some.field-0-3.now c.self.invariant (omega arith)
    c.if-self-eq0.false (inside _ _ cs c.self.view_is is) (sym c.in-Some.ensures) in
    absurd (read_nothing _ refl (c.in_default-block_docs_end.ensures top.list top.in_line top.one_run.0 top.one_run.1 (top.is_text ∙ one_block s.period top.list top.one_run.0 top.one_run.1)))

pub returns-clause-answer : goal.returns-clause-answer
returns-clause-answer c cs is =
    let s = c.self.inside in
    let top = top_is s.period s.bytes.now s.count s.ends.now s.texts.now cs c.in-Some.top.now c.in-Some.field-0-1 c.in-Some.field-0-2.now c.in-Some.field-0-3.now c.self.invariant (omega arith)
    c.if-self-eq0.false (inside _ _ cs c.self.view_is is) (sym c.in-Some.ensures) in
    let read = c.in-Some-block_docs_end.ensures top.list top.in_line top.one_run.0 top.one_run.1 (top.is_text ∙ one_block s.period top.list top.one_run.0 top.one_run.1) in
    end_is _ _ (some_is _ _ read ∙ top.docs)
