use Rattle.std.proofs.Common.{◌≡◌, ◌-◌, length, drop, Some, sym, subst}
use Rattle.layered_index.specs.Rows.{lower_texts}
use Rattle.layered_index.specs.Sought.{IndexBytes, layers_left}
use Rattle.layered_index.proofs.MarkLemmas.{found_again}
use Rattle.layered_index.proofs.index_slice.IndexSlice.marks.Goals as goal

pub returns-clause-answer : goal.returns-clause-answer
returns-clause-answer c cs is few =
    let p = c.in_ok-passed.passed in
    let v = c.args.self.now in
    let read = c.in_ok-passed.ensures in
    subst (λ (w : IndexBytes). layers_left c.args.height p.place (drop (length w.bytes - length p.ends.now) v.bytes) (drop (length w.bytes - length p.texts.now) v.bytes)
    ≡ Some (lower_texts v.period c.args.height cs)) (sym c.self.view_is)
    (found_again v.bytes c.args.height p.place p.ends.now p.texts.now (lower_texts v.period c.args.height cs) read.ends read.texts (read.left cs is few))
