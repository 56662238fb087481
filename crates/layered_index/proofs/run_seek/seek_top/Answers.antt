use Rattle.std.proofs.Common.{arith, sym}
use Rattle.store_base.specs.ReadingLemmas.{bytes_from}
use Rattle.layered_index.proofs.SoughtLemmas.{top_scanned, scanned_past, read_nothing, pair_is}
use Rattle.layered_index.proofs.run_seek.seek_top.Goals as goal

pub returns-in_err-found-clause-answer : goal.returns-in_err-found-clause-answer
returns-in_err-found-clause-answer c cs h text above = absurd (read_nothing _ c.in_err-found.ensures.read (top_scanned c.args.period c.args.target c.args.layer.now cs c.requires.most h text above))

pub returns-clause-answer : goal.returns-clause-answer
returns-clause-answer c cs h text above =
    (pair_is _ c.in_ok-found.found _ _ _ c.in_ok-found.ensures.read (top_scanned c.args.period c.args.target c.args.layer.now cs c.requires.most h text above)).0

pub returns-clause-past : goal.returns-clause-past
returns-clause-past c =
    scanned_past c.args.period c.args.target c.args.layer.now c.in_ok-found.found _ (bytes_from c.args.layer.now (λ i. omega (arith, c.type_inv.layer i))) (sym c.in_ok-found.ensures.read)
