use Rattle.std.proofs.Common.{arith, sym}
use Rattle.store_base.specs.ReadingLemmas.{bytes_from}
use Rattle.layered_index.proofs.SoughtLemmas.{pointed_scanned, scanned_past, read_nothing, pair_is}
use Rattle.layered_index.proofs.run_seek.seek_pointed.Goals as goal

pub returns-in_err-found-clause-answer : goal.returns-in_err-found-clause-answer
returns-in_err-found-clause-answer c run is = absurd (read_nothing _ c.in_err-found.ensures.read (pointed_scanned c.args.period c.args.target run c.args.pointer.now c.args.block.now is))

pub returns-then-doc-pointer-clause-answer : goal.returns-then-doc-pointer-clause-answer
returns-then-doc-pointer-clause-answer c run is =
    let pair = pair_is _ c.in_ok-found.found _ _ _ c.in_ok-found.ensures.read (pointed_scanned c.args.period c.args.target run c.args.pointer.now c.args.block.now is) in
    absurd (c.if-doc-pointer.true pair.1)

pub returns-clause-answer : goal.returns-clause-answer
returns-clause-answer c run is = (pair_is _ c.in_ok-found.found _ _ _ c.in_ok-found.ensures.read (pointed_scanned c.args.period c.args.target run c.args.pointer.now c.args.block.now is)).0

pub returns-clause-past : goal.returns-clause-past
returns-clause-past c =
    scanned_past c.args.period c.args.target c.args.block.now c.in_ok-found.found _ (bytes_from c.args.block.now (λ i. omega (arith, c.type_inv.block i))) (sym c.in_ok-found.ensures.read)
