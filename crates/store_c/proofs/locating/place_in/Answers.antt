use Rattle.std.proofs.Common.{refl}
use Rattle.store_c.proofs.TableViewLemmas.{has, lies}
use Rattle.store_c.proofs.locating.place_in.Goals as goal

pub returns-in-Some : goal.returns-in-Some
returns-in-Some c table held =
    let r = c.in-Some.ensures in
    let inside = rw c.part-block.ensures at r.within in
    let is = rw c.part-block.ensures at r.slot in
    let from = c.requires.from in
    let to = c.requires.to in
    lies _ table c.args.doc_id _ _ c.args.block.now _ (λ known. held.sought known c.args.doc_id from to) held.order held.within refl refl r.order inside is

pub returns-in-None : goal.returns-in-None
returns-in-None c table held known =
    let is = rw c.part-block.ensures at c.in-None.ensures.slot in
    has _ known.store _ c.args.block.now _ (held.sought known c.args.doc_id c.requires.from c.requires.to) is
