use Rattle.std.proofs.Common.{refl, arith}
use Rattle.store_reader.proofs.FindsOnceLemmas.{footer_or_refusal, one_footer}
use Rattle.store_c.proofs.CheckingLemmas.{check_of, index_at, says_footer}
use Rattle.store_c.proofs.checking.index_fault.Goals as goal

pub unreachable-requires : goal.unreachable-requires
unreachable-requires c =
    let at = index_at c.args.file.now c.requires in
    footer_or_refusal c.args.file.now at.footer c.in_default.field-0 at.reads (says_footer c.args.file.now _ (omega (arith, at.within)) c.in_default.ensures.says)

pub slice_bounds-find_fault-count : goal.slice_bounds-find_fault-count
slice_bounds-find_fault-count c =
    let at = index_at c.args.file.now c.requires in
    omega (arith, at.within, one_footer c.args.file.now at.footer c.in-Ok.footer at.reads (says_footer c.args.file.now _ (omega (arith, at.within)) c.in-Ok.ensures.says))

pub slice_bounds-find_fault-start : goal.slice_bounds-find_fault-start
slice_bounds-find_fault-start c =
    let at = index_at c.args.file.now c.requires in
    omega (arith, at.within, one_footer c.args.file.now at.footer c.in-Ok.footer at.reads (says_footer c.args.file.now _ (omega (arith, at.within)) c.in-Ok.ensures.says))

pub returns : goal.returns
returns c =
    let at = index_at c.args.file.now c.requires in
    let reads = says_footer c.args.file.now _ (omega (arith, at.within)) c.in-Ok.ensures.says in
    record {
      footer = c.in-Ok.footer;
      reads = reads;
      starts = refl;
      within = omega (arith, at.within, one_footer c.args.file.now at.footer c.in-Ok.footer at.reads reads);
      found = check_of c.in-Ok.footer.period _ c.find_fault.result c.find_fault.ensures.sound c.find_fault.ensures.broken c.find_fault.ensures.first;
    }
