use Rattle.store_commands.proofs.BrokenLemmas.{breaks_file, has_footer}
use Rattle.store_commands.proofs.broken_part.part_before_footer.Goals as goal

pub part_before-requires : goal.part_before-requires
part_before-requires g c = has_footer c.args.file.now c.read_footer.new.file c.in_ok-footer.footer c.in_ok-footer.ensures

pub returns-clause-breaks : goal.returns-clause-breaks
returns-clause-breaks g c honest =
    breaks_file c.args.file.now c.read_footer.new.file c.in_ok-footer.footer c.part_before.result honest c.in_ok-footer.ensures c.part_before.ensures.breaks
