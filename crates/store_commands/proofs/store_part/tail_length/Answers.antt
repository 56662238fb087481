use Rattle.store_commands.proofs.TailLemmas.{numbers_of_tail}
use Rattle.store_commands.proofs.store_part.tail_length.Goals as goal

pub returns-then-magic-ne-TANTIVY_MAGIC : goal.returns-then-magic-ne-TANTIVY_MAGIC
returns-then-magic-ne-TANTIVY_MAGIC c len few e =
    let first = c.in-Ok.ensures.reads in let second = c.in-Ok-deserialize.ensures.reads in
    c.if-magic-ne-TANTIVY_MAGIC.true (numbers_of_tail c.args.tail.now _ _ c.in-Ok.length c.in-Ok-deserialize.magic len first.0 second.0 few first.1 second.1 e).1
