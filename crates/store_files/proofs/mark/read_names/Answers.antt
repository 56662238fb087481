use Rattle.std.proofs.Common.{◌≡◌, rules}
use Rattle.store_files.proofs.ByteLemmas.{name_read}
use Rattle.store_files.proofs.mark.read_names.Goals as goal

pub loop-name-preserved : goal.loop-name-preserved
loop-name-preserved c =
    let same : c.in_ok-to_vec.field-0.items ≡ c.in-Some.name.now = search rules in
    name_read c.args.bytes.now c.loop-name.names.items c.in_ok-to_vec.field-0 c.loop-name.left.now c.in-Some.rest.now c.in-Some.name.now c.push.new.self.items
    c.loop-name.invariant c.in-Some.ensures.parts same c.in_ok-push.ensures.items
