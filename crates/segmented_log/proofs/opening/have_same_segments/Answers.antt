use Rattle.std.proofs.Common.{map, string_bytes, ◌∙◌}
use Rattle.segmented_log.proofs.ListingLemmas.{one_listing, same_list}
use Rattle.segmented_log.proofs.opening.have_same_segments.Goals as goal

pub returns : goal.returns
returns c = λ seen all others.
    let numbers = c.in_ok-numbers_in.field-0.items in
    let more = c.in_ok-numbers_in-2.field-0.items in
    c.eq.ensures
    ∙ same_list numbers more (one_listing seen (map string_bytes c.args.names.now) (map string_bytes c.args.others.now) numbers more all others c.in_ok-numbers_in.ensures.numbers
    c.in_ok-numbers_in-2.ensures.numbers c.in_ok-numbers_in.ensures.ascend c.in_ok-numbers_in-2.ensures.ascend)
