use Rattle.std.proofs.Common.{List, ℕ, ◌+◌, ◌*◌, Some, sym, ◌∙◌, ap, arith}
use Rattle.std.proofs.lemmas.List.{take_rest}
use Rattle.store_base.proofs.NumberLoops.{one_byte, two_bytes, three_bytes}
use Rattle.store_base.proofs.vint.split_short.Goals as goal

pub returns-in-len1-up : goal.returns-in-len1-up
returns-in-len1-up c =
    let bytes = c.args.bytes.now in
    let fits = c.type_inv.bytes 0 in
    one_byte bytes c.from.result c.in-len1-up.len_at_least c.if-last-ge-STOP_BIT.true (omega (arith, fits)) c.from.ensures
    ∙ ap (λ (r : List ℕ). Some (c.from.result, r)) (sym (take_rest bytes 1))

pub returns-in-len2-up : goal.returns-in-len2-up
returns-in-len2-up c =
    let bytes = c.args.bytes.now in
    let fits = c.type_inv.bytes 1 in
    let low = c.from-in-len2-up in
    let high = c.from-in-len2-up-2 in
    two_bytes bytes low.result high.result c.in-len2-up.len_at_least c.if-last-ge-STOP_BIT.false c.if-last-gt-STOP_BIT.true (omega (arith, fits)) low.ensures high.ensures
    ∙ ap (λ (r : List ℕ). Some (low.result + 128 * high.result, r)) (sym (take_rest bytes 2))

pub returns-in-len3-up : goal.returns-in-len3-up
returns-in-len3-up c =
    let bytes = c.args.bytes.now in
    let fits = c.type_inv.bytes 2 in
    let low = c.from-in-len3-up-3 in
    let middle = c.from-in-len3-up in
    let high = c.from-in-len3-up-2 in
    three_bytes bytes low.result middle.result high.result c.in-len3-up.len_at_least c.if-last-ge-STOP_BIT.false c.if-middle-lt-STOP_BIT.true c.if-last-gt-STOP_BIT-2.true
    (omega (arith, fits)) low.ensures middle.ensures high.ensures
    ∙ ap (λ (r : List ℕ). Some (low.result + 128 * (middle.result + 128 * high.result), r)) (sym (take_rest bytes 3))
