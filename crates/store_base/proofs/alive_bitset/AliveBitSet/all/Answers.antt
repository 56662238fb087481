use Rattle.std.proofs.Common.{◌≡◌, ◌*◌, ◌≤◌, ◌-◌, ◌^◌, replicate, sym, ◌∙◌, ap, arith}
use Rattle.std.specs.Prelude.{count_by}
use Rattle.store_base.specs.AliveBitSet.{flags_from}
use Rattle.store_base.proofs.BitsetLemmas.{flags_all, count_all}
use Rattle.store_base.proofs.alive_bitset.AliveBitSet.all.Goals as goal

pub invariant_of-result : goal.invariant_of-result
invariant_of-result c =
    let n = c.div_ceil-num_words.result in
    let words : c.in_ok-vec.field-0.items ≡ replicate n (2 ^ 64 - 1) = c.in_ok-vec.ensures.items_if_clones_equal (λ y e. e) in
    let enough : c.args.max_doc ≤ 64 * n = omega arith in
    let flags = ap (flags_from c.args.max_doc 0) words ∙ flags_all c.args.max_doc n enough in
    (omega (arith, c.in_ok-vec.ensures.len), omega arith, sym (ap (count_by (λ alive. alive)) flags ∙ count_all c.args.max_doc))

pub returns : goal.returns
returns c =
    let n = c.div_ceil-num_words.result in
    let words : c.in_ok-vec.field-0.items ≡ replicate n (2 ^ 64 - 1) = c.in_ok-vec.ensures.items_if_clones_equal (λ y e. e) in
    let enough : c.args.max_doc ≤ 64 * n = omega arith in
    ap (flags_from c.args.max_doc 0) words ∙ flags_all c.args.max_doc n enough
