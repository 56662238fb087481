use Rattle.std.proofs.Common.{◌≡◌, ◌/◌, ◌%◌, ◌<◌, ℕ, Bool, List, eqb, length, sym, ◌∙◌, ap, arith, get_or}
use Rattle.std.proofs.lemmas.Grind.{get_or_default_zero}
use Rattle.std.proofs.lemmas.Nat.Bits.{shr_and_one}
use Rattle.std.specs.Int.{bit_at}
use Rattle.store_base.specs.AliveBitSet.{is_alive_at}
use Rattle.store_base.proofs.BitsetLemmas.{flag_of, no_flag}
use Rattle.store_base.proofs.alive_bitset.AliveBitSet.is_alive.Goals as goal

pub returns-then-id-self : goal.returns-then-id-self
returns-then-id-self c =
    sym (no_flag c.self.inside.max_doc 0 c.args.id c.self.inside.words.items c.if-id-self.true) ∙ ap (λ (flags : List Bool). is_alive_at flags c.args.id) c.self.view_is

pub returns : goal.returns
returns c =
    let words = c.self.inside.words.items in
    let id = c.args.id in
    let within : id / 64 < length words = omega (arith, c.self.invariant.0) in
    let word : c.index.result.now ≡ get_or words (id / 64) 0 = c.index.ensures ∙ get_or_default_zero words (id / 64) c.index.result.now within in
    ap (λ (n : ℕ). eqb n 1) (shr_and_one c.index.result.now (id % 64) ∙ ap (λ (w : ℕ). bit_at w (id % 64)) word)
    ∙ sym (flag_of c.self.inside.max_doc id words c.if-id-self.false)
    ∙ ap (λ (flags : List Bool). is_alive_at flags id) c.self.view_is
