use Rattle.std.proofs.Common.{◌≡◌, ◌/◌, ◌%◌, ◌*◌, ◌^◌, Bool, List, true, false, cond, eqb, length, get_or, set, sym, ◌∙◌, ap, arith}
use Rattle.std.specs.Prelude.{bit_and}
use Rattle.std.specs.Int.{w64, bit_not}
use Rattle.std.proofs.lemmas.List.{length-set}
use Rattle.store_base.specs.AliveBitSet.{is_alive_at, flags_from}
use Rattle.store_base.proofs.BitsetLemmas.{not_dead, alive_within, Deletes, deletes, alive_after}
use Rattle.store_base.proofs.alive_bitset.AliveBitSet.delete.Goals as goal

pub index_mut-requires : goal.index_mut-requires
index_mut-requires c =
    let alive = ap (λ (flags : List Bool). is_alive_at flags c.args.id) c.self.view_is ∙ not_dead _ (sym c.is_deleted.ensures ∙ c.if-is_deleted.false) in
    omega (arith, alive_within c.self.inside.max_doc 0 c.args.id c.self.inside.words.items alive, c.self.invariant.0)

alive : (c : goal.After-self-2-1) → get_or (flags_from c.self.inside.max_doc 0 c.self.inside.words.items) c.args.id false ≡ true
alive c = ap (λ (flags : List Bool). is_alive_at flags c.args.id) c.self.view_is ∙ not_dead _ (sym c.is_deleted.ensures ∙ c.if-is_deleted.false)

step : (c : goal.After-self-2-1)
    → Deletes c.self.inside.max_doc c.self.inside.num_alive c.args.id c.self.inside.words.items
    (set c.self.inside.words.items (c.args.id / 64) (bit_and c.index_mut.result.now (bit_not w64 (1 * 2 ^ (c.args.id % 64) % 2 ^ 64))))
step c = deletes c.self.inside.max_doc c.self.inside.num_alive c.args.id c.self.inside.words.items c.index_mut.result.now c.self.invariant.0 c.self.invariant.2 (alive c) c.index_mut.ensures.value

pub invariant_of-self : goal.invariant_of-self
invariant_of-self c = ((step c).fits, c.self.invariant.1, (step c).count)

pub returns-clause-len : goal.returns-clause-len
returns-clause-len c = ap length (step c).flags ∙ length-set (flags_from c.self.inside.max_doc 0 c.self.inside.words.items) c.args.id false ∙ ap length c.self.view_is

pub returns-clause-each : goal.returns-clause-each
returns-clause-each c k =
    ap (λ (flags : List Bool). is_alive_at flags k) (step c).flags
    ∙ alive_after (flags_from c.self.inside.max_doc 0 c.self.inside.words.items) c.args.id k (alive c)
    ∙ ap (λ (flags : List Bool). cond (eqb k c.args.id) false (is_alive_at flags k)) c.self.view_is
