use Rattle.std.proofs.Common.{◌≡◌, ℕ, List, false, take, get_or, sym, subst, rules, string_bytes}
use Rattle.std.specs.Prelude.{All, IsTrue, String}
use Rattle.std.specs.declared.alloc.Global.{Global}
use Rattle.std.proofs.lemmas.List.{take_more, take_all}
use Rattle.std.proofs.lemmas.List.Elements.{All-push}
use Rattle.store_files.specs.Knowledge.{is_part, said}
use Rattle.store_files.specs.declared.knowledge.Knowledge.{Knowledge}
use Rattle.store_files.specs.declared.knowledge.Standing.TheVariants.{Synced}
use Rattle.store_files.proofs.mark.are_synced.Goals as goal

abbrev IsSynced : Knowledge → String Global → Type 0
IsSynced k name = is_part (string_bytes name) ≡ false → said k (string_bytes name) ≡ Synced

pub loop-name-preserved : goal.loop-name-preserved
loop-name-preserved c =
    let k = c.args.knowledge.now in
    let names = c.args.names.now in
    let item = c.name-item.result in
    let yes : IsTrue c.has_end-is_synced.result = search rules in
    let this : IsSynced k item = subst (λ (n : List ℕ). is_part n ≡ false → said k n ≡ Synced) c.as_str.ensures.value (c.has_end-is_synced.ensures yes) in
    subst (λ (ns : List (String Global)). All (IsSynced k) ns) (sym (take_more names c.loop-name.name-index item c.loop-name-test.true))
    (All-push (IsSynced k) (take c.loop-name.name-index names) (get_or names c.loop-name.name-index item) c.loop-name.invariant (subst (IsSynced k) c.name-item.is this))

pub returns : goal.returns
returns c = λ yes.
    subst (λ (ns : List (String Global)). All (IsSynced c.args.knowledge.now) ns) (take_all c.loop-name.name-index c.args.names.now c.loop-name-test.false) c.loop-name.invariant
