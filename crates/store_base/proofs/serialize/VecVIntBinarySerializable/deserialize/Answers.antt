use Rattle.std.proofs.Common.{◌≡◌, ◌++◌, ◌∷◌, [], ◌^◌, List, ℕ, arith, ap, sym, ◌∙◌, append_assoc}
use Rattle.std.specs.List.{flat_map}
use Rattle.std.proofs.lemmas.List.{map_push, length_push}
use Rattle.std.proofs.lemmas.Result.{err_from_is_err_and}
use Rattle.store_base.specs.VInt.{number}
use Rattle.store_base.specs.Numbers.{values}
use Rattle.store_base.proofs.NumberLists.{below-push, fails_at, numbers-push}
use Rattle.store_base.proofs.serialize.VecVIntBinarySerializable.deserialize.Goals as goal

pub returns-in_err-value : goal.returns-in_err-value
returns-in_err-value c =
    let p = err_from_is_err_and c.from_residual-in_err-value.result c.from_residual-in_err-value.ensures.1 in
    let i = c.loop.invariant in
    rw (p.1, p.2) (fails_at c.args.bytes.now.now c.in_err-value.field-0.0 (record {
      count = c.in_ok-count.count;
      before = values c.loop.values;
      rest = c.loop.rest.now;
      fits = omega arith;
      below = i.below;
      earlier = omega (arith, i.counted);
      enough = i.enough;
      parts = i.parts;
      fails = c.in_err-value.ensures.text;
    }))

pub loop-preserved : goal.loop-preserved
loop-preserved c =
    let i = c.loop.invariant in
    let ns = values c.loop.values in
    let n = c.in_ok-value.value in
    let count = c.in_ok-count.count in
    let pushed : values c.push.new.self ≡ ns ++ n ∷ [] = rw c.in_ok-push.ensures.items (map_push _ c.loop.values.items _) in
    let read = c.in_ok-value.ensures.text in
    let step : flat_map number (ns ++ n ∷ []) ++ c.in_ok-value.after.now ≡ flat_map number ns ++ c.loop.rest.now = numbers-push ns n c.in_ok-value.after.now
    ∙ ap (λ (t : List ℕ). flat_map number ns ++ t) (sym read.1) in
    rw pushed (record {
      parts = i.parts ∙ append_assoc (number count) (flat_map number ns) c.loop.rest.now ∙ ap (λ (t : List ℕ). number count ++ t) (sym step)
          ∙ sym (append_assoc (number count) (flat_map number (ns ++ n ∷ [])) c.in_ok-value.after.now);
      below = below-push (2 ^ 64) ns n i.below read.0;
      counted = omega (arith, i.counted, length_push ns n);
      enough = rw step i.enough;
    })
