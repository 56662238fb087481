use Rattle.std.proofs.Common.{◌≡◌, length, ap, ◌∙◌, arith, rules, take, take_all}
use Rattle.std.specs.Int.{w32, from_le_bytes}
use Rattle.document_framing.proofs.LengthLemmas.{measured_read, nothing_measured}
use Rattle.document_framing.proofs.lengths.read_measured.Goals as goal

pub returns-clause-some : goal.returns-clause-some
returns-clause-some g c _ =
    let first = c.in_ok-read_up_to.ensures in
    let second = c.in_ok-read_up_to-2.ensures in
    let head = c.read_up_to.new.document.items in
    let document = c.read_up_to-2.new.document.items in
    let chunk = c.in-Some.ensures.cases in
    let four : length head ≡ 4 = omega (arith, first.few, chunk.enough, ap length c.deref.ensures.value) in
    let bytes : c.in-Some.head.now ≡ head = chunk.same ∙ ap (take 4) c.deref.ensures.value ∙ take_all 4 head (omega arith) in
    let len : length document ≡ c.from_le_bytes-len.result = omega (arith, second.few) in
    measured_read _ _ _ head document first.consumed second.consumed four (len ∙ c.from_le_bytes-len.ensures ∙ ap (from_le_bytes w32) bytes)

pub returns-then-is_empty : goal.returns-then-is_empty
returns-then-is_empty g c =
    let none : length c.read_up_to.new.document.items ≡ 0 = search rules in
    let nothing = nothing_measured _ _ c.read_up_to.new.document.items c.in_ok-read_up_to.ensures none in
    record { some = λ is. absurd (cc); none = λ _. nothing.0; last = λ _. nothing.1 }
