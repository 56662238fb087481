use Rattle.std.proofs.Common.{◌≡◌, ◌+◌, ◌*◌, ◌^◌, ◌<◌, length, get_or, refl, sym, ◌∙◌, ap, subst, arith}
use Rattle.std.proofs.lemmas.List.{take_all}
use Rattle.segmented_log.specs.Names.{digits}
use Rattle.segmented_log.proofs.NumberLemmas.{no_digit, digits_step, power_step, power_le}
use Rattle.segmented_log.proofs.numbers.number_of.Goals as goal
use Rattle.segmented_log.proofs.numbers.number_of.Goals.{then-byte-lt48-via-then-byte-lt48, then-byte-lt48-via-else-byte-lt48+then-byte-gt57}

pub returns-then-byte-lt48-clause-none : goal.returns-then-byte-lt48-clause-none
returns-then-byte-lt48-clause-none c = λ n.
    let i = c.loop-byte.byte-index in
    let bytes = c.args.bytes.now in
    no_digit bytes i (get_or bytes i 0) n c.loop-byte-test.true refl
    (λ d. elim c.then-byte-lt48.branch [
      | then-byte-lt48-via-then-byte-lt48 w ↦ omega (arith, d.0, w.if-byte-lt48.true)
      | then-byte-lt48-via-else-byte-lt48+then-byte-gt57 w ↦ omega (arith, d.1, w.if-byte-gt57.true)
    ])

pub loop-byte-preserved : goal.loop-byte-preserved
loop-byte-preserved c =
    let i = c.loop-byte.byte-index in
    let bytes = c.args.bytes.now in
    let n = c.loop-byte.number in
    let b = get_or bytes i 0 in (
      digits_step bytes i n b c.loop-byte-test.true refl c.if-byte-lt48.false c.if-byte-gt57.false c.loop-byte.invariant.0 ∙ ap (λ k. digits (i + 1) (n * 10 + k)) (sym c.from.ensures),
      subst (λ k. n * 10 + k < 10 ^ (i + 1)) (sym c.from.ensures) (power_step i n b c.loop-byte.invariant.1 c.if-byte-gt57.false),
    )

pub returns-clause-some : goal.returns-clause-some
returns-clause-some c =
    let i = c.loop-byte.byte-index in
    let bytes = c.args.bytes.now in
    let at_end : i ≡ length bytes = omega arith in
    let within = power_le i 20 (omega (arith, c.requires, at_end)) in (
      sym (take_all i bytes (omega (arith, at_end))) ∙ c.loop-byte.invariant.0 ∙ ap (λ k. digits k c.loop-byte.number) at_end,
      omega (arith, c.loop-byte.invariant.1, within),
    )
