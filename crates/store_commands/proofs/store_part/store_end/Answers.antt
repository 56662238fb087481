use Rattle.std.proofs.Common.{◌≡◌, ℕ, ◌-◌, ◌<◌, length, inl, inr, refl, ap, ◌∙◌, subst, arith}
use Rattle.std.specs.Prelude.{slice_range}
use Rattle.store_base.specs.Files.{ReadsOnce}
use Rattle.store_commands.proofs.TailLemmas.{none_in_short, none_without, none_so_long, has_tail}
use Rattle.store_commands.proofs.store_part.store_end.Goals as goal

pub returns-then-len-lt-TANTIVY_TAIL_LEN-clause-end : goal.returns-then-len-lt-TANTIVY_TAIL_LEN-clause-end
returns-then-len-lt-TANTIVY_TAIL_LEN-clause-end g c =
    let short : length c.args.file.now.content < 8 = omega (arith, c.len-len.ensures) in
    (inr (short, refl), λ honest. none_in_short c.args.file.now.content short)

pub returns-clause-end : goal.returns-clause-end
returns-clause-end g c =
    let file = c.args.file.now.content in let len = c.len-len.result in (
      subst (λ (n : ℕ). ReadsOnce n c.args.file.now c.read_range.new.self) (omega (arith, c.if-len-lt-TANTIVY_TAIL_LEN.false)) c.read_range.ensures.once,
      omega (arith, c.len-len.ensures),
      λ honest.
          let is : c.as_slice.result.now ≡ slice_range file (len - 8) (length file) =
          c.as_slice.ensures ∙ c.in_ok-tail.ensures.bytes honest ∙ ap (slice_range file (len - 8)) c.len-len.ensures in
          has_tail file c.as_slice.result.now (len - 8) c.in-Some.length (omega (arith, c.len-len.ensures, c.if-len-lt-TANTIVY_TAIL_LEN.false)) (omega (arith, c.len-len.ensures)) is
          c.in-Some.ensures.0 c.in-Some.ensures.1 c.if-length-body.false,
    )

pub returns-in_default-clause-end : goal.returns-in_default-clause-end
returns-in_default-clause-end g c =
    let file = c.args.file.now.content in let len = c.len-len.result in (
      inl (subst (λ (n : ℕ). ReadsOnce n c.args.file.now c.read_range.new.self) (omega (arith, c.if-len-lt-TANTIVY_TAIL_LEN.false)) c.read_range.ensures.once),
      λ honest.
          let is : c.as_slice.result.now ≡ slice_range file (len - 8) (length file) =
          c.as_slice.ensures ∙ c.in_ok-tail.ensures.bytes honest ∙ ap (slice_range file (len - 8)) c.len-len.ensures in
          none_without file c.as_slice.result.now (len - 8) (omega (arith, c.len-len.ensures)) is c.in_default.ensures,
    )

pub returns-then-length-body-clause-end : goal.returns-then-length-body-clause-end
returns-then-length-body-clause-end g c =
    let file = c.args.file.now.content in let len = c.len-len.result in (
      inl (subst (λ (n : ℕ). ReadsOnce n c.args.file.now c.read_range.new.self) (omega (arith, c.if-len-lt-TANTIVY_TAIL_LEN.false)) c.read_range.ensures.once),
      λ honest.
          let is : c.as_slice.result.now ≡ slice_range file (len - 8) (length file) =
          c.as_slice.ensures ∙ c.in_ok-tail.ensures.bytes honest ∙ ap (slice_range file (len - 8)) c.len-len.ensures in
          none_so_long file c.as_slice.result.now (len - 8) c.in-Some.length (omega (arith, c.len-len.ensures)) is c.in-Some.ensures.0 c.in-Some.ensures.1 c.if-length-body.true,
    )
