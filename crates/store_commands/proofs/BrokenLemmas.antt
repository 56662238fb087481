-- What a footer that was read tells of a file.
use Rattle.std.proofs.Common.{◌≡◌, ℕ, ◌-◌, ◌≤◌, arith, true, false, List, length, refl, sym, ap, subst}
use Rattle.std.specs.Prelude.{IsTrue, IfOk, Result, Ok, Err, slice_range, nat_lt}
use Rattle.std.proofs.lemmas.Bool.{ltb-true, ltb-false}
use Rattle.std.proofs.lemmas.Result.{IfOk-weaker}
use Rattle.store_base.specs.Files.{Part}
use Rattle.store_base.specs.declared.error.StoreError.{StoreError}
use Rattle.store_format.specs.declared.footer.DocStoreFooter.{DocStoreFooter}
use Rattle.store_format.specs.Extraction.{ExtractsFooter, Says, SaysFrom}
use Rattle.store_commands.specs.declared.broken_part.BrokenPart.{BrokenPart}
use Rattle.store_commands.specs.BrokenParts.{BreaksBefore, BreaksFile}

record IsSaid (file mid : Part) (footer : DocStoreFooter) : Type 0 where
  says : Says (slice_range file.content (length file.content - 28) (length file.content)) (Ok footer)
  content : mid.content ≡ file.content
  honest : mid.honest ≡ file.honest

says_from : (came : Result (List ℕ) StoreError) (bytes : List ℕ) (footer : DocStoreFooter) → IfOk came (λ b. b ≡ bytes) → SaysFrom came (Ok footer) → Says bytes (Ok footer)
says_from (Ok b) bytes footer same h = subst (λ (xs : List ℕ). Says xs (Ok footer)) same h
says_from (Err e) bytes footer same h = absurd cc

is_said : (file mid : Part) (footer : DocStoreFooter) → IsTrue file.honest → ExtractsFooter file (Ok footer) mid → IsSaid file mid footer
is_said file mid footer honest h = (elim (nat_lt (length file.content) 28) as (λ b. nat_lt (length file.content) 28 ≡ b → IsSaid file mid footer) [
  | true ↦ λ t. absurd (let bad = (h.short (ltb-true _ _ t)).0 in cc)
  | false ↦ λ t.
      let long = h.long (ltb-false _ _ t) in
      record { says = says_from long.0 _ footer (long.1.bytes honest) long.2; content = long.1.once.content; honest = long.1.once.honest }
]) refl

-- what is broken before the footer is broken in the file
pub breaks_file : (file mid : Part) (footer : DocStoreFooter) (r : Result BrokenPart StoreError) → IsTrue file.honest → ExtractsFooter file (Ok footer) mid
    → (IsTrue mid.honest → IfOk r (BreaksBefore mid.content footer)) → IfOk r (BreaksFile file.content)
breaks_file file mid footer r honest h breaks =
    let said = is_said file mid footer honest h in
    IfOk-weaker r (BreaksBefore mid.content footer) (BreaksFile file.content)
    (λ part b. record { footer = footer; says = said.says; breaks = subst (λ (xs : List ℕ). BreaksBefore xs footer part) said.content b }) (breaks (subst IsTrue (sym said.honest) honest))

-- a file whose footer was read has 28 bytes
pub has_footer : (file mid : Part) (footer : DocStoreFooter) → ExtractsFooter file (Ok footer) mid → 28 ≤ length mid.content
has_footer file mid footer h = (elim (nat_lt (length file.content) 28) as (λ b. nat_lt (length file.content) 28 ≡ b → 28 ≤ length mid.content) [
  | true ↦ λ t. absurd (let bad = (h.short (ltb-true _ _ t)).0 in cc)
  | false ↦ λ t. let le = ltb-false _ _ t in let long = h.long le in omega (arith, ap length long.1.once.content)
]) refl
