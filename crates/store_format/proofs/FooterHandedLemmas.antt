-- What reading a footer leaves of a file, and when it fails for a read.
use Rattle.std.proofs.Common.{◌≡◌, ◌⊎◌, inl, inr, ℕ, ◌-◌, ◌≤◌, true, false, List, length, nat_lt, refl, ap, ◌∙◌, arith}
use Rattle.std.specs.Prelude.{Result, Ok, Err}
use Rattle.std.proofs.lemmas.Bool.{ltb-true, ltb-false}
use Rattle.store_base.specs.Counts.{HasRisen}
use Rattle.store_base.specs.Files.{Part}
use Rattle.store_base.specs.declared.error.StoreError.{StoreError}
use Rattle.store_base.specs.declared.error.StoreError.TheVariants.{Read}
use Rattle.store_format.specs.declared.footer.DocStoreFooter.{DocStoreFooter}
use Rattle.store_format.specs.Extraction.{SaysFrom, ExtractsFooter}
use Rattle.store_format.specs.FileReading.{Comes}

-- what no reading changes
pub record IsSameFile (old new : Part) : Type 0 where
  pub content : new.content ≡ old.content
  pub failures : old.failures ≤ new.failures

pub same_part : (old new : Part) → new ≡ old → IsSameFile old new
same_part old new same = let count : new.failures ≡ old.failures = ap (λ (p : Part). p.failures) same in record { content = ap (λ (p : Part). p.content) same; failures = omega arith }

pub extracts_same : (old mid : Part) (said : Result DocStoreFooter StoreError) → ExtractsFooter old said mid → IsSameFile old mid
extracts_same old mid said r = (elim (nat_lt (length old.content) 28) as (λ y. nat_lt (length old.content) 28 ≡ y → IsSameFile old mid) [
  | true ↦ λ t. same_part old mid (r.short (ltb-true _ _ t)).1
  | false ↦ λ t. let once = (r.long (ltb-false _ _ t)).1.once in record { content = once.content; failures = once.failures }
]) refl

pub footer_failed : (old mid : Part) → ExtractsFooter old (Err Read) mid → HasRisen old.failures mid.failures
footer_failed old mid r = (elim (nat_lt (length old.content) 28) as (λ y. nat_lt (length old.content) 28 ≡ y → HasRisen old.failures mid.failures) [
  | true ↦ λ t. let no = (r.short (ltb-true _ _ t)).0 in absurd cc
  | false ↦ λ t. let long = r.long (ltb-false _ _ t) in go long.0 long.1 long.2
]) refl
  where
    go : (came : Result (List ℕ) StoreError) → Comes old (length old.content - 28) (length old.content) came mid → SaysFrom came (Err Read) → HasRisen old.failures mid.failures
    go (Err d) comes is = comes.failed (cc)
    go (Ok b) comes is = absurd is

-- where the footer is refused for another cause, or comes, no failure was counted
pub footer_steady : (old mid : Part) (said : Result DocStoreFooter StoreError) → ExtractsFooter old said mid → (said ≡ Err Read) ⊎ (mid.failures ≡ old.failures)
footer_steady old mid said r = (elim (nat_lt (length old.content) 28) as (λ y. nat_lt (length old.content) 28 ≡ y → (said ≡ Err Read) ⊎ (mid.failures ≡ old.failures)) [
  | true ↦ λ t. inr (ap (λ (p : Part). p.failures) (r.short (ltb-true _ _ t)).1)
  | false ↦ λ t. let long = r.long (ltb-false _ _ t) in go long.0 long.1 long.2
]) refl
  where
    go : (came : Result (List ℕ) StoreError) → Comes old (length old.content - 28) (length old.content) came mid → SaysFrom came said → (said ≡ Err Read) ⊎ (mid.failures ≡ old.failures)
    go (Err d) comes is = elim comes.steady [
      | inl failed ↦ inl (is ∙ ap Err (same_error d failed))
      | inr stays ↦ inr stays
    ]
      where
        same_error : (d : StoreError) → ◌≡◌ {A = Result (List ℕ) StoreError} (Err d) (Err Read) → d ≡ Read
        same_error d e = cc
    go (Ok b) comes is = elim comes.steady [ inl failed ↦ absurd (cc) | inr stays ↦ inr stays ]

-- Where the footer is refused the file is left too.
pub footer_handed : (old mid : Part) (said : Result DocStoreFooter StoreError) → ExtractsFooter old said mid → mid.content ≡ old.content
footer_handed old mid said r = (extracts_same old mid said r).content
