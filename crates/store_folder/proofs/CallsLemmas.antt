-- What is known of calls that were made one after the other.
use Rattle.std.proofs.Common.{◌≡◌, ◌⊎◌, inl, inr, List, [], ◌∷◌, ◌++◌, Bool, true, false, refl, sym, subst}
use Rattle.store_folder.specs.Calls.{Doing, Kind, Does, Carried, AreReady}

never : {A : Type 0} → true ≡ false → A
never e = let no : ⊥ = cc in absurd no

module _ {F : Type 0} (k : Kind F) where
  -- one call more
  pub one_more : (calls : List Doing) (call : Doing) (ok : Bool) (old mid new : F) → Carried k calls true old mid → Does k call ok mid new → Carried k (calls ++ call ∷ []) ok old new
  one_more [] call true old mid new made does = inr (new, subst (λ (f : F). Does k call true f new) made.1 does, (refl, refl))
  one_more [] call false old mid new made does = inl (refl, subst (λ (f : F). Does k call false f new) made.1 does)
  one_more (first ∷ calls) call ok old mid new made does = elim made [
    | inl failed ↦ never failed.0
    | inr went ↦ inr (went.0, went.1, one_more calls call ok went.0 mid new went.2 does)
  ]

  -- calls after one that failed are not made
  pub no_more : (calls more : List Doing) (old new : F) → Carried k calls false old new → Carried k (calls ++ more) false old new
  no_more [] more old new made = never (sym made.0)
  no_more (first ∷ calls) more old new made = elim made [
    | inl failed ↦ inl failed
    | inr went ↦ inr (went.0, went.1, no_more calls more went.0 new went.2)
  ]

  -- what the next call needs is there
  pub ready_after : (calls more : List Doing) (old mid : F) → AreReady k (calls ++ more) old → Carried k calls true old mid → AreReady k more mid
  ready_after [] more old mid ready made = subst (λ (f : F). AreReady k more f) (sym made.1) ready
  ready_after (first ∷ calls) more old mid ready made = elim made [
    | inl failed ↦ never failed.0
    | inr went ↦ ready_after calls more went.0 mid (ready.1 went.0 went.1) went.2
  ]

  -- two calls: the first failed, or the second was made after it
  pub two : (a b : Doing) (ok : Bool) (old new : F) → Carried k (a ∷ b ∷ []) ok old new
      → ((ok ≡ false) × Does k a false old new) ⊎ ((mid : F) × Does k a true old mid × Does k b ok mid new)
  two a b ok old new made = elim made [
    | inl failed ↦ inl failed
    | inr went ↦ elim went.2 [
      | inl failed ↦ inr (went.0, went.1, subst (λ (x : Bool). Does k b x went.0 new) (sym failed.0) failed.1)
      | inr last ↦ inr (went.0, went.1, subst (λ (x : Bool). Does k b x went.0 new) (sym last.2.0) (subst (λ (f : F). Does k b true went.0 f) (sym last.2.1) last.1))
    ]
  ]

  -- one call of a list, and those after it
  pub first_call : (call : Doing) (calls : List Doing) (ok : Bool) (old new : F) → Carried k (call ∷ calls) ok old new
      → ((ok ≡ false) × Does k call false old new) ⊎ ((mid : F) × Does k call true old mid × Carried k calls ok mid new)
  first_call call calls ok old new made = made

  -- the last one
  pub last_call : (call : Doing) (ok : Bool) (old new : F) → Carried k (call ∷ []) ok old new → Does k call ok old new
  last_call call ok old new made = elim made [
    | inl failed ↦ subst (λ (x : Bool). Does k call x old new) (sym failed.0) failed.1
    | inr last ↦ subst (λ (x : Bool). Does k call x old new) (sym last.2.0) (subst (λ (f : F). Does k call true old f) (sym last.2.1) last.1)
  ]
