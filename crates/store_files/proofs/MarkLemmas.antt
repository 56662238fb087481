-- What a mark claims, and what is known.
use Rattle.std.proofs.Common.{◌≡◌, ◌≢◌, ℕ, ◌≤◌, Bool, true, false, List, [], ◌∷◌, ◌++◌, ◌||◌, refl, sym, ◌∙◌, ap, subst, nat_eq, arith}
use Rattle.std.specs.Prelude.{if◌then◌else◌, IsTrue, Vec}
use Rattle.std.specs.declared.alloc.Global.{Global}
use lib.Pointwise.{pointwise}
use Rattle.store_files.specs.Knowledge.{is_part, rank}
use Rattle.store_files.specs.Mark.{others_of, claims_entries, named, claimed, ClaimsNoMore}
use Rattle.store_files.specs.declared.knowledge.Standing.{Standing}
use Rattle.store_files.specs.declared.knowledge.Standing.TheVariants.{Failed}
use Rattle.store_files.specs.declared.mark.MarkKind.{MarkKind}
use Rattle.store_files.specs.declared.mark.MarkKind.TheVariants.{Ended, Open, Unsure}
use Rattle.store_files.specs.declared.mark.Mark.{Mark}
use Rattle.store_files.proofs.KnowledgeLemmas.{equal}

only_ended : (kind : MarkKind) → kind ≢ Ended → IsTrue (claims_entries kind) → (b : Bool) → IsTrue b
only_ended Ended ne is b = absurd (ne refl)
only_ended Open ne is b = let none : ⊥ = cc in absurd none
only_ended Unsure ne is b = let none : ⊥ = cc in absurd none

-- one name more
pub named-more : (names : List (Vec ℕ Global)) (name : Vec ℕ Global) (n : List ℕ) → named (names ++ name ∷ []) n ≡ (if pointwise nat_eq name.items n then true else named names n)
named-more [] name n = told (pointwise nat_eq name.items n)
  where
    told : (b : Bool) → (b || false) ≡ (if b then true else false)
    told true = refl
    told false = refl
named-more (first ∷ names) name n = ap (λ (b : Bool). pointwise nat_eq first.items n || b) (named-more names name n) ∙ told (pointwise nat_eq first.items n) (pointwise nat_eq name.items n)
  where
    told : (a b : Bool) → (a || (if b then true else named names n)) ≡ (if b then true else (a || named names n))
    told true true = refl
    told true false = refl
    told false true = refl
    told false false = refl

-- what is not among the names with one more is not among those without it, and is not that one
pub not_named : (names : List (Vec ℕ Global)) (name : Vec ℕ Global) (n : List ℕ) → named (names ++ name ∷ []) n ≡ false → (named names n ≡ false) × (pointwise nat_eq name.items n ≡ false)
not_named names name n is = told (pointwise nat_eq name.items n) refl (sym (named-more names name n) ∙ is)
  where
    told : (b : Bool) → b ≡ pointwise nat_eq name.items n → (if pointwise nat_eq name.items n then true else named names n) ≡ false → (named names n ≡ false) × (pointwise nat_eq name.items n ≡ false)
    told true e q = let none : true ≡ false = subst (λ (b : Bool). (if b then true else named names n) ≡ false) (sym e) q in let no_case : ⊥ = cc in absurd no_case
    told false e q = (subst (λ (b : Bool). (if b then true else named names n) ≡ false) (sym e) q, sym e)

-- a mark with one name more
pub claims_less : (mark more : Mark) (name : Vec ℕ Global) → more.kind ≡ mark.kind → more.names.items ≡ mark.names.items ++ name ∷ [] → (n : List ℕ) → rank (claimed more n) ≤ rank (claimed mark n)
claims_less mark more name kind names n = told (is_part n)
  where
    inner : (b : Bool) → rank (if (if b then true else named mark.names.items n) then Failed else others_of more.kind) ≤ rank (if named mark.names.items n then Failed else others_of mark.kind)
    inner true = omega arith
    inner false = subst (λ (k : MarkKind). rank (if named mark.names.items n then Failed else others_of more.kind) ≤ rank (if named mark.names.items n then Failed else others_of k)) kind (omega arith)

    told : (p : Bool) → rank (if p then Failed else (if named more.names.items n then Failed else others_of more.kind))
        ≤ rank (if p then Failed else (if named mark.names.items n then Failed else others_of mark.kind))
    told true = omega arith
    told false = subst (λ (b : Bool). rank (if b then Failed else others_of more.kind) ≤ rank (if named mark.names.items n then Failed else others_of mark.kind))
        (sym (ap (λ (ns : List (Vec ℕ Global)). named ns n) names ∙ named-more mark.names.items name n)) (inner (pointwise nat_eq name.items n))

pub claims_nothing : (more : Mark) (names : List (Vec ℕ Global)) (name : Vec ℕ Global) (n : List ℕ) → name.items ≡ n → more.names.items ≡ names ++ name ∷ [] → claimed more n ≡ Failed
claims_nothing more names name n same is =
    ap (λ (b : Bool). if is_part n then Failed else (if b then Failed else others_of more.kind))
    (ap (λ (ns : List (Vec ℕ Global)). named ns n) is ∙ named-more names name n ∙ ap (λ (b : Bool). if b then true else named names n) (equal name.items n same))
    ∙ told (is_part n)
  where
    told : (p : Bool) → (if p then Failed else Failed) ≡ Failed
    told true = refl
    told false = refl

-- a mark that names all of which less is known than of the others
pub claims_known : (mark : Mark) (others : Standing) (known : List ℕ → Standing) (entries : Bool) → mark.kind ≢ Ended → others_of mark.kind ≡ others
    → ((n : List ℕ) → is_part n ≡ false → named mark.names.items n ≡ false → rank others ≤ rank (known n)) → ClaimsNoMore mark others known entries
claims_known mark others known entries ne rest each = record {
  files = λ n. told n (is_part n) refl (named mark.names.items n) refl;
  rest = subst (λ (s : Standing). rank s ≤ rank others) (sym rest) (omega arith);
  all_entries = λ is. only_ended mark.kind ne is entries;
}
  where
    told : (n : List ℕ) → (p : Bool) → p ≡ is_part n → (q : Bool) → q ≡ named mark.names.items n → rank (claimed mark n) ≤ rank (known n)
    told n true e q f = subst (λ (b : Bool). rank (if b then Failed else (if named mark.names.items n then Failed else others_of mark.kind)) ≤ rank (known n)) e (omega arith)
    told n false e true f =
        subst (λ (b : Bool). rank (if b then Failed else (if named mark.names.items n then Failed else others_of mark.kind)) ≤ rank (known n)) e
        (subst (λ (b : Bool). rank (if b then Failed else others_of mark.kind) ≤ rank (known n)) f (omega arith))
    told n false e false f =
        subst (λ (b : Bool). rank (if b then Failed else (if named mark.names.items n then Failed else others_of mark.kind)) ≤ rank (known n)) e
        (subst (λ (b : Bool). rank (if b then Failed else others_of mark.kind) ≤ rank (known n)) f
        (subst (λ (s : Standing). rank s ≤ rank (known n)) (sym rest) (each n (sym e) (sym f))))

pub claims_fewer : (mark more : Mark) (others : Standing) (known : List ℕ → Standing) (entries : Bool) → more.kind ≡ mark.kind → ((n : List ℕ) → rank (claimed more n) ≤ rank (claimed mark n))
    → ClaimsNoMore mark others known entries → ClaimsNoMore more others known entries
claims_fewer mark more others known entries kind less was = record {
  files = λ n. let one = less n in let two = was.files n in omega (arith, one, two);
  rest = subst (λ (k : MarkKind). rank (others_of k) ≤ rank others) (sym kind) was.rest;
  all_entries = λ is. was.all_entries (subst (λ (k : MarkKind). IsTrue (claims_entries k)) kind is);
}

pub never_failed : (kind : MarkKind) → others_of kind ≢ Failed
never_failed Ended is = let none : ⊥ = cc in absurd none
never_failed Open is = let none : ⊥ = cc in absurd none
never_failed Unsure is = let none : ⊥ = cc in absurd none
