-- How long a block and its parts are.
use Rattle.std.proofs.Common.{◌≡◌, ℕ, suc, ◌+◌, ◌*◌, List, [], ◌∷◌, ◌++◌, length, refl, sym, ◌∙◌, ap, arith, append_assoc, length-append}
use Rattle.std.proofs.lemmas.List.Concat.{concat_is, length-flat_map}
use Rattle.std.specs.List.{flat_map, concat, sum_by}
use Rattle.store_base.specs.Serialize.{fixed}
use Rattle.store_base.specs.SerializeLemmas.{length-fixed}
use Rattle.store_format.specs.Block.{starts_from, block}

pub length-fixeds : (ns : List ℕ) → length (flat_map (fixed 4) ns) ≡ 4 * length ns
length-fixeds [] = refl
length-fixeds (n ∷ ns) = omega (arith, length-append (fixed 4 n) (flat_map (fixed 4) ns), length-fixed 4 n, length-fixeds ns)

pub length-starts_from : (place : ℕ) (docs : List (List ℕ)) → length (starts_from place docs) ≡ length docs
length-starts_from place [] = refl
length-starts_from place (d ∷ docs) = ap suc (length-starts_from (place + length d) docs)

pub starts_from-append : (place : ℕ) (xs ys : List (List ℕ)) → starts_from place (xs ++ ys) ≡ starts_from place xs ++ starts_from (place + length (concat xs)) ys
starts_from-append place [] ys = ap (λ (p : ℕ). starts_from p ys) (omega arith)
starts_from-append place (x ∷ xs) ys =
    let places : (place + length x) + length (concat xs) ≡ place + length (concat (x ∷ xs)) = omega (arith, length-append x (concat xs)) in
    ap (λ (ps : List ℕ). place ∷ ps) (starts_from-append (place + length x) xs ys ∙ ap (λ (p : ℕ). starts_from (place + length x) xs ++ starts_from p ys) places)

pub concat-append : (xs ys : List (List ℕ)) → concat (xs ++ ys) ≡ concat xs ++ concat ys
concat-append [] ys = refl
concat-append (x ∷ xs) ys = ap (λ (zs : List ℕ). x ++ zs) (concat-append xs ys) ∙ sym (append_assoc x (concat xs) (concat ys))

pub length-block : (docs : List (List ℕ)) → length (block docs) ≡ length (concat docs) + 4 * length docs + 4
length-block docs =
    omega (
      arith,
      length-append (concat docs ++ flat_map (fixed 4) (starts_from 0 docs)) (fixed 4 (length docs)),
      length-fixed 4 (length docs),
      length-append (concat docs) (flat_map (fixed 4) (starts_from 0 docs)),
      length-fixeds (starts_from 0 docs),
      length-starts_from 0 docs,
    )

pub length-concat : (docs : List (List ℕ)) → length (concat docs) ≡ sum_by length docs
length-concat docs = ap length (concat_is docs) ∙ length-flat_map (λ (x : List ℕ). x) docs
