use Rattle.std.proofs.Common.{◌≡◌, Bool, true, Bor, Option, List, [], ◌∷◌, refl, sym, subst}
use Rattle.std.specs.List.{list_all, range_with_len}
use Rattle.store_reader.specs.Iteration.{is_in}
use Rattle.store_reader.specs.Walking.{set_of}
use Rattle.store_merge.proofs.choosing.are_all_alive.Goals as goal

each_passes : {X : Type 0} (xs : List X) → list_all (λ _. true) xs ≡ true
each_passes [] = refl
each_passes (x ∷ xs) = each_passes xs

pub returns-in-None : goal.returns-in-None
returns-in-None c =
    subst (λ (alive : Option (Bor (List Bool))). true ≡ list_all (is_in (set_of alive)) (range_with_len 0 c.args.count)) (sym c.in-None.is)
    (sym (each_passes (range_with_len 0 c.args.count)))
