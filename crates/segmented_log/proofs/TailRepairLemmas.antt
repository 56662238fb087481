-- A tail whose torn end is cut off.
use Rattle.std.proofs.Common.{◌≡◌, ℕ, List, length, take, refl, sym, ◌∙◌, ap, subst, arith}
use Rattle.std.specs.Prelude.{All}
use Rattle.std.specs.List.{flat_map}
use Rattle.std.proofs.lemmas.List.{take-take, length-take-le}
use Rattle.store_folder.specs.Moments.{ComesFrom}
use Rattle.store_folder.specs.Folder.{Look, ElsewhereOfBoth}
use Rattle.log_tail.specs.declared.batches.Place.{Place}
use Rattle.log_tail.specs.Place.{contents, EndsBy}
use Rattle.log_tail.specs.Tail.{records_in, records_of, first_of, IsTail, IsWholeTo}
use Rattle.log_tail.proofs.Tails.{cut_bodies, cut_whole}
use Rattle.log_tail.proofs.Logs.{first_same, contents_same}

-- nothing changed
pub nothing_changed : (name other : List ℕ) (may_leave : Look → Type 0) → ComesFrom (ElsewhereOfBoth name other) may_leave may_leave
nothing_changed name other may_leave c left = (c, left, λ n _ _. refl)

-- all of it is whole batches
pub whole_all : (bytes : List ℕ) (end : ℕ) → end ≡ length bytes → IsWholeTo end bytes → IsWholeTo (length bytes) bytes
whole_all bytes end is whole = subst (λ (n : ℕ). IsWholeTo n bytes) is whole

module _ (bytes front : List ℕ) (end : ℕ) (whole : IsWholeTo end bytes) (front_is : front ≡ take end bytes) where
  pub size : length front ≡ end
  size = ap length front_is ∙ length-take-le end bytes whole.within

  pub front_whole : IsWholeTo (length front) front
  front_whole = subst (λ (l : List ℕ). IsWholeTo (length l) l) (sym front_is) (cut_whole end bytes whole)

  pub front_first : first_of front ≡ first_of bytes
  front_first = first_same bytes front (ap (λ (l : List ℕ). take 16 l) front_is ∙ take-take 16 end bytes whole.header)

  pub front_records : records_of front ≡ records_of bytes
  front_records = ap records_of front_is ∙ ap (λ (l : List (List ℕ)). flat_map records_in l) (cut_bodies end bytes whole)

  pub front_tail : IsTail bytes → IsTail front
  front_tail is = record {
    named = ap (λ (l : List ℕ). take 8 l) front_is ∙ take-take 8 end bytes (omega (arith, whole.header)) ∙ is.named;
    long = omega (arith, size, whole.header);
  }

  pub front_within : (places : List Place) → All (EndsBy end) places → All (EndsBy (length front)) places
  front_within places within = subst (λ (n : ℕ). All (EndsBy n) places) (sym size) within

  pub front_contents : (places : List Place) → contents bytes places ≡ records_of bytes → All (EndsBy end) places → contents front places ≡ records_of front
  front_contents places known within =
      contents_same end front bytes places (ap (λ (l : List ℕ). take end l) front_is ∙ take-take end end bytes (omega arith)) within ∙ known ∙ sym front_records
