use Rattle.std.proofs.Common.{◌≡◌, ℕ, List, ◌++◌, length, take, drop, ◌∙◌, ap, arith, refl}
use Rattle.std.specs.Int.{w64, to_le_bytes, from_le_bytes}
use Rattle.std.proofs.lemmas.Nat.{from_le_bytes-to_le_bytes_8}
use Rattle.log_tail.specs.Tail.{first_of, magic}
use Rattle.log_tail.proofs.Tails.{new_bodies, new_whole}
use Rattle.log_tail.proofs.tail.new_tail.Goals as goal

pub returns : goal.returns
unfolding first_of
returns c =
    let head = magic ++ to_le_bytes w64 c.args.first in
    let tail = c.extend_from_slice-2.new.self.items in
    let is : tail ≡ head =
    c.in_ok-extend_from_slice-2.ensures.items ∙ (λ i. c.in_ok-extend_from_slice.ensures.items i ++ c.to_le_bytes.ensures i)
    ∙ ap (λ (l : List ℕ). l ++ magic ++ to_le_bytes w64 c.args.first) c.in_ok-tail.ensures.items in
    let long : length head ≡ 16 = refl in
    let size : length tail ≡ 16 = ap length is ∙ long in (
      record { named = ap (λ (l : List ℕ). take 8 l) is; long = omega (arith, size) },
      ap (λ (l : List ℕ). from_le_bytes w64 (take 8 (drop 8 l))) is ∙ from_le_bytes-to_le_bytes_8 c.args.first c.ranges.first.fits,
      new_bodies tail size,
      new_whole tail size,
      size,
    )
