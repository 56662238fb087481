-- How many bytes look-ups ask for.
use Rattle.std.proofs.Common.{◌≡◌, ℕ, zero, suc, ◌+◌, ◌≤◌, true, false, inl, inr, List, [], ◌∷◌, length, take, Option, Some, nat_lt, refl, sym, ◌∙◌, ap, subst, arith, eq-eqb}
use Rattle.std.proofs.lemmas.List.Sums.{sum_by-cons}
use Rattle.std.specs.Prelude.{◌==◌, if◌then◌else◌, Bool, Result}
use Rattle.std.specs.List.{sum_by}
use Rattle.store_base.specs.Files.{Part}
use Rattle.store_base.specs.declared.error.StoreError.{StoreError}
use Rattle.layered_index.specs.declared.checkpoint.Checkpoint.{Checkpoint}
use Rattle.layered_index.specs.Checkpoint.{byte_len, bytes_end, first_past, IsInLineFrom, Covers}
use Rattle.store_reader.specs.CachedBlocks.{CachedBlocks}
use Rattle.store_reader.specs.LookingUp.{LooksUp}
use Rattle.store_reader.specs.LookLaws.{bytes_at}
use Rattle.store_reader.specs.Reading.{Reading}
use Rattle.store_reader.specs.Walking.{LooksAlong}

-- a look-up asks for its block, or for nothing
pub asked_once : (c : Checkpoint) (file : Part) (cache : CachedBlocks) (came : Result (List ℕ) StoreError) (file' : Part) (cache' : CachedBlocks) → LooksUp c file cache came file' cache'
    → file'.asked ≤ file.asked + byte_len c
asked_once c file cache came file' cache' l = elim l.cause [
  | inl hit ↦ let same = ap (λ (p : Part). p.asked) hit.file_stays in omega (arith, same)
  | inr miss ↦ omega (arith, miss.read.once.asked)
]

-- look-ups one after the other ask for their blocks
pub asked_along : (cs : List Checkpoint) (r : Reading) (b : Option (Result (List ℕ) StoreError)) (r' : Reading) (b' : Option (Result (List ℕ) StoreError)) → LooksAlong cs r b r' b'
    → r'.file.asked ≤ r.file.asked + sum_by byte_len cs
asked_along [] r b r' b' l = let same = ap (λ (x : Reading). x.file.asked) l.0 in omega (arith, same)
asked_along (c ∷ cs) r b r' b' l =
    omega (arith, sum_by-cons byte_len c cs, asked_once c r.file r.cache l.2.came l.0.file l.0.cache l.2.looked.looks_up, asked_along cs l.0 (Some l.1) r' b' l.3)

sum_bytes : (doc byte : ℕ) (cs : List Checkpoint) → IsInLineFrom doc byte cs → byte + sum_by byte_len cs ≡ bytes_end byte cs
sum_bytes doc byte [] r = omega arith
sum_bytes doc byte (c ∷ cs) r = omega (arith, sum_by-cons byte_len c cs, r.1, r.2.byte_order, sum_bytes c.doc_range.end c.byte_range.end cs r.3)

sum_taken : (n : ℕ) (cs : List Checkpoint) → sum_by byte_len (take n cs) ≤ sum_by byte_len cs
sum_taken zero cs = omega arith
sum_taken (suc n) [] = omega arith
sum_taken (suc n) (c ∷ cs) = omega (arith, sum_by-cons byte_len c (take n cs), sum_by-cons byte_len c cs, sum_taken n cs)

-- those of some blocks of a store for no more than its data
pub asked_within : (n : ℕ) (first : Reading) (b : Option (Result (List ℕ) StoreError)) (now : Reading) (b' : Option (Result (List ℕ) StoreError)) → Covers first.checkpoints (length first.file.content)
    → LooksAlong (take n first.checkpoints) first b now b' → now.file.asked ≤ first.file.asked + length first.file.content
asked_within n first b now b' covers l =
    omega (arith, asked_along (take n first.checkpoints) first b now b' l, sum_taken n first.checkpoints, sum_bytes 0 0 first.checkpoints covers.in_line, covers.end)

-- how many bytes a block has, if it begins with this one
abbrev len_at : ℕ → Checkpoint → ℕ
len_at key c = if c.byte_range.start == key then byte_len c else 0

-- a block that a seek finds is told by its first byte
pub found_bytes : (cs : List Checkpoint) (id : ℕ) (c : Checkpoint) → first_past cs id ≡ Some c → byte_len c ≤ bytes_at cs c.byte_range.start
found_bytes [] id c e = absurd cc
found_bytes (x ∷ cs) id c e = (elim (nat_lt id x.doc_range.end) as (λ y. nat_lt id x.doc_range.end ≡ y → byte_len c ≤ bytes_at (x ∷ cs) c.byte_range.start) [
  | true ↦ λ t.
      let e' = rw t at e in
      let same : x ≡ c = cc in
      let here : (c.byte_range.start == c.byte_range.start) ≡ true = eq-eqb c.byte_range.start c.byte_range.start refl in
      let all : bytes_at (c ∷ cs) c.byte_range.start ≡ byte_len c + bytes_at cs c.byte_range.start =
      sum_by-cons (len_at c.byte_range.start) c cs ∙ ap (λ (b : Bool). (if b then byte_len c else 0) + bytes_at cs c.byte_range.start) here in
      subst (λ (y : Checkpoint). byte_len c ≤ bytes_at (y ∷ cs) c.byte_range.start) (sym same) (omega (arith, all))
  | false ↦ λ t.
      let found = rw t at e in
      omega (arith, sum_by-cons (len_at c.byte_range.start) x cs, found_bytes cs id c found)
]) refl
