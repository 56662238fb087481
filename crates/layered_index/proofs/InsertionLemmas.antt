-- An insertion among layers, one layer at a time.
use Rattle.std.proofs.Common.{◌≡◌, ℕ, suc, ◌+◌, ◌-◌, ◌^◌, ◌<◌, ◌≤◌, List, [], ◌∷◌, ◌++◌, length, take, drop, get_or, set, sym, ◌∙◌, ap, subst, arith}
use Rattle.std.proofs.Common.{append_assoc}
use Rattle.std.proofs.lemmas.List.{take_all, drop_all, take_at, drop_more, take_more_set, drop-set-lt, set_split, set_at, set-set, set-get_or, get_or_at, get_or-set_same, get_or_default, length-take}
use Rattle.std.proofs.lemmas.List.{length_push}
use Rattle.layered_index.specs.declared.checkpoint.Checkpoint.{Checkpoint}
use Rattle.layered_index.specs.Checkpoint.{IsInLine, checkpoint_block}
use Rattle.layered_index.specs.Building.{Layer, put, text_with, pointer_to, flushed, inserted, AcceptsInsert}
use Rattle.layered_index.proofs.BuilderLemmas.{inserted_none, inserted_stays, inserted_flushes}

-- a layer with its open block written, and still open
abbrev pub written : Layer → Layer
written l = record { bytes = text_with l; rest = l.rest }

-- what the layer at a place is
pub record IsAt (ls : List Layer) (at : ℕ) (l : Layer) : Type 0 where
  pub within : at < length ls
  pub is : l ≡ get_or ls at l

pub got_at : (ls : List Layer) (at : ℕ) (d : Layer) → at < length ls → IsAt ls at (get_or ls at d)
got_at ls at d lt = record { within = lt; is = get_or_default ls at d (get_or ls at d) lt }

pub from_here : (ls : List Layer) (at : ℕ) (l : Layer) → IsAt ls at l → drop at ls ≡ l ∷ drop (at + 1) ls
from_here ls at l here = drop_more ls at l here.within ∙ ap (λ (x : Layer). x ∷ drop (at + 1) ls) (sym here.is)

split : (ls : List Layer) (at : ℕ) (l new : Layer) → IsAt ls at l → set ls at new ≡ take at ls ++ new ∷ drop (at + 1) ls
split ls at l new here = let next : suc at ≡ at + 1 = omega arith in set_split ls at new here.within ∙ ap (λ (i : ℕ). take at ls ++ new ∷ drop i ls) next

-- ---- what is taken

takes_none : (period : ℕ) (c : Checkpoint) → AcceptsInsert period [] c → IsInLine (c ∷ [])
unfolding AcceptsInsert
takes_none period c h = h

takes_some : (period : ℕ) (l : Layer) (ls : List Layer) (c : Checkpoint) → AcceptsInsert period (l ∷ ls) c
    → IsInLine (put l c).rest × (period ≤ length (put l c).rest → length (text_with (put l c)) < 2 ^ 64 → AcceptsInsert period ls (pointer_to (put l c)))
unfolding AcceptsInsert
takes_some period l ls c h = h

pub takes_top : (period : ℕ) (ls : List Layer) (at : ℕ) (c : Checkpoint) → length ls ≤ at → AcceptsInsert period (drop at ls) c → IsInLine (c ∷ [])
takes_top period ls at c le h = takes_none period c (subst (λ (xs : List Layer). AcceptsInsert period xs c) (drop_all at ls le) h)

pub takes_here : (period : ℕ) (ls : List Layer) (at : ℕ) (l : Layer) (c : Checkpoint) → IsAt ls at l → AcceptsInsert period (drop at ls) c → IsInLine (put l c).rest
takes_here period ls at l c here h = (takes_some period l (drop (at + 1) ls) c (subst (λ (xs : List Layer). AcceptsInsert period xs c) (from_here ls at l here) h)).0

pub takes_above : (period : ℕ) (ls : List Layer) (at : ℕ) (l new : Layer) (c pointer : Checkpoint) → IsAt ls at l → AcceptsInsert period (drop at ls) c → period ≤ length (put l c).rest
    → length (text_with (put l c)) < 2 ^ 64 → pointer ≡ pointer_to (put l c)
    → AcceptsInsert period (drop (at + 1) (set ls at new)) pointer
takes_above period ls at l new c pointer here h full fits e =
    let all = takes_some period l (drop (at + 1) ls) c (subst (λ (xs : List Layer). AcceptsInsert period xs c) (from_here ls at l here) h) in
    let same : drop (at + 1) (set ls at new) ≡ drop (at + 1) ls = drop-set-lt (at + 1) ls at new (omega arith) in
    subst (λ (xs : List Layer). AcceptsInsert period xs pointer) (sym same) (subst (AcceptsInsert period (drop (at + 1) ls)) (sym e) (all.1 full fits))

-- ---- what is left

pub top_at : (period : ℕ) (ls : List Layer) (at : ℕ) (c : Checkpoint) → at ≡ length ls → ls ++ record { bytes = []; rest = c ∷ [] } ∷ [] ≡ take at ls ++ inserted period (drop at ls) c
top_at period ls at c e =
    let le : length ls ≤ at = omega arith in
    sym (λ i. take_all at ls le i ++ (ap (λ (xs : List Layer). inserted period xs c) (drop_all at ls le) ∙ inserted_none period c) i)

pub stays_at : (period : ℕ) (ls : List Layer) (at : ℕ) (l new : Layer) (c : Checkpoint) → IsAt ls at l → length (put l c).rest < period → new ≡ put l c
    → set ls at new ≡ take at ls ++ inserted period (drop at ls) c
stays_at period ls at l new c here lt e =
    let following : inserted period (drop at ls) c ≡ put l c ∷ drop (at + 1) ls = ap (λ (xs : List Layer). inserted period xs c) (from_here ls at l here)
    ∙ inserted_stays period l (drop (at + 1) ls) c lt in
    split ls at l new here ∙ ap (λ (x : Layer). take at ls ++ x ∷ drop (at + 1) ls) e ∙ ap (λ (xs : List Layer). take at ls ++ xs) (sym following)

pub flushes_at : (period : ℕ) (ls : List Layer) (at : ℕ) (l mid found new : Layer) (c pointer : Checkpoint) (above : List Layer) → IsAt ls at l → period ≤ length (put l c).rest
    → mid ≡ written (put l c) → pointer ≡ pointer_to (put l c)
    → above ≡ take (at + 1) (set ls at mid) ++ inserted period (drop (at + 1) (set ls at mid)) pointer → found ≡ get_or above at found → new ≡ record { bytes = found.bytes; rest = [] }
    → set above at new ≡ take at ls ++ inserted period (drop at ls) c
flushes_at period ls at l mid found new c pointer above here full mid_is pointer_is above_is found_is new_is =
    let rest = drop (at + 1) ls in
    let following = inserted period rest (pointer_to (put l c)) in
    let len : length (take at ls) ≡ at = omega (arith, length-take at ls, here.within) in
    let same : drop (at + 1) (set ls at mid) ≡ rest = drop-set-lt (at + 1) ls at mid (omega arith) in
    let whole : above ≡ take at ls ++ mid ∷ following =
    above_is ∙ (λ i. take_more_set ls at mid here.within i ++ inserted period (same i) (pointer_is i)) ∙ append_assoc (take at ls) (mid ∷ []) following in
    let it : found ≡ mid = found_is ∙ ap (λ (xs : List Layer). get_or xs at found) whole ∙ get_or_at (take at ls) mid following found at len in
    let new_flushed : new ≡ flushed (put l c) = new_is ∙ ap (λ (x : Layer). record { bytes = x.bytes; rest = [] }) (it ∙ mid_is) in
    let wanted : inserted period (drop at ls) c ≡ flushed (put l c) ∷ following = ap (λ (xs : List Layer). inserted period xs c) (from_here ls at l here) ∙ inserted_flushes period l rest c full in
    ap (λ (xs : List Layer). set xs at new) whole
    ∙ set_at (take at ls) mid following new at len
    ∙ ap (λ (x : Layer). take at ls ++ x ∷ following) new_flushed
    ∙ ap (λ (xs : List Layer). take at ls ++ xs) (sym wanted)

pub back_at : (ls : List Layer) (at start : ℕ) (l mid found new : Layer) (c : Checkpoint) (above : List Layer) → IsAt ls at l → start ≡ length l.bytes → mid ≡ written (put l c) → above ≡ set ls at mid
    → found ≡ get_or above at found
    → new ≡ record { bytes = take start found.bytes; rest = take (length found.rest - 1) found.rest } → set above at new ≡ ls
back_at ls at start l mid found new c above here start_is mid_is above_is found_is new_is =
    let it : found ≡ written (put l c) = found_is ∙ ap (λ (xs : List Layer). get_or xs at found) above_is ∙ get_or-set_same ls at mid found here.within ∙ mid_is in
    let bytes : take start (l.bytes ++ checkpoint_block (put l c).rest) ≡ l.bytes = take_at l.bytes (checkpoint_block (put l c).rest) start (sym start_is) in
    let len : length l.rest ≡ length (l.rest ++ c ∷ []) - 1 = omega (arith, length_push l.rest c) in
    let rest : take (length (l.rest ++ c ∷ []) - 1) (l.rest ++ c ∷ []) ≡ l.rest = take_at l.rest (c ∷ []) (length (l.rest ++ c ∷ []) - 1) len in
    let old : new ≡ l =
    new_is ∙ ap (λ (x : Layer). record { bytes = take start x.bytes; rest = take (length x.rest - 1) x.rest }) it ∙ (λ i. record { bytes = bytes i; rest = rest i }) in
    (λ i. set (above_is i) at (old i)) ∙ set-set ls at mid l ∙ ap (set ls at) here.is ∙ set-get_or ls at l
