-- What is printed of a store that was packed.
use Rattle.std.proofs.Common.{◌≡◌, ℕ, ◌+◌, List, [], ◌∷◌, ◌++◌, length, map, drop, false, Option, None, Some, IfSome, refl, sym, ap, subst, ◌∙◌, arith, append_assoc, length-append}
use Rattle.std.specs.Prelude.{not, replicate}
use Rattle.std.specs.List.{filter, enumerate_from}
use Rattle.std.specs.Io.KnownBytes.{Appends}
use Rattle.std.proofs.lemmas.List.{drop_at}
use Rattle.store_base.specs.Serialize.{fixed}
use Rattle.layered_index.specs.Layers.{index_part}
use Rattle.store_format.specs.Block.{Slot, doc}
use Rattle.store_format.specs.StoreFile.{StoreBlock, file, data_of, checkpoints_of}
use Rattle.store_commands.specs.declared.left_out.IdSpan.{IdSpan}
use Rattle.store_commands.specs.Documents.{kept_by, numbered}
use Rattle.store_commands.specs.LeftOut.{is_among}
use Rattle.store_commands.specs.Tails.{HasTail}
use Rattle.document_framing.specs.declared.form.DocumentForm.TheVariants.{Framed}
use Rattle.document_framing.specs.declared.framing.Framing.{Framing}
use Rattle.document_framing.specs.Framings.{frame, framed}
use Rattle.framed_stores.specs.Packing.{ArePacked}
use Rattle.framed_stores.specs.Printing.{PrintsSlots, shown_each}

-- lists that end with as many elements have the same end
same_ends : (a b x y : List ℕ) → length x ≡ length y → a ++ x ≡ b ++ y → x ≡ y
same_ends a b x y len e =
    let fronts : length a ≡ length b = omega (arith, length-append a x, length-append b y, ap length e) in
    sym (drop_at a x (length a) refl) ∙ ap (drop (length a)) e ∙ drop_at b y (length a) (sym fronts)

magic_bytes : fixed 4 1337 ≡ 57 ∷ 5 ∷ 0 ∷ 0 ∷ []
unfolding fixed
magic_bytes = refl

-- a file of this version ends in bytes 0, so no tail is taken for its end
pub no_tail_after_store : (period : ℕ) (blocks : List StoreBlock) (content store : List ℕ) → content ≡ file period 3 blocks → HasTail content store → ⊥
no_tail_after_store period blocks content store is tail =
    let body = data_of blocks ++ index_part period (checkpoints_of blocks) in
    let head = fixed 4 3 ++ fixed 8 (length (data_of blocks)) in
    let zeros : List ℕ = 0 ∷ 0 ∷ 0 ∷ [] in
    let kind : List ℕ = 0 ∷ period ∷ replicate 11 0 in
    let ends : content ≡ (body ++ (head ++ kind)) ++ zeros =
    is ∙ sym (ap (λ l. body ++ l) (append_assoc head kind zeros)) ∙ sym (append_assoc body (head ++ kind) zeros) in
    let front = store ++ (tail.text ++ fixed 4 (length tail.text)) in
    let marks : List ℕ = 5 ∷ 0 ∷ 0 ∷ [] in
    let other : content ≡ (front ++ 57 ∷ []) ++ marks =
    tail.parts ∙ ap (λ l. store ++ l) (sym (append_assoc tail.text (fixed 4 (length tail.text)) (fixed 4 1337)))
    ∙ sym (append_assoc store (tail.text ++ fixed 4 (length tail.text)) (fixed 4 1337)) ∙ ap (λ l. front ++ l) magic_bytes
    ∙ sym (append_assoc front (57 ∷ []) marks) in
    let same : zeros ≡ marks = same_ends (body ++ (head ++ kind)) (front ++ 57 ∷ []) zeros marks refl (sym ends ∙ other) in
    cc

-- where no range has an id, all are kept
all_from : (n : ℕ) (spans : List IdSpan) (all : List Slot) → ((id : ℕ) → is_among spans id ≡ false)
    → filter (λ x. not (is_among spans x.0)) (enumerate_from n all) ≡ enumerate_from n all
all_from n spans [] none = refl
all_from n spans (s ∷ all) none = rw (none n) (ap (λ l. (n, s) ∷ l) (all_from (n + 1) spans all none))

pub all_numbered : (spans : List IdSpan) (all : List Slot) → ((id : ℕ) → is_among spans id ≡ false) → numbered all (kept_by spans) ≡ enumerate_from 0 all
all_numbered spans all none = all_from 0 spans all none

-- documents under their numbers are shown in a framing as they are framed
pub shown_framed : (framing : Framing) (n : ℕ) (numbers : List (ℕ × List ℕ)) (documents : List (List ℕ))
    → map (λ d. (d.0, doc d.1)) numbers ≡ enumerate_from n (map doc documents) → shown_each (Framed framing) numbers ≡ framed framing documents
shown_framed framing n [] [] e = refl
shown_framed framing n [] (d ∷ ds) e = let no : ⊥ = cc in absurd no
shown_framed framing n (x ∷ xs) [] e = let no : ⊥ = cc in absurd no
shown_framed framing n (x ∷ xs) (d ∷ ds) e =
    let numbered : ℕ × Slot = (x.0, doc x.1) in
    let other : ℕ × Slot = (n, doc d) in
    let pairs : numbered ≡ other = cc in
    let slot : doc x.1 ≡ doc d = ap (λ (p : ℕ × Slot). p.1) pairs in
    let first : x.1 ≡ d = cc in
    let rest : map (λ d. (d.0, doc d.1)) xs ≡ enumerate_from (n + 1) (map doc ds) = cc in
    ap (λ b. frame framing b ++ shown_each (Framed framing) xs) first ∙ ap (λ l. frame framing d ++ l) (shown_framed framing (n + 1) xs ds rest)

-- what is printed of slots that were packed
pub printed_packed : (framing : Framing) (expected : Option ℕ) (known : Option (List (List ℕ))) (all : List Slot) (spans : List IdSpan) (old new : Option (List ℕ))
    → ArePacked None expected known all → ((id : ℕ) → is_among spans id ≡ false) → PrintsSlots (Framed framing) (numbered all (kept_by spans)) old new
    → IfSome known (λ documents. Appends old new (framed framing documents))
printed_packed framing expected known all spans old new packed none printed = at known packed.are_all.all
  where
    same : shown_each (Framed framing) printed.documents ≡ framed framing packed.documents
    same = shown_framed framing 0 printed.documents packed.documents (printed.are ∙ all_numbered spans all none ∙ ap (enumerate_from 0) (packed.are tt))

    at : (known : Option (List (List ℕ))) → IfSome known (λ known. packed.documents ≡ known)
        → IfSome known (λ documents. Appends old new (framed framing documents))
    at None h = tt
    at (Some documents) h = subst (Appends old new) (same ∙ ap (framed framing) h) printed.printed
