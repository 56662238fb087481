-- The index of blocks that end at some places, and the end of their file.
use Rattle.std.proofs.Common.{◌≡◌, ℕ, ◌+◌, ◌<◌, List, [], ◌∷◌, ◌++◌, length, take, drop, get_or, map, refl, sym, ap, ◌∙◌, subst, arith, append_assoc}
use Rattle.std.proofs.lemmas.List.{get_or-map, length-map, map-append, take_more, take-append-drop}
use Rattle.layered_index.specs.declared.checkpoint.Checkpoint.{Checkpoint}
use Rattle.layered_index.specs.Checkpoint.{bytes_end, docs_end, IsInLineFrom, IsWithinLimits, EndsAt}
use Rattle.layered_index.proofs.LineLemmas.{ends_put}
use Rattle.layered_index.proofs.CheckpointLemmas.{same_checkpoint}
use Rattle.layered_index.specs.declared.row.Row.{Row}
use Rattle.layered_index.specs.declared.row.RowEnd.{RowEnd}
use Rattle.layered_index.specs.Rows.{end_of, ends_in, ends_of, start_in}
use Rattle.store_c.specs.Writing.{between}
use Rattle.layered_index.proofs.RowLemmas.{zero_row}

-- blocks are told by where they end
pub same_blocks : (doc byte : ℕ) (cs ds : List Checkpoint) → IsInLineFrom doc byte cs → IsInLineFrom doc byte ds → map ends_of cs ≡ map ends_of ds → cs ≡ ds
same_blocks doc byte [] [] p q e = refl
same_blocks doc byte [] (d ∷ ds) p q e = absurd cc
same_blocks doc byte (c ∷ cs) [] p q e = absurd cc
same_blocks doc byte (c ∷ cs) (d ∷ ds) p q e =
    let first : ends_of c ≡ ends_of d = cc in
    let rest : map ends_of cs ≡ map ends_of ds = cc in
    let doc_end : c.doc_range.end ≡ d.doc_range.end = ap (λ (b : RowEnd). b.end_doc) first in
    let byte_end : c.byte_range.end ≡ d.byte_range.end = ap (λ (b : RowEnd). b.end_byte) first in
    let here : c ≡ d = same_checkpoint c d (p.0 ∙ sym q.0) doc_end (p.1 ∙ sym q.1) byte_end in
    let others = same_blocks d.doc_range.end d.byte_range.end cs ds
    (subst (λ (n : ℕ). IsInLineFrom n d.byte_range.end cs) doc_end (subst (λ (n : ℕ). IsInLineFrom c.doc_range.end n cs) byte_end p.3)) q.3 rest in
    λ i. here i ∷ others i

-- a block that ends after others that are in line is within the limits
pub next_within : (doc byte : ℕ) (cs done : List Checkpoint) (start end : RowEnd) (left : List RowEnd) → IsInLineFrom doc byte cs → IsInLineFrom doc byte done → docs_end doc done ≡ start.end_doc
    → bytes_end byte done ≡ start.end_byte → map ends_of cs ≡ map ends_of done ++ end ∷ left → IsWithinLimits (between start end)
next_within doc byte [] [] start end left p q d b e = absurd cc
next_within doc byte [] (x ∷ done) start end left p q d b e = absurd cc
next_within doc byte (c ∷ cs) [] start end left p q d b e =
    let first : ends_of c ≡ end = cc in
    let same : c ≡ between start end = same_checkpoint c _ (p.0 ∙ d) (ap (λ (x : RowEnd). x.end_doc) first) (p.1 ∙ b) (ap (λ (x : RowEnd). x.end_byte) first) in
    subst IsWithinLimits same p.2
next_within doc byte (c ∷ cs) (x ∷ done) start end left p q d b e =
    let first : ends_of c ≡ ends_of x = cc in
    let rest : map ends_of cs ≡ map ends_of done ++ end ∷ left = cc in
    let doc_end : c.doc_range.end ≡ x.doc_range.end = ap (λ (y : RowEnd). y.end_doc) first in
    let byte_end : c.byte_range.end ≡ x.byte_range.end = ap (λ (y : RowEnd). y.end_byte) first in
    next_within x.doc_range.end x.byte_range.end cs done start end left
    (subst (λ (n : ℕ). IsInLineFrom n x.byte_range.end cs) doc_end (subst (λ (n : ℕ). IsInLineFrom c.doc_range.end n cs) byte_end p.3)) q.3 d b rest

-- the last of the places is where the blocks end
pub last_byte : (doc byte : ℕ) (cs : List Checkpoint) (ends : List RowEnd) → ends ≡ map ends_of cs
    → (start_in (record { end_doc = doc; end_byte = byte }) ends (length ends)).end_byte ≡ bytes_end byte cs
last_byte doc byte [] [] e = refl
last_byte doc byte [] (b ∷ ends) e = absurd cc
last_byte doc byte (c ∷ cs) [] e = absurd cc
last_byte doc byte (c ∷ cs) (b ∷ ends) e =
    let first : b ≡ ends_of c = cc in
    let rest : ends ≡ map ends_of cs = cc in
    ap (λ (x : RowEnd). (start_in x ends (length ends)).end_byte) first ∙ last_byte c.doc_range.end c.byte_range.end cs ends rest

-- ---- one block after the other

-- one more is in line after those so far
pub one_more_end : (table : List Row) (i : ℕ) (d : Row) (done : List Checkpoint) (start end : RowEnd) (c : Checkpoint) → i < length table → map ends_of done ≡ take i (ends_in table)
    → EndsAt start.end_doc start.end_byte done → end ≡ end_of (get_or table i d) → c ≡ between start end → IsWithinLimits c
    → (map ends_of (done ++ c ∷ []) ≡ take (i + 1) (ends_in table)) × EndsAt end.end_doc end.end_byte (done ++ c ∷ [])
one_more_end table i d done start end c lt are at row is within =
    let here : ends_of c ≡ get_or (ends_in table) i zero_row = ap ends_of is ∙ row ∙ sym (get_or-map end_of table i d zero_row lt) in
    let next = ends_put start.end_doc start.end_byte done c at (ap (λ (x : Checkpoint). x.doc_range.start) is) (ap (λ (x : Checkpoint). x.byte_range.start) is) within in (
      map-append ends_of done (c ∷ []) ∙ (λ j. are j ++ here j ∷ []) ∙ sym (take_more (ends_in table) i zero_row (omega (arith, lt, length-map table end_of))),
      subst (λ (x : Checkpoint). EndsAt x.doc_range.end x.byte_range.end (done ++ c ∷ [])) is next,
    )

-- one that isn't within the limits ends no block after them
pub none_more : (table : List Row) (i : ℕ) (d : Row) (done : List Checkpoint) (start end : RowEnd) → i < length table → map ends_of done ≡ take i (ends_in table)
    → EndsAt start.end_doc start.end_byte done → end ≡ end_of (get_or table i d) → (IsWithinLimits (between start end) → ⊥)
    → (cs : List Checkpoint) → IsInLineFrom 0 0 cs → ends_in table ≡ map ends_of cs → ⊥
none_more table i d done start end lt are at row past cs line is =
    let ends = ends_in table in
    let left = drop (i + 1) ends in
    let here : get_or ends i zero_row ≡ end = get_or-map end_of table i d zero_row lt ∙ sym row in
    let parts : map ends_of cs ≡ map ends_of done ++ end ∷ left =
    sym is ∙ sym (take-append-drop (i + 1) ends) ∙ ap (λ (xs : List RowEnd). xs ++ left) (take_more ends i zero_row (omega (arith, lt, length-map table end_of)))
    ∙ append_assoc (take i ends) (get_or ends i zero_row ∷ []) left ∙ (λ j. sym are j ++ here j ∷ left) in
    past (next_within 0 0 cs done start end left line at.in_line at.docs at.bytes parts)
