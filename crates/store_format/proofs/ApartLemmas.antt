-- A file tells its store.
use Rattle.std.proofs.Common.{◌≡◌, ℕ, List, ◌∷◌, ◌++◌, length, replicate, refl, sym, ◌∙◌, ap, arith, length-append, inr}
use Rattle.store_format.specs.FooterLemmas.{form_reserved}
use Rattle.store_base.specs.VIntLemmas.{tails}
use Rattle.store_format.specs.Footer.{footer}
use Rattle.store_format.specs.Laws.{FilesAreStores, StoresAreApart}
use Rattle.layered_index.specs.Layers.{index_part}
use Rattle.store_format.specs.StoreFile.{StoreBlock, data_of, checkpoints_of, reserved_of, IsStore}
use Rattle.store_format.proofs.ExtractionLemmas.{length-footer}
use Rattle.layered_index.proofs.IndexLemmas.{index_parts_are_apart}
use Rattle.layered_index.proofs.ListLemmas.{same_fronts}
use Rattle.store_format.proofs.FileLemmas.{beginnings_apart, known_version, one_period, known_period}
use Rattle.store_format.proofs.StoreLemmas.{data_fits, checkpoints_in_line, blocks_from}

-- the file that is written for blocks is a store of them
pub files_are_stores : FilesAreStores
files_are_stores period bs two small blocks = record {
  blocks = blocks;
  reserved = reserved_of period 3;
  form = inr (refl, two, small, (replicate 14 0, refl, refl));
  parts = refl;
}

-- checkpoints_of and data tell the blocks
blocks_are_one : (bs cs : List StoreBlock) → checkpoints_of bs ≡ checkpoints_of cs → data_of bs ≡ data_of cs → bs ≡ cs
blocks_are_one bs cs places bytes = sym (blocks_from (checkpoints_of bs) (data_of bs) bs refl refl) ∙ blocks_from (checkpoints_of bs) (data_of bs) cs places bytes

-- the bodies and the footers of two stores of a file
halves : (p q : ℕ) (bytes : List ℕ) (v w : ℕ) (bs cs : List StoreBlock) (h : IsStore p bytes v bs) (k : IsStore q bytes w cs)
    → (data_of bs ++ index_part p (checkpoints_of bs) ≡ data_of cs ++ index_part q (checkpoints_of cs)) × (footer v (length (data_of bs)) 0 h.reserved ≡ footer w (length (data_of cs)) 0 k.reserved)
halves p q bytes v w bs cs h k =
    let front_b = data_of bs ++ index_part p (checkpoints_of bs) in
    let front_c = data_of cs ++ index_part q (checkpoints_of cs) in
    let foot_b = footer v (length (data_of bs)) 0 h.reserved in
    let foot_c = footer w (length (data_of cs)) 0 k.reserved in
    let whole : front_b ++ foot_b ≡ front_c ++ foot_c = sym h.parts ∙ k.parts in
    let size_b = length-footer v (length (data_of bs)) 0 h.reserved (form_reserved p v h.reserved h.form) in
    let size_c = length-footer w (length (data_of cs)) 0 k.reserved (form_reserved q w k.reserved k.form) in
    same_fronts front_b front_c foot_b foot_c (omega (arith, ap length whole, length-append front_b foot_b, length-append front_c foot_c, size_b, size_c)) whole

-- a file is a store of one version, one period and one list of blocks
pub stores_are_apart : StoresAreApart
stores_are_apart p q bytes v w bs cs h k =
    let known_b = known_version p v h.reserved h.form in
    let known_c = known_version q w k.reserved k.form in
    let parts = halves p q bytes v w bs cs h k in
    let feet = beginnings_apart v w (length (data_of bs)) (length (data_of cs)) (0 ∷ h.reserved) (0 ∷ k.reserved)
    (omega (arith, known_b.1)) (omega (arith, known_c.1)) (data_fits bs h.blocks) (data_fits cs k.blocks) parts.1 in
    let body = same_fronts (data_of bs) (data_of cs) (index_part p (checkpoints_of bs)) (index_part q (checkpoints_of cs)) feet.1 parts.0 in
    let periods : p ≡ q = one_period p q v w h.reserved k.reserved h.form k.form feet.0 (tails 0 0 h.reserved k.reserved feet.2) in
    let indexes : index_part p (checkpoints_of bs) ≡ index_part p (checkpoints_of cs) = body.1 ∙ ap (λ (x : ℕ). index_part x (checkpoints_of cs)) (sym periods) in
    let places = index_parts_are_apart p (checkpoints_of bs) (checkpoints_of cs) (known_period p v h.reserved h.form) (checkpoints_in_line bs h.blocks) (checkpoints_in_line cs k.blocks) indexes in
    (periods, feet.0, blocks_are_one bs cs places body.0)
