-- The footer of a file.
use Rattle.std.proofs.Common.{◌≡◌, ℕ, List, [], ◌∷◌, ◌++◌, length, ap, subst, arith, length-append}
use Rattle.std.specs.Prelude.{Ok}
use Rattle.std.proofs.lemmas.List.{nil_from_length}
use Rattle.store_format.specs.FooterLemmas.{form_reserved}
use Rattle.store_base.specs.Serialize.{fixed}
use Rattle.store_base.specs.SerializeLemmas.{length-fixed}
use Rattle.store_format.specs.declared.footer.DocStoreFooter.{DocStoreFooter}
use Rattle.store_format.specs.Footer.{footer, kind_of, version_number}
use Rattle.store_format.specs.FooterReading.{ReadsFooter}

-- ---- sizes

pub length-footer : (version offset kind : ℕ) (reserved : List ℕ) → length reserved ≡ 15 → length (footer version offset kind reserved) ≡ 28
length-footer version offset kind reserved size =
    omega (arith, length-append (fixed 4 version ++ fixed 8 offset) (kind ∷ reserved), length-append (fixed 4 version) (fixed 8 offset), length-fixed 4 version, length-fixed 8 offset)

-- nothing follows the footer in 28 bytes
pub whole_footer : (bytes : List ℕ) (f : DocStoreFooter) (rest : List ℕ) → length bytes ≡ 28 → ReadsFooter bytes (Ok f) rest → ReadsFooter bytes (Ok f) []
whole_footer bytes f rest size h =
    let v = version_number f.doc_store_version in
    let text = footer v f.offset (kind_of f.decompressor) h.0 in
    let len : length text ≡ 28 = length-footer v f.offset (kind_of f.decompressor) h.0 (form_reserved f.period v h.0 h.2) in
    let none : rest ≡ [] = nil_from_length rest (omega (arith, ap length h.3, length-append text rest)) in
    subst (λ (x : List ℕ). ReadsFooter bytes (Ok f) x) none h
