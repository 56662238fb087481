-- The bytes after the index of a file.
use Rattle.std.specs.Prelude.{ℕ, List, ◌∷◌, ◌++◌}
use Rattle.store_base.specs.Serialize.{fixed}
use Rattle.store_format.specs.declared.kinds.Compressor.{Compressor}
use Rattle.store_format.specs.declared.kinds.Compressor.TheVariants as packed
use Rattle.store_format.specs.declared.kinds.Decompressor.{Decompressor}
use Rattle.store_format.specs.declared.kinds.Decompressor.TheVariants as unpacked
use Rattle.store_format.specs.declared.version.DocStoreVersion.{DocStoreVersion}
use Rattle.store_format.specs.declared.version.DocStoreVersion.TheVariants.{V1, V2, V3}

-- the version, where the index begins, the kind of the blocks, and fifteen reserved bytes
abbrev pub footer : ℕ → ℕ → ℕ → List ℕ → List ℕ
footer version offset kind reserved = fixed 4 version ++ fixed 8 offset ++ (kind ∷ reserved)

-- the number of a kind of blocks
abbrev pub kind_of : Decompressor → ℕ
kind_of unpacked.None = 0

-- what unpacks what was packed so
abbrev pub unpacks : Compressor → Decompressor
unpacks packed.None = unpacked.None

-- the number of a version
abbrev pub version_number : DocStoreVersion → ℕ
version_number V1 = 1
version_number V2 = 2
version_number V3 = 3
