-- The store that a file has, and a reader of it.
use Rattle.std.proofs.Common.{◌≡◌, ◌⊎◌, inl, inr, ℕ, ◌<◌, List, length, Bool, false, Option, Some, None, ap, subst}
use Rattle.std.specs.Prelude.{IsTrue}
use Rattle.store_base.specs.Files.{Part, ReadsOnce}
use Rattle.store_commands.specs.Tails.{HasLooked}
use Rattle.program_base.specs.StoresOnDisk.{HasStore}

same_content : (file read : Part) → ReadsOnce 8 file read ⊎ ((length file.content < 8) × (read ≡ file)) → read.content ≡ file.content
same_content file read (inl once) = once.content
same_content file read (inr (short, same)) = ap (λ (p : Part). p.content) same

-- a file in which no tail was found is the store
pub whole_is_store : (file read : Part) (end : Option ℕ) (is_tantivy : Bool) (at_path : Option (List ℕ)) → HasLooked file read end → end ≡ None → IsTrue file.honest → at_path ≡ Some file.content
    → is_tantivy ≡ false → HasStore is_tantivy at_path read.content
whole_is_store file read end is_tantivy at_path looks none honest there need =
    let looked = subst (HasLooked file read) none looks in
    (file.content, there, inr (looked.1 honest, same_content file read looked.0, need))
