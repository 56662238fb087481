-- What a refused `close` leaves.
use Rattle.std.proofs.Common.{◌≡◌, ℕ, ◌<◌, ◌≤◌, List, [], ◌∷◌, ◌++◌, length, Option, None, sym, ◌∙◌, ap, subst, arith, append_assoc, length-append}
use Rattle.store_base.proofs.ListLemmas.{risen_later}
use Rattle.store_base.specs.Outputs.{Termination}
use Rattle.store_base.specs.declared.error.Cause.{Cause}
use Rattle.store_base.specs.declared.error.Cause.TheVariants.{Write, Memory as OutOfMemory}
use Rattle.store_base.specs.declared.error.StoreError.{StoreError}
use Rattle.store_base.specs.declared.error.StoreError.TheVariants.{ShortFile, BadVersion, BadBlockKind, BadOffset, BadIndex, InvalidArgument, DamagedDocument, BadDocument, Read, Memory, OldVersion}
use Rattle.store_base.specs.declared.error.StoreError.TheVariants.{Unserializable, BlockTooLarge, TooManyDocs, Failed, BadPeriod}
use Rattle.store_base.specs.Outcome.{after_first_byte}
use Rattle.store_format.specs.Block.{block}
use Rattle.store_format.specs.StoreFile.{StoreBlock, data_of}
use Rattle.store_format.proofs.BlockLemmas.{length-block}
use Rattle.docstore.specs.Writer.{blocks_of}
use Rattle.docstore.specs.BlockOutput.{BlockOutput, with_blocks, with_risen, HasCause, HasNotEnded, AfterFailedClose, AfterClose}

-- the block of some documents has bytes
pub some_flushed : (docs : List (List ℕ)) → 0 < length docs → 0 < length (data_of (blocks_of docs))
some_flushed [] some = absurd (omega arith)
some_flushed (doc ∷ docs) some = omega (arith, length-append (block (doc ∷ docs)) [], length-block (doc ∷ docs))

-- a cause since later is a cause since before
pub cause_further : (cause : Cause) (failures risen last : ℕ) (old bytes mid new : List ℕ) → failures ≤ risen → mid ≡ old ++ bytes → HasCause cause risen last mid new
    → HasCause cause failures last old new
cause_further Write failures risen last old bytes mid new le is h = risen_later failures risen last le h
cause_further OutOfMemory failures risen last old bytes mid new le is h = record {
  more = bytes ++ h.more;
  some = omega (arith, length-append bytes h.more, h.some);
  parts = h.parts ∙ ap (λ (x : List ℕ). x ++ h.more) is ∙ append_assoc old bytes h.more;
}

-- a refusal after blocks that went out in the same call
pub closed_after : (e : StoreError) (old mid : BlockOutput) (bs : List StoreBlock) (content : List ℕ) (termination : Termination) (failures : ℕ) → mid ≡ with_risen mid.failures (with_blocks old bs)
    → old.failures ≤ mid.failures → old.failure ≡ None → 0 < length (data_of bs) → AfterClose e mid content termination failures → AfterClose (after_first_byte e) old content termination failures
closed_after Memory old mid bs content termination failures is le none some h =
    let grown : content ≡ old.content ++ data_of bs = h.1 ∙ ap (λ (out : BlockOutput). out.content) is in
    let ends : termination ≡ old.termination = h.3 ∙ ap (λ (out : BlockOutput). out.termination) is in
    subst (λ (f : Option Cause). AfterFailedClose f OutOfMemory old content termination failures) (sym none) (record { more = data_of bs; some = some; parts = grown }, ends)
closed_after (Failed cause) old mid bs content termination failures is le none some h =
    let mid_none : mid.failure ≡ None = ap (λ (out : BlockOutput). out.failure) is ∙ none in
    let why : HasCause cause mid.failures failures mid.content content × HasNotEnded cause mid.termination termination =
    subst (λ (f : Option Cause). AfterFailedClose f cause mid content termination failures) mid_none h in
    let ends : mid.termination ≡ old.termination = ap (λ (out : BlockOutput). out.termination) is in
    subst (λ (f : Option Cause). AfterFailedClose f cause old content termination failures) (sym none) (
      cause_further cause old.failures mid.failures failures old.content (data_of bs) mid.content content le (ap (λ (out : BlockOutput). out.content) is) why.0,
      subst (λ (t : Termination). HasNotEnded cause t termination) ends why.1,
    )
closed_after (ShortFile n) old mid bs content termination failures is le none some h = absurd h
closed_after (BadVersion n) old mid bs content termination failures is le none some h = absurd h
closed_after (BadBlockKind n) old mid bs content termination failures is le none some h = absurd h
closed_after BadOffset old mid bs content termination failures is le none some h = absurd h
closed_after BadIndex old mid bs content termination failures is le none some h = absurd h
closed_after (InvalidArgument n) old mid bs content termination failures is le none some h = absurd h
closed_after (DamagedDocument n) old mid bs content termination failures is le none some h = absurd h
closed_after BadDocument old mid bs content termination failures is le none some h = absurd h
closed_after Read old mid bs content termination failures is le none some h = absurd h
closed_after OldVersion old mid bs content termination failures is le none some h = absurd h
closed_after Unserializable old mid bs content termination failures is le none some h = absurd h
closed_after BlockTooLarge old mid bs content termination failures is le none some h = absurd h
closed_after TooManyDocs old mid bs content termination failures is le none some h = absurd h
closed_after (BadPeriod n) old mid bs content termination failures is le none some h = absurd h
