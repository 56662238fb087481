-- What `cat` prints of a store.
use Rattle.std.specs.Prelude.{◌≡◌, ℕ, Bool, ◌&&◌, ◌||◌, nat_lt, List, Option}
use Rattle.std.specs.Borrow.{Bor}
use Rattle.document_framing.specs.declared.form.DocumentForm.{DocumentForm}
use Rattle.store_format.specs.Slots.{slots}
use Rattle.store_reader.specs.Reading.{Reading, num_docs, store_of}
use Rattle.store_commands.specs.declared.left_out.IdSpan.{IdSpan}
use Rattle.store_commands.specs.Damaged.{is_damaged_in}
use Rattle.store_commands.specs.Documents.{kept_by, numbered}
use Rattle.store_commands.specs.LeftOut.{is_among, words_name}
use Rattle.framed_stores.specs.Printing.{PrintsSlots}

-- whether a document is skipped: a word names it, or it is damaged, and those are passed over
abbrev pub skips : List (Bor (List ℕ)) → Bool → Reading → ℕ → Bool
skips without keeps_going reader id =
    (words_name without id && nat_lt id (num_docs reader)) || (keeps_going && is_damaged_in reader id)

-- An output has exactly the documents of a store more that are not skipped, each under its number, in order.
pub record PrintsOthers (form : DocumentForm) (skipped : ℕ → Bool) (reader : Reading) (old new : Option (List ℕ)) : Type 0 where
  pub spans : List IdSpan
  pub are : (id : ℕ) → is_among spans id ≡ skipped id
  pub printed : PrintsSlots form (numbered (slots (store_of reader)) (kept_by spans)) old new
