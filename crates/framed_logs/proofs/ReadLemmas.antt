-- What is known of a log that is read, and of its records in an output.
use Rattle.std.proofs.Common.{◌≡◌, ℕ, suc, ◌+◌, List, [], ◌∷◌, ◌++◌, length, Option, Some, refl, sym, ap, subst, ◌∙◌, append_assoc, append-nil, arith, length-append}
use Rattle.std.specs.Io.KnownBytes.{Appends}
use Rattle.std.proofs.KnownBytes.{Appends-nil, Appends-trans}
use Rattle.document_framing.specs.declared.form.DocumentForm.{DocumentForm}
use Rattle.document_framing.specs.Forms.{shown}
use Rattle.store_folder.specs.Folder.{Look}
use Rattle.store_format.specs.Block.{Slot, doc}
use Rattle.segmented_log.specs.Laws.{FoldersAreOneLog}
use Rattle.segmented_log.specs.Log.{IsLog, slot_at}
use Rattle.framed_logs.specs.Reading.{HasFrom, PrintsRecord, PrintsRecords, Reads, shown_from}

-- a folder is one log
pub reads_one : FoldersAreOneLog → (seen : Look) (number end first : ℕ) (slots all : List Slot) → Reads seen number slots end → IsLog first all seen
    → (number ≡ first) × (slots ≡ all) × (end ≡ first + length all)
reads_one one seen number end first slots all r is =
    let same = one seen number first slots all r.log is in
    (same.0, same.1, r.end_is ∙ ap (λ n. n + length slots) same.0 ∙ ap (λ l. first + length l) same.1)

-- a slot of that log
pub slot_of_one : (number n first : ℕ) (slots all : List Slot) (bytes : List ℕ) → n ≡ first → slots ≡ all
    → slot_at n slots number ≡ Some (doc bytes) → slot_at first all number ≡ Some (doc bytes)
slot_of_one number n first slots all bytes p q is = subst (λ x. slot_at x all number ≡ Some (doc bytes)) p
    (subst (λ x. slot_at n x number ≡ Some (doc bytes)) q is)

-- one record more
pub has_next : (first : ℕ) (all : List Slot) (from : ℕ) (records : List (List ℕ)) (bytes : List ℕ) → HasFrom first all from records
    → slot_at first all (from + length records) ≡ Some (doc bytes) → HasFrom first all from (records ++ bytes ∷ [])
has_next first all from [] bytes has next =
    let e : from + 0 ≡ from = omega arith in (subst (λ n. slot_at first all n ≡ Some (doc bytes)) e next, tt)
has_next first all from (r ∷ rs) bytes has next =
    let e : from + suc (length rs) ≡ from + 1 + length rs = omega arith in
    (has.0, has_next first all (from + 1) rs bytes has.1 (subst (λ n. slot_at first all n ≡ Some (doc bytes)) e next))

pub shown_next : (form : DocumentForm) (from : ℕ) (records : List (List ℕ)) (bytes : List ℕ)
    → shown_from form from (records ++ bytes ∷ []) ≡ shown_from form from records ++ shown form (from + length records) bytes
shown_next form from [] bytes =
    let e : from + 0 ≡ from = omega arith in append-nil (shown form from bytes) ∙ ap (λ n. shown form n bytes) (sym e)
shown_next form from (r ∷ rs) bytes =
    let e : from + 1 + length rs ≡ from + suc (length rs) = omega arith in
    ap (λ l. shown form from r ++ l) (shown_next form (from + 1) rs bytes)
    ∙ sym (append_assoc (shown form from r) (shown_from form (from + 1) rs) (shown form (from + 1 + length rs) bytes))
    ∙ ap (λ n. shown form from r ++ shown_from form (from + 1) rs ++ shown form n bytes) e

pub prints_none : (form : DocumentForm) (first : ℕ) (all : List Slot) (from : ℕ) (output : Option (List ℕ)) → PrintsRecords form first all from 0 output output
prints_none form first all from output = record { records = []; many = refl; has = tt; printed = Appends-nil output }

pub prints_next : (form : DocumentForm) (first : ℕ) (all : List Slot) (from number count more : ℕ) (old middle new : Option (List ℕ))
    → number ≡ from + count → more ≡ count + 1 → PrintsRecords form first all from count old middle → PrintsRecord form first all number middle new
    → PrintsRecords form first all from more old new
prints_next form first all from number count more old middle new is next p q =
    let e : number ≡ from + length p.records = is ∙ ap (λ n. from + n) (sym p.many) in record {
      records = p.records ++ q.bytes ∷ [];
      many = length-append p.records (q.bytes ∷ []) ∙ ap (λ n. n + 1) p.many ∙ sym next;
      has = has_next first all from p.records q.bytes p.has (subst (λ n. slot_at first all n ≡ Some (doc q.bytes)) e q.has);
      printed = subst (Appends old new) (sym (shown_next form from p.records q.bytes))
          (Appends-trans old middle new (shown_from form from p.records) (shown form (from + length p.records) q.bytes) p.printed
          (subst (λ n. Appends middle new (shown form n q.bytes)) e q.printed));
    }
