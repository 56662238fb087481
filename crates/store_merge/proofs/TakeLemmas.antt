-- What the taking of one input leaves.
use Rattle.std.proofs.Common.{◌≡◌, ℕ, inl, inr, Bool, true, false, Bor, List, ◌++◌, length, take, drop, map, Option, Some, None, Result, Ok, Err, refl, sym, ◌∙◌, ap, subst}
use Rattle.std.specs.Prelude.{OnOk, IfErr}
use Rattle.std.specs.Option.{option_copied}
use Rattle.std.proofs.lemmas.List.{take-append-drop}
use Rattle.store_base.specs.declared.error.Cause.{Cause}
use Rattle.store_base.specs.declared.error.StoreError.{StoreError}
use Rattle.store_base.specs.declared.error.StoreError.TheVariants.{ShortFile, BadVersion, BadBlockKind, BadOffset, BadIndex, InvalidArgument, DamagedDocument, BadDocument, Read, Memory, OldVersion}
use Rattle.store_base.specs.declared.error.StoreError.TheVariants.{Unserializable, BlockTooLarge, TooManyDocs, Failed, BadPeriod}
use Rattle.store_format.specs.Block.{Slot, doc}
use Rattle.store_reader.specs.Iteration.{alive, flags_of, alive_from}
use Rattle.docstore.specs.Laws.{taken}
use Rattle.store_reader.specs.Reading.{Reading, store_of}
use Rattle.store_format.specs.Slots.{slots}
use Rattle.store_reader.specs.Walking.{set_of as set_of_lent}
use Rattle.docstore.specs.Writer.{Writing, AfterFailed}
use Rattle.store_merge.specs.declared.input.MergeInput.{MergeInput}
use Rattle.store_merge.specs.Bringing.{stacked, copied, IsCopied}
use Rattle.store_merge.specs.Choice.{is_stacked, alive_of, alive_slots}
use Rattle.store_merge.specs.Inputs.{IsStacked, IsInputTaken}
use Rattle.store_merge.specs.Refusals.{RefusesBytes, StopsAt, HasGrown}
use Rattle.store_merge.proofs.CopyLemmas.{alive_append, same_failure}

pub ok_then : {T E : Type 0} (P Q : Type 0) (r : Result T E) → (P → Q) → OnOk r P → OnOk r Q
ok_then P Q (Ok x) on h = on h
ok_then P Q (Err e) on h = h

pub err_then : {T E : Type 0} (P Q : E → Type 0) (r : Result T E) → ((e : E) → P e → Q e) → IfErr r P → IfErr r Q
err_then P Q (Ok x) on h = h
err_then P Q (Err e) on h = on e h

-- a set that is lent, or none
pub lent : (o : Option (Bor (List Bool))) (alive : Option (List Bool)) → option_copied o ≡ alive → set_of_lent o ≡ flags_of alive
lent None alive is = ap flags_of is
lent (Some set) alive is = ap flags_of is

pub stacked_taken : {H : Type 0} (x : MergeInput H) (old new : Writing) → is_stacked x ≡ true → IsStacked x.reader old new → IsInputTaken x old new
stacked_taken x old new is s = record { part = stacked s.blocks; came = (is, s.came); after = s.after; works = inl s.works; grown = s.grown }

pub copied_taken : {H : Type 0} (x : MergeInput H) (set : Option (ℕ → Bool)) (old new : Writing) → is_stacked x ≡ false → set ≡ flags_of x.alive
    → IsCopied x.reader.file.honest (alive_of x.reader set) old new → IsInputTaken x old new
copied_taken x set old new is same h =
    let k : IsCopied x.reader.file.honest (alive_of x.reader (flags_of x.alive)) old new = subst (λ (s : Option (ℕ → Bool)). IsCopied x.reader.file.honest (alive_of x.reader s) old new) same h in
    record { part = copied k.docs; came = (is, k.came); after = k.after; works = k.works; grown = k.grown }

-- ---- a copying that stops

-- a writer that did not fail for good is as it was
pub unfailed : (first : Option Cause) (cause : Cause) (old new : Writing) → old.output.failure ≡ first → new.output.failure ≡ old.output.failure → AfterFailed first cause old new
    → new ≡ old
unfailed None cause old new is same h = absurd (let f = h.failure in let p : ◌≡◌ {A = Option Cause} None (Some cause) = sym is ∙ sym same ∙ f in cc)
unfailed (Some c) cause old new is same h = h.1

refused_bytes : (bytes : List ℕ) (old new : Writing) (e : StoreError) → new.output.failure ≡ old.output.failure → RefusesBytes bytes old new e → new ≡ old
refused_bytes bytes old new Memory same h = h.1
refused_bytes bytes old new TooManyDocs same h = h.2
refused_bytes bytes old new BlockTooLarge same h = h.1
refused_bytes bytes old new (Failed cause) same h = unfailed old.output.failure cause old new refl same h
refused_bytes bytes old new (ShortFile k) same h = absurd h
refused_bytes bytes old new (BadVersion k) same h = absurd h
refused_bytes bytes old new (BadBlockKind k) same h = absurd h
refused_bytes bytes old new BadOffset same h = absurd h
refused_bytes bytes old new BadIndex same h = absurd h
refused_bytes bytes old new (InvalidArgument k) same h = absurd h
refused_bytes bytes old new (DamagedDocument k) same h = absurd h
refused_bytes bytes old new BadDocument same h = absurd h
refused_bytes bytes old new Read same h = absurd h
refused_bytes bytes old new OldVersion same h = absurd h
refused_bytes bytes old new Unserializable same h = absurd h
refused_bytes bytes old new (BadPeriod k) same h = absurd h

-- what a copying that stops has put after
pub stopped_grown : {H : Type 0} (x : MergeInput H) (set : Option (ℕ → Bool)) (read : Reading) (old new : Writing) (e : StoreError) → set ≡ flags_of x.alive
    → StopsAt set x.reader read old new e
    → new.output.failure ≡ old.output.failure → HasGrown x old new
stopped_grown x set read old new e same s unchanged =
    let all = slots (store_of x.reader) in
    let before_is : s.before.output.failure ≡ old.output.failure = ap (λ (w : Writing). w.output.failure) s.copied.after ∙ same_failure old s.copied.docs in
    let stays : new ≡ s.before = elim s.cause [
      | inl c ↦ c.1
      | inr c ↦ refused_bytes c.bytes s.before new e (unchanged ∙ sym before_is) c.refused
    ] in
    let split : alive_slots x ≡ alive (take s.id all) set ++ alive_from (length (take s.id all)) (drop s.id all) set =
    ap (alive_of x.reader) (sym same) ∙ ap (λ (xs : List Slot). alive xs set) (sym (take-append-drop s.id all)) ∙ alive_append set (take s.id all) (drop s.id all) in
    record {
      more = map doc s.copied.docs;
      grown = ap taken stays ∙ s.copied.grown;
      front = λ honest. (
        alive_from (length (take s.id all)) (drop s.id all) set,
        split ∙ ap (λ (xs : List Slot). xs ++ alive_from (length (take s.id all)) (drop s.id all) set)
            (sym (s.copied.came.truly honest)),
      );
    }
