-- The checkpoints of an opened reader cover its data, whatever the file gave.
use Rattle.std.proofs.Common.{◌≡◌, ℕ, ◌-◌, ◌≤◌, true, false, List, length, nat_lt, refl, ap, ◌∙◌, sym, subst, arith}
use Rattle.std.specs.Prelude.{Result, Ok, Err}
use Rattle.std.proofs.lemmas.Bool.{ltb-true, ltb-false}
use Rattle.store_base.proofs.ListLemmas.{length-slice}
use Rattle.store_base.specs.Files.{Part}
use Rattle.store_base.specs.declared.error.StoreError.{StoreError}
use Rattle.layered_index.specs.Checkpoint.{Covers}
use Rattle.layered_index.specs.Layers.{Index}
use Rattle.store_format.specs.declared.footer.DocStoreFooter.{DocStoreFooter}
use Rattle.store_format.specs.FileReading.{Comes}
use Rattle.store_reader.specs.Opening.{IndexFrom, ReadsIndex, OpensFrom, IsOpened, index_of}
use Rattle.store_reader.specs.Reading.{Reading}

record IsCovered (new : Part) (f : DocStoreFooter) (index : Index) : Type 0 where
  within : f.offset ≤ length new.content - 28
  covers : Covers index.checkpoints f.offset

index_covers : (mid new : Part) (f : DocStoreFooter) (index : Index) → ReadsIndex mid f (Ok index) new → IsCovered new f index
index_covers mid new f index r = (elim (nat_lt (length mid.content - 28) f.offset) as (λ y. nat_lt (length mid.content - 28) f.offset ≡ y → IsCovered new f index) [
  | true ↦ λ t. let no = (r.past (ltb-true _ _ t)).0 in absurd cc
  | false ↦ λ t. let le = ltb-false _ _ t in let read = r.within le in go le read.0 read.1 read.2
]) refl
  where
    go : f.offset ≤ length mid.content - 28 → (came : Result (List ℕ) StoreError) → Comes mid f.offset (length mid.content - 28) came new → IndexFrom f came (Ok index) → IsCovered new f index
    go le (Err e) comes is = absurd cc
    go le (Ok bytes) comes is = record { within = omega (arith, le, ap length comes.once.content); covers = is.1.covers }

goes_on_covers : (mid new : Part) (said : Result DocStoreFooter StoreError) (f : DocStoreFooter) (index : Index) → OpensFrom mid said (Ok (f, index)) new → IsCovered new f index
goes_on_covers mid new (Err d) f index on = absurd (let no = on.0 in cc)
goes_on_covers mid new (Ok g) f index on = subst (λ (h : DocStoreFooter). IsCovered new h index) (sym on.0) (index_covers mid new g index on.1)

pub opened_covers : (old : Part) (capacity : ℕ) (r : Reading) → IsOpened old capacity r → Covers r.checkpoints (length r.file.content)
opened_covers old capacity r o =
    let all = goes_on_covers o.opens.mid o.after o.opens.footer o.footer (index_of r) o.opens.goes_on in
    let less : o.footer.offset - 0 ≡ o.footer.offset = omega arith in
    let size : length r.file.content ≡ o.footer.offset = ap (λ (p : Part). length p.content) o.part ∙ length-slice o.after.content 0 o.footer.offset (omega (arith, all.within)) ∙ less in
    subst (Covers r.checkpoints) (sym size) all.covers
