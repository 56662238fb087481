-- How far a check has come.
use Rattle.std.proofs.Common.{◌≡◌, ℕ, ◌+◌, ◌-◌, ◌<◌, ◌≤◌, List, [], ◌∷◌, ◌++◌, length, take, Some, refl, sym, ◌∙◌, subst, arith}
use Rattle.std.specs.Prelude.{IsTrue, slice_range}
use Rattle.layered_index.specs.Checkpoint.{Covers, first_past}
use Rattle.store_format.specs.StoreFile.{StoreBlock, docs_in, data_of}
use Rattle.store_reader.specs.declared.data_part.DataPart.{DataPart}
use Rattle.store_reader.specs.Parts.{place_of, IsBlockRead}
use Rattle.store_reader.specs.Reading.{Reading, num_docs, store_of}
use Rattle.store_commands.specs.declared.checking.Verdict.{Verdict}
use Rattle.store_commands.specs.Checks.{HasWatched, Judges}
use Rattle.store_commands.proofs.CountLemmas.{TakesBlock, judges_more}
use Rattle.store_commands.proofs.WalkLemmas.{HasWalked, walked_first, walked_next, walked_more, walked_all, walked_front, walked_to_the_end, IsNext}

-- some blocks were judged
pub record HasChecked (r now : Reading) (next : ℕ) (verdict : Verdict) : Type 0 where
  pub walked : HasWalked (λ front. Judges front verdict) r now next
  pub documents : verdict.documents ≡ num_docs r

pub checked_first : (r : Reading) (v : Verdict) → Covers r.checkpoints (length r.file.content) → v.documents ≡ num_docs r → Judges [] v → HasChecked r r 0 v
checked_first r v covers documents judged = record { walked = walked_first (λ front. Judges front v) r covers judged; documents = documents }

-- the verdict on one block more
judged_next : (r now : Reading) (next : ℕ) (v w : Verdict) (part : DataPart) (h : HasChecked r now next v) (n : IsNext r h.walked.front next part)
    → TakesBlock v w part.ids.start part.start part.bytes (part.ids.end - part.ids.start) → IsTrue r.file.honest → Judges h.walked.front v → Judges (h.walked.front ++ n.block ∷ []) w
judged_next r now next v w part h n takes honest old =
    let front = h.walked.front in
    let id : part.ids.start ≡ docs_in front = n.first ∙ h.walked.come.next_is in
    let t1 : TakesBlock v w (docs_in front) part.start part.bytes (part.ids.end - part.ids.start) = subst
    (λ (k : ℕ). TakesBlock v w k part.start part.bytes (part.ids.end - part.ids.start)) id takes in
    let t2 : TakesBlock v w (docs_in front) (length (data_of front)) part.bytes (part.ids.end - part.ids.start) =
    subst (λ (k : ℕ). TakesBlock v w (docs_in front) k part.bytes (part.ids.end - part.ids.start)) n.byte t1 in
    let t3 : TakesBlock v w (docs_in front) (length (data_of front)) n.block.bytes (part.ids.end - part.ids.start) =
    subst (λ (xs : List ℕ). TakesBlock v w (docs_in front) (length (data_of front)) xs (part.ids.end - part.ids.start)) (n.bytes honest) t2 in
    let t4 : TakesBlock v w (docs_in front) (length (data_of front)) n.block.bytes n.block.count =
    subst (λ (k : ℕ). TakesBlock v w (docs_in front) (length (data_of front)) n.block.bytes k) n.count t3 in
    judges_more front n.block v w (omega (arith, n.few, n.number)) (omega (arith, n.few, h.walked.come.next_is)) old t4

-- Some blocks were judged, and the watch has watched them.
pub record HasTold {P : Type 0} (adds : P → ℕ → ℕ → P → Type 0) (r now : Reading) (next : ℕ) (verdict : Verdict) (old new : P) : Type 0 where
  pub checked : HasChecked r now next verdict
  pub told : HasWatched adds checked.walked.front old new

watched_joined : {P : Type 0} (adds : P → ℕ → ℕ → P → Type 0) (front : List StoreBlock) (b : StoreBlock) (old middle new : P) → HasWatched adds front old middle
    → adds middle b.count (length b.bytes) new
    → HasWatched adds (front ++ b ∷ []) old new
watched_joined {P} adds [] b old middle new same one = (new, subst (λ (x : P). adds x b.count (length b.bytes) new) same one, refl)
watched_joined adds (x ∷ front) b old middle new h one = (h.0, h.1, watched_joined adds front b h.0 middle new h.2 one)

pub watched_first : {P : Type 0} (adds : P → ℕ → ℕ → P → Type 0) (r : Reading) (v : Verdict) (old : P) → Covers r.checkpoints (length r.file.content) → v.documents ≡ num_docs r → Judges [] v
    → HasTold adds r r 0 v old old
unfolding checked_first walked_first
watched_first adds r v old covers documents judged = record { checked = checked_first r v covers documents judged; told = refl }

-- one block more
pub watched_more : {P : Type 0} (adds : P → ℕ → ℕ → P → Type 0) (r now new : Reading) (next : ℕ) (v w : Verdict) (part : DataPart) (old middle after : P) → HasTold adds r now next v old middle
    → Some (place_of part) ≡ first_past now.checkpoints next
    → (IsTrue now.file.honest → part.bytes ≡ slice_range now.file.content part.start (part.start + length part.bytes))
    → (num_docs now ≤ next → new ≡ now) → (next < num_docs now → IsBlockRead now next new)
    → w.documents ≡ v.documents → TakesBlock v w part.ids.start part.start part.bytes (part.ids.end - part.ids.start)
    → adds middle (part.ids.end - part.ids.start) (length part.bytes) after → HasTold adds r new part.ids.end w old after
unfolding walked_more
watched_more {P} adds r now new next v w part old middle after h seeks given none once documents takes one =
    let walked = h.checked.walked in
    let n = walked_next (λ front. Judges front v) r now next part walked seeks given in
    record {
      checked = record {
        walked = walked_more (λ front. Judges front v) (λ front. Judges front w) r now new next part walked n none once (judged_next r now next v w part h.checked n takes);
        documents = documents ∙ h.checked.documents;
      };
      told = watched_joined adds walked.front n.block old middle after h.told
          (subst (λ (k : ℕ). adds middle n.block.count k after) n.size (subst (λ (k : ℕ). adds middle k (length part.bytes) after) n.count one));
    }

-- all blocks
pub checked_all : (r now : Reading) (next : ℕ) (v : Verdict) → HasChecked r now next v → num_docs now ≤ next → IsTrue r.file.honest → Judges (store_of r) v
checked_all r now next v h le honest = walked_all (λ front. Judges front v) r now next h.walked le honest

pub watched_all : {P : Type 0} (adds : P → ℕ → ℕ → P → Type 0) (r now : Reading) (next : ℕ) (v : Verdict) (old new : P) → HasTold adds r now next v old new → num_docs now ≤ next
    → HasWatched adds (store_of r) old new
watched_all adds r now next v old new h le =
    subst (λ (bs : List StoreBlock). HasWatched adds bs old new) (sym (walked_to_the_end (λ front. Judges front v) r now next h.checked.walked le)) h.told

pub watched_some : {P : Type 0} (adds : P → ℕ → ℕ → P → Type 0) (r now : Reading) (next : ℕ) (v : Verdict) (old new : P) → HasTold adds r now next v old new
    → (count : ℕ) × HasWatched adds (take count (store_of r)) old new
watched_some adds r now next v old new h =
    (length h.checked.walked.front, subst (λ (bs : List StoreBlock). HasWatched adds bs old new) (sym (walked_front (λ front. Judges front v) r now next h.checked.walked)) h.told)
