-- How a reading of a store goes on from block to block.
use Rattle.std.proofs.Common.{◌≡◌, ℕ, suc, ◌+◌, ◌-◌, ◌<◌, ◌≤◌, ◌^◌, true, false, List, [], ◌∷◌, ◌++◌, length, take, Option, Some, None, refl, sym, ap, ◌∙◌, subst, arith, length-append, append_assoc}
use Rattle.std.specs.Prelude.{IsTrue, IsNone, IfSome, slice_range, nat_lt}
use Rattle.std.specs.Option.{option_map}
use Rattle.std.specs.List.{AllByRecursion}
use Rattle.std.proofs.lemmas.Bool.{lt-ltb, le-ltb, ltb-true, ltb-false}
use Rattle.std.proofs.lemmas.List.{append-nil, take_at}
use Rattle.std.proofs.lemmas.List.Concat.{flat_map-append}
use Rattle.docstore.proofs.ReadInPartsLemmas.{read_more}
use Rattle.docstore.proofs.StackLawLemmas.{checkpoints_end}
use Rattle.docstore.specs.StackingInParts.{IsReadTimes, IsReadAtMost, IsReadInPieces}
use Rattle.store_format.proofs.StoreLemmas.{docs_in-cons, docs_in-append, length-data_of-cons, data_of-append}
use Rattle.store_base.proofs.ListLemmas.{all_following, range_at}
use Rattle.layered_index.specs.declared.checkpoint.Checkpoint.{Checkpoint}
use Rattle.layered_index.specs.Checkpoint.{byte_len, Covers, checkpoint, docs_end, first_past}
use Rattle.store_format.specs.StoreFile.{StoreBlock, IsStoreBlock, docs_in, data_of, checkpoints_from, checkpoints_of}
use Rattle.store_reader.specs.declared.data_part.DataPart.{DataPart}
use Rattle.store_reader.specs.Parts.{place_of, IsBlockRead}
use Rattle.store_reader.specs.Reading.{Reading, IsReadOnce, IsSameStore, num_docs, store_of}
use Rattle.store_reader.proofs.ReaderStoreLemmas.{store_seen}
use Rattle.store_reader.proofs.RecentLemmas.{same_as_it_is}

-- ---- blocks by their first document

-- a seek for the first document after some blocks finds the next block
found : (id byte : ℕ) (front : List StoreBlock) (b : StoreBlock) (rest : List StoreBlock) (target place : ℕ) → 0 < b.count → target ≡ id + docs_in front → place ≡ byte + length (data_of front)
    → first_past (checkpoints_from id byte (front ++ b ∷ rest)) target ≡ Some (checkpoint target (target + b.count) place (place + length b.bytes))
found id byte [] b rest target place some t p =
    let here : target ≡ id = omega (arith, t) in let there : place ≡ byte = omega (arith, p) in
    rw (here, there, lt-ltb id (id + b.count) (omega arith)) refl
found id byte (x ∷ xs) b rest target place some t p =
    let docs : target ≡ (id + x.count) + docs_in xs = omega (arith, t, docs_in-cons x xs) in
    let bytes : place ≡ (byte + length x.bytes) + length (data_of xs) = omega (arith, p, length-append x.bytes (data_of xs)) in
    rw (le-ltb target (id + x.count) (omega (arith, docs))) (found (id + x.count) (byte + length x.bytes) xs b rest target place some docs bytes)

-- after all blocks it finds none
none_found : (id byte : ℕ) (bs : List StoreBlock) (target : ℕ) → id + docs_in bs ≤ target → first_past (checkpoints_from id byte bs) target ≡ None
none_found id byte [] target le = refl
none_found id byte (x ∷ xs) target le =
    let cons = docs_in-cons x xs in
    rw (le-ltb target (id + x.count) (omega arith)) (none_found (id + x.count) (byte + length x.bytes) xs target (omega arith))

-- each block has a document
some_each : (xs ys : List StoreBlock) → AllByRecursion IsStoreBlock (xs ++ ys) → length xs ≤ docs_in xs
some_each [] ys h = omega arith
some_each (x ∷ xs) ys h = omega (arith, h.0.some_docs, some_each xs ys h.1, docs_in-cons x xs)

-- ---- a reading

-- These blocks were read, and this is the first document of the others.
pub record HasCome (r : Reading) (front : List StoreBlock) (next : ℕ) : Type 0 where
  pub rest : List StoreBlock
  pub parts : store_of r ≡ front ++ rest
  pub next_is : next ≡ docs_in front

pub has_begun : (r : Reading) → HasCome r [] 0
has_begun r = record { rest = store_of r; parts = refl; next_is = refl }

-- What a read brought is the next block.
pub record IsNext (r : Reading) (front : List StoreBlock) (next : ℕ) (part : DataPart) : Type 0 where
  pub block : StoreBlock
  pub rest : List StoreBlock
  pub parts : store_of r ≡ front ++ block ∷ rest
  pub some : 0 < block.count
  pub first : part.ids.start ≡ next
  pub end : part.ids.end ≡ next + block.count
  pub count : part.ids.end - part.ids.start ≡ block.count
  pub byte : part.start ≡ length (data_of front)
  pub size : length part.bytes ≡ length block.bytes
  pub bytes : IsTrue r.file.honest → part.bytes ≡ block.bytes
  pub few : next + block.count < 2 ^ 32
  pub number : length front ≤ next

-- The block after some others, which a seek for its first document finds.
pub record IsSoughtNext (r : Reading) (front : List StoreBlock) (next : ℕ) (b : StoreBlock) : Type 0 where
  pub is_block : IsStoreBlock b
  pub sought : first_past r.checkpoints next ≡ Some (checkpoint next (next + b.count) (length (data_of front)) (length (data_of front) + length b.bytes))

pub sought_next : (r : Reading) (front : List StoreBlock) (next : ℕ) (b : StoreBlock) (rest : List StoreBlock) → Covers r.checkpoints (length r.file.content) → HasCome r front next
    → store_of r ≡ front ++ b ∷ rest → IsSoughtNext r front next b
sought_next r front next b rest covers come parts =
    let seen = store_seen r.file.content r.checkpoints covers in
    let each : AllByRecursion IsStoreBlock (b ∷ rest) = all_following IsStoreBlock front (b ∷ rest) (subst (AllByRecursion IsStoreBlock) parts seen.blocks.each) in
    record {
      is_block = each.0;
      sought = ap (λ (cs : List Checkpoint). first_past cs next) (sym seen.checkpoints_are)
          ∙ ap (λ (bs : List StoreBlock). first_past (checkpoints_of bs) next) parts
          ∙ found 0 0 front b rest next (length (data_of front)) each.0.some_docs (omega (arith, come.next_is)) (omega arith);
    }

pub is_next : (r : Reading) (front : List StoreBlock) (next : ℕ) (part : DataPart) → Covers r.checkpoints (length r.file.content) → HasCome r front next
    → Some (place_of part) ≡ first_past r.checkpoints next
    → (IsTrue r.file.honest → part.bytes ≡ slice_range r.file.content part.start (part.start + length part.bytes)) → IsNext r front next part
is_next r front next part covers come seeks given = by come.rest come.parts
  where
    by : (rest : List StoreBlock) → store_of r ≡ front ++ rest → IsNext r front next part
    by [] parts =
        let seen = store_seen r.file.content r.checkpoints covers in
        let none : first_past (checkpoints_of (store_of r)) next ≡ None =
        ap (λ (bs : List StoreBlock). first_past (checkpoints_of bs) next) (parts ∙ append-nil front) ∙ none_found 0 0 front next (omega (arith, come.next_is)) in
        absurd (let bad : Some (place_of part) ≡ None = seeks ∙ ap (λ (cs : List Checkpoint). first_past cs next) (sym seen.checkpoints_are) ∙ none in cc)
    by (b ∷ rest) parts =
        let seen = store_seen r.file.content r.checkpoints covers in
        let h = sought_next r front next b rest covers come parts in
        let place = length (data_of front) in
        let all : Some (place_of part) ≡ Some (checkpoint next (next + b.count) place (place + length b.bytes)) = seeks ∙ h.sought in
        let same : place_of part ≡ checkpoint next (next + b.count) place (place + length b.bytes) = cc in
        let first : part.ids.start ≡ next = ap (λ (c : Checkpoint). c.doc_range.start) same in
        let end : part.ids.end ≡ next + b.count = ap (λ (c : Checkpoint). c.doc_range.end) same in
        let byte : part.start ≡ place = ap (λ (c : Checkpoint). c.byte_range.start) same in
        let last : part.start + length part.bytes ≡ place + length b.bytes = ap (λ (c : Checkpoint). c.byte_range.end) same in
        let content_is : r.file.content ≡ data_of front ++ (b.bytes ++ data_of rest) =
        sym seen.data_is ∙ ap data_of parts ∙ flat_map-append (λ (x : StoreBlock). x.bytes) front (b ∷ rest) in
        record {
          block = b;
          rest = rest;
          parts = parts;
          some = h.is_block.some_docs;
          first = first;
          end = end;
          count = omega (arith, first, end);
          byte = byte;
          size = omega (arith, byte, last);
          bytes = λ honest. given honest ∙ ap (λ (xs : List ℕ). slice_range xs part.start (part.start + length part.bytes)) content_is
              ∙ range_at (data_of front) b.bytes (data_of rest) part.start (part.start + length part.bytes) byte (omega (arith, byte, last));
          few = let joined = docs_in-append front (b ∷ rest) in let cons = docs_in-cons b rest in omega (arith, ap docs_in parts, joined, cons, come.next_is, seen.blocks.few_docs);
          number = omega (arith, come.next_is, some_each front (b ∷ rest) (subst (AllByRecursion IsStoreBlock) parts seen.blocks.each));
        }

pub docs_of_all : (r : Reading) → Covers r.checkpoints (length r.file.content) → num_docs r ≡ docs_in (store_of r)
docs_of_all r covers =
    let seen = store_seen r.file.content r.checkpoints covers in
    let zero : 0 + docs_in (store_of r) ≡ docs_in (store_of r) = omega arith in
    ap (docs_end 0) (sym seen.checkpoints_are) ∙ checkpoints_end 0 0 (store_of r) ∙ zero

-- what is known of a block that was found
pub seeks_some : (found : Option DataPart) (part : DataPart) (sought : Option Checkpoint) → found ≡ Some part → option_map place_of found ≡ sought → Some (place_of part) ≡ sought
seeks_some found part sought e h = sym (ap (option_map place_of) e) ∙ h

pub bytes_some : (content : List ℕ) (found : Option DataPart) (part : DataPart) → found ≡ Some part
    → IfSome found (λ p. p.bytes ≡ slice_range content p.start (p.start + length p.bytes)) → part.bytes ≡ slice_range content part.start (part.start + length part.bytes)
bytes_some content found part e h =
    let P : Option DataPart → Type 0 = λ o. IfSome o (λ p. p.bytes ≡ slice_range content p.start (p.start + length p.bytes)) in subst P e h

pub none_left : (found : Option DataPart) → found ≡ None → IsNone found
none_left found e = subst IsNone (sym e) refl

-- it is one block further
pub has_come_on : (r : Reading) (front : List StoreBlock) (next : ℕ) (part : DataPart) → HasCome r front next → (n : IsNext r front next part) → HasCome r (front ++ n.block ∷ []) part.ids.end
has_come_on r front next part come n = record {
  rest = n.rest;
  parts = n.parts ∙ sym (append_assoc front (n.block ∷ []) n.rest);
  next_is = let joined = docs_in-append front (n.block ∷ []) in let cons = docs_in-cons n.block [] in omega (arith, n.end, come.next_is, joined, cons);
}

-- after the last document it has come to the end
pub has_ended : (r : Reading) (front : List StoreBlock) (next : ℕ) → Covers r.checkpoints (length r.file.content) → HasCome r front next → num_docs r ≤ next → store_of r ≡ front
has_ended r front next covers come le = by come.rest come.parts
  where
    by : (rest : List StoreBlock) → store_of r ≡ front ++ rest → store_of r ≡ front
    by [] parts = parts ∙ append-nil front
    by (b ∷ rest) parts =
        let seen = store_seen r.file.content r.checkpoints covers in
        let each : AllByRecursion IsStoreBlock (b ∷ rest) = all_following IsStoreBlock front (b ∷ rest) (subst (AllByRecursion IsStoreBlock) parts seen.blocks.each) in
        let joined = docs_in-append front (b ∷ rest) in let cons = docs_in-cons b rest in
        absurd (omega (arith, each.0.some_docs, ap docs_in parts, joined, cons, come.next_is, le, docs_of_all r covers))

-- ---- reads leave the store

same_once : (len : ℕ) (first old new : Reading) → IsSameStore first old → IsReadOnce len old new → IsSameStore first new
same_once len first old new same read = record {
  content = read.once.content ∙ same.content;
  honest = read.once.honest ∙ same.honest;
  failures = omega (arith, same.failures, read.once.failures);
  checkpoints = ap (λ (r : Reading). r.checkpoints) read.others ∙ same.checkpoints;
  period = ap (λ (r : Reading). r.period) read.others ∙ same.period;
  version = ap (λ (r : Reading). r.version) read.others ∙ same.version;
  decompressor = ap (λ (r : Reading). r.decompressor) read.others ∙ same.decompressor;
  capacity = ap (λ (r : Reading). r.cache.capacity) read.others ∙ same.capacity;
}

-- a read of a block, or none past the last document
pub same_read : (first old new : Reading) (id : ℕ) → IsSameStore first old → (num_docs old ≤ id → new ≡ old) → (id < num_docs old → IsBlockRead old id new) → IsSameStore first new
same_read first old new id same none once = (elim (nat_lt id (num_docs old)) as (λ b. nat_lt id (num_docs old) ≡ b → IsSameStore first new) [
  | true ↦ λ t. let read = once (ltb-true id (num_docs old) t) in same_once (byte_len read.block) first old new same read.once
  | false ↦ λ t. subst (IsSameStore first) (sym (none (ltb-false id (num_docs old) t))) same
]) refl

-- ---- how much is read

length-places : (id byte : ℕ) (bs : List StoreBlock) → length (checkpoints_from id byte bs) ≡ length bs
length-places id byte [] = refl
length-places id byte (b ∷ bs) = ap suc (length-places (id + b.count) (byte + length b.bytes) bs)

number_of_blocks : (r : Reading) → Covers r.checkpoints (length r.file.content) → length (store_of r) ≡ length r.checkpoints
number_of_blocks r covers = sym (length-places 0 0 (store_of r)) ∙ ap length (store_seen r.file.content r.checkpoints covers).checkpoints_are

size_of_data : (r : Reading) → Covers r.checkpoints (length r.file.content) → length (data_of (store_of r)) ≡ length r.file.content
size_of_data r covers = ap length (store_seen r.file.content r.checkpoints covers).data_is

-- these blocks were read, each once
abbrev pub AreRead : Reading → Reading → List StoreBlock → Type 0
AreRead r now front = IsReadTimes (length front) (length (data_of front)) r now

pub none_read : (r : Reading) → AreRead r r []
none_read r = record { content = refl; honest = refl; reads = refl; asked = refl; failures = omega arith; others = refl }

-- and then the next one
pub next_read : (r now new : Reading) (front : List StoreBlock) (next : ℕ) (b : StoreBlock) → IsSoughtNext r front next b → now.checkpoints ≡ r.checkpoints → AreRead r now front
    → IsBlockRead now next new → AreRead r new (front ++ b ∷ [])
next_read r now new front next b h same before read =
    let place = length (data_of front) in let size = length b.bytes in
    let sought : Some read.block ≡ Some (checkpoint next (next + b.count) place (place + size)) = sym read.seeks ∙ ap (λ cs. first_past cs next) same ∙ h.sought in
    let is : read.block ≡ checkpoint next (next + b.count) place (place + size) = cc in
    let rest : (place + size) - place ≡ size = omega arith in
    let len : byte_len read.block ≡ size = ap byte_len is ∙ rest in
    let more : IsReadTimes (suc (length front)) (place + size) r new =
    read_more (length front) place size r now new h.is_block.some_bytes before (subst (λ (n : ℕ). IsReadOnce n now new) len read.once) in
    let times : suc (length front) ≡ length (front ++ b ∷ []) = omega (arith, length-append front (b ∷ [])) in
    let bytes : place + size ≡ length (data_of (front ++ b ∷ [])) =
    omega (arith, ap length (data_of-append front (b ∷ [])), length-append (data_of front) (data_of (b ∷ [])), length-data_of-cons b []) in
    subst (λ (n : ℕ). IsReadTimes n (length (data_of (front ++ b ∷ []))) r new) times (subst (λ (n : ℕ). IsReadTimes (suc (length front)) n r new) bytes more)

read_within : (r new : Reading) (front rest : List StoreBlock) → Covers r.checkpoints (length r.file.content) → store_of r ≡ front ++ rest → AreRead r new front
    → IsReadAtMost (length r.checkpoints) r new
read_within r new front rest covers parts read = record {
  times = length front;
  bytes = length (data_of front);
  few = omega (arith, number_of_blocks r covers, ap length parts, length-append front rest);
  within = omega (arith, size_of_data r covers, ap (λ (bs : List StoreBlock). length (data_of bs)) parts, ap length (data_of-append front rest), length-append (data_of front) (data_of rest));
  read = read;
}

-- ---- what is known of the blocks that were read

-- Some blocks were read, each once, of a store that is the same still, and P is known of them where its file is honest.
pub record HasWalked (P : List StoreBlock → Type 0) (r now : Reading) (next : ℕ) : Type 0 where
  pub front : List StoreBlock
  pub come : HasCome r front next
  pub covers : Covers r.checkpoints (length r.file.content)
  pub same : IsSameStore r now
  pub read : IsReadTimes (length front) (length (data_of front)) r now
  pub known : IsTrue r.file.honest → P front

unfoldable pub walked_first : (P : List StoreBlock → Type 0) (r : Reading) → Covers r.checkpoints (length r.file.content) → P [] → HasWalked P r r 0
walked_first P r covers none = record { front = []; come = has_begun r; covers = covers; same = same_as_it_is r; read = none_read r; known = λ _. none }

-- a block that comes is the next one
pub walked_next : (P : List StoreBlock → Type 0) (r now : Reading) (next : ℕ) (part : DataPart) (h : HasWalked P r now next)
    → Some (place_of part) ≡ first_past now.checkpoints next
    → (IsTrue now.file.honest → part.bytes ≡ slice_range now.file.content part.start (part.start + length part.bytes)) → IsNext r h.front next part
walked_next P r now next part h seeks given =
    let same = h.same in
    is_next r h.front next part h.covers h.come (seeks ∙ ap (λ cs. first_past cs next) same.checkpoints)
    (λ honest. given (subst IsTrue (sym same.honest) honest) ∙ ap (λ (xs : List ℕ). slice_range xs part.start (part.start + length part.bytes)) same.content)

pub same_docs : (P : List StoreBlock → Type 0) (r now : Reading) (next : ℕ) → HasWalked P r now next → num_docs now ≡ num_docs r
same_docs P r now next h = ap (λ cs. docs_end 0 cs) h.same.checkpoints

-- one block more
unfoldable pub walked_more : (P Q : List StoreBlock → Type 0) (r now new : Reading) (next : ℕ) (part : DataPart) (h : HasWalked P r now next) (n : IsNext r h.front next part)
    → (num_docs now ≤ next → new ≡ now) → (next < num_docs now → IsBlockRead now next new)
    → (IsTrue r.file.honest → P h.front → Q (h.front ++ n.block ∷ [])) → HasWalked Q r new part.ids.end
walked_more P Q r now new next part h n none once more =
    let below : next < num_docs now =
    omega (arith, same_docs P r now next h, docs_of_all r h.covers, ap docs_in n.parts, docs_in-append h.front (n.block ∷ n.rest), docs_in-cons n.block n.rest, h.come.next_is, n.some) in
    record {
      front = h.front ++ n.block ∷ [];
      come = has_come_on r h.front next part h.come n;
      covers = h.covers;
      same = same_read r now new next h.same none once;
      read = next_read r now new h.front next n.block (sought_next r h.front next n.block n.rest h.covers h.come n.parts) h.same.checkpoints h.read (once below);
      known = λ honest. more honest (h.known honest);
    }

-- all blocks
pub walked_all : (P : List StoreBlock → Type 0) (r now : Reading) (next : ℕ) → HasWalked P r now next → num_docs now ≤ next → IsTrue r.file.honest → P (store_of r)
walked_all P r now next h le honest = subst P (sym (has_ended r h.front next h.covers h.come (omega (arith, same_docs P r now next h, le)))) (h.known honest)

-- these blocks are a beginning of all, and all after the last document
pub walked_front : (P : List StoreBlock → Type 0) (r now : Reading) (next : ℕ) (h : HasWalked P r now next) → take (length h.front) (store_of r) ≡ h.front
walked_front P r now next h = ap (take (length h.front)) h.come.parts ∙ take_at h.front h.come.rest (length h.front) refl

pub walked_to_the_end : (P : List StoreBlock → Type 0) (r now : Reading) (next : ℕ) (h : HasWalked P r now next) → num_docs now ≤ next → store_of r ≡ h.front
walked_to_the_end P r now next h le = has_ended r h.front next h.covers h.come (omega (arith, same_docs P r now next h, le))

-- after them each was read once
pub walked_whole : (P : List StoreBlock → Type 0) (r now new : Reading) (next : ℕ) → HasWalked P r now next → num_docs now ≤ next → (num_docs now ≤ next → new ≡ now)
    → IsReadInPieces (length r.checkpoints) r new
walked_whole P r now new next h le none =
    let ended = walked_to_the_end P r now next h le in
    let times : length h.front ≡ length r.checkpoints = ap length (sym ended) ∙ number_of_blocks r h.covers in
    let bytes : length (data_of h.front) ≡ length r.file.content = ap (λ (bs : List StoreBlock). length (data_of bs)) (sym ended) ∙ size_of_data r h.covers in
    let read : IsReadTimes (length h.front) (length (data_of h.front)) r new = subst (IsReadTimes (length h.front) (length (data_of h.front)) r) (sym (none le)) h.read in
    subst (λ (n : ℕ). IsReadTimes n (length r.file.content) r new) times (subst (λ (n : ℕ). IsReadTimes (length h.front) n r new) bytes read)

-- wherever it ends, no block was read twice
pub walked_within : (P : List StoreBlock → Type 0) (r now new : Reading) (next : ℕ) → HasWalked P r now next → (num_docs now ≤ next → new ≡ now)
    → (next < num_docs now → IsBlockRead now next new) → IsReadAtMost (length r.checkpoints) r new
walked_within P r now new next h none once = (elim (nat_lt next (num_docs now)) as (λ b. nat_lt next (num_docs now) ≡ b → IsReadAtMost (length r.checkpoints) r new) [
  | true ↦ λ t. one_more (ltb-true next (num_docs now) t) h.come.rest h.come.parts
  | false ↦ λ t. subst (IsReadAtMost (length r.checkpoints) r) (sym (none (ltb-false next (num_docs now) t))) (read_within r now h.front h.come.rest h.covers h.come.parts h.read)
]) refl
  where
    one_more : next < num_docs now → (rest : List StoreBlock) → store_of r ≡ h.front ++ rest → IsReadAtMost (length r.checkpoints) r new
    one_more below [] parts =
        absurd (omega (arith, same_docs P r now next h, docs_of_all r h.covers, ap docs_in parts, docs_in-append h.front [], h.come.next_is))
    one_more below (b ∷ rest) parts =
        let n = sought_next r h.front next b rest h.covers h.come parts in
        read_within r new (h.front ++ b ∷ []) rest h.covers (parts ∙ sym (append_assoc h.front (b ∷ []) rest)) (next_read r now new h.front next b n h.same.checkpoints h.read (once below))
