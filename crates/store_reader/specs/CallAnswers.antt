-- What a list of reading calls answers.
use Rattle.std.specs.Prelude.{◌≡◌, ◌↔◌, ℕ, ◌≤◌, ◌<◌, Bool, true, nat_lt, if◌then◌else◌, List, [], ◌∷◌, length, map, slice_get}
use Rattle.std.specs.Prelude.{Contains, Option, Some, None, IfSome, Result, Ok, Err, IsErrOf}
use Rattle.std.specs.List.{AllByRecursion, flat_map}
use Rattle.store_reader.specs.declared.call_list.Answer.{Answer}
use Rattle.store_reader.specs.declared.call_list.Answer.TheVariants.{Got, Listed}
use Rattle.store_reader.specs.declared.call_list.ReadCall.{ReadCall}
use Rattle.store_reader.specs.declared.call_list.ReadCall.TheVariants.{Bytes, Iter}
use Rattle.store_base.specs.declared.error.StoreError.{StoreError}
use Rattle.store_base.specs.declared.error.StoreError.TheVariants.{InvalidArgument, DamagedDocument, Read, Memory}
use Rattle.layered_index.specs.declared.checkpoint.Checkpoint.{Checkpoint}
use Rattle.layered_index.specs.Checkpoint.{docs_end, first_past}
use Rattle.store_reader.specs.GetAnswer.{AnswersTruly}
use Rattle.store_format.specs.Block.{Slot, doc, damaged}
use Rattle.store_reader.specs.Iteration.{is_in, flags_of, looked_along}
use Rattle.store_reader.specs.CallList.{first_alive, AreItems}

-- The set of an iteration reaches this many ids.
abbrev pub CanAnswer : ℕ → ReadCall → Type 0
CanAnswer count (Bytes id) = Unit {0}
CanAnswer count (Iter alive take) = IfSome alive (λ set. count ≤ length set)

-- A document of a block is alive.
pub record HasAlive (set : Option (ℕ → Bool)) (c : Checkpoint) : Type 0 where
  pub id : ℕ
  pub from : c.doc_range.start ≤ id
  pub to : id < c.doc_range.end
  pub alive : is_in set id ≡ true

-- Each block that the call looks up has a document that is answered: it is a get, or an iteration that takes an item,
-- in whose set each block has a document.
abbrev pub ShowsEachBlock : List Checkpoint → ReadCall → Type 0
ShowsEachBlock cs (Bytes id) = Unit {0}
ShowsEachBlock cs (Iter alive take) = (0 < take) × AllByRecursion (HasAlive (flags_of alive)) cs

-- A document's slot answers a get; the first slots whose ids are alive answer an iteration, one by one; failed reads
-- and memory aside.
abbrev pub IsAnswer : List Slot → ReadCall → Answer → Type 0
IsAnswer all (Bytes id) (Got result) = AnswersTruly id (slice_get all id) result
IsAnswer all (Iter alive take) (Listed v) = AreItems (first_alive take all (flags_of alive)) v.items
IsAnswer all _ _ = ⊥

abbrev pub AreAnswers : List Slot → List ReadCall → List Answer → Type 0
AreAnswers all [] [] = Unit {0}
AreAnswers all (call ∷ calls) (answer ∷ answers) = IsAnswer all call answer × AreAnswers all calls answers
AreAnswers all _ _ = ⊥

-- It is not refused as an id at or past the count.
abbrev pub IsNotPast : Result (List ℕ) StoreError → Type 0
IsNotPast result = (id : ℕ) → ¬ IsErrOf result (InvalidArgument id)

-- A get is refused as one of this id, and of no other, exactly where the id is at or past the count; no item of an
-- iteration is.
abbrev pub RefusesPast : ℕ → ReadCall → Answer → Type 0
RefusesPast count (Bytes id) (Got result) = (other : ℕ)
    → IsErrOf result (InvalidArgument other) ↔ ((other ≡ id) × (count ≤ id))
RefusesPast count (Iter alive take) (Listed v) = AllByRecursion IsNotPast v.items
RefusesPast count _ _ = ⊥

-- the result of a get, or the items of an iteration
abbrev pub results_of : Answer → List (Result (List ℕ) StoreError)
results_of (Got result) = result ∷ []
results_of (Listed v) = v.items

-- Some get or some item was refused by this.
abbrev pub HasRefusal : List Answer → StoreError → Type 0
HasRefusal answers e = Contains (flat_map results_of answers) (Err e)

-- the key of a block, if there is one
abbrev pub key_of : Option Checkpoint → List ℕ
key_of None = []
key_of (Some c) = c.byte_range.start ∷ []

-- The keys that a call looks up: that of the document's block, none for an id at or past the count; or those of an
-- iteration that is
-- dropped after this many items.
abbrev pub keys_of_call : List Checkpoint → ReadCall → List ℕ
keys_of_call cs (Bytes id) = if nat_lt id (docs_end 0 cs) then key_of (first_past cs id) else []
keys_of_call cs (Iter alive take) = looked_along cs (flags_of alive) take

abbrev pub keys_of_calls : List Checkpoint → List ReadCall → List ℕ
keys_of_calls cs calls = flat_map (keys_of_call cs) calls

-- No read failed, and memory was found.
abbrev pub HasCome : Result (List ℕ) StoreError → Type 0
HasCome (Err Read) = ⊥
HasCome (Err Memory) = ⊥
HasCome _ = Unit {0}

abbrev pub AllCame : Answer → Type 0
AllCame (Got result) = HasCome result
AllCame (Listed v) = AllByRecursion HasCome v.items

-- The same answer.
abbrev pub IsSameAnswer : Answer → Answer → Type 0
IsSameAnswer (Got a) (Got b) = a ≡ b
IsSameAnswer (Listed v) (Listed w) = v.items ≡ w.items
IsSameAnswer _ _ = ⊥

abbrev pub AreSameAnswers : List Answer → List Answer → Type 0
AreSameAnswers [] [] = Unit {0}
AreSameAnswers (a ∷ answers) (b ∷ others) = IsSameAnswer a b × AreSameAnswers answers others
AreSameAnswers _ _ = ⊥

-- The slots decide the answers where no read failed and memory was found: not the cache, nor what was called before.
abbrev pub SlotsDecideAnswers : Type 0
SlotsDecideAnswers = (all : List Slot) (calls : List ReadCall) (answers others : List Answer)
    → AreAnswers all calls answers → AreAnswers all calls others
    → AllByRecursion AllCame answers → AllByRecursion AllCame others → AreSameAnswers answers others

-- what a slot answers: its bytes, or the refusal of this id where there is no slot or it is damaged
abbrev pub exact_result : ℕ → Option Slot → Result (List ℕ) StoreError
exact_result id None = Err (InvalidArgument id)
exact_result id (Some damaged) = Err (DamagedDocument id)
exact_result id (Some (doc bytes)) = Ok bytes

-- what the slots answer a call: the result of a get, or an item for each of the first slots whose ids are alive
abbrev pub exact_results : List Slot → ReadCall → List (Result (List ℕ) StoreError)
exact_results all (Bytes id) = exact_result id (slice_get all id) ∷ []
exact_results all (Iter alive take) = map (λ x. exact_result x.0 (Some x.1)) (first_alive take all (flags_of alive))

-- Where no read failed and memory was found, the slots and the calls say exactly what is answered.
abbrev pub AnswersAreExact : Type 0
AnswersAreExact = (all : List Slot) (calls : List ReadCall) (answers : List Answer) → AreAnswers all calls answers
    → ¬ HasRefusal answers Read → ¬ HasRefusal answers Memory
    → map results_of answers ≡ map (exact_results all) calls
