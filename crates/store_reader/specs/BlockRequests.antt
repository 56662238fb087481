-- What a request gets of a block that is looked up.
use Rattle.std.specs.Prelude.{ℕ, List, Result}
use Rattle.store_base.specs.declared.error.StoreError.{StoreError}
use Rattle.store_reader.specs.declared.block_request.BlockRequest.{BlockRequest}
use Rattle.store_reader.specs.declared.block_request.BlockRequest.TheVariants.{Document, Whole}
use Rattle.store_reader.specs.GetAnswer.{AnswersFrom}
use Rattle.store_reader.specs.LookingUp.{IsShared}

-- what the request wants, of a block that came or of the reason why none did
abbrev pub AnswersRequest : BlockRequest → Result (List ℕ) StoreError → Result (List ℕ) StoreError → Type 0
AnswersRequest (Document doc_id doc_pos) came result = AnswersFrom doc_id doc_pos came result
AnswersRequest Whole came result = IsShared came result
