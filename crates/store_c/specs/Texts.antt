-- The texts of refusals.
use Rattle.std.specs.Prelude.{ℕ, ◌==◌, if◌then◌else◌, List, codes}

-- the text of a refusal's number
abbrev pub refusal_text : ℕ → List ℕ
refusal_text number =
    if number == 0 then codes "done" else
    if number == 1 then codes "the file is shorter than a footer" else
    if number == 2 then codes "the footer has an unknown version" else
    if number == 3 then codes "the blocks are compressed" else
    if number == 4 then codes "the index would begin after the footer's first byte" else
    if number == 5 then codes "the index is not one of blocks that cover the data" else
    if number == 6 then codes "the store has no document of this number" else
    if number == 7 then codes "the block's table doesn't say where the document is" else
    if number == 10 then codes "out of memory" else
    if number == 11 then codes "a store of version 1 can't be stacked" else
    if number == 13 then codes "a block would have 2^32 bytes or more" else
    if number == 14 then codes "there would be 2^32 documents or more" else
    if number == 16 then codes "the period is below 2 or above 64" else
    if number == 32 then codes "an array of the caller is too short" else
    if number == 33 then codes "the table is not the one of the file" else
    if number == 34 then codes "the open block has documents; end it first" else
    if number == 35 then codes "the writer or its table is not as these calls left it" else
    if number == 36 then codes "the end of the file lacks the footer or a part of the index" else
    if number == 37 then codes "the block doesn't have the document, or has another length" else
    codes "unknown refusal"
