-- The bytes of a plain record, and what bytes are read as one.
use Rattle.std.specs.Prelude.{ℕ, zero, suc, ◌^◌, Bool, ◌&&◌, nat_lt, ◌==◌, if◌then◌else◌, List, [], ◌∷◌, ◌++◌, length}
use Rattle.std.specs.Prelude.{take, drop, map, Option, Some, None, Vec}
use Rattle.std.specs.List.{flat_map, list_all}
use Rattle.std.specs.Int.{w32}
use Rattle.std.specs.declared.alloc.Global.{Global}
use Rattle.store_base.specs.VInt.{number, ◌>>=◌, number_below}
use Rattle.store_base.specs.Serialize.{fixed, fixed_at}

-- A field is its number and its bytes. A record is a list of fields, in the order added.
abbrev pub Record : Type 0
Record = List (ℕ × List ℕ)

-- the fields as they lie in memory, without where they lie
abbrev pub field_seen : ℕ × Vec ℕ Global → ℕ × List ℕ
field_seen f = (f.0, f.1.items)

abbrev pub fields_seen : List (ℕ × Vec ℕ Global) → Record
fields_seen fields = map field_seen fields

-- a field's number, the length of its bytes, and these, where text spells a number
abbrev pub field_bytes_in : (ℕ → List ℕ) → ℕ × List ℕ → List ℕ
field_bytes_in text f = text f.0 ++ text (length f.1) ++ f.1

-- how many fields there are, and each
abbrev pub record_bytes_in : (ℕ → List ℕ) → Record → List ℕ
record_bytes_in text fields = text (length fields) ++ flat_map (field_bytes_in text) fields

-- what is written: the bytes of version 2
abbrev pub field_bytes : ℕ × List ℕ → List ℕ
field_bytes = field_bytes_in number

abbrev pub record_bytes : Record → List ℕ
record_bytes = record_bytes_in number

-- the bytes of version 1, whose numbers have four bytes each
abbrev pub old_record_bytes : Record → List ℕ
old_record_bytes = record_bytes_in (fixed 4)

-- whether its parts have a spelling
abbrev pub has_spelling : ℕ × List ℕ → Bool
has_spelling f = nat_lt f.0 (2 ^ 32) && nat_lt (length f.1) (2 ^ 64) && list_all (λ b. nat_lt b 256) f.1

-- the same, and the schema, which has this many fields, has the field
abbrev pub is_writable : ℕ → ℕ × List ℕ → Bool
is_writable schema f = nat_lt f.0 schema && has_spelling f

-- the bytes of a record in a schema of this many fields, if it has any
abbrev pub doc_bytes : Record → ℕ → Option (List ℕ)
doc_bytes fields schema = if list_all (is_writable schema) fields && nat_lt (length fields) (2 ^ 64) then Some
    (record_bytes fields) else None

-- how a version reads the number of a field, and how a count or a length
pub record Spelling : Type 0 where
  pub field : List ℕ → Option (ℕ × List ℕ)
  pub size : List ℕ → Option (ℕ × List ℕ)

-- in version 1 both have four bytes
abbrev pub spelling_of : ℕ → Spelling
spelling_of version = if version == 1 then record { field = fixed_at w32; size = fixed_at w32 } else record {
  field =
      number_below (2 ^ 32);
  size = number_below (2 ^ 64);
}

-- this many bytes
abbrev pub bytes_at : ℕ → List ℕ → Option (List ℕ × List ℕ)
bytes_at count bytes = if nat_lt (length bytes) count then None else Some (take count bytes, drop count bytes)

unfoldable pub field_at : Spelling → List ℕ → Option ((ℕ × List ℕ) × List ℕ)
field_at s bytes = s.field bytes >>= λ field. s.size field.1 >>= λ size. bytes_at size.0 size.1 >>= λ text. Some
    ((field.0, text.0), text.1)

unfoldable pub fields_at : Spelling → ℕ → List ℕ → Option (Record × List ℕ)
fields_at s zero bytes = Some ([], bytes)
fields_at s (suc more) bytes = field_at s bytes >>= λ first. fields_at s more first.1 >>= λ others. Some
    (first.0 ∷ others.0, others.1)

-- a record that takes all of the bytes
unfoldable pub record_at : Spelling → List ℕ → Option Record
record_at s bytes = s.size bytes >>= λ count. fields_at s count.0 count.1 >>= λ fields. if length fields.1 == 0
    then Some fields.0 else None

-- the record that bytes of a version are read as, if they are read
abbrev pub reading : ℕ → List ℕ → Option Record
reading version bytes = if version == 1 then record_at (spelling_of 1) bytes else
    (if version == 2 then record_at (spelling_of 2) bytes else None)

-- the form in which a record is kept
abbrev pub stored : Record → Record
stored fields = fields
