-- Heads: a batch of no records stands before each batch, and tells its length. So a batch that has changed on the disk, and
-- that another one follows, is not taken for one that was not finished.
use Rattle.std.specs.Prelude.{ℕ, zero, suc, ◌+◌, ◌-◌, ◌==◌, ◌&&◌, ◌||◌, not, Bool, true, false, nat_le, nat_eq, List, [], ◌∷◌, ◌++◌, length, drop, Option, Some, None, if◌then◌else◌}
use lib.Pointwise.{pointwise}
use Rattle.log_tail.specs.Tail.{four, four_in, eight, summed, has_batch, front_body, first_of}

-- the body of a head: a length that no record has, so it has none; the number of the tail's first record, the place of the
-- head in the file, and the length of the body of the next batch
abbrev pub head_body : ℕ → ℕ → ℕ → List ℕ
head_body first place len = 255 ∷ 255 ∷ 255 ∷ 255 ∷ (eight first ++ (eight place ++ four len))

-- a head at this place, and the batch of this body
abbrev pub headed : ℕ → ℕ → List ℕ → List ℕ
headed first place body = (1 ∷ summed (head_body first place (length body))) ++ (1 ∷ summed body)

-- the length that the body of a head tells, if it is one of this place
abbrev pub told_by : ℕ → ℕ → List ℕ → Option ℕ
told_by first place body = if pointwise nat_eq body (head_body first place (four_in (drop 20 body))) then Some (four_in (drop 20 body)) else None

-- the length that a head tells that stands at the front of these bytes, which lie at this place
abbrev pub told_at : ℕ → ℕ → List ℕ → Option ℕ
told_at first place [] = None
told_at first place (gate ∷ bytes) = if (gate == 1) && has_batch bytes then told_by first place (front_body bytes) else None

-- Whether there is one.
abbrev pub is_told : Option ℕ → Bool
is_told None = false
is_told (Some _) = true

-- Whether a head stands at this place of a file.
abbrev pub has_head : List ℕ → ℕ → Bool
has_head file place = is_told (told_at (first_of file) place (drop place file))

-- Whether a head stands where a batch of this length ends that begins at this place.
abbrev pub has_head_after : List ℕ → ℕ → Option ℕ → Bool
has_head_after file place None = false
has_head_after file place (Some len) = has_head file (place + 13 + len)

-- the length of the body of the batch at the front, if one is there
abbrev pub body_length : List ℕ → Option ℕ
body_length [] = None
body_length (gate ∷ bytes) = if (gate == 1) && has_batch bytes then Some (length (front_body bytes)) else None

-- the bytes that begin after the first n ones, from the first place on where no batch stands
abbrev pub rest_after : ℕ → List ℕ → List ℕ
rest_after n [] = []
rest_after (suc n) (_ ∷ bytes) = rest_after n bytes
rest_after zero (gate ∷ bytes) = if (gate == 1) && has_batch bytes then rest_after (4 + four_in bytes) bytes else gate ∷ bytes

-- the bytes of a tail after its whole batches
abbrev pub rest_of : List ℕ → List ℕ
rest_of file = rest_after 16 file

-- Whether a head follows the batch at this place of a file, where no batch is whole: the batch whose head stands before the
-- place, or one whose head has changed.
abbrev pub is_followed_at : ℕ → List ℕ → Bool
is_followed_at end file =
    if nat_le 53 end && has_head_after file end (told_at (first_of file) (end - 37) (drop (end - 37) file)) then true
    else has_head_after file (end + 37) (body_length (drop (end + 37) file))

-- Whether another batch follows the first one of a tail that is not whole. Each batch is written once the one before it is
-- on the disk, so that one was, and has changed.
abbrev pub is_followed : List ℕ → Bool
is_followed file = is_followed_at (length file - length (rest_of file)) file

-- Whether there is a length, and it is this one.
abbrev pub is_length : ℕ → Option ℕ → Bool
is_length n None = false
is_length n (Some len) = len == n

-- Whether a batch of the form of a head stands at the front of these bytes, of whatever number and place.
abbrev pub has_head_form : List ℕ → Bool
has_head_form bytes = is_length 24 (body_length bytes) && (four_in (drop 13 bytes) == 4294967295)

-- Whether the first batch of a tail has the form of a head, and is none of this tail: the tail's first number has changed.
abbrev pub is_misnumbered : List ℕ → Bool
is_misnumbered file = has_head_form (drop 16 file) && not (has_head file 16)

-- Whether bytes of a tail have changed that were written whole.
abbrev pub is_damaged : List ℕ → Bool
is_damaged file = is_followed file || is_misnumbered file
