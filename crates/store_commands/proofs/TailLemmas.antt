-- The tail of a file of tantivy's directory.
use Rattle.std.proofs.Common.{◌≡◌, ◌≢◌, ℕ, ◌+◌, ◌-◌, ◌<◌, ◌≤◌, ◌^◌, List, [], ◌++◌, length, take, drop, sym, ap, ◌∙◌, subst, arith, lit<, length-append, append_assoc}
use Rattle.std.specs.Prelude.{slice_range}
use Rattle.std.proofs.lemmas.List.{append-nil, take-append-drop, length-take-le, length-drop, drop-drop, take_all, drop_at}
use Rattle.store_base.specs.Serialize.{fixed}
use Rattle.store_base.specs.SerializeLemmas.{length-fixed, fixed_numbers_are_apart}
use Rattle.store_commands.specs.Tails.{tail_of, HasTail, HasNoTail}

pub length-tail_of : (n : ℕ) → length (tail_of n) ≡ 8
length-tail_of n = omega (arith, length-append (fixed 4 n) (fixed 4 1337), length-fixed 4 n, length-fixed 4 1337)

-- the length and the number are those that were read
pub numbers_of_tail : (tail rest last : List ℕ) (n magic m : ℕ) → n < 2 ^ 32 → magic < 2 ^ 32 → m < 2 ^ 32 → tail ≡ fixed 4 n ++ rest → rest ≡ fixed 4 magic ++ last → tail ≡ tail_of m
    → (n ≡ m) × (magic ≡ 1337)
numbers_of_tail tail rest last n magic m nf mf few t r e =
    let first = fixed_numbers_are_apart 4 n m rest (fixed 4 1337) nf few (sym t ∙ e) in
    let second = fixed_numbers_are_apart 4 magic 1337 last [] mf (lit< tt) (sym r ∙ first.1 ∙ sym (append-nil (fixed 4 1337))) in
    (first.0, second.0)

tails_apart : (m n : ℕ) → m < 2 ^ 32 → n < 2 ^ 32 → tail_of m ≡ tail_of n → m ≡ n
tails_apart m n mf nf e = (fixed_numbers_are_apart 4 m n (fixed 4 1337) (fixed 4 1337) mf nf e).0

-- ---- files

length-with_tail : (store text : List ℕ) → length (store ++ (text ++ tail_of (length text))) ≡ length store + length text + 8
length-with_tail store text =
    omega (arith, length-append store (text ++ tail_of (length text)), length-append text (tail_of (length text)), length-tail_of (length text))

-- a file that is too short has none
pub none_in_short : (file : List ℕ) → length file < 8 → HasNoTail file
none_in_short file short store h = absurd (omega (arith, length-with_tail store h.text, ap length h.parts))

-- the last bytes of a file that has one
last_bytes : (file store : List ℕ) (h : HasTail file store) (body : ℕ) → body ≡ length file - 8 → slice_range file body (length file) ≡ tail_of (length h.text)
last_bytes file store h body at =
    let size = length-with_tail store h.text in let same = ap length h.parts in
    let front : length (store ++ h.text) ≡ body = omega (arith, length-append store h.text, size, same, at) in
    let parts : file ≡ (store ++ h.text) ++ tail_of (length h.text) = h.parts ∙ sym (append_assoc store h.text (tail_of (length h.text))) in
    let rest : drop body file ≡ tail_of (length h.text) = ap (drop body) parts ∙ drop_at (store ++ h.text) (tail_of (length h.text)) body front in
    ap (take (length file - body)) rest ∙ take_all (length file - body) (tail_of (length h.text)) (omega (arith, length-tail_of (length h.text), size, same, at))

-- a file whose last bytes are none has none
pub none_without : (file tail : List ℕ) (body : ℕ) → body ≡ length file - 8 → tail ≡ slice_range file body (length file) → ((n : ℕ) → n < 2 ^ 32 → tail ≢ tail_of n) → HasNoTail file
none_without file tail body at is none store h = none (length h.text) h.few (is ∙ last_bytes file store h body at)

-- nor has one whose last bytes tell of a text longer than what stands before them
pub none_so_long : (file tail : List ℕ) (body n : ℕ) → body ≡ length file - 8 → tail ≡ slice_range file body (length file) → n < 2 ^ 32 → tail ≡ tail_of n → body < n → HasNoTail file
none_so_long file tail body n at is few e long store h =
    let same : n ≡ length h.text = tails_apart n (length h.text) few h.few (sym e ∙ is ∙ last_bytes file store h body at) in
    absurd (omega (arith, length-with_tail store h.text, ap length h.parts, same, at, long))

-- what stands before the text is the store
pub has_tail : (file tail : List ℕ) (body n : ℕ) → 8 ≤ length file → body ≡ length file - 8 → tail ≡ slice_range file body (length file) → n < 2 ^ 32 → tail ≡ tail_of n → n ≤ body
    → HasTail file (slice_range file 0 (body - n))
has_tail file tail body n long at is few e le =
    let front = body - n in
    let text = take n (drop front file) in
    let size : length text ≡ n = length-take-le n (drop front file) (omega (arith, length-drop front file)) in
    let rest : drop n (drop front file) ≡ drop body file = drop-drop n front file ∙ ap (λ (k : ℕ). drop k file) (omega arith) in
    let last : drop body file ≡ tail_of n = sym (take_all (length file - body) (drop body file) (omega (arith, length-drop body file))) ∙ sym is ∙ e in
    let whole : front - 0 ≡ front = omega arith in
    let all : HasTail file (take front file) = record {
      text = text;
      few = omega (arith, size);
      parts = sym (take-append-drop front file)
          ∙ ap (λ (xs : List ℕ). take front file ++ xs) (sym (take-append-drop n (drop front file)) ∙ ap (λ (xs : List ℕ). text ++ xs) (rest ∙ last ∙ ap tail_of (sym size)));
    } in
    subst (λ (k : ℕ). HasTail file (take k file)) (sym whole) all
