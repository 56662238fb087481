-- The bytes of marks.
use Rattle.std.proofs.Common.{◌≡◌, ℕ, List, [], ◌∷◌, ◌++◌, true, refl, sym, ◌∙◌, ap, append_assoc, length, take, drop, take-append-drop, nat_eq}
use Rattle.std.specs.Cmp.Lexicographic.{same_text}
use lib.Pointwise.{pointwise}
use Rattle.std.specs.Prelude.{Vec}
use Rattle.std.specs.declared.alloc.Global.{Global}
use Rattle.std.proofs.lemmas.List.{map-append}
use Rattle.store_files.specs.Mark.{IsPlain, AreNames, texts, fields, mark_bytes}
use Rattle.store_files.specs.Laws.{EndMarksAreRight}

-- one name more
pub fields_more : (names : List (List ℕ)) (name rest : List ℕ) → fields (names ++ name ∷ []) rest ≡ fields names (name ++ 0 ∷ rest)
fields_more [] name rest = refl
fields_more (first ∷ names) name rest = ap (λ (bytes : List ℕ). first ++ 0 ∷ bytes) (fields_more names name rest)

pub texts_more : (names : List (Vec ℕ Global)) (name : Vec ℕ Global) → texts (names ++ name ∷ []) ≡ texts names ++ name.items ∷ []
texts_more names name = map-append (λ (v : Vec ℕ Global). v.items) names (name ∷ [])

fields_append : (names : List (List ℕ)) (rest more : List ℕ) → fields names rest ++ more ≡ fields names (rest ++ more)
fields_append [] rest more = refl
fields_append (name ∷ names) rest more = append_assoc name (0 ∷ fields names rest) more ∙ ap (λ (bytes : List ℕ). name ++ 0 ∷ bytes) (fields_append names rest more)

-- the first bytes before a byte 0
one_field : (a b x y : List ℕ) → IsPlain a → IsPlain b → a ++ 0 ∷ x ≡ b ++ 0 ∷ y → (a ≡ b) × (x ≡ y)
one_field [] [] x y pa pb e = (refl, cc)
one_field [] (c ∷ b) x y pa pb e = let head : c ≡ 0 = cc in absurd (pb.0 head)
one_field (c ∷ a) [] x y pa pb e = let head : c ≡ 0 = cc in absurd (pa.0 head)
one_field (c ∷ a) (d ∷ b) x y pa pb e =
    let tails : a ++ 0 ∷ x ≡ b ++ 0 ∷ y = cc in
    let heads : c ≡ d = cc in
    let rest = one_field a b x y pa.1 pb.1 tails in
    let first = rest.0 in
    (cc, rest.1)

one_list : (names others : List (List ℕ)) (x y : List ℕ) → AreNames names → AreNames others → fields names (0 ∷ x) ≡ fields others (0 ∷ y) → (names ≡ others) × (x ≡ y)
one_list [] [] x y an ao e = (refl, cc)
one_list [] (other ∷ others) x y an ao e = absurd (ao.0 (sym (one_field [] other x (fields others (0 ∷ y)) tt ao.1 e).0))
one_list (name ∷ names) [] x y an ao e = absurd (an.0 (one_field name [] (fields names (0 ∷ x)) y an.1 tt e).0)
one_list (name ∷ names) (other ∷ others) x y an ao e =
    let first = one_field name other (fields names (0 ∷ x)) (fields others (0 ∷ y)) an.1 ao.1 e in
    let rest = one_list names others x y an.2 ao.2 first.1 in
    let head = first.0 in
    let tail = rest.0 in
    (cc, rest.1)

one_mark : (kind boot inode other_kind other_boot other_inode : List ℕ) (names other_names : List (List ℕ)) (rest other_rest : List ℕ) → IsPlain kind → IsPlain boot → IsPlain inode
    → IsPlain other_kind → IsPlain other_boot → IsPlain other_inode → AreNames names → AreNames other_names
    → mark_bytes kind boot inode names rest ≡ mark_bytes other_kind other_boot other_inode other_names other_rest
    → (kind ≡ other_kind) × (boot ≡ other_boot) × (inode ≡ other_inode) × (names ≡ other_names) × (rest ≡ other_rest)
one_mark kind boot inode other_kind other_boot other_inode names other_names rest other_rest pk pb pi pk' pb' pi' an an' e =
    let tail = fields names (0 ∷ rest) in
    let other_tail = fields other_names (0 ∷ other_rest) in
    let kinds = one_field kind other_kind (boot ++ 0 ∷ (inode ++ 0 ∷ tail)) (other_boot ++ 0 ∷ (other_inode ++ 0 ∷ other_tail)) pk pk' e in
    let boots = one_field boot other_boot (inode ++ 0 ∷ tail) (other_inode ++ 0 ∷ other_tail) pb pb' kinds.1 in
    let inodes = one_field inode other_inode tail other_tail pi pi' boots.1 in
    let lists = one_list names other_names rest other_rest an an' inodes.1 in
    (kinds.0, boots.0, inodes.0, lists.0, lists.1)

mark_append : (kind boot inode : List ℕ) (names : List (List ℕ)) (rest more : List ℕ) → mark_bytes kind boot inode names rest ++ more ≡ mark_bytes kind boot inode names (rest ++ more)
mark_append kind boot inode names rest more = fields_append (kind ∷ boot ∷ inode ∷ names) (0 ∷ rest) more

nothing_after : (a b : List ℕ) → [] ≡ a ++ b → b ≡ []
nothing_after [] b e = sym e
nothing_after (x ∷ a) b e = let none : ⊥ = cc in absurd none

pub marks_are_one : EndMarksAreRight
marks_are_one = record {
  one = one_mark;
  torn = λ kind boot inode other_kind other_boot other_inode names other_names cut lost other_rest pk pb pi pk' pb' pi' an an' whole is.
      nothing_after other_rest lost (one_mark kind boot inode other_kind other_boot other_inode names other_names [] (other_rest ++ lost) pk pb pi pk' pb' pi' an an'
      (whole ∙ ap (λ (bytes : List ℕ). bytes ++ lost) is ∙ mark_append other_kind other_boot other_inode other_names other_rest lost)).4;
}

-- one field more at the end
field_added : (names : List (List ℕ)) (name : List ℕ) → fields names [] ++ fields (name ∷ []) [] ≡ fields (names ++ name ∷ []) []
field_added names name = fields_append names [] (fields (name ∷ []) []) ∙ sym (fields_more names name [])

pub three_fields : (a b c none one two three : List ℕ) → none ≡ [] → one ≡ none ++ fields (a ∷ []) [] → two ≡ one ++ fields (b ∷ []) [] → three ≡ two ++ fields (c ∷ []) []
    → three ≡ fields (a ∷ b ∷ c ∷ []) []
three_fields a b c none one two three n e f g =
    let first : one ≡ fields (a ∷ []) [] = e ∙ ap (λ (bytes : List ℕ). bytes ++ fields (a ∷ []) []) n in
    let second : two ≡ fields (a ∷ b ∷ []) [] = f ∙ ap (λ (bytes : List ℕ). bytes ++ fields (b ∷ []) []) first ∙ field_added (a ∷ []) b in
    g ∙ ap (λ (bytes : List ℕ). bytes ++ fields (c ∷ []) []) second ∙ field_added (a ∷ b ∷ []) c

-- one field more of those that are to be added
pub field_of_all : (old new name tail : List ℕ) → new ≡ old ++ fields (name ∷ []) [] → new ++ tail ≡ old ++ (name ++ 0 ∷ tail)
field_of_all old new name tail is =
    ap (λ (bytes : List ℕ). bytes ++ tail) is ∙ append_assoc old (name ++ 0 ∷ []) tail ∙ ap (λ (bytes : List ℕ). old ++ bytes) (append_assoc name (0 ∷ []) tail)

-- one name more was read
pub name_read : (bytes : List ℕ) (names : List (Vec ℕ Global)) (name : Vec ℕ Global) (left rest text : List ℕ)
    (more : List (Vec ℕ Global)) → bytes ≡ fields (texts names) left → left ≡ text ++ 0 ∷ rest → name.items ≡ text → more ≡ names ++ name ∷ [] → bytes ≡ fields (texts more) rest
name_read bytes names name left rest text more is parts same are =
    is ∙ ap (λ (l : List ℕ). fields (texts names) l) (parts ∙ ap (λ (t : List ℕ). t ++ 0 ∷ rest) (sym same)) ∙ sym (fields_more (texts names) name.items rest)
    ∙ ap (λ (ns : List (List ℕ)). fields ns rest) (sym (texts_more names name)) ∙ ap (λ (ns : List (Vec ℕ Global)). fields (texts ns) rest) (sym are)

-- bytes that begin with these
pub after_head : (bytes head rest : List ℕ) → pointwise nat_eq (take (length head) bytes) head ≡ true → rest ≡ drop (length head) bytes → bytes ≡ head ++ rest
after_head bytes head rest begins is =
    sym (take-append-drop (length head) bytes)
    ∙ ap (λ (front : List ℕ). front ++ drop (length head) bytes) (same_text (take (length head) bytes) head (sym begins))
    ∙ ap (λ (back : List ℕ). head ++ back) (sym is)

-- the head of a mark, and then its names
pub whole_mark : (bytes head rest kind boot inode : List ℕ) (names : List (Vec ℕ Global)) → head ≡ fields (kind ∷ boot ∷ inode ∷ []) [] → bytes ≡ head ++ rest
    → (more : List ℕ) × (rest ≡ fields (texts names) (0 ∷ more)) → (more : List ℕ) × (bytes ≡ mark_bytes kind boot inode (texts names) more)
whole_mark bytes head rest kind boot inode names is begins found = (
  found.0,
  begins ∙ ap (λ (h : List ℕ). h ++ rest) is ∙ fields_append (kind ∷ boot ∷ inode ∷ []) [] rest ∙ ap (λ (r : List ℕ). fields (kind ∷ boot ∷ inode ∷ []) r) found.1,
)
