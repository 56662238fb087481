-- Where a walk over the runs of a layer meets the first that breaks a rule.
use Rattle.std.proofs.Common.{◌≡◌, ℕ, zero, suc, ◌+◌, ◌-◌, ◌<◌, ◌≤◌, Bool, true, false, cond, List, [], ◌∷◌, length, Option, Some, None, refl, sym, ◌∙◌, ap, arith}
use Rattle.std.proofs.lemmas.Bool.{cond-true, cond-false}
use Rattle.std.specs.Prelude.{◌↔◌, IsTrue, IsSome}
use Rattle.std.specs.Option.{option_map_or}
use Rattle.layered_index.specs.declared.checkpoint.Checkpoint.{Checkpoint}
use Rattle.layered_index.specs.declared.layers.Run.{Run}
use Rattle.layered_index.specs.Checkpoint.{checkpoint}
use Rattle.layered_index.specs.BlockReading.{run_at}
use Rattle.layered_index.specs.LayerReading.{may_stand, ArePointers}
use Rattle.layered_index.specs.Faults.{standing_within, standing_from, PassedTo}
use Rattle.layered_index.proofs.WalkLemmas.{run_takes, run_none, heads, none_some, not_true, Counts, walk_none}

-- ---- the runs that may stand

-- what points to a run, and what is to come after it
abbrev pointer_to : ℕ → ℕ → Run × List ℕ → Checkpoint
pointer_to place len r = checkpoint r.0.doc r.0.doc_end place (place + (len - length r.1))

abbrev standing_of : ℕ → ℕ → ℕ → ℕ → ℕ → ℕ → Option (Run × List ℕ) → List Checkpoint
standing_of more period doc byte place len o = option_map_or (λ r. let after = place + (len - length r.1) in cond (may_stand period doc byte r.0 (length r.1))
    (checkpoint r.0.doc r.0.doc_end place after ∷ standing_within more period r.0.doc_end r.0.byte_end after r.1) []) o []

standing_same : (f g period doc byte place len : ℕ) (o : Option (Run × List ℕ)) → ((r : Run × List ℕ) (p : ℕ) → o ≡ Some r
    → standing_within f period r.0.doc_end r.0.byte_end p r.1 ≡ standing_within g period r.0.doc_end r.0.byte_end p r.1)
    → standing_of f period doc byte place len o ≡ standing_of g period doc byte place len o
standing_same f g period doc byte place len None h = refl
standing_same f g period doc byte place len (Some r) h =
    ap (λ (ps : List Checkpoint). cond (may_stand period doc byte r.0 (length r.1)) (pointer_to place len r ∷ ps) []) (h r (place + (len - length r.1)) refl)

standing_none_of : (more period doc byte place len : ℕ) (o : Option (Run × List ℕ)) → ((r : Run × List ℕ) → o ≡ Some r → ⊥) → standing_of more period doc byte place len o ≡ []
standing_none_of more period doc byte place len None h = refl
standing_none_of more period doc byte place len (Some r) h = absurd (h r refl)

standing_turns : (f g period doc byte place : ℕ) (bytes : List ℕ) → length bytes ≤ f → length bytes ≤ g
    → standing_within f period doc byte place bytes ≡ standing_within g period doc byte place bytes
unfolding standing_within
standing_turns zero zero period doc byte place bytes p q = refl
standing_turns zero (suc g) period doc byte place bytes p q =
    sym (standing_none_of g period doc byte place (length bytes) (run_at bytes) (λ r e. omega (arith, run_takes bytes r e)))
standing_turns (suc f) zero period doc byte place bytes p q =
    standing_none_of f period doc byte place (length bytes) (run_at bytes) (λ r e. omega (arith, run_takes bytes r e))
standing_turns (suc f) (suc g) period doc byte place bytes p q = standing_same f g period doc byte place (length bytes) (run_at bytes)
    (λ r at e. standing_turns f g period r.0.doc_end r.0.byte_end at r.1 (omega (arith, run_takes bytes r e)) (omega (arith, run_takes bytes r e)))

standing_next : (period doc byte place : ℕ) (bytes : List ℕ) → standing_from period doc byte place bytes ≡ standing_of (length bytes) period doc byte place (length bytes) (run_at bytes)
unfolding standing_from standing_within
standing_next period doc byte place bytes = standing_turns (length bytes) (suc (length bytes)) period doc byte place bytes (omega arith) (omega arith)

-- no run is read here
pub standing_ends : (period doc byte place : ℕ) (bytes : List ℕ) → run_at bytes ≡ None → standing_from period doc byte place bytes ≡ []
standing_ends period doc byte place bytes e = standing_next period doc byte place bytes ∙ ap (standing_of (length bytes) period doc byte place (length bytes)) e

pub standing_empty : (period doc byte place : ℕ) (bytes : List ℕ) → length bytes ≡ 0 → standing_from period doc byte place bytes ≡ []
standing_empty period doc byte place [] none = standing_ends period doc byte place [] run_none
standing_empty period doc byte place (b ∷ bytes) none = absurd (omega arith)

-- one is read that may not stand
pub standing_refused : (period doc byte place : ℕ) (bytes : List ℕ) (r : Run) (after : List ℕ) → run_at bytes ≡ Some (r, after) → may_stand period doc byte r (length after) ≡ false
    → standing_from period doc byte place bytes ≡ []
standing_refused period doc byte place bytes r after e test =
    standing_next period doc byte place bytes ∙ ap (standing_of (length bytes) period doc byte place (length bytes)) e ∙ cond-false (may_stand period doc byte r (length after)) _ [] test

-- one is read that may
pub standing_goes_on : (period doc byte place : ℕ) (bytes : List ℕ) (r : Run) (after : List ℕ) → run_at bytes ≡ Some (r, after) → may_stand period doc byte r (length after) ≡ true
    → standing_from period doc byte place bytes
    ≡ checkpoint r.doc r.doc_end place (place + (length bytes - length after)) ∷ standing_from period r.doc_end r.byte_end (place + (length bytes - length after)) after
unfolding standing_from
standing_goes_on period doc byte place bytes r after e test =
    let next = place + (length bytes - length after) in
    standing_next period doc byte place bytes ∙ ap (standing_of (length bytes) period doc byte place (length bytes)) e
    ∙ cond-true (may_stand period doc byte r (length after)) (checkpoint r.doc r.doc_end place next ∷ standing_within (length bytes) period r.doc_end r.byte_end next after) [] test
    ∙ ap (λ (ps : List Checkpoint). checkpoint r.doc r.doc_end place next ∷ ps)
    (standing_turns (length bytes) (length after) period r.doc_end r.byte_end next after (omega (arith, run_takes bytes (r, after) e)) (omega arith))

-- ---- where those end that are passed

-- what one pointer of the layer above says of a run: `next_points` and `none_left` tell it
abbrev pub TellsNext : Option (List Checkpoint) → Option (List Checkpoint) → Bool → Checkpoint → Type 0
TellsNext old new b p = (ps : List Checkpoint) → (IsTrue b × ArePointers new ps) ↔ ArePointers old (p ∷ ps)

longer : (x : Checkpoint) (xs : List Checkpoint) → xs ≡ x ∷ xs → ⊥
longer x xs e = omega (arith, ap length e)

-- no run may stand here
pub passed_here : (above : Option (List Checkpoint)) (standing : List Checkpoint) (place : ℕ) → standing ≡ [] → PassedTo above standing place place
passed_here None standing place none = ([], sym none, refl)
passed_here (Some given) standing place none =
    ([], record { more = given; others = []; first = refl; second = none; apart = λ c ms os p q. none_some q }, refl)

-- one may, but isn't pointed to
pub passed_unpointed : (old new : Option (List Checkpoint)) (b : Bool) (p : Checkpoint) (standing others : List Checkpoint) (place : ℕ) → standing ≡ p ∷ others → TellsNext old new b p → b ≡ false
    → PassedTo old standing place place
passed_unpointed None new b p standing others place e tells bad = not_true _ (sym bad ∙ ((tells []).1 tt).0)
passed_unpointed (Some given) new b p standing others place e tells bad = (
  [],
  record {
    more = given;
    others = standing;
    first = refl;
    second = refl;
    apart = λ c ms os m o. not_true ⊥ (sym bad ∙ ((tells ms).1 (m ∙ ap (λ (x : Checkpoint). x ∷ ms) (heads c p os others (sym o ∙ e)))).0);
  },
  refl,
)

-- one may, and is pointed to
pub passed_on : (old new : Option (List Checkpoint)) (b : Bool) (p : Checkpoint) (standing others : List Checkpoint) (place byte : ℕ) → standing ≡ p ∷ others → TellsNext old new b p → b ≡ true
    → PassedTo new others p.byte_range.end byte → PassedTo old standing place byte
passed_on None None b p standing others place byte e tells good to = (p ∷ to.0, ap (λ (ps : List Checkpoint). p ∷ ps) to.1 ∙ sym e, to.2)
passed_on None (Some new) b p standing others place byte e tells good to = absurd (longer p new ((tells (p ∷ new)).1 tt).1)
passed_on (Some old) None b p standing others place byte e tells good to =
    absurd (longer p (p ∷ []) (sym ((tells []).0 (good, tt)) ∙ (tells (p ∷ [])).0 (good, tt)))
passed_on (Some old) (Some new) b p standing others place byte e tells good to = (
  p ∷ to.0,
  record {
    more = to.1.more;
    others = to.1.others;
    first = (tells new).0 (good, refl) ∙ ap (λ (ps : List Checkpoint). p ∷ ps) to.1.first;
    second = e ∙ ap (λ (ps : List Checkpoint). p ∷ ps) to.1.second;
    apart = to.1.apart;
  },
  to.2,
)

-- ---- the walk

-- no run can be read here
pub walk_ends : (period doc byte place : ℕ) (rest : List ℕ) (above : Option (List Checkpoint)) (total : Option ℕ) (P : Type 0) (len : ℕ) (Q : ℕ → Type 0) → 0 < length rest → place ≤ len
    → run_at rest ≡ None → Counts period doc byte rest total → ((b : ℕ) → PassedTo above (standing_from period doc byte place rest) place b → Q b)
    → (IsSome total × P → ⊥) × (place ≤ len) × Q place
walk_ends period doc byte place rest above total P len Q some within e so_far passed =
    (λ good. walk_none period doc byte rest total some e so_far good.0, within, passed place (passed_here above _ place (standing_ends period doc byte place rest e)))
