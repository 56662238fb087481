use Rattle.std.proofs.Common.{◌≡◌, ◌<◌, ◌^◌, ℕ, inl, inr, false, ◌-◌, List, [], length, map, take, drop, Option, Some, None, refl, sym, ◌∙◌, ap, subst, arith}
use Rattle.std.specs.Prelude.{IsSome, is_some}
use Rattle.std.proofs.lemmas.Result.{err_from_is_err_and}
use Rattle.store_base.specs.Serialize.{IsBytes}
use Rattle.layered_index.specs.declared.check.CheckedIndex.{CheckedIndex}
use Rattle.layered_index.specs.declared.row.Row.{Row}
use Rattle.layered_index.specs.declared.tally.Tally.{Tally}
use Rattle.layered_index.specs.declared.index_fault.IndexFault.{IndexFault}
use Rattle.layered_index.specs.Faults.{fault_of_list, HasFault, IsFirstFault}
use Rattle.layered_index.specs.IndexReading.{split_at, AreLayersBelow, last_items, HasIndex}
use Rattle.layered_index.specs.Layers.{digit_count}
use Rattle.layered_index.specs.Rows.{ends_in, ends_of}
use Rattle.layered_index.specs.Sought.{IndexBytes, layers_left, IsHeaded}
use Rattle.layered_index.specs.Tallies.{no_tally, kept, covered_by, IsChecked}
use Rattle.layered_index.proofs.CutLemmas.{split_after_head, head_within, left_count}
use Rattle.layered_index.proofs.OpenLemmas.{opens_read, opens_fail, opens_refused, first_of}
use Rattle.layered_index.proofs.TallyLemmas.{count_kept, covered_kept, rest_kept, rows_kept}
use Rattle.layered_index.proofs.index_slice.IndexSlice.check.Goals as goal

-- the bytes are no index, and this is their first fault
abbrev IsBroken : ℕ → List ℕ → IndexFault → Type 0
IsBroken period bytes fault = (HasIndex period bytes → ⊥) × IsFirstFault period bytes fault

some_from : {A : Type 0} (o : Option A) → IsSome o → (x : A) × (o ≡ Some x)
some_from (Some x) h = (x, refl)
some_from None h = absurd cc

all : (n : ℕ) → n - 0 ≡ n
all n = omega arith

none_from : {A : Type 0} (o : Option A) → false ≡ is_some o → o ≡ None
none_from None h = refl
none_from (Some x) h = absurd cc

module _ (period : ℕ) (bytes : List ℕ) (count : ℕ) (ends texts : List ℕ) (head : IsHeaded period bytes count ends texts) (fits : length bytes < 2 ^ 64) where
  split : split_at bytes ≡ layers_left count 0 ends texts
  split = split_after_head bytes count ends texts head.counted head.following

  uncut : false ≡ is_some (layers_left count 0 ends texts) → IsBroken period bytes fault_of_list
  uncut e = opens_fail period bytes head.two head.few fits (split ∙ none_from (layers_left count 0 ends texts) e)

  walked : (fault : IndexFault) → IsSome (layers_left count 0 ends texts)
      → ((ts : List (List ℕ)) → layers_left count 0 ends texts ≡ Some ts → (AreLayersBelow period None ts → ⊥) × HasFault period (length bytes) None ts fault) → IsBroken period bytes fault
  walked fault cut told =
      let ts = some_from (layers_left count 0 ends texts) cut in
      let e = split ∙ ts.1 in
      let broken = told ts.0 ts.1 in
      (opens_refused period bytes ts.0 head.two head.few fits e (λ are. broken.0 are.below), first_of period bytes ts.0 fault e (inl broken.1))

  -- what a walk over all layers told
  module _ (t : Tally) (old new : List Row) (ts : List (List ℕ)) (is_cut : layers_left count 0 ends texts ≡ Some ts)
      (told : AreLayersBelow period None ts × ((t, new) ≡ kept (no_tally, old) (last_items [] ts))) where
    counted : t.count ≡ length (last_items [] ts)
    counted = omega (arith, ap (λ (k : Tally × List Row). k.0.count) told.1, count_kept no_tally old (last_items [] ts))

    too_many : (digit_count period t.count ≡ count → ⊥) → IsBroken period bytes fault_of_list
    too_many differ =
        let e = split ∙ is_cut in
        let other : digit_count period (length (last_items [] ts)) ≡ length ts → ⊥ = λ same. differ (ap (digit_count period) counted ∙ same ∙ left_count count 0 ends texts ts is_cut) in (
          opens_refused period bytes ts head.two head.few fits e (λ are. other are.count),
          first_of period bytes ts fault_of_list e (inr (told.0, other, refl)),
        )

    is_checked : IsBytes bytes → digit_count period t.count ≡ count → (x : CheckedIndex) → x.count ≡ t.count → x.covered ≡ covered_by t → length new ≡ length old → IsChecked period bytes x old new
    is_checked are_bytes digits x counts covers size =
        let cs = last_items [] ts in
        let is = told.1 in
        let rows = ap (λ (k : Tally × List Row). k.1) is in
        let many : digit_count period (length cs) ≡ length ts = sym (ap (digit_count period) counted) ∙ digits ∙ sym (left_count count 0 ends texts ts is_cut) in
        record {
          cs = cs;
          is = opens_read period bytes ts head.two head.few are_bytes (split ∙ is_cut) (record { below = told.0; count = many });
          count = counts ∙ counted;
          covered = covers ∙ ap (λ (k : Tally × List Row). covered_by k.0) is ∙ covered_kept no_tally old cs;
          rows = ap (λ (rs : List Row). ends_in (take (length cs) rs)) rows ∙ rows_kept no_tally old cs (length cs) (omega arith)
              ∙ ap (λ (k : ℕ). map ends_of (take k cs)) (all (length old));
          rest = ap (drop (length cs)) rows ∙ rest_kept no_tally old cs (length cs) (omega arith);
        }

-- what holds inside holds of what is seen
seen : (P : ℕ → List ℕ → Type 0) (u v : IndexBytes) → u ≡ v → P u.period u.bytes → P v.period v.bytes
seen P u v e p = subst (λ (w : IndexBytes). P w.period w.bytes) e p

pub walk_down-requires-clause-within : goal.walk_down-requires-clause-within
walk_down-requires-clause-within c =
    let s = c.self.inside in
    head_within s.bytes.now s.count s.ends.now s.texts.now c.self.invariant.counted c.self.invariant.following

pub returns-then-not-is_cut-clause-broken : goal.returns-then-not-is_cut-clause-broken
returns-then-not-is_cut-clause-broken c =
    let s = c.self.inside in
    seen (λ period bytes. IsBroken period bytes fault_of_list) _ _ c.self.view_is
    (uncut s.period s.bytes.now s.count s.ends.now s.texts.now c.self.invariant (omega arith) (sym c.if-not-is_cut.true ∙ c.is_cut.ensures))

pub returns-in_err-tally-clause-broken : goal.returns-in_err-tally-clause-broken
returns-in_err-tally-clause-broken c =
    let s = c.self.inside in
    let p = err_from_is_err_and c.from_residual.result c.from_residual.ensures.1 in
    let fault = c.in_err-tally.field-0.0 in
    rw (p.1, p.2) (seen (λ period bytes. IsBroken period bytes fault) _ _ c.self.view_is
    (walked s.period s.bytes.now s.count s.ends.now s.texts.now c.self.invariant (omega arith) fault (sym c.is_cut.ensures ∙ c.if-not-is_cut.false) (λ ts e. c.in_err-tally.ensures.walked ts e)))

pub returns-then-digit_count-self-clause-broken : goal.returns-then-digit_count-self-clause-broken
returns-then-digit_count-self-clause-broken c =
    let s = c.self.inside in
    seen (λ period bytes. IsBroken period bytes fault_of_list) _ _ c.self.view_is
    (let cut = some_from (layers_left s.count 0 s.ends.now s.texts.now) (sym c.is_cut.ensures ∙ c.if-not-is_cut.false) in
    too_many s.period s.bytes.now s.count s.ends.now s.texts.now c.self.invariant (omega arith) c.in_ok-tally.tally c.args.rows.now c.walk_down.new.rows
    cut.0 cut.1 (c.in_ok-tally.ensures.walked cut.0 cut.1)
    (λ same. c.if-digit_count-self.true (c.digit_count.ensures.digits ∙ same)))

pub returns-clause-checked : goal.returns-clause-checked
returns-clause-checked c =
    let s = c.self.inside in
    let x : CheckedIndex = record { count = c.in_ok-tally.tally.count; covered = c.covered.result } in
    seen (λ period bytes. IsChecked period bytes x c.args.rows.now c.walk_down.new.rows) _ _ c.self.view_is
    (let cut = some_from (layers_left s.count 0 s.ends.now s.texts.now) (sym c.is_cut.ensures ∙ c.if-not-is_cut.false) in
    is_checked s.period s.bytes.now s.count s.ends.now s.texts.now c.self.invariant (omega arith) c.in_ok-tally.tally c.args.rows.now c.walk_down.new.rows
    cut.0 cut.1 (c.in_ok-tally.ensures.walked cut.0 cut.1) c.walk_down.ensures.bytes
    (sym c.digit_count.ensures.digits ∙ c.if-digit_count-self.false) x refl c.covered.ensures c.walk_down.auto.rows)
