-- What an output has more after two prints, and a log after two steps of an append.
use Rattle.std.specs.Prelude.{◌≡◌, ℕ, zero, suc, ◌+◌, Bool, true, false, List, [], ◌∷◌, ◌++◌, length, map, Option, decimal, refl}
use Rattle.std.specs.Io.KnownBytes.{Appends}
use Rattle.std.proofs.Common.{sym, ap, subst, ◌∙◌, append_assoc, append-nil, arith, length-append}
use Rattle.std.proofs.lemmas.List.{map-append, length-map}
use Rattle.std.proofs.KnownBytes.{Appends-nil, Appends-trans}
use Rattle.store_format.specs.Block.{Slot, doc}
use Rattle.segmented_log.specs.Log.{LogView}
use Rattle.framed_logs.specs.declared.sync_policy.SyncPolicy.{SyncPolicy}
use Rattle.framed_logs.specs.Printed.{Printed, Prints, AppendsFirst, number_lines}
use Rattle.framed_logs.specs.Appending.{Adds, lines_after}

-- bytes, and the first of others
pub first_after : (old middle new : Option (List ℕ)) (front back : List ℕ) → Appends old middle front
    → AppendsFirst middle new back → AppendsFirst old new (front ++ back)
first_after old middle new front back p q = (
  q.0,
  record {
    written = front ++ q.1.written;
    are = ap (λ l. front ++ l) q.1.are ∙ sym (append_assoc front q.1.written q.0);
    grown = Appends-trans old middle new front q.1.written p q.1.grown;
  },
)

-- the first of bytes, which others follow
pub first_within : (old new : Option (List ℕ)) (front back : List ℕ) → AppendsFirst old new front
    → AppendsFirst old new (front ++ back)
first_within old new front back p = (
  p.0 ++ back,
  record {
    written = p.1.written;
    are = ap (λ l. l ++ back) p.1.are ∙ append_assoc p.1.written p.0 back;
    grown = p.1.grown;
  },
)

-- the lines of more numbers
pub lines_more : (from m n : ℕ) → number_lines from (m + n) ≡ number_lines from m ++ number_lines (from + m) n
lines_more from zero n =
    let e : 0 + n ≡ n = omega arith in
    let f : from + 0 ≡ from = omega arith in
    rw (e, f)
lines_more from (suc m) n =
    let e : suc m + n ≡ suc (m + n) = omega arith in
    let f : from + suc m ≡ from + 1 + m = omega arith in
    ap (number_lines from) e ∙ ap (λ l. decimal from ++ 10 ∷ l) (lines_more (from + 1) m n)
    ∙ sym (append_assoc (decimal from) (10 ∷ number_lines (from + 1) m) (number_lines (from + 1 + m) n))
    ∙ ap (λ k. number_lines from (suc m) ++ number_lines k n) (sym f)

-- nothing was printed
pub prints_none : (printed : Printed) → Prints printed printed []
prints_none printed = record {
  first = ([], record { written = []; are = refl; grown = Appends-nil printed.bytes });
  whole = λ works. (works, Appends-nil printed.bytes);
  stopped = λ _. refl;
}

-- lines were printed, and then others
pub prints_more : (old middle new : Printed) (front back : List ℕ) → Prints old middle front → Prints middle new back
    → Prints old new (front ++ back)
prints_more old middle new front back p q = from middle.failed refl
  where
    from : (failed : Bool) → middle.failed ≡ failed → Prints old new (front ++ back)
    from true stop =
        let same : new ≡ middle = q.stopped stop in record {
          first = first_within old.bytes new.bytes front back (subst (λ n. AppendsFirst old.bytes n.bytes front) (sym same) p.first);
          whole = λ works. cc (ap (λ n. n.failed) same);
          stopped = λ before. same ∙ p.stopped before;
        }
    from false works =
        let whole = p.whole works in record {
          first = first_after old.bytes middle.bytes new.bytes front back whole.1 q.first;
          whole = λ end. (whole.0, Appends-trans old.bytes middle.bytes new.bytes front back whole.1 (q.whole end).1);
          stopped = λ before. cc (whole.0);
        }

-- the slots of records, and of others
pub slots_more : (old middle new : List Slot) (front back : List (List ℕ)) → middle ≡ old ++ map doc front
    → new ≡ middle ++ map doc back → new ≡ old ++ map doc (front ++ back)
slots_more old middle new front back p q = q ∙ ap (λ l. l ++ map doc back) p
    ∙ append_assoc old (map doc front) (map doc back) ∙ ap (λ l. old ++ l) (sym (map-append doc front back))

-- the records of two steps
pub split_more : (old middle new first next front back : List (List ℕ)) → front ++ middle ≡ old ++ first
    → back ++ new ≡ middle ++ next → (front ++ back) ++ new ≡ old ++ (first ++ next)
split_more old middle new first next front back p q = append_assoc front back new ∙ ap (λ l. front ++ l) q
    ∙ sym (append_assoc front middle next) ∙ ap (λ l. l ++ next) p ∙ append_assoc old first next

-- the lines of the numbers of records, and of others
pub lines_join : {F : Type 0} (old middle : LogView F) (front back : List (List ℕ)) → middle.first ≡ old.first
    → middle.slots ≡ old.slots ++ map doc front
    → lines_after old (length (front ++ back)) ≡ lines_after old (length front) ++ lines_after middle (length back)
lines_join old middle front back p q =
    let start = old.first + length old.slots in
    let e : middle.first + length middle.slots ≡ start + length front =
    omega (arith, p, ap length q, length-append old.slots (map doc front), length-map front doc) in
    ap (number_lines start) (length-append front back) ∙ lines_more start (length front) (length back)
    ∙ ap (λ n. number_lines start (length front) ++ number_lines n (length back)) (sym e)

-- nothing was appended
pub adds_none : {F : Type 0} (policy : SyncPolicy) (log : LogView F) (printed : Printed) → Adds policy [] log log printed printed
adds_none policy log printed = record {
  synced = [];
  split = sym (append-nil log.pending);
  commit = refl;
  first = refl;
  slots = sym (append-nil log.slots);
  works = refl;
  lines = prints_none printed;
  late = λ _. refl;
}

-- records were appended, and then others
pub adds_more : {F : Type 0} (policy : SyncPolicy) (old middle new : LogView F) (p q r : Printed) (first next : List (List ℕ))
    → Adds policy first old middle p q → Adds policy next middle new q r → Adds policy (first ++ next) old new p r
adds_more policy old middle new p q r first next a b = record {
  synced = a.synced ++ b.synced;
  split = split_more old.pending middle.pending new.pending first next a.synced b.synced a.split b.split;
  commit = b.commit ∙ a.commit;
  first = b.first ∙ a.first;
  slots = slots_more old.slots middle.slots new.slots a.synced b.synced a.slots b.slots;
  works = b.works ∙ a.works;
  lines = subst (Prints p r) (sym (lines_join old middle a.synced b.synced a.first a.slots)) (prints_more p q r _ _ a.lines b.lines);
  late = λ is. ap (λ l. l ++ b.synced) (a.late is) ∙ b.late is;
}
