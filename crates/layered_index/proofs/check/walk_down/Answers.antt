use Rattle.std.proofs.Common.{◌≡◌, ◌-◌, ℕ, List, [], ◌++◌, length, take, drop, Some, sym, ◌∙◌, ap, subst, arith}
use Rattle.std.proofs.lemmas.List.{append-nil, take_all, drop_all, nil_from_length, length-take}
use Rattle.store_base.specs.ReadingLemmas.{bytes_from}
use Rattle.layered_index.specs.declared.checkpoint.Checkpoint.{Checkpoint}
use Rattle.layered_index.specs.declared.row.Row.{Row}
use Rattle.layered_index.specs.declared.tally.Tally.{Tally}
use Rattle.layered_index.specs.LayerReading.{items}
use Rattle.layered_index.specs.Tallies.{no_tally, kept}
use Rattle.layered_index.proofs.WalkDownLemmas.{WalksOn, given, next_there, goes_on, walks_on, walk_broken, walk_ends}
use Rattle.layered_index.proofs.check.walk_down.Goals as goal
use Rattle.layered_index.proofs.check.walk_down.Goals.{then-left-eq1, else-left-eq1}

-- the rows of the last layer are written over all
rows_written : (room : ℕ) (rows all new : List Row) (t : Tally) (cs ds : List Checkpoint) → room ≡ length rows → rows ≡ all → cs ≡ ds → (t, new) ≡ kept (no_tally, take room rows) cs
    → (t, new ++ drop room rows) ≡ kept (no_tally, all) ds
rows_written room rows all new t cs ds is same given e =
    let whole : new ++ drop room rows ≡ new = ap (λ (rs : List Row). new ++ rs) (drop_all room rows (omega (arith, is))) ∙ append-nil new in
    (λ i. (t, whole i)) ∙ e ∙ (λ i. kept (no_tally, (take_all room rows (omega (arith, is)) ∙ same) i) (given i))

-- those of another over none
rows_left : (room : ℕ) (rows new : List Row) → room ≡ 0 → length new ≡ length (take room rows) → new ++ drop room rows ≡ rows
rows_left room rows new is len =
    let none : new ≡ [] = nil_from_length new (omega (arith, len, length-take room rows, is)) in
    λ i. none i ++ drop (is i) rows

pub unreachable-requires : goal.unreachable-requires
unreachable-requires c =
    let l = c.loop-left in
    next_there l.left l.place l.ends_left.now l.texts_left.now c.loop-left-test.true l.invariant.cut (sym c.in_default.ensures)

pub overflow_add-result : goal.overflow_add-result
overflow_add-result c =
    let l = c.loop-left in
    let on = goes_on l.left l.place l.ends_left.now l.texts_left.now c.in-Some.layer.now c.in-Some.end c.in-Some.more_ends.now c.in-Some.more.now c.loop-left-test.true l.invariant.cut
    (sym c.in-Some.ensures) in
    omega (arith, l.invariant.within, on.bytes, c.in-Err.ensures.1)

pub returns-in-Err-clause-walked : goal.returns-in-Err-clause-walked
returns-in-Err-clause-walked c ts e =
    let l = c.loop-left in
    walk_broken c.args.period (length c.args.bytes.now) ts l.above l.left l.place l.ends_left.now l.texts_left.now c.in-Some.layer.now c.in-Some.end c.in-Some.more_ends.now c.in-Some.more.now
    c.loop-left-test.true (sym c.in-Some.ensures) (l.invariant.walk ts e) c.in-Err.byte c.in-Err.ensures.0 c.in-Err.ensures.2

pub loop-left-preserved : goal.loop-left-preserved
loop-left-preserved c =
    let l = c.loop-left in
    let on = goes_on l.left l.place l.ends_left.now l.texts_left.now c.in-Some.layer.now c.in-Some.end c.in-Some.more_ends.now c.in-Some.more.now c.loop-left-test.true l.invariant.cut
    (sym c.in-Some.ensures) in
    record {
      cut = on.cut;
      within = omega (arith, l.invariant.within, on.bytes);
      walk = λ ts e. subst (λ (cs : List Checkpoint). WalksOn c.args.period (length c.args.bytes.now) ts (Some cs) (l.left - 1) c.in-Some.end c.in-Some.more_ends.now c.in-Some.more.now)
          (sym c.new.ensures)
          (walks_on c.args.period (length c.args.bytes.now) ts l.above l.left l.place l.ends_left.now l.texts_left.now c.in-Some.layer.now c.in-Some.end c.in-Some.more_ends.now c.in-Some.more.now
          c.loop-left-test.true (sym c.in-Some.ensures) (l.invariant.walk ts e) c.in-Ok.ensures.0);
      same = λ some. elim c.if-left-eq1.branch [
        | then-left-eq1 w ↦ absurd (omega (arith, some, w.if-left-eq1.true))
        | else-left-eq1 w ↦ rows_left c.if-left-eq1.room l.rows c.walk_layer.new.rows w.room-is c.walk_layer.auto.rows ∙ l.invariant.same c.loop-left-test.true
      ];
      done = λ none. elim c.if-left-eq1.branch [
        | then-left-eq1 w ↦ rows_written c.if-left-eq1.room l.rows c.args.rows.now c.walk_layer.new.rows c.in-Ok.walked (items 0 0 0 c.in-Some.layer.now) c.new.result w.room-is
            (l.invariant.same c.loop-left-test.true) (sym c.new.ensures) c.in-Ok.ensures.1
        | else-left-eq1 w ↦ absurd (omega (arith, none, w.if-left-eq1.false, c.loop-left-test.true))
      ];
    }

pub returns-clause-walked : goal.returns-clause-walked
returns-clause-walked c ts e =
    let l = c.loop-left in
    let none : l.left ≡ 0 = omega (arith, c.loop-left-test.false) in
    let on = subst (λ (n : ℕ). WalksOn c.args.period (length c.args.bytes.now) ts l.above n l.place l.ends_left.now l.texts_left.now) none (l.invariant.walk ts e) in
    let ends = walk_ends c.args.period (length c.args.bytes.now) ts l.above l.place l.ends_left.now l.texts_left.now on in
    (ends.0, l.invariant.done none ∙ ap (kept (no_tally, c.args.rows.now)) ends.1)

pub returns-clause-bytes : goal.returns-clause-bytes
returns-clause-bytes c = bytes_from c.args.bytes.now (λ i. omega (arith, c.type_inv.bytes i))

pub returns-in-Err-clause-bytes : goal.returns-in-Err-clause-bytes
returns-in-Err-clause-bytes c = bytes_from c.args.bytes.now (λ i. omega (arith, c.type_inv.bytes i))
