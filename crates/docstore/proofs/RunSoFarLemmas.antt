-- What a run of a writer leaves.
use Rattle.std.proofs.Common.{◌≡◌, ℕ, ◌<◌, ◌≤◌, inl, inr, Bool, cond, List, [], ◌∷◌, ◌++◌, length, map, refl, sym, ◌∙◌, ap, subst, arith, append_assoc, length-append}
use Rattle.std.proofs.lemmas.List.{append-nil, map-append}
use Rattle.std.proofs.lemmas.Bool.{cases_lt, lt-ltb, le-ltb}
use Rattle.std.proofs.lemmas.List.Concat.{flat_map-append}
use Rattle.std.specs.List.{flat_map, AllByRecursion}
use Rattle.store_base.proofs.ListLemmas.{all_append}
use Rattle.store_format.specs.Block.{Slot, doc}
use Rattle.store_format.specs.Slots.{slots}
use Rattle.store_format.specs.StoreFile.{StoreBlock}
use Rattle.docstore.specs.Laws.{taken}
use Rattle.docstore.specs.Trace.{Step, took, Effect, adds, ends, may_end, no_effect, effect, weight, AreFlushed, BlocksBy, BlocksFrom, AreJoined, Blocks}
use Rattle.store_format.specs.StoreFile.{block_of}
use Rattle.docstore.specs.Writer.{Writing, blocks_of, blocks_in, flushed, with_document, with_documents, with_failures}
use Rattle.docstore.specs.Stacking.{with_store}
use Rattle.docstore.specs.Run.{after_effect}
use Rattle.docstore.proofs.CallLemmas.{store_of_none}
use Rattle.docstore.proofs.CutLemmas.{IsFull, without_last-push, flushed_none, flushed_more, weight-without_last}

abbrev joined : List (List (List ℕ)) → List (List ℕ)
joined gs = flat_map (λ (g : List (List ℕ)). g) gs

-- After some blocks these groups were cut, and no full group is pending; and how the run goes on decides all its blocks.
pub record IsRunSoFar (size period : ℕ) (held : List ℕ) (trace : List Step) (w : Writing) : Type 0 where
  pub size_is : w.block_size ≡ size
  pub period_is : w.output.period ≡ period
  pub before : w.output.before ≡ held
  pub front : List StoreBlock
  pub groups : List (List (List ℕ))
  pub full : AllByRecursion (IsFull size) groups
  pub finished : w.output.finished ≡ front ++ map block_of groups
  pub light : weight w.pending ≤ size
  pub goes_on : (rest : List Step) (bs : List StoreBlock) → BlocksFrom size (joined groups ++ w.pending) rest bs → BlocksFrom size [] (trace ++ rest) (front ++ bs)

pub run_begins : (size period : ℕ) (held : List ℕ) (w : Writing) → w.block_size ≡ size → w.output.period ≡ period → w.output.before ≡ held → w.pending ≡ [] → w.output.finished ≡ []
    → IsRunSoFar size period held [] w
run_begins size period held w size_is period_is before none finished = record {
  size_is = size_is;
  period_is = period_is;
  before = before;
  front = [];
  groups = [];
  full = tt;
  finished = finished;
  light = omega (arith, ap weight none);
  goes_on = λ rest bs h. subst (λ (docs : List (List ℕ)). BlocksFrom size docs rest bs) none h;
}

no_documents : (all : List Slot) (documents : List (List ℕ)) → all ++ map doc documents ≡ [] → documents ≡ []
no_documents [] [] is = refl
no_documents [] (d ∷ documents) is = let no : ⊥ = cc in absurd no
no_documents (s ∷ all) documents is = let no : ⊥ = cc in absurd no

-- a writer that has taken nothing
pub run_of_new : (w : Writing) → taken w ≡ [] → w.output.finished ≡ [] → IsRunSoFar w.block_size w.output.period w.output.before [] w
run_of_new w empty none = run_begins w.block_size w.output.period w.output.before w refl refl refl (no_documents (slots w.output.finished) w.pending empty) none

pub blocks_of-some : (docs : List (List ℕ)) → 0 < length docs → blocks_of docs ≡ block_of docs ∷ []
blocks_of-some [] some = absurd (omega (arith, some))
blocks_of-some (d ∷ docs) some = refl

-- what the blocks are from a call on, if it has this effect
effect_by : (size : ℕ) (step : Step) (e : Effect) (docs : List (List ℕ)) (rest : List Step) (bs : List StoreBlock) → effect step ≡ e → BlocksBy size docs e (λ more cs. BlocksFrom size more rest cs) bs
    → BlocksFrom size docs (step ∷ rest) bs
effect_by size step e docs rest bs is h = subst (λ (x : Effect). BlocksBy size docs x (λ more cs. BlocksFrom size more rest cs) bs) (sym is) h

-- one more call, if the blocks from it on are these
on : (size period : ℕ) (held : List ℕ) (trace : List Step) (step : Step) (w : Writing) (run : IsRunSoFar size period held trace w) (rest : List Step) (bs : List StoreBlock)
    → BlocksFrom size (joined run.groups ++ w.pending) (step ∷ rest) bs → BlocksFrom size [] ((trace ++ step ∷ []) ++ rest) (run.front ++ bs)
on size period held trace step w run rest bs h = subst (λ (t : List Step). BlocksFrom size [] t (run.front ++ bs)) (sym (append_assoc trace (step ∷ []) rest)) (run.goes_on (step ∷ rest) bs h)

-- no block is cut, and the run goes on so
run_on : (size period : ℕ) (held : List ℕ) (trace more : List Step) (w v : Writing) (run : IsRunSoFar size period held trace w) → v.block_size ≡ w.block_size → v.output.period ≡ w.output.period
    → v.output.before ≡ w.output.before → v.output.finished ≡ w.output.finished → weight v.pending ≤ size
    → ((rest : List Step) (bs : List StoreBlock) → BlocksFrom size (joined run.groups ++ v.pending) rest bs → BlocksFrom size [] (more ++ rest) (run.front ++ bs)) → IsRunSoFar size period held more v
run_on size period held trace more w v run size_is period_is before finished light goes_on = record {
  size_is = size_is ∙ run.size_is;
  period_is = period_is ∙ run.period_is;
  before = before ∙ run.before;
  front = run.front;
  groups = run.groups;
  full = run.full;
  finished = finished ∙ run.finished;
  light = light;
  goes_on = goes_on;
}

-- a document that is taken
run_takes : (size period : ℕ) (held : List ℕ) (trace : List Step) (step : Step) (w : Writing) (d : List ℕ) → effect step ≡ adds d → IsRunSoFar size period held trace w
    → IsRunSoFar size period held (trace ++ step ∷ []) (with_document w d)
run_takes size period held trace step w d is run =
    let docs = w.pending ++ d ∷ [] in
    let next : Writing = record w { pending = docs } in
    let goes_on : (rest : List Step) (bs : List StoreBlock) → BlocksFrom size ((joined run.groups ++ w.pending) ++ d ∷ []) rest bs
    → BlocksFrom size [] ((trace ++ step ∷ []) ++ rest) (run.front ++ bs) =
    λ rest bs h. on size period held trace step w run rest bs (effect_by size step (adds d) (joined run.groups ++ w.pending) rest bs is h) in
    let waits : weight docs ≤ size → IsRunSoFar size period held (trace ++ step ∷ []) next = λ light. run_on size period held trace (trace ++ step ∷ []) w next run refl refl refl refl light
    (λ rest bs h. goes_on rest bs (subst (λ (x : List (List ℕ)). BlocksFrom size x rest bs) (sym (append_assoc (joined run.groups) w.pending (d ∷ []))) h)) in
    let cut : size < weight docs → IsRunSoFar size period held (trace ++ step ∷ []) (flushed next) = λ heavy. record {
      size_is = run.size_is;
      period_is = run.period_is;
      before = run.before;
      front = run.front;
      groups = run.groups ++ docs ∷ [];
      full = all_append (IsFull size) run.groups (docs ∷ []) run.full (
        record {
          some = omega (arith, length-append w.pending (d ∷ []));
          not_late =
              subst (λ (g : List (List ℕ)). weight g ≤ size) (sym (without_last-push w.pending d)) run.light;
          not_early = heavy;
        },
        tt,
      );
      finished = (λ i. run.finished i ++ blocks_of-some docs (omega (arith, length-append w.pending (d ∷ []))) i) ∙ append_assoc run.front (map block_of run.groups) (block_of docs ∷ [])
          ∙ ap (λ (x : List StoreBlock). run.front ++ x) (sym (map-append block_of run.groups (docs ∷ [])));
      light = omega arith;
      goes_on = λ rest bs h. goes_on rest bs (subst (λ (x : List (List ℕ)). BlocksFrom size x rest bs)
          (append-nil (joined (run.groups ++ docs ∷ [])) ∙ flat_map-append (λ (g : List (List ℕ)). g) run.groups (docs ∷ []) ∙ ap (λ (x : List (List ℕ)). joined run.groups ++ x) (append-nil docs)
          ∙ sym (append_assoc (joined run.groups) w.pending (d ∷ []))) h);
    } in
    elim (cases_lt w.block_size (weight docs)) [
      | inl lt ↦ subst (λ (b : Bool). IsRunSoFar size period held (trace ++ step ∷ []) (cond b (flushed next) next)) (sym (lt-ltb w.block_size (weight docs) lt)) (cut (omega (arith, run.size_is, lt)))
      | inr le ↦ subst (λ (b : Bool). IsRunSoFar size period held (trace ++ step ∷ []) (cond b (flushed next) next)) (sym (le-ltb w.block_size (weight docs) le))
          (waits (omega (arith, run.size_is, le)))
    ]

-- a call without effect
run_stays : (size period : ℕ) (held : List ℕ) (trace : List Step) (step : Step) (w : Writing) → effect step ≡ no_effect → IsRunSoFar size period held trace w
    → IsRunSoFar size period held (trace ++ step ∷ []) w
run_stays size period held trace step w is run = run_on size period held trace (trace ++ step ∷ []) w w run refl refl refl refl run.light
    (λ rest bs h. on size period held trace step w run rest bs (effect_by size step no_effect (joined run.groups ++ w.pending) rest bs is h))

-- what is pending is flushed after the groups
last_flush : (size : ℕ) (gs : List (List (List ℕ))) (pending : List (List ℕ)) → AllByRecursion (IsFull size) gs → weight pending ≤ size
    → AreFlushed size (joined gs ++ pending) (map block_of gs ++ blocks_of pending)
last_flush size gs [] full light =
    let docs = append-nil (joined gs) in
    let bs = append-nil (map block_of gs) in
    subst (AreFlushed size (joined gs ++ [])) (sym bs) (subst (λ (x : List (List ℕ)). AreFlushed size x (map block_of gs)) (sym docs) (flushed_none size gs full))
last_flush size gs (d ∷ pending) full light = flushed_more size gs (d ∷ pending) full (omega arith) (omega (arith, light, weight-without_last (d ∷ pending)))

-- the documents of the stretch are flushed, and these blocks come after
run_ends : (size period : ℕ) (held : List ℕ) (trace : List Step) (step : Step) (w : Writing) (stacked : List StoreBlock)
    → ((docs : List (List ℕ)) (rest : List Step) (bs : List StoreBlock) → AreJoined size docs stacked (λ cs. BlocksFrom size [] rest cs) bs → BlocksFrom size docs (step ∷ rest) bs)
    → IsRunSoFar size period held trace w → IsRunSoFar size period held (trace ++ step ∷ []) (with_store w stacked)
run_ends size period held trace step w stacked ends_by run =
    let last = map block_of run.groups ++ blocks_of w.pending in
    let front = run.front ++ (last ++ stacked) in
    record {
      size_is = run.size_is;
      period_is = run.period_is;
      before = run.before;
      front = front;
      groups = [];
      full = tt;
      finished = (λ i. (run.finished i ++ blocks_of w.pending) ++ stacked) ∙ ap (λ (x : List StoreBlock). x ++ stacked) (append_assoc run.front (map block_of run.groups) (blocks_of w.pending))
          ∙ append_assoc run.front last stacked ∙ sym (append-nil front);
      light = omega arith;
      goes_on = λ rest bs h.
          let all : BlocksFrom size (joined run.groups ++ w.pending) (step ∷ rest) ((last ++ stacked) ++ bs) =
          ends_by (joined run.groups ++ w.pending) rest ((last ++ stacked) ++ bs) (record {
            front = last;
            after = bs;
            flushed = last_flush size run.groups w.pending run.full run.light;
            others =
                h;
            parts = refl;
          }) in
          subst (λ (x : List StoreBlock). BlocksFrom size [] ((trace ++ step ∷ []) ++ rest) x) (sym (append_assoc run.front (last ++ stacked) bs))
          (on size period held trace step w run rest ((last ++ stacked) ++ bs) all);
    }

-- one more call
run_more : (size period : ℕ) (held : List ℕ) (trace : List Step) (step : Step) (w : Writing) (e : Effect) → effect step ≡ e → IsRunSoFar size period held trace w
    → IsRunSoFar size period held (trace ++ step ∷ []) (after_effect w e)
run_more size period held trace step w (adds d) is run = run_takes size period held trace step w d is run
run_more size period held trace step w (ends stacked) is run = run_ends size period held trace step w stacked (λ docs rest bs h. effect_by size step (ends stacked) docs rest bs is h) run
run_more size period held trace step w may_end is run =
    subst (IsRunSoFar size period held (trace ++ step ∷ [])) (store_of_none w) (run_ends size period held trace step w [] (λ docs rest bs h. effect_by size step may_end docs rest bs is (inl h)) run)
run_more size period held trace step w no_effect is run = run_stays size period held trace step w is run

run_same : (size period n : ℕ) (held : List ℕ) (trace : List Step) (w : Writing) → IsRunSoFar size period held trace w → IsRunSoFar size period held trace (with_failures n w)
run_same size period n held trace w run = run_on size period held trace trace w (with_failures n w) run refl refl refl refl run.light run.goes_on

-- one more call of a writer that works
pub run_step : (size period : ℕ) (held : List ℕ) (trace : List Step) (step : Step) (old new : Writing) → new ≡ with_failures new.output.failures (after_effect old (effect step))
    → IsRunSoFar size period held trace old → IsRunSoFar size period held (trace ++ step ∷ []) new
run_step size period held trace step old new is run =
    subst (IsRunSoFar size period held (trace ++ step ∷ [])) (sym is)
    (run_same size period new.output.failures held (trace ++ step ∷ []) (after_effect old (effect step)) (run_more size period held trace step old (effect step) refl run))

-- more documents that were taken
pub run_documents : (size period : ℕ) (held : List ℕ) (trace : List Step) (w : Writing) (documents : List (List ℕ)) → IsRunSoFar size period held trace w
    → IsRunSoFar size period held (trace ++ map took documents) (with_documents w documents)
run_documents size period held trace w [] run = subst (λ (t : List Step). IsRunSoFar size period held t w) (sym (append-nil trace)) run
run_documents size period held trace w (document ∷ documents) run =
    subst (λ (t : List Step). IsRunSoFar size period held t (with_documents (with_document w document) documents)) (append_assoc trace (took document ∷ []) (map took documents))
    (run_documents size period held (trace ++ took document ∷ []) (with_document w document) documents (run_step size period held trace (took document) w (with_document w document) refl run))

-- the blocks of a run that is closed
pub run_closes : (size period : ℕ) (held : List ℕ) (trace : List Step) (w : Writing) → IsRunSoFar size period held trace w → Blocks size trace (blocks_in w)
run_closes size period held trace w run =
    let bs = map block_of run.groups ++ blocks_of w.pending in
    let all : BlocksFrom size [] (trace ++ []) (run.front ++ bs) = run.goes_on [] bs (last_flush size run.groups w.pending run.full run.light) in
    let parts : run.front ++ bs ≡ w.output.finished ++ blocks_of w.pending = sym (append_assoc run.front (map block_of run.groups) (blocks_of w.pending))
    ∙ ap (λ (x : List StoreBlock). x ++ blocks_of w.pending) (sym run.finished) in
    subst (λ (t : List Step). BlocksFrom size [] t (w.output.finished ++ blocks_of w.pending)) (append-nil trace) (subst (BlocksFrom size [] (trace ++ [])) parts all)
