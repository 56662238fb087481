use Rattle.std.proofs.Common.{ℕ, refl, sym, ◌∙◌, subst, inl}
use Rattle.std.proofs.lemmas.Option.{none-some}
use Rattle.layered_index.specs.Checkpoint.{Covers}
use Rattle.store_reader.proofs.CoveringLemmas.{IsCovered, some_pair, covers_by, not_covered}
use Rattle.store_reader.proofs.opening.index_in.Goals as goal

-- the checkpoints passed the test
passed : (c : goal.Else-end-covered) → IsCovered c.in_ok-index.index.checkpoints c.in-Some._num_docs c.in-Some.end
passed c = covers_by c.in_ok-index.index.checkpoints c.in-Some._num_docs c.in-Some.end c.in_ok-index.ensures.ok.1.0 (sym c.in-Some.ensures)

pub returns-in_default : goal.returns-in_default
returns-in_default c =
    inl (
      refl,
      not_covered c.args.period c.args.bytes c.args.covered c.in_ok-index.index.checkpoints c.requires.least c.in_ok-index.ensures.ok.1
          (λ docs e. none-some (docs, c.args.covered) (sym c.in_default.is ∙ c.covered_to.ensures ∙ e)),
    )

pub returns-then-end-covered : goal.returns-then-end-covered
returns-then-end-covered c =
    inl (
      refl,
      not_covered c.args.period c.args.bytes c.args.covered c.in_ok-index.index.checkpoints c.requires.least c.in_ok-index.ensures.ok.1
          (λ docs e. c.if-end-covered.true (some_pair c.in-Some._num_docs c.in-Some.end docs c.args.covered (c.in-Some.ensures ∙ e)).1),
    )

pub returns : goal.returns
returns c =
    let ok = c.in_ok-index.ensures.ok in (
      ok.0,
      record {
        covers = subst (λ (n : ℕ). Covers c.in_ok-index.index.checkpoints n) c.if-end-covered.false (passed c).covers;
        spells = ok.1.1;
      },
    )
