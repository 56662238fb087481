use Rattle.std.proofs.Common.{refl, sym, arith}
use Rattle.layered_index.proofs.IndexHeadLemmas.{no_count, no_ends}
use Rattle.layered_index.proofs.index_slice.IndexSlice.new.Goals as goal

pub returns-in_default-clause-refused : goal.returns-in_default-clause-refused
returns-in_default-clause-refused c = (refl, no_count c.args.period c.args.bytes.now c.requires.least c.requires.most (omega arith) (sym c.in_default.ensures.read))

pub returns-in_default-pass_numbers-clause-refused :
    goal.returns-in_default-pass_numbers-clause-refused
returns-in_default-pass_numbers-clause-refused c = (
  refl,
  no_ends c.args.period c.args.bytes.now c.in-Some.count c.in-Some.ends.now c.requires.least c.requires.most (omega arith) (sym c.in-Some.ensures.read)
      (sym c.in_default-pass_numbers.ensures),
)
