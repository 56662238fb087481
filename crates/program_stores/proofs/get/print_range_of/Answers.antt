use Rattle.std.proofs.Common.{◌≡◌, ◌-◌, [], rules, arith, subst, refl}
use Rattle.std.specs.Prelude.{◌&&◌}
use Rattle.std.proofs.KnownBytes.{Appends-nil}
use Rattle.store_commands.specs.NumberRanges.{is_within, names}
use Rattle.store_reader.specs.Reading.{num_docs}
use Rattle.program_stores.proofs.get.print_range_of.Goals as goal

pub returns-then-numbers-clause-printed : goal.returns-then-numbers-clause-printed
returns-then-numbers-clause-printed g c honest =
    let ids = c.in_ok-numbers.numbers in
    let count : c.from.result ≡ num_docs c.args.reader.now = search rules in
    let none : ids.end - ids.start ≡ 0 = omega (arith, c.if-numbers.true) in record {
      bytes = [];
      shown = record {
        ids = ids;
        are = λ id. subst (λ n. is_within ids id ≡ (names 0 c.args.range id && is_within (record { start = 0; end = n }) id)) count (c.in_ok-numbers.ensures.numbers id);
        documents = [];
        slots_are = rw none refl;
        bytes_are = refl;
      };
      printed = Appends-nil (g.W.Write.contents c.args.output.now);
    }
