use Rattle.segmented_log.proofs.NumberLemmas.{numbers_same, numbers_more}
use Rattle.segmented_log.proofs.opening.add_number.Goals as goal

pub returns-in_default : goal.returns-in_default
returns-in_default c = λ names known. numbers_same names c.args.numbers.now.items c.args.name.now c.in_default.ensures.none known

pub returns : goal.returns
returns c = λ names known. numbers_more names c.args.numbers.now.items c.args.name.now c.push.new.self.items c.in-Some.number c.in-Some.ensures.some c.in-Some.ensures.fits c.in_ok-push.ensures.items
    known
