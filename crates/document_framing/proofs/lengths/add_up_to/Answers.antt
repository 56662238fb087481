use Rattle.std.proofs.Common.{◌≡◌, false, nat_lt, take, subst, arith, length-take, ltb-false}
use Rattle.std.specs.Io.BufRead.{FillKeeps}
use Rattle.std.proofs.BufReadLemmas.{Consumes_shown}
use Rattle.document_framing.proofs.lengths.add_up_to.Goals as goal

pub returns : goal.returns
returns g c =
    let len = c.min-len in
    let rested = c.fill_buf.follows.lender-at-none in
    let filled = subst (FillKeeps _ (g.R.Read.remaining rested) (g.R.BufRead.consumable_len rested)) c.in-Ok.is c.fill_buf.follows.holds-at-none in
    let moved = Consumes_shown _ _ _ _ c.in-Ok.available.now len.result (omega arith) c.in-Ok.ensures.front c.in-Ok.ensures.end
    filled.0 filled.1 c.consume.ensures.bytes in
    record {
      added = record {
        bytes = take len.result c.in-Ok.available.now;
        few = omega (arith, length-take len.result c.in-Ok.available.now);
        grown = c.in_ok-extend_from_slice.ensures.items;
        consumed = moved.0;
      };
      last = λ is.
          let none : nat_lt 0 len.result ≡ false = cc in
          moved.1 (omega (arith, ltb-false 0 len.result none));
    }
