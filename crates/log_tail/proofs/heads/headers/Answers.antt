use Rattle.std.proofs.Common.{◌≡◌, ◌++◌, ◌∷◌, length, refl, ◌∙◌, ap, arith, append_assoc}
use Rattle.log_tail.specs.Tail.{summed}
use Rattle.log_tail.specs.Heads.{head_body}
use Rattle.log_tail.proofs.HeadLemmas.{length-head, three_parts}
use Rattle.log_tail.proofs.heads.headers.Goals as goal

pub returns-clause-headers : goal.returns-clause-headers
returns-clause-headers c =
    let body = c.args.body.now in
    let head = head_body c.args.first c.args.place (length body) in
    let front = c.batch_header.result in
    let middle = c.head_body-head.result in
    let back = c.batch_header-2.result in
    let middle_size : length middle ≡ 24 = ap length c.head_body-head.ensures ∙ length-head c.args.first c.args.place (length body) in
    let all = three_parts _ front middle back c.put_at.new.bytes c.put_at-2.new.bytes c.put_at-3.new.bytes refl (omega arith) middle_size (omega arith)
    c.put_at.ensures c.put_at-2.ensures c.put_at-3.ensures in
    ap (λ l. l ++ body) all
    ∙ append_assoc (front ++ middle) back body
    ∙ ap (λ l. l ++ (back ++ body)) (c.batch_header.ensures.header ∙ ap (λ l. 1 ∷ summed l) c.head_body-head.ensures)
    ∙ ap (λ l. (1 ∷ summed head) ++ l) c.batch_header-2.ensures.header
