use Rattle.std.proofs.Common.{◌≡◌, ℕ, sym, ap, ◌∙◌, subst, arith}
use Rattle.std.specs.Prelude.{Result, Ok, Err}
use Rattle.store_base.specs.declared.error.StoreError.{StoreError}
use Rattle.store_reader.specs.declared.tail_error.TailError.{TailError}
use Rattle.store_reader.specs.declared.tail_error.TailError.TheVariants.{Short, Store}
use Rattle.store_reader.specs.StoreTails.{TailBytes, IsWanted, RefusesTail}
use Rattle.store_c.specs.Getting.{RefusesUnopened}
use Rattle.store_reader.proofs.StoreSliceLemmas.{document_placed}
use Rattle.store_c.proofs.FirstRefusalLemmas.{by_six, is_in_store, no_index_in}
use Rattle.store_c.proofs.GettingLemmas.{by_other}
use Rattle.store_c.proofs.RangeLemmas.{block_placed, head_or_wanted, none_short, same_tail, tail_head, tail_refused, too_short_file, not_damaged, unopened}
use Rattle.store_c.proofs.ranges.zevk_block_of.Goals as goal

pub returns-in-Err-Store-clause-no_document : goal.returns-in-Err-Store-clause-no_document
returns-in-Err-Store-clause-no_document c file t s =
    let refused : RefusesTail c.args.file_len c.args.tail.now c.in-Err-Store.error = rw c.in-Err-Store.field-0-is at c.in-Err-Store.ensures.refused in
    absurd (refused.no_store file t s)

pub returns-in-Err-Store-clause-too_long : goal.returns-in-Err-Store-clause-too_long
returns-in-Err-Store-clause-too_long c why =
    let refused : RefusesTail c.args.file_len c.args.tail.now c.in-Err-Store.error = rw c.in-Err-Store.field-0-is at c.in-Err-Store.ensures.refused in
    let causes = rw c.in-Err-Store.field-0-is at c.in-Err-Store.ensures.causes in
    c.number-in-Err-Store.ensures ∙ too_short_file _ _ _ why refused (λ m. causes (ap Store m))

pub returns-in-Err-Store-clause-head : goal.returns-in-Err-Store-clause-head
returns-in-Err-Store-clause-head c number long few head =
    let refused : RefusesTail c.args.file_len c.args.tail.now c.in-Err-Store.error = rw c.in-Err-Store.field-0-is at c.in-Err-Store.ensures.refused in
    let causes = rw c.in-Err-Store.field-0-is at c.in-Err-Store.ensures.causes in
    c.number-in-Err-Store.ensures ∙ tail_head _ _ number _ long few head refused (λ m. causes (ap Store m))

pub returns-in-Err-Store-clause-no_store : goal.returns-in-Err-Store-clause-no_store
returns-in-Err-Store-clause-no_store c none six short file t =
    let refused : RefusesTail c.args.file_len c.args.tail.now c.in-Err-Store.error = rw c.in-Err-Store.field-0-is at c.in-Err-Store.ensures.refused in
    let causes = rw c.in-Err-Store.field-0-is at c.in-Err-Store.ensures.causes in
    subst (RefusesUnopened file) (sym c.number-in-Err-Store.ensures) (unopened c.args.file_len c.args.tail.now c.in-Err-Store.error refused (λ m. causes (ap Store m)) file t)

pub returns-in-Ok-block_of-clause-done : goal.returns-in-Ok-block_of-clause-done
returns-in-Ok-block_of-clause-done c done =
    let found = c.in-Ok-block_of.ensures in
    block_placed c.args.file_len c.args.tail.now c.in-Ok.store c.args.doc_id c.in-Ok-block_of.found c.in-Ok.ensures.ok found.order found.within found.block

pub returns-in-Ok-block_of-clause-too_long : goal.returns-in-Ok-block_of-clause-too_long
returns-in-Ok-block_of-clause-too_long c why = absurd (none_short _ _ c.in-Ok.ensures.index c.in-Ok.ensures.fits why)

pub returns-in-Ok-block_of-clause-head : goal.returns-in-Ok-block_of-clause-head
returns-in-Ok-block_of-clause-head c number long few head = absurd (no_index_in _ _ number head c.in-Ok.ensures.index)

pub returns-in-Ok-block_of-clause-no_document : goal.returns-in-Ok-block_of-clause-no_document
returns-in-Ok-block_of-clause-no_document c file t s other =
    let seeks = sym (c.in-Ok-block_of.ensures.block file (same_tail file c.args.file_len c.args.tail.now c.in-Ok.store c.in-Ok.ensures.ok t) s) in
    (λ six. absurd (omega (arith, six)), λ is. absurd (is_in_store file s c.args.doc_id _ (document_placed file s c.args.doc_id c.in-Ok-block_of.found (sym seeks)) is))

pub returns-in-Err-clause-too_long : goal.returns-in-Err-clause-too_long
returns-in-Err-clause-too_long c why = absurd (none_short _ _ c.in-Ok.ensures.index c.in-Ok.ensures.fits why)

pub returns-in-Err-clause-head : goal.returns-in-Err-clause-head
returns-in-Err-clause-head c number long few head = absurd (no_index_in _ _ number head c.in-Ok.ensures.index)

pub returns-in-Err-clause-no_document : goal.returns-in-Err-clause-no_document
returns-in-Err-clause-no_document c file t s other =
    let refused = tail_refused c.args.file_len c.args.tail.now c.in-Ok.store c.args.doc_id c.in-Err.error c.in-Ok.ensures.ok c.in-Err.ensures.refused c.in-Err.ensures.block file t in
    by_six file c.args.doc_id _ _ c.number-in-Err.ensures refused s

pub returns-in-Err-clause-no_store : goal.returns-in-Err-clause-no_store
returns-in-Err-clause-no_store c none six short file t =
    let refused = tail_refused c.args.file_len c.args.tail.now c.in-Ok.store c.args.doc_id c.in-Err.error c.in-Ok.ensures.ok c.in-Err.ensures.refused c.in-Err.ensures.block file t in
    let number = c.number-in-Err.ensures in
    subst (RefusesUnopened file) (sym number) (by_other _ _ _ refused (λ e. six (number ∙ e)) (not_damaged _ _ c.in-Err.ensures.refused))

-- ---- how many bytes are wanted

same_wanted : (n m : ℕ) → ◌≡◌ {A = Result TailBytes TailError} (Err (Short n)) (Err (Short m)) → n ≡ m
same_wanted n m h = cc

no_store_wanted : (e : StoreError) (m : ℕ) → ◌≡◌ {A = Result TailBytes TailError} (Err (Store e)) (Err (Short m)) → ⊥
no_store_wanted e m h = let same : Store e ≡ Short m = cc in cc

opened_not_wanted : (store : TailBytes) (m : ℕ) → ◌≡◌ {A = Result TailBytes TailError} (Ok store) (Err (Short m)) → ⊥
opened_not_wanted store m h = cc

pub returns-in-Err-Short-clause-wants : goal.returns-in-Err-Short-clause-wants
returns-in-Err-Short-clause-wants c n lacks =
    let short = rw c.in-Err-Short.field-0-is at c.in-Err-Short.ensures.short in
    (c.number.ensures, same_wanted c.in-Err-Short.len n (short n lacks))

pub returns-in-Err-Short-clause-head : goal.returns-in-Err-Short-clause-head
returns-in-Err-Short-clause-head c number long few head =
    let lacks : IsWanted c.args.file_len c.args.tail.now c.in-Err-Short.len = rw c.in-Err-Short.field-0-is at c.in-Err-Short.ensures.refused in
    absurd (head_or_wanted c.args.file_len c.args.tail.now number c.in-Err-Short.len long head lacks)

pub returns-in-Err-Store-clause-wants : goal.returns-in-Err-Store-clause-wants
returns-in-Err-Store-clause-wants c n lacks =
    let short = rw c.in-Err-Store.field-0-is at c.in-Err-Store.ensures.short in
    absurd (no_store_wanted c.in-Err-Store.error n (short n lacks))

pub returns-in-Ok-block_of-clause-wants : goal.returns-in-Ok-block_of-clause-wants
returns-in-Ok-block_of-clause-wants c n lacks = absurd (opened_not_wanted c.in-Ok.store n (c.in-Ok.ensures.short n lacks))

pub returns-in-Err-clause-wants : goal.returns-in-Err-clause-wants
returns-in-Err-clause-wants c n lacks = absurd (opened_not_wanted c.in-Ok.store n (c.in-Ok.ensures.short n lacks))
