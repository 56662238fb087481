use Rattle.std.proofs.Common.{◌≡◌, ◌-◌, ℕ, List, length, take, refl, sym, ap, ◌∙◌, subst, arith, rules}
use Rattle.std.specs.Prelude.{slice_range}
use Rattle.store_reader.proofs.RefusedLemmas.{parts_of}
use Rattle.store_c.specs.Calls.{HasCounts}
use Rattle.store_c.proofs.FirstRefusalLemmas.{refused_first}
use Rattle.store_c.proofs.WriterNumberLemmas.{stack_old, stack_open, stack_other, stack_many, stack_no_room, stack_room, stacked_old, stacked_open, stacked_many, stacked_room, unopened_for}
use Rattle.store_c.proofs.writing.zevk_writer_stack.Goals as goal

pub returns-in-Err-clause-first : goal.returns-in-Err-clause-first
returns-in-Err-clause-first c number refused = c.number.ensures ∙ refused_first c.args.file.now number c.in-Err.error refused c.in-Err.ensures.found c.in-Err.ensures.causes

pub returns-in-Err-clause-old_version : goal.returns-in-Err-clause-old_version
returns-in-Err-clause-old_version c =
    unopened_for c.args.file.now c.in-Err.error 11 _ _ c.number.ensures c.in-Err.ensures.found c.in-Err.ensures.refused (omega arith) (omega arith) (λ e. omega (arith, e))

pub returns-in-Err-clause-too_many : goal.returns-in-Err-clause-too_many
returns-in-Err-clause-too_many c starts written w h =
    unopened_for c.args.file.now c.in-Err.error 14 _ _ c.number.ensures c.in-Err.ensures.found c.in-Err.ensures.refused (omega arith) (omega arith) (λ e. omega (arith, e))

pub stack-requires : goal.stack-requires
stack-requires c =
    let k = c.in-Ok.ensures.checked in
    let known : HasCounts c.args.file.now c.in-Ok.opened.1.blocks c.in-Ok.opened.1.docs = record { store = k.store; blocks = k.blocks; docs = k.docs } in
    record { known = subst (λ (b : List ℕ). HasCounts b c.in-Ok.opened.1.blocks c.in-Ok.opened.1.docs) (sym c.in-Ok.ensures.store) known }

-- ---- one that is stacked

pub returns-in-Ok-stack-clause-stacked : goal.returns-in-Ok-stack-clause-stacked
returns-in-Ok-stack-clause-stacked c done =
    let k = c.in-Ok.ensures.checked in
    let s = k.store in
    let file = c.args.file.now in
    let bytes = c.block_data.result.now in
    let is = (rw c.in-Ok.ensures.store at c.block_data.ensures.«data») s in
    let part : bytes ≡ slice_range file 0 (length bytes) = rw c.in-Ok.ensures.store at c.block_data.ensures.part in
    let all : length bytes ≡ length bytes - 0 = omega arith in
    record {
      store = s;
      version = ((rw c.in-Ok.ensures.store at c.in-Ok-stack.ensures.takes) s).may.0;
      front = ap (λ (n : ℕ). take n file) all ∙ sym part ∙ is;
      within = omega (arith, ap length is, (parts_of file s).size);
      blocks = c.in-Ok-stack.ensures.count ∙ k.blocks;
      puts = (rw c.in-Ok.ensures.store at c.in-Ok-stack.ensures.stacked) s;
    }

pub returns-in-Ok-stack-clause-old_version : goal.returns-in-Ok-stack-clause-old_version
returns-in-Ok-stack-clause-old_version c =
    let s = c.in-Ok.ensures.checked.store in
    let takes = (rw c.in-Ok.ensures.store at c.in-Ok-stack.ensures.takes) s in
    stacked_old c.args.file.now s c.args.writer.now c.args.table.now 0 refl takes

pub returns-in-Ok-stack-clause-open_block : goal.returns-in-Ok-stack-clause-open_block
returns-in-Ok-stack-clause-open_block c =
    let s = c.in-Ok.ensures.checked.store in
    let takes = (rw c.in-Ok.ensures.store at c.in-Ok-stack.ensures.takes) s in
    stacked_open c.args.file.now s c.args.writer.now c.args.table.now 0 refl takes

pub returns-in-Ok-stack-clause-too_many : goal.returns-in-Ok-stack-clause-too_many
returns-in-Ok-stack-clause-too_many c starts written w h =
    let s = c.in-Ok.ensures.checked.store in
    let takes = (rw c.in-Ok.ensures.store at c.in-Ok-stack.ensures.takes) s in
    stacked_many c.args.file.now s c.args.writer.now c.args.table.now 0 starts written w h refl takes

pub returns-in-Ok-stack-clause-room : goal.returns-in-Ok-stack-clause-room
returns-in-Ok-stack-clause-room c starts written w h =
    let s = c.in-Ok.ensures.checked.store in
    let takes = (rw c.in-Ok.ensures.store at c.in-Ok-stack.ensures.takes) s in
    stacked_room c.args.file.now s c.args.writer.now c.args.table.now 0 starts written w h refl takes

-- ---- one that is not

pub returns-in-Err-stack-clause-old_version : goal.returns-in-Err-stack-clause-old_version
returns-in-Err-stack-clause-old_version c =
    let s = c.in-Ok.ensures.checked.store in
    let why = (rw c.in-Ok.ensures.store at c.in-Err-stack.ensures.refused) s in
    stack_old c.args.file.now s c.args.writer.now c.args.table.now _ c.in-Err-stack.refusal c.number-in-Err-stack.ensures why

pub returns-in-Err-stack-clause-open_block : goal.returns-in-Err-stack-clause-open_block
returns-in-Err-stack-clause-open_block c =
    let s = c.in-Ok.ensures.checked.store in
    let why = (rw c.in-Ok.ensures.store at c.in-Err-stack.ensures.refused) s in
    stack_open c.args.file.now s c.args.writer.now c.args.table.now _ c.in-Err-stack.refusal c.number-in-Err-stack.ensures why

pub returns-in-Err-stack-clause-too_many : goal.returns-in-Err-stack-clause-too_many
returns-in-Err-stack-clause-too_many c starts written w h =
    let s = c.in-Ok.ensures.checked.store in
    let why = (rw c.in-Ok.ensures.store at c.in-Err-stack.ensures.refused) s in
    stack_many c.args.file.now s c.args.writer.now c.args.table.now _ starts written w h c.in-Err-stack.refusal c.number-in-Err-stack.ensures why

pub returns-in-Err-stack-clause-room : goal.returns-in-Err-stack-clause-room
returns-in-Err-stack-clause-room c starts written w h =
    let s = c.in-Ok.ensures.checked.store in
    let why = (rw c.in-Ok.ensures.store at c.in-Err-stack.ensures.refused) s in
    stack_room c.args.file.now s c.args.writer.now c.args.table.now _ starts written w h c.in-Err-stack.refusal c.number-in-Err-stack.ensures why

pub returns-in-Err-stack-clause-other : goal.returns-in-Err-stack-clause-other
returns-in-Err-stack-clause-other c =
    let s = c.in-Ok.ensures.checked.store in
    let why = (rw c.in-Ok.ensures.store at c.in-Err-stack.ensures.refused) s in
    stack_other c.args.file.now s c.args.writer.now c.args.table.now _ c.in-Err-stack.refusal c.number-in-Err-stack.ensures why

pub returns-in-Err-stack-clause-no_room : goal.returns-in-Err-stack-clause-no_room
returns-in-Err-stack-clause-no_room c is =
    let s = c.in-Ok.ensures.checked.store in
    let why = (rw c.in-Ok.ensures.store at c.in-Err-stack.ensures.refused) s in
    let full = stack_no_room c.args.file.now s c.args.writer.now c.args.table.now _ c.in-Err-stack.refusal c.number-in-Err-stack.ensures why is in
    let count = c.in-Err-stack.ensures.room.0 full.0 ∙ c.in-Ok.ensures.checked.blocks in
    record { store = s; why = (count, omega (arith, count, full.1)) }

pub returns-in-Err-stack-clause-refused : goal.returns-in-Err-stack-clause-refused
returns-in-Err-stack-clause-refused c =
    let s = c.in-Ok.ensures.checked.store in
    let why = (rw c.in-Ok.ensures.store at c.in-Err-stack.ensures.refused) s in
    search rules

pub returns-in-Err-stack-clause-no_memory : goal.returns-in-Err-stack-clause-no_memory
returns-in-Err-stack-clause-no_memory c =
    let s = c.in-Ok.ensures.checked.store in
    let why = (rw c.in-Ok.ensures.store at c.in-Err-stack.ensures.refused) s in
    search rules
