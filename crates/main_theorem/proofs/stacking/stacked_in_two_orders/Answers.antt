use Rattle.std.proofs.Common.{◌+◌, ◌<◌, ◌^◌, ◌++◌, ℕ, List, sym, ap, ◌∙◌, subst, arith, append_assoc}
use Rattle.std.proofs.lemmas.Result.{err_from_is_err_and}
use Rattle.store_format.specs.StoreFile.{StoreBlock, docs_in, file}
use Rattle.store_format.proofs.StoreLemmas.{docs_in-append}
use Rattle.main_theorem.specs.Stacking.{IsNewStore}
use Rattle.main_theorem.proofs.stacking.stacked_in_two_orders.Goals as goal

-- the documents of three stores are few enough, and so are those of two
record AreFew (bs cs ds : List StoreBlock) : Type 0 where
  front : docs_in bs + docs_in cs < 2 ^ 32
  left : docs_in (bs ++ cs) + docs_in ds < 2 ^ 32
  back : docs_in cs + docs_in ds < 2 ^ 32
  right : docs_in bs + docs_in (cs ++ ds) < 2 ^ 32

few_of : (bs cs ds : List StoreBlock) → docs_in (bs ++ cs ++ ds) < 2 ^ 32 → AreFew bs cs ds
few_of bs cs ds few =
    let all = docs_in-append (bs ++ cs) ds in
    let two = docs_in-append bs cs in
    let last = docs_in-append cs ds in
    record { front = omega arith; left = omega arith; back = omega arith; right = omega arith }

pub returns-in_err-front : goal.returns-in_err-front
returns-in_err-front c = record {
  joined = λ bs cs ds b d e few.
      let given = err_from_is_err_and c.from_residual.result c.from_residual.ensures.1 in
      rw (given.1, given.2) (c.in_err-front.ensures.joined bs cs b d (few_of bs cs ds few).front);
}

pub returns-in_err-left : goal.returns-in_err-left
returns-in_err-left c = record {
  joined = λ bs cs ds b d e few.
      let given = err_from_is_err_and c.from_residual-in_err-left.result c.from_residual-in_err-left.ensures.1 in
      let front = c.in_ok-front.ensures.joined bs cs b d (few_of bs cs ds few).front in
      let new = subst (λ (x : List ℕ). IsNewStore x (bs ++ cs)) (sym c.deref.ensures.value) front.1 in
      rw (given.1, given.2) (c.in_err-left.ensures.joined (bs ++ cs) ds new e (few_of bs cs ds few).left);
}

pub returns-in_err-back : goal.returns-in_err-back
returns-in_err-back c = record {
  joined = λ bs cs ds b d e few.
      let given = err_from_is_err_and c.from_residual-in_err-back.result c.from_residual-in_err-back.ensures.1 in
      rw (given.1, given.2) (c.in_err-back.ensures.joined cs ds d e (few_of bs cs ds few).back);
}

pub returns-in_err-right : goal.returns-in_err-right
returns-in_err-right c = record {
  joined = λ bs cs ds b d e few.
      let given = err_from_is_err_and c.from_residual-in_err-right.result c.from_residual-in_err-right.ensures.1 in
      let back = c.in_ok-back.ensures.joined cs ds d e (few_of bs cs ds few).back in
      let new = subst (λ (x : List ℕ). IsNewStore x (cs ++ ds)) (sym c.deref-2.ensures.value) back.1 in
      rw (given.1, given.2) (c.in_err-right.ensures.joined bs (cs ++ ds) b new (few_of bs cs ds few).right);
}

pub returns : goal.returns
returns c = record {
  joined = λ bs cs ds b d e few.
      let front = c.in_ok-front.ensures.joined bs cs b d (few_of bs cs ds few).front in
      let new_front = subst (λ (x : List ℕ). IsNewStore x (bs ++ cs)) (sym c.deref.ensures.value) front.1 in
      let left = c.in_ok-left.ensures.joined (bs ++ cs) ds new_front e (few_of bs cs ds few).left in
      let back = c.in_ok-back.ensures.joined cs ds d e (few_of bs cs ds few).back in
      let new_back = subst (λ (x : List ℕ). IsNewStore x (cs ++ ds)) (sym c.deref-2.ensures.value) back.1 in
      let right = c.in_ok-right.ensures.joined bs (cs ++ ds) b new_back (few_of bs cs ds few).right in
      (left.0, right.0 ∙ ap (file c.args.period 3) (sym (append_assoc bs cs ds)));
}
