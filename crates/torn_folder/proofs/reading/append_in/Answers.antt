use Rattle.std.proofs.Common.{List, [], ◌++◌, Option, ℕ, Some, refl, ◌∙◌, ap}
use Rattle.std.specs.Prelude.{unwrap_or}
use Rattle.std.proofs.lemmas.Result.{on_ok_weaker}
use Rattle.store_folder.specs.Changes.{look_of}
use Rattle.torn_folder.proofs.Looks.{placed}
use Rattle.torn_folder.proofs.reading.append_in.Goals as goal

pub returns : goal.returns
returns c =
    let old = look_of c.args.folder.now.changes.items in
    let name = c.args.name.now in
    on_ok_weaker c.append.result
    (λ is. placed name (Some (unwrap_or (old name) [] ++ c.args.bytes.now)) old (look_of c.append.new.self.changes.items)
    (is ∙ ap (λ (o : Option (List ℕ)). Some (unwrap_or o [] ++ c.args.bytes.now)) c.in_ok-make_if_absent.ensures.file)
    (λ n ne. c.append.ensures.elsewhere refl n ne ∙ c.in_ok-make_if_absent.ensures.elsewhere n ne))
    (c.append.ensures.appended refl)
