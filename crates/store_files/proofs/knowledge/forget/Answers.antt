use Rattle.std.proofs.Common.{rules}
use Rattle.std.proofs.lemmas.Fn.{filter_same}
use Rattle.std.specs.Prelude.{not}
use Rattle.store_files.proofs.KnowledgeLemmas.{is_at, forgotten}
use Rattle.store_files.proofs.knowledge.forget.Goals as goal

pub returns : goal.returns
returns c =
    forgotten c.args.name.now c.args.touched.now.items c.retain.new.self.items
    (filter_same _ (λ file. not (is_at c.args.name.now file)) _ (λ x b f' k. search rules) _ _ c.retain.ensures.filtered)
