use Rattle.std.proofs.Common.{◌≡◌, ℕ, List, ◌∷◌, ◌++◌, replicate, ◌∙◌, ap, append_assoc}
use Rattle.std.proofs.lemmas.Result.{IfOk-equal}
use Rattle.store_base.specs.Serialize.{fixed}
use Rattle.store_format.specs.Footer.{kind_of}
use Rattle.store_format.proofs.footer.DocStoreFooterBinarySerializable.serialize.Goals as goal

pub returns-clause-ok : goal.returns-clause-ok
returns-clause-ok g c =
    let old = g.W.TerminatingWrite.content c.args.output.now in
    let last : List ℕ = kind_of c.args.self.now.decompressor ∷ c.args.self.now.period ∷ replicate 14 0 in
    let kind : c.get_id.result ∷ c.args.self.now.period ∷ replicate 14 0 ≡ last = ap (λ (k : ℕ). k ∷ c.args.self.now.period ∷ replicate 14 0) c.get_id.ensures in
    let first : g.W.TerminatingWrite.content c.serialize-2.new.output ≡ (old ++ fixed 4 3) ++ fixed 8 c.args.self.now.offset =
    c.in_ok-serialize-2.ensures.ok ∙ ap (λ (x : List ℕ). x ++ fixed 8 c.args.self.now.offset) c.in_ok-serialize.ensures.ok in
    IfOk-equal c.write_all.result _ _ _ c.write_all.ensures.ok
    (ap (λ (x : List ℕ). g.W.TerminatingWrite.content c.serialize-2.new.output ++ x) kind ∙ ap (λ (x : List ℕ). x ++ last) (first ∙ append_assoc old (fixed 4 3) (fixed 8 c.args.self.now.offset))
    ∙ append_assoc old (fixed 4 3 ++ fixed 8 c.args.self.now.offset) last)
