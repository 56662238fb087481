use Rattle.std.proofs.Common.{◌≡◌, ℕ, List, [], ◌∷◌, ◌++◌, Option, None, Some, IfSome, ap, subst, ◌∙◌}
use Rattle.document_framing.specs.declared.framing.Framing.TheVariants.{Files}
use Rattle.document_framing.specs.Feeding.{known_documents}
use Rattle.document_framing.proofs.feeding.feed_file.Goals as goal

-- the one document
whole : (a : Option (List ℕ)) (old document : List ℕ) → old ≡ [] → IfSome a (λ xs. document ≡ old ++ xs)
    → IfSome (known_documents Files a) (λ known. document ∷ [] ≡ known)
whole None old document e h = tt
whole (Some xs) old document e h = ap (λ d. d ∷ []) (h ∙ ap (λ l. l ++ xs) e)

pub returns-in-Ok-clause-fed : goal.returns-in-Ok-clause-fed
returns-in-Ok-clause-fed g c = record {
  documents = c.read_to_end.new.buf.items ∷ [];
  added = g.met.S.DocumentSink.adds_more c.args.sink.now c.wait_unless.new.sink c.take.new.self [] (c.read_to_end.new.buf.items ∷ [])
      c.in_default.ensures.kept
      (subst (λ d. g.S.DocumentSink.adds c.wait_unless.new.sink (d ∷ []) c.take.new.self) c.deref.ensures.value c.in-Ok.ensures.taken);
  all = whole _ c.clear.new.self.items c.read_to_end.new.buf.items c.clear.ensures.items c.in_default-read_to_end.ensures.bytes;
}
