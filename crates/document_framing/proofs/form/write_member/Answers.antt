use Rattle.std.proofs.Common.{◌≡◌, ◌∙◌, ◌++◌, ◌∷◌, [], List, Result, Ok, Err, OnOk, ap, append_assoc, eq-eqb, length, subst, true}
use Rattle.std.specs.Prelude.{codes, ◌==◌}
use Rattle.std.specs.Str.Lossy.{utf8_valid_len}
use Rattle.std.proofs.lemmas.Str.{utf8_valid_len-IsUtf8}
use Rattle.json.specs.Token.{Token, key, string}
use Rattle.document_framing.proofs.form.write_member.Goals as goal

two_more : {T E : Type 0} (r : Result T E) (old mid new : List Token) (a b : Token) → mid ≡ old ++ a ∷ [] → OnOk r (new ≡ mid ++ b ∷ []) → OnOk r (new ≡ old ++ (a ∷ b ∷ []))
two_more (Ok x) old mid new a b first next = next ∙ ap (λ (ts : List Token). ts ++ b ∷ []) first ∙ append_assoc old (a ∷ []) (b ∷ [])
two_more (Err e) old mid new a b first next = tt

pub returns-in-Ok-clause-tokens : goal.returns-in-Ok-clause-tokens
returns-in-Ok-clause-tokens c =
    let document = c.args.document.now in
    let whole : (utf8_valid_len document == length document) ≡ true =
    eq-eqb _ _ (utf8_valid_len-IsUtf8 document c.in-Ok.ensures.cases.1) in
    let text : c.in-Ok.text.now ≡ document = c.in-Ok.ensures.cases.0 in
    rw whole (two_more c.string.result c.args.writer.now.tokens c.key.new.self.tokens c.string.new.self.tokens (key (codes "text")) (string document) c.in_ok-key.ensures.ok
    (subst (λ t. OnOk c.string.result (c.string.new.self.tokens ≡ c.key.new.self.tokens ++ string t ∷ [])) text c.string.ensures.ok))
