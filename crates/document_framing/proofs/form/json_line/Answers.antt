use Rattle.std.proofs.Common.{◌≡◌, ◌∙◌, ◌++◌, ◌∷◌, [], List, ℕ, decimal, ap, append_assoc}
use Rattle.std.specs.Prelude.{codes}
use Rattle.json.specs.Print.{print}
use Rattle.json.specs.Token.{Token, begin_object, end_object, key, number}
use Rattle.document_framing.specs.Forms.{line_of, member}
use Rattle.document_framing.proofs.form.json_line.Goals as goal

pub returns : goal.returns
unfolding line_of
returns c =
    let before : List Token = begin_object ∷ key (codes "id") ∷ number (decimal c.args.number) ∷ [] in
    let one = c.in_ok-begin_object.ensures.ok ∙ ap (λ (ts : List Token). ts ++ begin_object ∷ []) c.new-writer.ensures.tokens in
    let two = c.in_ok-key.ensures.ok ∙ ap (λ (ts : List Token). ts ++ key (codes "id") ∷ []) one in
    let three : c.u64.new.self.tokens ≡ before = c.in_ok-u64.ensures.ok ∙ ap (λ (ts : List Token). ts ++ number (decimal c.args.number) ∷ []) two in
    let four = c.in_ok-write_member.ensures.tokens ∙ ap (λ (ts : List Token). ts ++ member c.args.document.now) three in
    let all : c.end_object.new.self.tokens ≡ before ++ (member c.args.document.now ++ end_object ∷ []) =
    c.in_ok-end_object.ensures.ok ∙ ap (λ (ts : List Token). ts ++ end_object ∷ []) four ∙ append_assoc before (member c.args.document.now) (end_object ∷ []) in
    let nothing : c.end_object.new.self.before ≡ [] =
    c.in_ok-end_object.ensures.room.0 ∙ c.in_ok-write_member.ensures.before ∙ c.in_ok-u64.ensures.room.0 ∙ c.in_ok-key.ensures.room.0 ∙ c.in_ok-begin_object.ensures.room.0
    ∙ c.new-writer.ensures.before ∙ c.in_ok-with_capacity.ensures.items in
    c.in_ok-push.ensures.items ∙ ap (λ (l : List ℕ). l ++ 10 ∷ []) (c.into_inner-line.ensures.items ∙ ap (λ (l : List ℕ). l ++ print c.end_object.new.self.tokens) nothing ∙ ap print all)
