use Rattle.std.proofs.Common.{sym, ◌∙◌, subst}
use Rattle.cmap_values.specs.Outcomes.{RefusesWith}
use Rattle.cmap_encode.specs.ChoicesSeen.{choices_of}
use Rattle.cmap_encode.specs.Encodings.{IsEncodingBy, IsStuckBy}
use Rattle.cmap_encode.specs.Pieces.{IsEncodable}
use Rattle.cmap_encode.proofs.encoder.Encoder.encoded.Goals as goal

pub returns-in-Some : goal.returns-in-Some
returns-in-Some c =
    let choices = choices_of c.args.self.now.choices in
    (subst (λ t. IsEncodingBy choices t c.in-Some.string.items) (c.deref.ensures.value ∙ c.in_ok-characters.ensures) (rw c.in-Some.is at c.in_ok-string.ensures), tt)

pub returns : goal.returns
returns c =
    let choices = choices_of c.args.self.now.choices in
    let none = subst (λ t. IsEncodable choices t → ⊥) (c.deref.ensures.value ∙ sym c.deref-in-None.ensures.value) (rw c.in-None.is at c.in_ok-string.ensures) in
    (tt, subst (λ t. RefusesWith (λ refused. IsStuckBy choices t refused.offset) c.refusal.result) (c.deref-in-None.ensures.value ∙ c.in_ok-characters.ensures) (c.refusal.ensures none))
