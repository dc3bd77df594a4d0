use Rattle.std.proofs.Common.{sym, ◌∙◌, subst}
use Rattle.cmap_values.specs.Outcomes.{RefusesWith}
use Rattle.cmap_encode.specs.ChoicesSeen.{choices_of}
use Rattle.cmap_encode.specs.Encodings.{ArePiecesBy, IsStuckBy}
use Rattle.cmap_encode.specs.Pieces.{IsEncodable}
use Rattle.cmap_encode.specs.Ways.{AreWays}
use Rattle.cmap_encode.proofs.encoder.Encoder.parted.Goals as goal

pub returns-in-Some : goal.returns-in-Some
returns-in-Some c =
    let choices = choices_of c.args.self.now.choices in let text = c.deref-2.result.now in
    let ways = subst (AreWays choices text) (sym c.deref-3.ensures.value) (subst (λ t. AreWays choices t c.in_ok-ways.ways.items) (c.deref.ensures.value ∙ sym c.deref-2.ensures.value) c.in_ok-ways.ensures.ways) in
    (subst (λ t. ArePiecesBy choices t c.in-Some.pieces.items) (c.deref-2.ensures.value ∙ c.in_ok-characters.ensures) ((rw c.in-Some.is at c.in_ok-pieces.ensures) choices ways), tt)

pub returns : goal.returns
returns c =
    let choices = choices_of c.args.self.now.choices in let text = c.deref-2.result.now in
    let ways = subst (AreWays choices text) (sym c.deref-3.ensures.value) (subst (λ t. AreWays choices t c.in_ok-ways.ways.items) (c.deref.ensures.value ∙ sym c.deref-2.ensures.value) c.in_ok-ways.ensures.ways) in
    let none = subst (λ t. IsEncodable choices t → ⊥) (c.deref-2.ensures.value ∙ sym c.deref-in-None.ensures.value) ((rw c.in-None.is at c.in_ok-pieces.ensures) choices ways) in
    (tt, subst (λ t. RefusesWith (λ refused. IsStuckBy choices t refused.offset) c.refusal.result) (c.deref-in-None.ensures.value ∙ c.in_ok-characters.ensures) (c.refusal.ensures none))
