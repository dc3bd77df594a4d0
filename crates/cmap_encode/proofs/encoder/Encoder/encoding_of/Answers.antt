use Rattle.std.proofs.Common.{◌≡◌, ℕ, List, MatchOption, length, sym, ap, ◌∙◌, subst}
use Rattle.std.proofs.lemmas.Result.{IfOk-weaker}
use Rattle.cmap_encode.specs.ChoicesSeen.{choices_of}
use Rattle.cmap_encode.specs.Encodings.{IsEncodingBy}
use Rattle.cmap_encode.specs.Pieces.{Choices, IsEncodable}
use Rattle.cmap_encode.specs.Ways.{AreWays}
use Rattle.cmap_encode.proofs.encoder.Encoder.encoding_of.Goals as goal

pub returns : goal.returns
returns c =
    let text = c.args.text.now in let choices = choices_of c.args.self.now.choices in
    let ways = subst (AreWays choices text) (sym c.deref.ensures.value) c.in_ok-ways.ensures.ways in
    let count = ap length c.deref.ensures.value ∙ c.in_ok-ways.ensures.count in
    IfOk-weaker c.string_of.result
    (λ found. (choices : Choices) (text : List ℕ) → AreWays choices text c.deref.result.now → length c.deref.result.now ≡ length text → MatchOption found (IsEncodable choices text → ⊥) (λ string. IsEncodingBy choices text string.items))
    (λ found. MatchOption found (IsEncodable choices text → ⊥) (λ string. IsEncodingBy choices text string.items))
    (λ found leads. leads choices text ways count) c.string_of.ensures
