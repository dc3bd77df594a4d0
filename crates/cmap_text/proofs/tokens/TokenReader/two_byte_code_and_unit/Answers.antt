use Rattle.std.proofs.Common.{refl, sym, ap, ◌∙◌, arith}
use Rattle.std.specs.Prelude.{Some}
use Rattle.cmap_tokens.specs.Tokens.{String}
use Rattle.cmap_tokens.specs.TokensLeft.{tokens_of}
use Rattle.cmap_text.specs.TextReading.{destination_of}
use Rattle.cmap_text.specs.TokenParsers.{token_in}
use Rattle.cmap_text.proofs.TokensRead.{read_value, destination_of-is, two_bytes_code}
use Rattle.cmap_text.proofs.UnitsRead.{one_unit}
use Rattle.cmap_text.proofs.tokens.TokenReader.two_byte_code_and_unit.Goals as goal

pub returns : goal.returns
returns c =
    let found = c.in_ok-number in
    let (between, piece, text, read, writes, left, next, (value, only, are, two, number), after) = found.ensures.tokens in
    let read_text = read_value destination_of (String text) text value refl only.holds ∙ destination_of-is value (omega (arith, two)) in (
      piece,
      text,
      tokens_of between,
      ap token_in (sym c.self.view_is ∙ left),
      two_bytes_code piece _ _ writes c.two_byte_code.ensures,
      ap token_in after,
      read_text ∙ ap Some (one_unit value found.unit two number),
    )
