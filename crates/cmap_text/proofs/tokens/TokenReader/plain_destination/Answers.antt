use Rattle.std.proofs.Common.{refl, sym, ap, ◌∙◌, arith}
use Rattle.cmap_tokens.specs.Tokens.{String}
use Rattle.cmap_text.specs.TextReading.{destination_of}
use Rattle.cmap_text.specs.TokenParsers.{token_in}
use Rattle.cmap_text.proofs.TokensRead.{read_value, destination_of-is}
use Rattle.cmap_text.proofs.tokens.TokenReader.plain_destination.Goals as goal

pub returns-in-Some : goal.returns-in-Some
returns-in-Some c =
    let (piece, reads, (value, only, are, two, number), left) = c.in-Some.ensures.token in
    let read = read_value destination_of (String piece) piece value refl only.holds ∙ destination_of-is value (omega (arith, two)) in
    let units = c.units_of_number.ensures value are (omega arith) (omega arith) (sym two) (c.from.ensures ∙ number) in
    (piece, ap token_in (sym c.self.view_is ∙ left), rw (read, ← units) refl)
