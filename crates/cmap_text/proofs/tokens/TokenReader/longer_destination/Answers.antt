use Rattle.std.proofs.Common.{◌++◌, length-append, refl, sym, ap, ◌∙◌, arith}
use Rattle.cmap_tokens.specs.Tokens.{String}
use Rattle.cmap_tokens.specs.TokensLeft.{tokens_of}
use Rattle.cmap_text.specs.TextReading.{destination_of}
use Rattle.cmap_text.specs.TokenParsers.{token_in}
use Rattle.cmap_text.proofs.TokensRead.{read_value, destination_of-is}
use Rattle.cmap_text.proofs.tokens.TokenReader.longer_destination.Goals as goal

pub returns-in-Some : goal.returns-in-Some
returns-in-Some c =
    let (piece, reads, (value, only, are, count, number), left) = c.in-Some.ensures.token in
    let (least, most) = c.in-Some.ensures.few in
    let read = read_value destination_of (String piece) piece value refl only.holds ∙ destination_of-is value (omega (arith, count, least)) in
    let units = c.units_of_number.ensures value are least most count number in
    (piece, ap token_in (sym c.self.view_is ∙ left), rw (read, ← units) refl)

pub returns : goal.returns
returns c =
    let (piece, reads, (front, rest, only, front_are, rest_are, four, count, high, low), left) = c.in_ok-count.ensures.token in
    let (least, most, even) = c.in_ok-count.ensures.few in
    let read = read_value destination_of (String piece) piece (front ++ rest) refl only.holds ∙ destination_of-is (front ++ rest) (omega (arith, four, length-append front rest)) in
    let units = c.units_of_parts.ensures front rest front_are rest_are four count least most even high low in
    let stays = ap tokens_of (sym (c.next_pairs.ensures.stays c.in_default.is)) in
    (piece, ap token_in (sym c.self.view_is ∙ stays ∙ left), rw (read, ← units) refl)
