use Rattle.std.proofs.Common.{sym, ap, ◌∙◌}
use Rattle.cmap_text.specs.TokenParsers.{token_in}
use Rattle.cmap_text.proofs.TokensRead.{two_bytes_code}
use Rattle.cmap_text.proofs.tokens.TokenReader.two_byte_code.Goals as goal

pub returns : goal.returns
returns c =
    let (piece, reads, writes, left) = c.in_ok-number.ensures.token in
    (piece, ap token_in (sym c.self.view_is ∙ left), two_bytes_code piece _ _ writes c.two_byte_code.ensures)
