use Rattle.std.proofs.Common.{refl, sym, ap, ◌∙◌, arith}
use Rattle.cmap_tokens.specs.Tokens.{String}
use Rattle.cmap_text.specs.TextReading.{code_of}
use Rattle.cmap_text.specs.TokenParsers.{token_in}
use Rattle.cmap_text.proofs.TokensRead.{read_value, code_of-is}
use Rattle.cmap_text.proofs.tokens.TokenReader.short_code.Goals as goal

pub returns : goal.returns
returns c =
    let (piece, reads, (value, only, are, count, number), left) = c.in_ok-count.ensures.token in
    let read = read_value code_of (String piece) piece value refl only.holds in
    let ((least, most), len) = c.in_ok-len.ensures in
    (piece, ap token_in (sym c.self.view_is ∙ left), rw (read ∙ code_of-is value (omega (arith, count, least)) (omega (arith, count, most)), ← count, ← number, len) refl)
