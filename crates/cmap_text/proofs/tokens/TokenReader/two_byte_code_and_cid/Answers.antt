use Rattle.std.proofs.Common.{refl, sym, ap, ◌∙◌, arith}
use Rattle.std.proofs.lemmas.Bool.{lt-ltb}
use Rattle.cmap_tokens.specs.TokensLeft.{tokens_of}
use Rattle.cmap_text.specs.TextReading.{next_cid}
use Rattle.cmap_text.specs.TokenParsers.{run, token_in}
use Rattle.cmap_text.proofs.TokensRead.{two_bytes_code}
use Rattle.cmap_text.proofs.tokens.TokenReader.two_byte_code_and_cid.Goals as goal

pub returns : goal.returns
returns c =
    let found = c.in_ok-number in
    let (between, piece, reads, writes, left, then, after) = found.ensures.tokens in
    let small = lt-ltb found.cid 4294967296 (omega (arith, found.ensures.few)) in (
      piece,
      tokens_of between,
      ap token_in (sym c.self.view_is ∙ left),
      two_bytes_code piece _ _ writes c.two_byte_code.ensures,
      ap (run next_cid) after ∙ rw small refl,
    )
