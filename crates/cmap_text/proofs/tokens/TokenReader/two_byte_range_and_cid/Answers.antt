use Rattle.std.proofs.Common.{refl, sym, ap, ◌∙◌, arith}
use Rattle.std.proofs.lemmas.Bool.{lt-ltb}
use Rattle.cmap_tokens.specs.TokensLeft.{tokens_of}
use Rattle.cmap_text.specs.TextReading.{next_cid}
use Rattle.cmap_text.specs.TokenParsers.{run, token_in}
use Rattle.cmap_text.proofs.TokensRead.{two_bytes_code}
use Rattle.cmap_text.proofs.tokens.TokenReader.two_byte_range_and_cid.Goals as goal

pub returns : goal.returns
returns c =
    let found = c.in_ok-low in
    let (first, second, low, high, read, low_writes, left, next, high_writes, after, last, end) = found.ensures.tokens in
    let small = lt-ltb found.cid 4294967296 (omega (arith, found.ensures.few)) in (
      low,
      high,
      tokens_of first,
      tokens_of second,
      ap token_in (sym c.self.view_is ∙ left),
      two_bytes_code low _ _ low_writes c.two_byte_code-start.ensures,
      ap token_in after,
      two_bytes_code high _ _ high_writes c.two_byte_code-end.ensures,
      ap (run next_cid) end ∙ rw small refl,
    )
