use Rattle.std.proofs.Common.{◌∙◌, refl, sym, ap, arith}
use Rattle.cmap_tokens.specs.Tokens.{String}
use Rattle.cmap_tokens.specs.TokenSeen.{string_raw}
use Rattle.cmap_text.specs.TextReading.{code_of}
use Rattle.cmap_text.proofs.TokensRead.{read_value, code_of-is}
use Rattle.cmap_text.proofs.tokens.Decoder.string_code.Goals as goal

pub returns-in-Some : goal.returns-in-Some
returns-in-Some c =
    let (bytes, only, are, count, number) = c.in-Some.ensures.value in
    let read = read_value code_of (String (string_raw c.args.string.now)) (string_raw c.args.string.now) bytes refl only.holds in
    let ((least, most), len) = c.in-Some-of.ensures in
    rw (read ∙ code_of-is bytes (omega (arith, count, least)) (omega (arith, count, most)), ← count, ← number, len) refl

pub returns : goal.returns
returns c =
    let read = read_value code_of (String (string_raw c.args.string.now)) (string_raw c.args.string.now) _ refl c.in_ok-decode_into.ensures.value in
    c.code_of.ensures ∙ ap code_of c.deref.ensures.value ∙ sym read
