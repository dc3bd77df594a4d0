use Rattle.std.proofs.Common.{◌<◌, length, ap, ◌∙◌, refl, sym, arith}
use Rattle.std.specs.Prelude.{Some}
use Rattle.std.proofs.lemmas.Bool.{eqb-true, eqb-false}
use Rattle.cmap_tokens.specs.Tokens.{String}
use Rattle.cmap_tokens.specs.Texts.{units_of}
use Rattle.cmap_tokens.specs.TokenSeen.{string_raw}
use Rattle.cmap_text.specs.TextReading.{destination_of}
use Rattle.cmap_text.proofs.TokensRead.{read_value, destination_of-is, destination_of-none}
use Rattle.cmap_text.proofs.tokens.Decoder.string_units.Goals as goal

pub returns-in-Some : goal.returns-in-Some
returns-in-Some c =
    let (bytes, only, are, count, number) = c.in-Some.ensures.value in
    let read = read_value destination_of (String (string_raw c.args.string.now)) (string_raw c.args.string.now) bytes refl only.holds in
    let units = c.units_of_number.ensures bytes are c.in-Some.ensures.some c.in-Some.ensures.few count number in
    rw (read ∙ destination_of-is bytes (omega (arith, count, c.in-Some.ensures.some)), ← units) refl

pub returns-then-is_empty : goal.returns-then-is_empty
returns-then-is_empty c =
    sym (read_value destination_of (String (string_raw c.args.string.now)) (string_raw c.args.string.now) _ refl c.in_ok-decode_into.ensures.value ∙ destination_of-none _ (omega (arith, eqb-true _ 0 (sym c.if-is_empty.ensures))))

pub returns : goal.returns
returns c =
    let read = read_value destination_of (String (string_raw c.args.string.now)) (string_raw c.args.string.now) _ refl c.in_ok-decode_into.ensures.value in
    let filled : 0 < length c.decode_into.new.out.items = omega (arith, eqb-false _ 0 (sym c.if-is_empty.ensures)) in
    ap Some (c.in_ok-units_of_bytes.ensures ∙ ap units_of c.deref.ensures.value) ∙ sym (read ∙ destination_of-is c.decode_into.new.out.items filled)
