use Rattle.std.proofs.Common.{sym, ap, ◌∙◌}
use Rattle.std.specs.Prelude.{encode_utf8_all}
use Rattle.std.specs.Char.{encode_utf8}
use Rattle.std.specs.String.{string_bytes}
use Rattle.std.proofs.lemmas.List.{append-nil}
use Rattle.std.proofs.lemmas.Str.{encodes-chars, IsUtf8-string_bytes}
use Rattle.cmap_tokens.specs.TextSeen.{text_seen}
use Rattle.cmap_unicode.specs.Characters.{characters_of}
use Rattle.cmap_unicode.proofs.OneText.{added}
use Rattle.cmap_unicode.proofs.extractor.push_characters.Goals as goal

pub returns-in-Char : goal.returns-in-Char
returns-in-Char c =
    let one = c.in-Char.only in
    added c.push.result (string_bytes c.args.text.now) _ (encode_utf8 one) _ c.push.ensures.bytes
    (sym (append-nil (encode_utf8 one)) ∙ ap (λ t. encode_utf8_all (characters_of (text_seen t))) (sym c.in-Char.is))

pub returns-in-String : goal.returns-in-String
returns-in-String c =
    let text = c.in-String.more in
    added c.push_str.result (string_bytes c.args.text.now) _ c.as_str.result.now _ c.push_str.ensures.bytes
    (c.as_str.ensures.value ∙ sym (encodes-chars (string_bytes text) (IsUtf8-string_bytes text)) ∙ ap (λ t. encode_utf8_all (characters_of (text_seen t))) (sym c.in-String.is))
