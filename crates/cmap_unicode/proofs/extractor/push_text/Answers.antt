use Rattle.std.proofs.Common.{sym, ap}
use Rattle.std.specs.Prelude.{encode_utf8_all, option_map, unwrap_or}
use Rattle.std.specs.String.{string_bytes}
use Rattle.cmap_tokens.specs.TextSeen.{text_seen}
use Rattle.cmap_unicode.specs.Characters.{characters_of, shown}
use Rattle.cmap_unicode.proofs.OneText.{added}
use Rattle.cmap_unicode.proofs.extractor.push_text.Goals as goal

pub returns-in-None : goal.returns-in-None
returns-in-None c =
    let missing = c.args.missing.now in
    added c.push_str.result (string_bytes c.args.text.now) _ missing (shown missing c.args.character.now) c.push_str.ensures.bytes
    (ap (λ o. unwrap_or (option_map (λ text. encode_utf8_all (characters_of (text_seen text))) o) missing) (sym c.in-None.is))
