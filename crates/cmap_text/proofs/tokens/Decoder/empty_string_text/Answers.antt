use Rattle.std.proofs.Common.{◌≡◌, ◌∙◌, Bool, true, false, [], List, ℕ, ap, refl, sym}
use Rattle.std.specs.Prelude.{◌==◌, Option, Some, None, option_map, if◌then◌else◌}
use Rattle.std.specs.Bool.{then_some}
use Rattle.cmap_tokens.specs.Tokens.{String}
use Rattle.cmap_tokens.specs.TokenSeen.{string_raw}
use Rattle.cmap_values.specs.UnitsSeen.{units_seen}
use Rattle.cmap_values.specs.declared.units.Units.TheVariants.{Empty}
use Rattle.cmap_text.specs.Salvage.{empty_text_of}
use Rattle.cmap_text.proofs.TokensRead.{read_value}
use Rattle.cmap_text.proofs.tokens.Decoder.empty_string_text.Goals as goal

seen_if : (b : Bool) → option_map units_seen (then_some b Empty) ≡ (if b then Some [] else None)
seen_if true = refl
seen_if false = refl

pub returns : goal.returns
returns c =
    let read = read_value empty_text_of (String (string_raw c.args.string.now)) (string_raw c.args.string.now) _ refl c.in_ok-decode_into.ensures.value in
    let IfEmpty : Bool → Option (List ℕ) = λ b. if b then Some [] else None in
    ap (option_map units_seen) c.then_some.ensures ∙ seen_if c.is_empty.result ∙ ap IfEmpty (c.is_empty.ensures ∙ ap (λ n. n == 0) c.decode_into.new.out.ok.0) ∙ sym read
