use Rattle.std.proofs.Common.{◌≡◌, get_or, sym, ap, ◌∙◌, arith}
use Rattle.std.proofs.lemmas.List.{get_or_past, take_rest}
use Rattle.cmap_tokens.specs.TokenReading.{one_more, hex_len, text_len, opened}
use Rattle.cmap_tokens.proofs.FirstBytes.{hex_string_len, no_string_len, rest_within, text_string_len}
use Rattle.cmap_tokens.proofs.token.lengths.string_len.Goals as goal

pub returns-in-60 : goal.returns-in-60
returns-in-60 c =
    let text = c.args.text.now in record {
      exact = c.hex_len.ensures.exact ∙ ap (λ t. one_more (hex_len t)) (take_rest text 1) ∙ sym (hex_string_len text (omega arith));
      within = rest_within c.hex_len.result text 1 c.in-60.len_at_least c.hex_len.ensures.within;
    }

pub returns-in-40 : goal.returns-in-40
returns-in-40 c =
    let text = c.args.text.now in record {
      exact = c.text_len.ensures.exact ∙ ap (λ t. one_more (text_len opened t)) (take_rest text 1) ∙ sym (text_string_len text (omega arith));
      within = rest_within c.text_len.result text 1 c.in-40.len_at_least c.text_len.ensures.within;
    }

pub returns-in_default : goal.returns-in_default
returns-in_default c =
    let past : get_or c.args.text.now 0 0 ≡ 0 = get_or_past c.args.text.now 0 0 (omega arith) in
    record { exact = sym (no_string_len c.args.text.now (λ less. omega (arith, less, past)) (λ opens. omega (arith, opens, past))); within = tt }

pub returns-in_default-2 : goal.returns-in_default-2
returns-in_default-2 c = record { exact = sym (no_string_len c.args.text.now (λ less. omega (arith, less)) (λ opens. omega (arith, opens))); within = tt }
