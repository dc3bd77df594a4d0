use Rattle.std.proofs.Common.{◌≡◌, length, get_or, sym, ap, arith, length-drop}
use Rattle.std.specs.List.{prefix_len}
use Rattle.std.proofs.lemmas.List.{get_or_past, take_rest}
use Rattle.cmap_tokens.specs.Tokens.{is_hex_body}
use Rattle.cmap_tokens.proofs.FirstBytes.{malformed_greater, malformed_less, malformed_none, malformed_open}
use Rattle.cmap_tokens.proofs.token.lengths.malformed_len.Goals as goal

pub returns-in-60 : goal.returns-in-60
returns-in-60 c =
    let text = c.args.text.now in record {
      exact = omega (arith, c.hex_body_len.ensures.exact, ap (prefix_len is_hex_body) (take_rest text 1), malformed_less text (omega arith));
      within = omega (arith, c.hex_body_len.ensures.within, ap length (take_rest text 1), length-drop 1 text, c.in-60.len_at_least);
    }

pub returns-in-62 : goal.returns-in-62
returns-in-62 c = record { exact = sym (malformed_greater c.args.text.now (omega arith)); within = c.in-62.len_at_least }

pub returns-in-40 : goal.returns-in-40
returns-in-40 c = record { exact = sym (malformed_open c.args.text.now (omega arith)); within = omega arith }

pub returns-in_default : goal.returns-in_default
returns-in_default c =
    let past : get_or c.args.text.now 0 0 ≡ 0 = get_or_past c.args.text.now 0 0 (omega arith) in record {
      exact = sym (malformed_none c.args.text.now (λ less. omega (arith, less, past)) (λ greater. omega (arith, greater, past)) (λ opens. omega (arith, opens, past)));
      within = omega arith;
    }

pub returns-in_default-2 : goal.returns-in_default-2
returns-in_default-2 c = record {
  exact = sym (malformed_none c.args.text.now (λ less. omega (arith, less)) (λ greater. omega (arith, greater)) (λ opens. omega (arith, opens)));
  within = omega arith;
}
