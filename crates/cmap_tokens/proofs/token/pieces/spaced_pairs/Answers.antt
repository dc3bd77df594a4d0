use Rattle.std.proofs.Common.{◌≡◌, get_or, sym, ap, ◌∙◌, arith}
use Rattle.std.proofs.lemmas.List.{get_or_past, take_rest}
use Rattle.cmap_tokens.specs.Scanner.{short_pairs}
use Rattle.cmap_tokens.proofs.SpacedStrings.{not_blank, not_spaced, pairs_within, spaced_pairs_are}
use Rattle.cmap_tokens.proofs.token.pieces.spaced_pairs.Goals as goal

pub returns-in-60 : goal.returns-in-60
returns-in-60 c = record {
  front = c.short_pairs.ensures.exact ∙ ap short_pairs (take_rest c.args.text.now 2) ∙ sym (spaced_pairs_are c.args.text.now (omega arith) (sym c.if-is_white.ensures));
  few = c.short_pairs.ensures.few;
  within = pairs_within c.short_pairs.result c.args.text.now c.in-60.len_at_least c.short_pairs.ensures.within;
}

pub returns-in_default : goal.returns-in_default
returns-in_default c =
    let past : get_or c.args.text.now 1 0 ≡ 0 = get_or_past c.args.text.now 1 0 (omega arith) in
    record { front = not_spaced c.args.text.now _ (λ same. omega (arith, same, past)); few = tt; within = tt }

pub returns-in_default-2 : goal.returns-in_default-2
returns-in_default-2 c = record { front = not_blank c.args.text.now _ (sym c.if-is_white.ensures); few = tt; within = tt }

pub returns-in_default-3 : goal.returns-in_default-3
returns-in_default-3 c = record { front = not_spaced c.args.text.now _ (λ same. omega (arith, same)); few = tt; within = tt }
