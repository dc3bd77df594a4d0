use Rattle.std.proofs.Common.{◌≡◌, None, Some, get_or, drop, refl, sym, ap, ◌∙◌, arith}
use Rattle.std.specs.Option.{option_or}
use Rattle.std.proofs.lemmas.List.{get_or_past, take_rest}
use Rattle.cmap_tokens.specs.Scanner.{closed_parts}
use Rattle.cmap_tokens.proofs.SpacedStrings.{not_blank, not_spaced, parts_within, spaced_parts_are}
use Rattle.cmap_tokens.proofs.token.pieces.spaced_parts.Goals as goal

pub returns-in-Some : goal.returns-in-Some
returns-in-Some c =
    let rest = drop 2 c.args.text.now in
    let found : Some c.in-Some.found ≡ closed_parts 2 rest = c.in-Some.ensures.exact ∙ ap (closed_parts 2) (take_rest c.args.text.now 2) in
    let within = parts_within (Some c.in-Some.found) c.args.text.now 2 c.in-60.len_at_least (omega arith) (omega arith) refl c.in-Some.ensures.within in record {
      front = sym (spaced_parts_are c.args.text.now (omega arith) (sym c.if-is_white.ensures) ∙ ap (λ first. option_or first (closed_parts 4 rest)) (sym found));
      few = within.0;
      within = within.1;
    }

pub returns-in_default-closed_parts : goal.returns-in_default-closed_parts
returns-in_default-closed_parts c =
    let rest = drop 2 c.args.text.now in
    let none : None ≡ closed_parts 2 rest = c.in_default-closed_parts.ensures.exact ∙ ap (closed_parts 2) (take_rest c.args.text.now 2) in
    let within = parts_within c.closed_parts-in_default-closed_parts.result c.args.text.now 4 c.in-60.len_at_least (omega arith) (omega arith) refl c.closed_parts-in_default-closed_parts.ensures.within in record {
      front =
          c.closed_parts-in_default-closed_parts.ensures.exact ∙ ap (closed_parts 4) (take_rest c.args.text.now 2)
          ∙ sym (spaced_parts_are c.args.text.now (omega arith) (sym c.if-is_white.ensures) ∙ ap (λ first. option_or first (closed_parts 4 rest)) (sym none));
      few = within.0;
      within = within.1;
    }

pub returns-in_default : goal.returns-in_default
returns-in_default c =
    let past : get_or c.args.text.now 1 0 ≡ 0 = get_or_past c.args.text.now 1 0 (omega arith) in
    record { front = not_spaced c.args.text.now _ (λ same. omega (arith, same, past)); few = tt; within = tt }

pub returns-in_default-2 : goal.returns-in_default-2
returns-in_default-2 c = record { front = not_blank c.args.text.now _ (sym c.if-is_white.ensures); few = tt; within = tt }

pub returns-in_default-3 : goal.returns-in_default-3
returns-in_default-3 c = record { front = not_spaced c.args.text.now _ (λ same. omega (arith, same)); few = tt; within = tt }
