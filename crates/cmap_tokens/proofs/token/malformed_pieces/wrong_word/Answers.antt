use Rattle.std.proofs.Common.{◌-◌, ap, sym, ◌∙◌}
use Rattle.std.proofs.lemmas.List.{take_rest}
use Rattle.cmap_tokens.specs.Bytes.{begins, is_regular}
use Rattle.cmap_tokens.proofs.MalformedRead.{begins_first, begins_none}
use Rattle.cmap_tokens.proofs.token.malformed_pieces.wrong_word.Goals as goal

pub returns-in-len1-up-clause-exact : goal.returns-in-len1-up-clause-exact
returns-in-len1-up-clause-exact c =
    let rest = ap (begins is_regular) (sym (take_rest c.args.text.now c.args.wrong)) in
    let regular = rest ∙ begins_first is_regular _ c.in-len1-up.len_at_least ∙ sym c.if-is_regular.ensures in
    rw regular (ap (λ digits. c.args.wrong - digits) c.last_digits.ensures.exact)

pub returns-in_default-clause-exact : goal.returns-in_default-clause-exact
returns-in_default-clause-exact c =
    let rest = ap (begins is_regular) (sym (take_rest c.args.text.now c.args.wrong)) in
    rw (rest ∙ begins_none is_regular _ c.in_default.len_below)

pub returns-in_default-2-clause-exact : goal.returns-in_default-2-clause-exact
returns-in_default-2-clause-exact c =
    let rest = ap (begins is_regular) (sym (take_rest c.args.text.now c.args.wrong)) in
    rw (rest ∙ begins_first is_regular _ c.in-len1-up.len_at_least ∙ sym c.if-is_regular.ensures)
