use Rattle.std.proofs.Common.{ap, refl, sym, ◌∙◌}
use Rattle.cmap_text.specs.TokenParsers.{token_in}
use Rattle.cmap_text.proofs.Refusals.{handed_on}
use Rattle.cmap_text.proofs.tokens.TokenReader.next_code.Goals as goal

pub returns-in-Ok : goal.returns-in-Ok
returns-in-Ok c =
    let reads = ap token_in (sym c.in_default.ensures) ∙ c.in-Ok.ensures.0 in
    rw reads c.code.ensures

pub returns-in-Err : goal.returns-in-Err
returns-in-Err c = (tt, handed_on c.in-Err.fault c.required_token.new.self _ _ c.in-Err.ensures.1 (λ e is. rw (ap token_in (sym c.in_default.ensures) ∙ is) refl))
