use Rattle.std.proofs.Common.{refl, sym, ap, ◌∙◌}
use Rattle.cmap_text.specs.TextReading.{next_cid}
use Rattle.cmap_text.specs.TokenParsers.{run, token_in}
use Rattle.cmap_text.proofs.Refusals.{given_so, handed_on}
use Rattle.cmap_tokens.specs.TokenSeen.{token_seen}
use Rattle.cmap_tokens.specs.TokensLeft.{tokens_of}
use Rattle.cmap_values.specs.declared.fault.Reason.TheVariants.{CidExpected}
use Rattle.cmap_text.proofs.tokens.TokenReader.next_cid.Goals as goal

pub returns-in-Some : goal.returns-in-Some
returns-in-Some c =
    let (reads, left) = c.in-Some.ensures.token in
    let found = ap (run next_cid) (sym c.self.view_is ∙ left) in
    rw found (c.cid_of_number.ensures _)

pub returns-in-Some-next_padded_decimal : goal.returns-in-Some-next_padded_decimal
returns-in-Some-next_padded_decimal c =
    let stays = ap tokens_of (sym (c.next_decimal.ensures.stays c.in_default.is)) in
    let (reads, left) = c.in-Some-next_padded_decimal.ensures.token in
    let found = ap (run next_cid) (sym c.self.view_is ∙ stays ∙ left) in
    rw found (c.cid_of_number-in-Some-next_padded_decimal.ensures _)

pub returns-in-Ok : goal.returns-in-Ok
returns-in-Ok c =
    let stays = ap tokens_of (sym (c.next_padded_decimal.ensures.stays c.in_default-next_padded_decimal.is ∙ c.next_decimal.ensures.stays c.in_default.is)) in
    let reads = ap token_in (sym c.self.view_is ∙ stays) ∙ c.in-Ok.ensures.0 in
    rw (reads, c.ok_or.ensures.value, c.wrong.ensures) (given_so c.cid_of.result _ c.required_token.new.self CidExpected (token_seen c.in-Ok.token) c.cid_of.ensures)

pub returns-in-Err : goal.returns-in-Err
returns-in-Err c =
    let stays = ap tokens_of (sym (c.next_padded_decimal.ensures.stays c.in_default-next_padded_decimal.is ∙ c.next_decimal.ensures.stays c.in_default.is)) in
    (tt, handed_on c.in-Err.fault c.required_token.new.self _ _ c.in-Err.ensures.1 (λ e is. rw (ap token_in (sym c.self.view_is ∙ stays) ∙ is) refl))
