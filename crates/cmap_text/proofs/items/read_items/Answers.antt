use Rattle.std.proofs.Common.{refl, arith}
use Rattle.cmap_text.specs.TextReading.{item_after}
use Rattle.cmap_text.specs.TextSeen.{said_seen}
use Rattle.cmap_tokens.specs.TokenSeen.{token_seen}
use Rattle.cmap_text.proofs.ItemsRead.{item-shorter, next-shorter, said_next}
use Rattle.cmap_text.proofs.Refusals.{handed_on, passed_on}
use Rattle.cmap_text.proofs.items.read_items.Goals as goal

pub returns-in-Err : goal.returns-in-Err
returns-in-Err c = (tt, handed_on c.in-Err.fault c.next_token.new.self _ _ c.in-Err.ensures.1 (λ e is. rw (c.loop-token.invariant, said_next, is) refl))

pub loop-token-smaller : goal.loop-token-smaller
loop-token-smaller c =
    let token = rw c.in-Ok-Some.field-0-is at c.in-Ok-Some.ensures.0 in
    omega (arith, next-shorter c.loop-token.reader _ _ token, item-shorter (token_seen c.in-Ok-Some.token) (item_after (said_seen c.loop-token.said) (token_seen c.in-Ok-Some.token)) c.next_token.new.self _ c.in_ok-read_item-in-Ok-Some.ensures.reads.0)

pub loop-token-preserved : goal.loop-token-preserved
loop-token-preserved c =
    let token = rw c.in-Ok-Some.field-0-is at c.in-Ok-Some.ensures.0 in
    rw (c.loop-token.invariant, said_next, token, c.in_ok-read_item-in-Ok-Some.ensures.reads.0) refl

pub returns-in_err-read_item-in-Ok-Some : goal.returns-in_err-read_item-in-Ok-Some
returns-in_err-read_item-in-Ok-Some c =
    let token = rw c.in-Ok-Some.field-0-is at c.in-Ok-Some.ensures.0 in
    passed_on c.from_residual.result _ _ c.read_item.new.reader _ _ c.from_residual.ensures.1 c.in_err-read_item-in-Ok-Some.ensures.reads.1 (λ e is. rw (c.loop-token.invariant, said_next, token, is) refl)

pub returns-in-Ok-None : goal.returns-in-Ok-None
returns-in-Ok-None c =
    let end = rw c.in-Ok-None.field-0-is at c.in-Ok-None.ensures.0 in
    (rw (c.loop-token.invariant, said_next, end) refl, tt)
