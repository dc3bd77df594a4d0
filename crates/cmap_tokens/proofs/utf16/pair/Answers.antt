use Rattle.std.proofs.Common.{sym}
use Rattle.std.proofs.lemmas.Bool.{and_left, and_right, cond-false}
use Rattle.cmap_tokens.proofs.TextsOfUnits.{contained, pair_made}
use Rattle.cmap_tokens.proofs.utf16.pair.Goals as goal
use Rattle.cmap_tokens.proofs.utf16.pair.Goals.{else-contains-via-then-contains+else-contains-2, else-contains-via-else-contains}

pub returns-then-contains-2 : goal.returns-then-contains-2
returns-then-contains-2 c =
    let high = contained 0xD800 0xDC00 c.args.high c.contains.result _ c.contains.ensures.value c.if-contains.true in
    let low = contained 0xDC00 0xE000 c.args.low c.contains-then-contains.result _ c.contains-then-contains.ensures.value c.if-contains-2.true in
    let (value, scalar) = pair_made c.args.high c.args.low c.from.result c.from-then-contains-2.result c.from_u32.result high low c.from.ensures c.from-then-contains-2.ensures c.from_u32.ensures.value c.from_u32.ensures.succeeds in
    record { value = value; scalar = scalar }

pub returns-else-contains : goal.returns-else-contains
returns-else-contains c =
    elim c.else-contains.branch [
      | else-contains-via-then-contains+else-contains-2 w ↦ record {
        value = sym (cond-false _ _ _ (and_right _ _ (contained 0xDC00 0xE000 c.args.low w.contains-then-contains.result _ w.contains-then-contains.ensures.value w.if-contains-2.false)));
        scalar = tt;
      }
      | else-contains-via-else-contains w ↦ record { value = sym (cond-false _ _ _ (and_left _ _ (contained 0xD800 0xDC00 c.args.high c.contains.result _ c.contains.ensures.value w.if-contains.false))); scalar = tt }
    ]
