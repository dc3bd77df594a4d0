use Rattle.std.proofs.Common.{refl, string_bytes}
use Rattle.cmap_queries.proofs.OptionFronts.{begin}
use Rattle.cmap_queries.proofs.options.parse_option.Goals as goal

pub returns-in-Some : goal.returns-in-Some
returns-in-Some c =
    let begins = begin string_bytes _ _ _ _ _ c.as_str.ensures.value c.if-ne.ensures c.in-len2-up.len_at_least c.first-item.is c.digits-item.is in
    let right = rw (c.in-Some.is, c.as_str-2.ensures.value) at c.decimal.ensures in
    (_, begins, right.0, right.1)

pub returns-in-None : goal.returns-in-None
returns-in-None c =
    let begins = begin string_bytes _ _ _ _ _ c.as_str.ensures.value c.if-ne.ensures c.in-len2-up.len_at_least c.first-item.is c.digits-item.is in
    let wrong = rw (c.in-None.is, c.as_str-2.ensures.value) at c.decimal.ensures in
    (refl, (_, _, begins, wrong))
