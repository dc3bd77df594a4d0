use Rattle.std.proofs.Common.{◌||◌, sym, ◌∙◌}
use Rattle.cmap_lint.proofs.PartsFound.{other_end}
use Rattle.cmap_lint.proofs.read_as.HexString.last_of.Goals as goal

pub returns-then-not-is_blank : goal.returns-then-not-is_blank
returns-then-not-is_blank c = λ before digits found.
    let digit = sym c.is_ascii_hexdigit.ensures.value ∙ c.if-is_ascii_hexdigit.false in
    let blank = sym c.is_blank.ensures ∙ c.if-not-is_blank.true in
    other_end c.args.bytes.now c.loop-rest.rest.now c.loop-rest.invariant.0 before digits c.loop-rest.invariant.1 c.in-len1-up.len_at_least c.loop-rest.invariant.2 (λ i. digit i || blank i) c.if-last-eq60.false found
