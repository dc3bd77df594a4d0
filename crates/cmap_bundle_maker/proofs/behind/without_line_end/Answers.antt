use Rattle.std.proofs.Common.{◌≡◌, ◌∙◌, false, All, sym, subst, arith}
use Rattle.std.proofs.lemmas.Nat.{be_bytes_4}
use Rattle.cmap_tokens.specs.Gaps.{ends_comment}
use Rattle.cmap_bundle_maker.proofs.TextsBehind.{bytes_of_four, small_at}
use Rattle.cmap_bundle_maker.proofs.behind.without_line_end.Goals as goal

pub returns-clause-ends : goal.returns-clause-ends
returns-clause-ends c =
    let bytes = be_bytes_4 c.raised.result c.from_be_bytes.result (omega arith) (small_at c.raised.result c.raised.ensures.small) c.from_be_bytes.ensures in
    subst (λ bs. All (λ b. ends_comment b ≡ false) bs) (sym (bytes_of_four c.from_be_bytes.result ∙ bytes)) c.raised.ensures.ends
