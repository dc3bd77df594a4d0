use Rattle.std.proofs.Common.{◌<◌, sym, subst, true≢false}
use Rattle.cmap_tokens.specs.Ascii.{byte}
use Rattle.cmap_lint.specs.PartsRead.{EndWith, bytes_of}
use Rattle.cmap_lint.proofs.PartsFound.{high_of, longer_from, longer_of, one_digits}
use Rattle.cmap_lint.proofs.read_as.ends_in_longer_code.Goals as goal

pub returns-in_default : goal.returns-in_default
returns-in_default c = (λ yes. absurd (true≢false (sym yes)), λ end. let high = high_of _ end in absurd (c.in_default.ensures high.0 high.1 high.2))

pub returns-in_default-last_of : goal.returns-in_default-last_of
returns-in_default-last_of c = (
  λ yes. absurd (true≢false (sym yes)),
  λ end. let low = longer_of _ _ _ _ c.in-Some.ensures c.without_blanks.ensures end in absurd (c.in_default-last_of.ensures low.before low.digits low.low),
)

pub returns : goal.returns
returns c = (
  λ yes. let shorter = c.is_shorter_code.ensures.0 yes in longer_from _ _ _ _ _ _ c.in-Some.ensures c.without_blanks.ensures c.in-Some-last_of.ensures shorter.0 shorter.1 shorter.2,
  λ end.
      let low = longer_of _ _ _ _ c.in-Some.ensures c.without_blanks.ensures end in
      let same = one_digits _ _ _ _ _ low.low c.in-Some-last_of.ensures in
      c.is_shorter_code.ensures.1 (subst (λ k. 0 < bytes_of k) same.1 low.some, subst (λ k. bytes_of k < bytes_of c.in-Some.high.digits) same.1 low.less, subst (λ before. EndWith before (byte "<") → ⊥) same.0 low.alone),
)
