use Rattle.std.proofs.Common.{◌≡◌, ◌∙◌, ℕ, List, ap, arith, refl, subst, sym, take, true≢false}
use Rattle.std.specs.List.{slice_range}
use Rattle.cmap_values.specs.declared.fault.Reason.TheVariants.{TextExpected, UnequalLengths}
use Rattle.cmap_values.specs.declared.fault.Stop.{Stop}
use Rattle.cmap_lint.specs.PartsRead.{EndInLongerCode, IsReadAs}
use Rattle.cmap_lint.specs.declared.read_as.ReadAs.{ReadAs}
use Rattle.cmap_lint.specs.declared.read_as.ReadAs.TheVariants.{EmptyText, ExtendedCode}
use Rattle.cmap_lint.proofs.read_as.ReadAs.of.Goals as goal
use Rattle.cmap_lint.proofs.read_as.ReadAs.of.Goals.{After-ends_in_longer_code}

taken : (text : List ℕ) (offset : ℕ) → slice_range text 0 offset ≡ take offset text
taken text offset = ap (λ n. take n text) (omega arith)

clash : (fault : Stop) → fault.reason ≡ UnequalLengths → fault.reason ≡ TextExpected → ⊥
clash fault is other = let same : TextExpected ≡ UnequalLengths = sym other ∙ is in cc

-- lengths that are unequal are those of codes
only_longer : (text : List ℕ) (fault : Stop) (found : ReadAs) → fault.reason ≡ UnequalLengths → IsReadAs text fault found → found ≡ ExtendedCode
only_longer text fault EmptyText is read = absurd (clash fault is read.0)
only_longer text fault ExtendedCode is read = refl

none_shorter : (text : List ℕ) (fault : Stop) (found : ReadAs) → fault.reason ≡ UnequalLengths → (EndInLongerCode (take fault.offset text) → ⊥) → IsReadAs text fault found → ⊥
none_shorter text fault EmptyText is not read = clash fault is read.0
none_shorter text fault ExtendedCode is not read = not read.2

before : (c : After-ends_in_longer_code) → c.in_ok-before.before.now ≡ take c.args.fault.offset c.args.text.now
before c = c.in_ok-before.ensures.lookup.0.2 ∙ taken c.args.text.now c.args.fault.offset

pub returns-in-UnequalLengths : goal.returns-in-UnequalLengths
returns-in-UnequalLengths c = record {
  holds = (c.in-UnequalLengths.is, c.in_ok-before.ensures.lookup.0.1, subst EndInLongerCode (before (goal.at.returns-in-UnequalLengths c).After-ends_in_longer_code) (c.ends_in_longer_code.ensures.0 c.if-ends_in_longer_code.true));
  alone = λ found read. only_longer c.args.text.now c.args.fault found c.in-UnequalLengths.is read;
}

pub returns-in_default-2 : goal.returns-in_default-2
returns-in_default-2 c = λ found read. none_shorter c.args.text.now c.args.fault found c.in-UnequalLengths.is
    (λ end. true≢false (sym (c.ends_in_longer_code.ensures.1 (subst EndInLongerCode (sym (before (goal.at.returns-in_default-2 c).After-ends_in_longer_code)) end)) ∙ c.if-ends_in_longer_code.false)) read
