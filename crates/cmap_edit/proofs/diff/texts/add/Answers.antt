use Rattle.std.proofs.Common.{◌+◌, ◌∷◌, ◌++◌, [], sym, subst, ap, ◌∙◌, refl, true≢false}
use Rattle.cmap_edit.specs.Differences.{AreTextDifferencesBelow}
use Rattle.cmap_edit.proofs.TextsGrow.{added_as_one, added_behind}
use Rattle.cmap_edit.proofs.diff.texts.add.Goals as goal

pub returns-then-are_one : goal.returns-then-are_one
returns-then-are_one c = λ left right are is.
    let front = c.pop.new.self.items in let last = c.in-Some.last in let next = c.args.next in
    let was = subst (AreTextDifferencesBelow left right next.range.start) c.in-Some.ensures.items are in
    subst (AreTextDifferencesBelow left right (next.range.end + 1)) (sym c.in_ok-push-2.ensures.items)
    (added_as_one left right front last next _ was is c.requires (c.are_one.ensures.0 c.if-are_one.true) refl)

pub returns : goal.returns
returns c = λ left right are is.
    let front = c.pop.new.self.items in let last = c.in-Some.last in let next = c.args.next in
    let was = subst (AreTextDifferencesBelow left right next.range.start) c.in-Some.ensures.items are in
    let made = c.in_ok-push-4.ensures.items ∙ ap (λ items. items ++ next ∷ []) c.in_ok-push-3.ensures.items in
    subst (AreTextDifferencesBelow left right (next.range.end + 1)) (sym made)
    (added_behind left right front last next was is c.requires (λ could. true≢false (sym (c.are_one.ensures.1 could) ∙ c.if-are_one.false)))
