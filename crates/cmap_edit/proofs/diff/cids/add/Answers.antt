use Rattle.std.proofs.Common.{◌+◌, ◌∷◌, ◌++◌, [], sym, subst, ap, ◌∙◌}
use Rattle.cmap_edit.specs.Differences.{AreCidDifferencesBelow}
use Rattle.cmap_edit.proofs.CidsGrow.{added_as_one, added_behind, is_last}
use Rattle.cmap_edit.proofs.diff.cids.add.Goals as goal

pub returns : goal.returns
returns c = λ left right are is.
    let front = c.pop.new.self.items in let last = c.in-Some.last in let next = c.args.next in
    let was = subst (AreCidDifferencesBelow left right next.range.start) c.in-Some.ensures.items are in
    let made = c.in_ok-push-4.ensures.items ∙ ap (λ items. items ++ next ∷ []) c.in_ok-push-3.ensures.items in
    subst (AreCidDifferencesBelow left right (next.range.end + 1)) (sym made)
    (added_behind left right front last next was is c.requires.filled_too (rw c.in_default-as_one.is at (c.as_one.ensures left right (is_last left right next.range.start front last was) is)))

pub returns-in-Some-as_one : goal.returns-in-Some-as_one
returns-in-Some-as_one c = λ left right are is.
    let front = c.pop.new.self.items in let last = c.in-Some.last in let next = c.args.next in let both = c.in-Some-as_one.both in
    let was = subst (AreCidDifferencesBelow left right next.range.start) c.in-Some.ensures.items are in
    subst (AreCidDifferencesBelow left right (next.range.end + 1)) (sym c.in_ok-push-2.ensures.items)
    (added_as_one left right front last next both was c.requires.filled_too (c.in-Some-as_one.ensures left right (is_last left right next.range.start front last was) is))
