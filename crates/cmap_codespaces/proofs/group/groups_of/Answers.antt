use Rattle.std.proofs.Common.{◌≡◌, ◌+◌, ◌*◌, length, ap, ◌∙◌, subst, arith}
use Rattle.std.proofs.lemmas.Result.{IfOk-from_err}
use Rattle.cmap_codespaces.specs.SpaceBits.{HasGroup}
use Rattle.cmap_codespaces.proofs.RowBits.{each_more, length_more}
use Rattle.cmap_codespaces.proofs.group.groups_of.Goals as goal

pub loop-index-preserved : goal.loop-index-preserved
loop-index-preserved c =
    let blocks = c.args.blocks.now in let old = c.loop-index.groups.items in let new = c.push.new.self.items in let rows = c.in_ok-group_of.field-0 in
    let is = c.in_ok-push.ensures.items in
    let at : c.loop-index.index * 64 ≡ 64 * length old = omega (arith, c.loop-index.invariant.number) in
    record {
      number = length_more old new rows is ∙ ap (λ n. n + 1) c.loop-index.invariant.number;
      each = each_more (λ g group. HasGroup blocks (64 * g) 64 group.items) old new rows is c.loop-index.invariant.each (subst (λ first. HasGroup blocks first 64 rows.items) at c.in_ok-group_of.ensures);
    }

pub returns-in_err-groups : goal.returns-in_err-groups
returns-in_err-groups c = IfOk-from_err _ _ c.from_residual.ensures.0

pub returns-in_err-group_of : goal.returns-in_err-group_of
returns-in_err-group_of c = IfOk-from_err _ _ c.from_residual-in_err-group_of.ensures.0

pub returns-in_err-push : goal.returns-in_err-push
returns-in_err-push c = IfOk-from_err _ _ c.from_residual-in_err-push.ensures.0
