use Rattle.std.proofs.Common.{◌≡◌, ◌+◌, ◌*◌, ℕ, List, length, ap, ◌∙◌, subst, arith}
use Rattle.std.specs.Global.{Vec}
use Rattle.std.proofs.lemmas.Result.{IfOk-from_err}
use Rattle.cmap_codespaces.specs.SpaceBits.{HaveBits}
use Rattle.cmap_codespaces.proofs.RowBits.{each_more, length_more}
use Rattle.cmap_codespaces.proofs.spaces.blocks_of.Goals as goal

pub loop-index-preserved : goal.loop-index-preserved
loop-index-preserved c =
    let spaces = c.args.spaces.now in let old = c.loop-index.blocks.items in let new = c.push.new.self.items in let rows = c.in_ok-rows_of.field-0 in
    let is = c.in_ok-push.ensures.items in
    let at : c.loop-index.index * 64 ≡ 64 * length old = omega (arith, c.loop-index.invariant.number) in
    record {
      number = length_more old new rows is ∙ ap (λ n. n + 1) c.loop-index.invariant.number;
      each = each_more (λ b block. HaveBits spaces (64 * b) 64 block.items) old new rows is c.loop-index.invariant.each (subst (λ first. HaveBits spaces first 64 rows.items) at c.in_ok-rows_of.ensures);
    }

pub returns : goal.returns
returns c = let e = c.div_ceil-count.ensures in record { each = c.loop-index.invariant.each; all = omega (arith, c.loop-index.invariant.number, e) }

pub returns-in_err-blocks : goal.returns-in_err-blocks
returns-in_err-blocks c = IfOk-from_err _ _ c.from_residual.ensures.0

pub returns-in_err-rows_of : goal.returns-in_err-rows_of
returns-in_err-rows_of c = IfOk-from_err _ _ c.from_residual-in_err-rows_of.ensures.0

pub returns-in_err-push : goal.returns-in_err-push
returns-in_err-push c = IfOk-from_err _ _ c.from_residual-in_err-push.ensures.0

pub loop-index-init : goal.loop-index-init
loop-index-init c = record { number = ap (λ (l : List (Vec ℕ)). length l) c.in_ok-blocks.ensures.items; each = λ b d within. absurd (omega (arith, ap (λ (l : List (Vec ℕ)). length l) c.in_ok-blocks.ensures.items)) }
