use Rattle.std.proofs.Common.{◌≡◌, ◌≤◌, replicate, vec_len, ap, sym, ◌∙◌, arith}
use Rattle.std.proofs.lemmas.Result.{IfOk-from_err}
use Rattle.cmap_codespaces.specs.SpaceBits.{front_row_count}
use Rattle.cmap_codespaces.proofs.RowBits.{cleared_more}
use Rattle.cmap_codespaces.proofs.lengths.no_lengths.Goals as goal

pub returns : goal.returns
returns c =
    let all : vec_len c.loop-rows.rows ≡ front_row_count = omega arith in
    c.loop-rows.invariant.cleared ∙ ap (λ n. replicate n 0) all

pub returns-in_err-rows : goal.returns-in_err-rows
returns-in_err-rows c = IfOk-from_err _ _ c.from_residual.ensures.0

pub loop-rows-init : goal.loop-rows-init
loop-rows-init c = record { cleared = c.in_ok-rows.ensures.items ∙ ap (λ n. replicate n 0) (sym c.in_ok-rows.ensures.len); within = omega (arith, c.in_ok-rows.ensures.len) }

pub loop-rows-preserved : goal.loop-rows-preserved
loop-rows-preserved c =
    let len = vec_len c.loop-rows.rows in let next = c.min-len.result in let its = c.in_ok-resize.ensures in
    let more : len ≤ next = omega (arith, c.min-len.ensures, c.len-in-loop-rows.ensures) in
    record {
      cleared = cleared_more c.loop-rows.rows.items c.resize.new.self.items len next c.loop-rows.invariant.cleared more its.items ∙ ap (λ n. replicate n 0) (sym its.len);
      within = omega (arith, its.len, c.min-len.ensures);
    }

pub returns-in_err-resize : goal.returns-in_err-resize
returns-in_err-resize c = IfOk-from_err _ _ c.from_residual-in_err-resize.ensures.0
