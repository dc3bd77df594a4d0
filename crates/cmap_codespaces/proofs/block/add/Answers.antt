use Rattle.std.proofs.Common.{◌≡◌, ℕ, suc, ◌+◌, ◌-◌, ◌<◌, ◌≤◌, ◌⊎◌, ap, sym, ◌∙◌, subst, arith}
use Rattle.std.specs.Prelude.{◌↔◌}
use Rattle.cmap_values.specs.DeclarationsSeen.{codespace_seen}
use Rattle.cmap_codespaces.specs.CodesWithin.{byte_at}
use Rattle.cmap_codespaces.specs.SpaceBits.{InRow}
use Rattle.cmap_codespaces.proofs.BytesWithin.{length_fits}
use Rattle.cmap_codespaces.proofs.RowBits.{all_touched, set_in_more, set_in_same, set_in_span, touched_first, touched_more, IsTouched}
use Rattle.cmap_codespaces.proofs.block.add.Goals as goal

pub loop-place-init : goal.loop-place-init
loop-place-init c =
    let space = codespace_seen c.args.space.now in let at = c.row_of_length-of_length.result in let old = c.args.rows.now in let new = c.set_rows.new.rows in
    let is = c.row_of_length-of_length.ensures ∙ ap (λ n. 1023 + n) c.count-len.ensures in
    record {
      size = c.set_rows.auto.rows ∙ c.requires.size;
      bits = set_in_same old new c.args.bit (λ row. (at ≤ row) × (row ≤ at)) (IsTouched space 0) (λ row. touched_first space at row is) (set_in_span old new c.args.bit at at c.requires.size c.set_rows.ensures);
    }

pub loop-place-preserved : goal.loop-place-preserved
loop-place-preserved c =
    let space = codespace_seen c.args.space.now in let place = c.loop-place.place in let bit = c.args.bit in
    let low = c.row_of_value-low.result in let high = c.row_of_value-high.result in
    let old = c.args.rows.now in let now = c.loop-place.rows in let new = c.set_rows-in-loop-place.new.rows in
    let span = λ (row : ℕ). (low ≤ row) × (row ≤ high) in
    let within : place < space.len = omega (arith, c.count-len.ensures) in
    let after : c.count-len.result - 1 - place ≡ space.len - suc place = omega (arith, c.count-len.ensures) in
    let same = λ (row : ℕ). touched_more space place c.byte_at.result c.byte_at-in-loop-place.result low high row within (c.byte_at.ensures ∙ ap (byte_at space.low) after) (c.byte_at-in-loop-place.ensures ∙ ap (byte_at space.high) after) c.row_of_value-low.ensures c.row_of_value-high.ensures in
    record {
      size = c.set_rows-in-loop-place.auto.rows ∙ c.loop-place.invariant.size;
      bits = set_in_same old new bit (λ row. IsTouched space place row ⊎ span row) (IsTouched space (place + 1)) same (set_in_more old now new bit (IsTouched space place) span c.loop-place.invariant.bits (set_in_span now new bit low high c.loop-place.invariant.size c.set_rows-in-loop-place.ensures));
    }

pub returns : goal.returns
returns c =
    let space = codespace_seen c.args.space.now in let place = c.loop-place.place in
    let fits = length_fits c.args.space.now.len in
    let all : place ≡ space.len = omega (arith, c.count-len.ensures) in
    let same = λ (row : ℕ). subst (λ n. IsTouched space n row ↔ InRow row space) (sym all) (all_touched space row fits.0 fits.1) in
    set_in_same c.args.rows.now c.loop-place.rows c.args.bit (IsTouched space place) (λ row. InRow row space) same c.loop-place.invariant.bits
