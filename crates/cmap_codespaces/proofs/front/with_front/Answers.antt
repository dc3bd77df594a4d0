use Rattle.std.proofs.Common.{◌≡◌, ap, arith}
use Rattle.std.specs.Prelude.{slice_index}
use Rattle.std.proofs.lemmas.Nat.Bits.{bit_at_ones}
use Rattle.cmap_codespaces.specs.SpaceBits.{row_of_value}
use Rattle.cmap_codespaces.proofs.SpacesFound.{all_more, set_more}
use Rattle.cmap_codespaces.proofs.front.with_front.Goals as goal

pub loop-place-init : goal.loop-place-init
loop-place-init c = record { set = λ i is k below. absurd (omega arith); all = λ i small each. bit_at_ones 64 i small }

pub loop-place-preserved : goal.loop-place-preserved
loop-place-preserved c =
    let rows = c.args.rows.now in let front = c.args.front.now in let p = c.loop-place.place in
    let row : c.row_of_value.result ≡ row_of_value p (slice_index front p) = omega (arith, c.row_of_value.ensures, c.from-in-loop-place.ensures, ap (slice_index front) c.from.ensures) in
    record { set = set_more rows front c.loop-place.found c.row_of_value.result p row c.loop-place.invariant.set; all = all_more rows front c.loop-place.found c.row_of_value.result p row c.loop-place.invariant.all }
