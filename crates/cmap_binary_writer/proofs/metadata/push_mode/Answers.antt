use Rattle.std.proofs.Common.{◌≡◌, ◌++◌, ◌∷◌, [], ◌+◌, ◌≤◌, ◌^◌, ap, arith, length, subst, sym}
use Rattle.std.specs.Prelude.{option_map}
use Rattle.cmap_values.specs.MetadataSeen.{mode_seen}
use Rattle.cmap_binary_writer.specs.Fields.{mode_bytes, mode_number}
use Rattle.cmap_binary_writer.proofs.ObstaclesMet.{long_handed_on}
use Rattle.cmap_binary_writer.proofs.RowsAdded.{segment_added}
use Rattle.cmap_binary_writer.proofs.metadata.push_mode.Goals as goal

pub returns-in-Some : goal.returns-in-Some
returns-in-Some c =
    let old = c.args.out.now.items in
    let new = c.push_segment.new.out.items in
    let number = c.mode_number.result in
    let is = ap (option_map mode_seen) c.in-Some.is in
    let same = ap (λ n. n ∷ []) c.mode_number.ensures in
    long_handed_on (2 ^ 32 ≤ 5 + length (number ∷ [])) _ c.push_segment.result c.push_segment.ensures.framed c.push_segment.ensures.err
    (λ _ framed. subst (λ o. new ≡ old ++ mode_bytes o) (sym is) (segment_added old new 11 (number ∷ []) (mode_number (mode_seen c.in-Some.mode) ∷ []) same framed).1)
    (λ long. omega (arith, long))
