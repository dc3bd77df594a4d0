use Rattle.std.proofs.Common.{ℕ, Global, Vec, ◌≡◌, ◌++◌, ◌+◌, ◌≤◌, ◌^◌, ap, arith, length, refl, subst, sym}
use Rattle.std.specs.Prelude.{IfSome, IsSomeAnd, option_map}
use Rattle.cmap_binary_writer.specs.Fields.{NameFits, name_bytes}
use Rattle.cmap_binary_writer.specs.Obstacles.{IsLongName}
use Rattle.cmap_binary_writer.proofs.ObstaclesMet.{long_handed_on}
use Rattle.cmap_binary_writer.proofs.RowsAdded.{segment_added}
use Rattle.cmap_binary_writer.proofs.metadata.push_name.Goals as goal

pub returns-in-Some : goal.returns-in-Some
returns-in-Some c =
    let old = c.args.out.now.items in
    let new = c.push_segment.new.out.items in
    let is = ap (option_map (λ (name : Vec ℕ Global). name.items)) c.in-Some.is in
    let name = c.in-Some.name.items in
    long_handed_on (2 ^ 32 ≤ 5 + length c.deref.result.now) _ c.push_segment.result c.push_segment.ensures.framed c.push_segment.ensures.err
    (λ _ framed. subst (λ o. IfSome o NameFits × (new ≡ old ++ name_bytes o)) (sym is) (segment_added old new 13 c.deref.result.now name c.deref.ensures.value framed))
    (λ long. (refl, subst (λ o. IsSomeAnd o IsLongName) (sym is) (omega (arith, long, ap length c.deref.ensures.value))))
