use Rattle.std.proofs.Common.{◌≡◌, ◌+◌, length, sym, subst, rules, refl, arith}
use Rattle.std.proofs.lemmas.Option.{slice_get_read}
use Rattle.cmap_codespaces.specs.CodesWithin.{IsLeast}
use Rattle.cmap_codespaces.specs.SpaceBits.{IsInside, IsInsideWithin}
use Rattle.cmap_codespaces.proofs.SpacesFound.{least_block}
use Rattle.cmap_codespaces.proofs.front.shortest_among_blocks.Goals as goal

pub loop-rows-preserved : goal.loop-rows-preserved
loop-rows-preserved c =
    let blocks = c.args.blocks.now in let text = c.args.text.now in let at = c.loop-rows.rows-index in let block = c.rows-item.result in
    let rows : c.deref.result.now ≡ block.items = search rules in
    let here = subst (λ list. IsLeast (IsInside text list) c.shortest_in_block.result) rows c.shortest_in_block.ensures in
    subst (IsLeast (IsInsideWithin text blocks 0 (at + 1))) (sym c.lesser-shortest.ensures)
    (least_block blocks text at block c.loop-rows.shortest c.shortest_in_block.result (slice_get_read blocks _ at _ refl (omega arith) c.rows-item.is) c.loop-rows.invariant here)

pub returns : goal.returns
returns c =
    let end : c.loop-rows.rows-index ≡ length c.args.blocks.now = omega arith in
    subst (λ n. IsLeast (IsInsideWithin c.args.text.now c.args.blocks.now 0 n) c.loop-rows.shortest) end c.loop-rows.invariant
