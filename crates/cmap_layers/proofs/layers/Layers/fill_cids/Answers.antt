use Rattle.std.proofs.Common.{◌≡◌, ℕ, ◌+◌, ◌-◌, ◌<◌, ◌∷◌, drop, length, sym, ap, ◌∙◌, subst, arith}
use Rattle.std.specs.Prelude.{slice_index}
use Rattle.std.proofs.lemmas.Grind.{common_steps}
use Rattle.cmap_values.specs.CodeLengths.{length_of}
use Rattle.cmap_layers.specs.LayersSeen.{layer_seen, layers_seen}
use Rattle.cmap_layers.specs.RowsWritten.{IsWritten, cid_said}
use Rattle.cmap_layers.specs.declared.row.Kind.TheVariants.{Cids, Notdefs}
use Rattle.cmap_layers.proofs.LayersSearched.{drop_next}
use Rattle.cmap_layers.proofs.RowWritten.{AreCidsIn, all_layers_written, layer_written, no_length_written}
use Rattle.cmap_layers.proofs.layers.Layers.fill_cids.Goals as goal

pub returns-in_default : goal.returns-in_default
returns-in_default c =
    let same : (k : ℕ) → k < length c.fill.new.self → slice_index c.fill.new.self k ≡ c.args.absent = λ k lt. grind (arith, common_steps) in
    no_length_written c.args.self.now c.args.byte_len c.args.absent c.args.first c.fill.new.self c.in_default.ensures same

pub loop-index-preserved : goal.loop-index-preserved
loop-index-preserved c =
    let layers = c.as_slice-layers.result.now in let index = c.loop-index.index in let layer = c.index-layers-index.result in let len = c.in-Some.len in let first = c.args.first in let absent = c.args.absent in
    let texts = c.write_characters.new.cids in let notdefs = c.write_cids.new.cids in let new = c.write_cids-in-loop-index.new.cids in
    let at : index - 1 + 1 ≡ index = omega arith in
    let next = drop_next layers (index - 1) layer (omega arith) c.index-layers-index.is ∙ ap (λ i. layer ∷ drop i layers) at in
    subst (λ left. AreCidsIn (layers_seen left) (length_of len) absent first new) (sym next)
    (layer_written (layer_seen layer) (layers_seen (drop index layers)) (length_of len) absent first c.loop-index.cids texts notdefs new c.loop-index.invariant (omega arith) (omega arith) (omega arith)
    (rw c.bfs.ensures at c.write_characters.ensures)
    (subst (λ entries. IsWritten (cid_said Notdefs entries) first texts notdefs) c.notdefs-notdefs.ensures c.write_cids.ensures)
    (subst (λ entries. IsWritten (cid_said (Cids absent) entries) first notdefs new) c.cids-declared.ensures c.write_cids-in-loop-index.ensures))

pub returns : goal.returns
returns c =
    let layers = c.as_slice-layers.result.now in let (few, same) = c.in-Some.ensures in
    let none : c.loop-index.index ≡ 0 = omega arith in
    let written = all_layers_written (layers_seen layers) c.args.byte_len c.args.absent c.args.first c.loop-index.cids few
    (subst (λ left. AreCidsIn (layers_seen (drop left layers)) c.args.byte_len c.args.absent c.args.first c.loop-index.cids) none
    (subst (λ n. AreCidsIn (layers_seen (drop c.loop-index.index layers)) n c.args.absent c.args.first c.loop-index.cids) same c.loop-index.invariant)) in
    rw c.as_slice-layers.ensures.layers at written
