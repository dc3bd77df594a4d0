use Rattle.std.proofs.Common.{◌+◌, ◌++◌, append-nil, append_assoc, drop, map, refl, sym, ap, ◌∙◌}
use Rattle.std.proofs.lemmas.List.{drop_all, map-append}
use Rattle.cmap_values.specs.DeclarationsSeen.{codespace_seen}
use Rattle.cmap_layers.specs.LayersSeen.{layers_seen}
use Rattle.cmap_layers.specs.StringCodes.{ranges_of}
use Rattle.cmap_layers.proofs.LayersSearched.{drop_next}
use Rattle.cmap_edit.proofs.flatten.lists.all_spaces.Goals as goal

pub loop-layer-init : goal.loop-layer-init
loop-layer-init c = rw c.new-spaces.ensures.items refl

pub loop-layer-preserved : goal.loop-layer-preserved
loop-layer-preserved c =
    let layers = c.as_slice-layers.result.now in let old = c.loop-layer.spaces.items in
    let rest = ranges_of (layers_seen (drop (c.loop-layer.layer-index + 1) layers)) in
    let next = ap (λ left. ranges_of (layers_seen left)) (drop_next layers c.loop-layer.layer-index c.layer-item.result c.loop-layer-test.true c.layer-item.is) in
    let own = c.codespaces.result.now in
    ap (λ spaces. map codespace_seen spaces ++ rest) c.in_ok-extend_from_slice.ensures.items ∙ ap (λ spaces. spaces ++ rest) (map-append codespace_seen old own)
    ∙ append_assoc (map codespace_seen old) (map codespace_seen own) rest ∙ ap (λ own. map codespace_seen old ++ (own ++ rest)) c.codespaces.ensures
    ∙ sym (ap (λ left. map codespace_seen old ++ left) next) ∙ c.loop-layer.invariant

pub returns : goal.returns
returns c =
    let layers = c.as_slice-layers.result.now in let spaces = map codespace_seen c.loop-layer.spaces.items in
    sym (append-nil spaces) ∙ ap (λ left. spaces ++ ranges_of (layers_seen left)) (sym (drop_all c.loop-layer.layer-index layers c.loop-layer-test.false)) ∙ c.loop-layer.invariant ∙ ap ranges_of c.as_slice-layers.ensures.layers
