use Rattle.std.proofs.Common.{[], ◌∷◌, refl, ◌∙◌}
use Rattle.cmap_layers.specs.LayersSeen.{layer_seen}
use Rattle.cmap_layers.proofs.LayersSearched.{Answers-outside}
use Rattle.cmap_layers.proofs.lookup.cid_of_length.Goals as goal

pub returns : goal.returns
returns c = rw c.in_ok-of.ensures.1 at c.cid_in.ensures

pub returns-in_err-of : goal.returns-in_err-of
returns-in_err-of c =
    let none = Answers-outside (layer_seen c.args.layer.now ∷ []) c.args.code c.args.byte_len c.args.looks.now c.in_err-of.ensures in
    let is = c.from_residual.ensures in
    record { value = is ∙ none.value; looks = rw is none.looks; outside = λ _. refl }
