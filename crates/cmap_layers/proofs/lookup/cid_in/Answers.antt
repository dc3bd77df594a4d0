use Rattle.std.proofs.Common.{[], ◌∷◌, ◌∙◌}
use Rattle.cmap_values.specs.CodeLengths.{length_of}
use Rattle.cmap_codespaces.proofs.BytesWithin.{length_fits}
use Rattle.cmap_layers.specs.LayersSeen.{layer_seen}
use Rattle.cmap_layers.proofs.LayersSearched.{within_lengths, IsSearched-decided, IsSearched-end, IsSearched-more, IsSearched-none}
use Rattle.cmap_layers.proofs.lookup.cid_in.Goals as goal

pub returns : goal.returns
returns c =
    let layer = layer_seen c.args.layer.now in let len = length_of c.args.len in let few = length_fits c.args.len in
    let found = IsSearched-decided (layer ∷ []) layer [] c.args.code len c.in_ok-decided_by.field-0 c.args.looks.now c.args.looks.now c.decided_by.new.looks (within_lengths _ few)
    (IsSearched-none (layer ∷ []) c.args.code len c.args.looks.now) c.in_ok-decided_by.ensures.value c.in_ok-decided_by.ensures.looks in
    record { value = found.value; looks = found.looks; outside = λ outside. absurd (outside few) }

pub returns-in_err-decided_by : goal.returns-in_err-decided_by
returns-in_err-decided_by c =
    let layer = layer_seen c.args.layer.now in let len = length_of c.args.len in let few = length_fits c.args.len in
    let is = c.from_residual.ensures in
    let searched = IsSearched-more (layer ∷ []) layer [] c.args.code len c.args.looks.now c.args.looks.now c.decided_by.new.looks _ (IsSearched-none (layer ∷ []) c.args.code len c.args.looks.now)
    c.in_err-decided_by.ensures.value c.in_err-decided_by.ensures.looks in
    let none = IsSearched-end (layer ∷ []) c.args.code len c.args.looks.now c.decided_by.new.looks (within_lengths _ few) searched in
    record { value = is ∙ none.value; looks = rw is none.looks; outside = λ outside. absurd (outside few) }
