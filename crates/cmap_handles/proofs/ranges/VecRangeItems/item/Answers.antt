use Rattle.std.proofs.Common.{◌∙◌, ◌<◌, ap, sym, subst}
use Rattle.std.specs.Prelude.{option_map}
use Rattle.std.proofs.Math.ListN.{length-map}
use Rattle.std.proofs.lemmas.Option.{slice_get-map, slice_get_read}
use Rattle.cmap_handles.specs.Ranges.{code_range_seen}
use Rattle.cmap_handles.proofs.ranges.VecRangeItems.item.Goals as goal

pub index-range-requires : goal.index-range-requires
index-range-requires c = subst (λ n. c.args.index < n) (length-map c.args.self.now.items code_range_seen ∙ sym c.args.self.now.ok.0) c.requires

pub returns : goal.returns
returns c =
    let ranges = c.args.self.now in
    let within = subst (λ n. c.args.index < n) (length-map ranges.items code_range_seen ∙ sym ranges.ok.0) c.requires in
    slice_get-map code_range_seen ranges.items c.args.index ∙ ap (option_map code_range_seen) (slice_get_read ranges.items ranges.len c.args.index c.index-range.result.now ranges.ok.0 within c.index-range.ensures)
