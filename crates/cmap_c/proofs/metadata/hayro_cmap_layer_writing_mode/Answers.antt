use Rattle.std.proofs.Common.{◌≡◌, ◌∙◌, Option, Some, ap, sym}
use Rattle.std.specs.Prelude.{option_map}
use Rattle.cmap_values.specs.Files.{Mode}
use Rattle.cmap_layers.specs.LayersSeen.{mode_seen}
use Rattle.cmap_values.specs.declared.writing_mode.WritingMode.{WritingMode}
use Rattle.cmap_values.specs.declared.writing_mode.WritingMode.TheVariants.{Horizontal, Vertical}
use Rattle.cmap_handles.specs.Handles.{layer_mode, mode_number}
use Rattle.cmap_c.proofs.metadata.hayro_cmap_layer_writing_mode.Goals as goal

said : (mode : WritingMode) (found : Option WritingMode) (field : WritingMode) (given : Option Mode) → found ≡ Some field → field ≡ mode → option_map mode_seen found ≡ given → mode_number (Some (mode_seen mode)) ≡ mode_number given
said mode found field given is same seen = ap mode_number (ap (λ m. Some (mode_seen m)) (sym same) ∙ sym (ap (option_map mode_seen) is) ∙ seen)

pub returns-in-Some-Horizontal-clause-mode : goal.returns-in-Some-Horizontal-clause-mode
returns-in-Some-Horizontal-clause-mode c =
    said Horizontal c.mode_at-mode.result c.in-Some-Horizontal.field-0 _ c.in-Some-Horizontal.is (rw c.in-Some-Horizontal.is at c.in-Some-Horizontal.field-0-is) (c.mode_at-mode.ensures ∙ ap (λ map. layer_mode map c.args.layer) c.layers.ensures.map)

pub returns-in-Some-Vertical-clause-mode : goal.returns-in-Some-Vertical-clause-mode
returns-in-Some-Vertical-clause-mode c =
    said Vertical c.mode_at-mode.result c.in-Some-Vertical.field-0 _ c.in-Some-Vertical.is (rw c.in-Some-Vertical.is at c.in-Some-Vertical.field-0-is) (c.mode_at-mode.ensures ∙ ap (λ map. layer_mode map c.args.layer) c.layers.ensures.map)

pub returns-in-None-clause-mode : goal.returns-in-None-clause-mode
returns-in-None-clause-mode c = ap mode_number (c.in-None.ensures ∙ ap (λ map. layer_mode map c.args.layer) c.layers.ensures.map)
