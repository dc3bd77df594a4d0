use Rattle.std.proofs.Common.{◌+◌, Some, subst, sym}
use Rattle.cmap_binary.specs.BinaryEntries.{ranges, singles}
use Rattle.cmap_binary_writer.specs.EncodersSeen.{shape_seen}
use Rattle.cmap_binary_writer.specs.Texts.{CanFix, IsNumberOf}
use Rattle.cmap_binary_writer.proofs.TextsMade.{range_number, single_number}
use Rattle.cmap_binary_writer.proofs.texts.TextForm.number.Goals as goal

pub returns-in-Ranges-Some-clause-read : goal.returns-in-Ranges-Some-clause-read
returns-in-Ranges-Some-clause-read c =
    let h = c.in-Ranges-Some in
    let fixes : CanFix ranges (Some h.units) = subst (CanFix ranges) h.is-1 (subst (λ shape. CanFix (shape_seen shape) c.args.self.units) h.is-0 c.requires) in
    subst (λ shape. IsNumberOf (shape_seen shape) c.args.self.units (20 + h.units)) (sym h.is-0) (subst (λ units. IsNumberOf ranges units (20 + h.units)) (sym h.is-1) (range_number h.units fixes.0 fixes.1))

pub returns-in-Singles-Some-clause-read : goal.returns-in-Singles-Some-clause-read
returns-in-Singles-Some-clause-read c =
    let h = c.in-Singles-Some in
    let fixes : CanFix singles (Some h.units) = subst (CanFix singles) h.is-1 (subst (λ shape. CanFix (shape_seen shape) c.args.self.units) h.is-0 c.requires) in
    subst (λ shape. IsNumberOf (shape_seen shape) c.args.self.units (16 + h.units)) (sym h.is-0) (subst (λ units. IsNumberOf singles units (16 + h.units)) (sym h.is-1) (single_number h.units fixes.0 fixes.1))
