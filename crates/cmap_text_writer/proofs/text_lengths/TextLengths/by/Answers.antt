use Rattle.std.proofs.Common.{arith, map, subst, sym, take}
use Rattle.std.proofs.lemmas.List.{map_more, take_all}
use Rattle.cmap_values.specs.DeclarationsSeen.{codespace_seen}
use Rattle.cmap_values.specs.declared.code_length.CodeLength.TheVariants.{Two}
use Rattle.cmap_text_writer.specs.Lengths.{AreBounds}
use Rattle.cmap_text_writer.proofs.LengthsTold.{text_same}
use Rattle.cmap_text_writer.proofs.text_lengths.TextLengths.by.Goals as goal

pub loop-space-init : goal.loop-space-init
loop-space-init c = c.outside-lengths.ensures

pub loop-space-preserved : goal.loop-space-preserved
loop-space-preserved c =
    let spaces = c.args.spaces.now in
    let i = c.loop-space.space-index in
    subst (AreBounds c.widened-lengths.result Two) (sym (map_more codespace_seen spaces i _ (omega arith))) (c.widened-lengths.ensures Two (map codespace_seen (take i spaces)) c.loop-space.invariant)

pub returns : goal.returns
returns c = λ code. text_same c.loop-space.lengths Two (map codespace_seen c.args.spaces.now) code (subst (λ ss. AreBounds c.loop-space.lengths Two (map codespace_seen ss)) (take_all c.loop-space.space-index c.args.spaces.now c.loop-space-test.false) c.loop-space.invariant)
