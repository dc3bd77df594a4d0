use Rattle.std.proofs.Common.{List, subst, ◌∙◌}
use Rattle.cmap_encode.specs.KeyCodesSeen.{AreLasts}
use Rattle.cmap_encode.specs.declared.key_codes.CodeRun.{CodeRun}
use Rattle.cmap_encode.proofs.glyph_codes.GlyphCodes.build.Goals as goal

pub returns : goal.returns
returns c = record {
  firsts = c.in_ok-firsts.ensures;
  lasts = subst (λ (runs : List CodeRun). AreLasts runs c.in_ok-lasts.lasts) (c.in_ok-from_slice.ensures.items ∙ c.deref.ensures.value) c.in_ok-lasts.ensures;
}
