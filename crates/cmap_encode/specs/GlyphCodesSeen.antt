-- Private aid: the codes that runs give to glyphs.
use Rattle.std.specs.Prelude.{Bool, List, if◌then◌else◌}
use Rattle.cmap_encode.specs.KeyCodesSeen.{AreFirsts, AreLasts}
use Rattle.cmap_encode.specs.declared.glyph_codes.GlyphCodes.{GlyphCodes}
use Rattle.cmap_encode.specs.declared.key_codes.CodeRun.{CodeRun}

-- the glyph codes are the first and the last code that the runs give to each glyph
pub record AreGlyphCodes (runs : List CodeRun) (glyphs : GlyphCodes) : Type 0 where
  pub firsts : AreFirsts runs glyphs.firsts
  pub lasts : AreLasts runs glyphs.lasts

-- the last code of each glyph, or the first
abbrev pub codes_by_place : GlyphCodes → Bool → List CodeRun
codes_by_place glyphs last = if last then glyphs.lasts else glyphs.firsts
