use Rattle.std.proofs.Common.{subst, arith}
use Rattle.cmap_values.specs.CodeLengths.{length_of}
use Rattle.cmap_layers.specs.LayersSeen.{layers_seen}
use Rattle.cmap_unicode.specs.Given.{given}
use Rattle.cmap_encode.specs.Glyphs.{glyph_by}
use Rattle.cmap_encode.specs.GlyphsSeen.{AreGlyphs}
use Rattle.cmap_encode.specs.Maps.{maps_seen}
use Rattle.cmap_encode.proofs.SilentRows.{silent_codes}
use Rattle.cmap_encode.proofs.silent.silent_stretch.Goals as goal

pub returns : goal.returns
returns c =
    let maps = c.args.maps.now in let code = c.args.code in let len = length_of code.len in
    let are = subst (λ all. AreGlyphs (λ n. glyph_by (layers_seen maps.lower.now) all n len) (λ n. given all n len) code.number c.glyph_stretch-stretch.result) c.as_slice.ensures.layers c.glyph_stretch-stretch.ensures in
    let whole = c.whole_stretch-whole.ensures in let texts = c.in_ok-row.ensures.texts in
    let in_row = texts.within in let in_stretch = are.within in let in_whole = whole.within in
    silent_codes (maps_seen maps) code c.in_ok-row.row c.glyph_stretch-stretch.result c.whole_stretch-whole.result texts are whole.whole c.silent_cid.result c.min-2.result (omega (arith, c.min.ensures, c.min-2.ensures)) (omega (arith, c.min.ensures, c.min-2.ensures)) (omega (arith, c.min.ensures, c.min-2.ensures)) (omega (arith, c.min.ensures, c.min-2.ensures)) whole.fits c.silent_cid.ensures
