use Rattle.std.proofs.Common.{◌+◌, ◌-◌, sym, ap, subst, ◌∙◌, arith}
use Rattle.std.specs.Prelude.{option_map}
use Rattle.std.specs.Option.{option_copied}
use Rattle.cmap_tokens.specs.TextSeen.{text_seen}
use Rattle.cmap_layers.specs.LayersSeen.{layers_seen}
use Rattle.cmap_unicode.specs.Given.{given}
use Rattle.cmap_unicode.specs.TextsOfCodes.{text_in}
use Rattle.cmap_unicode.proofs.TextsFilled.{text_filled}
use Rattle.cmap_values.specs.CodeLengths.{length_of}
use Rattle.cmap_encode.specs.GatheredSeen.{AreGathered}
use Rattle.cmap_encode.specs.Glyphs.{glyph_by}
use Rattle.cmap_encode.specs.GlyphsSeen.{AreGlyphs}
use Rattle.cmap_encode.specs.Maps.{maps_seen}
use Rattle.cmap_encode.proofs.CidsAdded.{no_text_in_row, text_in_row}
use Rattle.cmap_encode.proofs.GatheredRows.{missing_over}
use Rattle.cmap_encode.proofs.GlyphsFound.{fewer_fit, shown_so}
use Rattle.cmap_encode.proofs.gathered.Gathered.add_from.Goals as goal

pub add_silent-requires-clause-none : goal.add_silent-requires-clause-none
add_silent-requires-clause-none c = λ code from to. no_text_in_row (text_in (option_copied c.args.maps.now.font.to_unicode)) c.args.code.number code c.in_ok-row.row c.in_ok-row.ensures.texts c.in_default.is from (omega (arith, c.min-last.ensures))

pub add_silent-requires-clause-glyphs : goal.add_silent-requires-clause-glyphs
add_silent-requires-clause-glyphs c =
    let maps = c.args.maps.now in let len = length_of c.args.code.len in
    let are = subst (λ all. AreGlyphs (λ n. glyph_by (layers_seen maps.lower.now) all n len) (λ n. given all n len) c.args.code.number c.glyph_stretch-stretch.result) c.as_slice.ensures.layers c.glyph_stretch-stretch.ensures in
    λ count within. are.glyphs count (omega (arith, c.min-last.ensures))

pub add_silent-requires-clause-fit : goal.add_silent-requires-clause-fit
add_silent-requires-clause-fit c =
    let stretch = c.glyph_stretch-stretch.result in
    fewer_fit stretch.glyphs (stretch.last - c.args.code.number) (c.min-last.result - c.args.code.number) (omega (arith, c.min-last.ensures)) c.glyph_stretch-stretch.ensures.fit

pub add_stated-requires-clause-some : goal.add_stated-requires-clause-some
add_stated-requires-clause-some c =
    text_filled (option_copied c.args.maps.now.font.to_unicode) c.args.code.number (text_seen c.in-Some.text) (sym c.in_ok-row.ensures.texts.text ∙ ap (option_map text_seen) c.in-Some.is)

pub add_stated-requires-clause-texts : goal.add_stated-requires-clause-texts
add_stated-requires-clause-texts c = λ count within.
    text_in_row (text_in (option_copied c.args.maps.now.font.to_unicode)) c.args.code.number count c.in_ok-row.row c.in-Some.text c.in_ok-row.ensures.texts c.in-Some.is c.in_ok-row.ensures.counts (omega (arith, c.min-last.ensures))

pub add_stated-requires-clause-shown : goal.add_stated-requires-clause-shown
add_stated-requires-clause-shown c =
    let maps = c.args.maps.now in let len = length_of c.args.code.len in
    let are = subst (λ all. AreGlyphs (λ n. glyph_by (layers_seen maps.lower.now) all n len) (λ n. given all n len) c.args.code.number c.glyph_stretch-stretch.result) c.as_slice.ensures.layers c.glyph_stretch-stretch.ensures in
    λ count within. shown_so _ _ c.args.code.number c.glyph_stretch-stretch.result are c.in_default-glyphs.not-Missing count (omega (arith, c.min-last.ensures))

pub returns-in-Missing-clause-are : goal.returns-in-Missing-clause-are
returns-in-Missing-clause-are c =
    let maps = c.args.maps.now in let len = length_of c.args.code.len in
    let are = subst (λ all. AreGlyphs (λ n. glyph_by (layers_seen maps.lower.now) all n len) (λ n. given all n len) c.args.code.number c.glyph_stretch-stretch.result) c.as_slice.ensures.layers c.glyph_stretch-stretch.ensures in
    subst (λ last. AreGathered (maps_seen maps) len (last + 1) c.args.self.now) (sym c.from.ensures) (missing_over (maps_seen maps) len c.args.code.number c.glyph_stretch-stretch.result c.args.self.now are c.in-Missing.is c.requires.before)
