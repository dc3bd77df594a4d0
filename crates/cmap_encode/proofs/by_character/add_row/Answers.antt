use Rattle.std.proofs.Common.{subst, arith}
use Rattle.cmap_encode.specs.KeyCodesSeen.{IsKeyStretch}
use Rattle.cmap_encode.specs.Maps.{maps_seen, unicode_seen}
use Rattle.cmap_encode.specs.RunsSeen.{AddsCharacters}
use Rattle.cmap_encode.proofs.CharactersAdded.{none_has_codes, none_has_glyphs, row_added}
use Rattle.cmap_encode.proofs.by_character.add_row.Goals as goal

pub returns-in_default-clause-adds : goal.returns-in_default-clause-adds
returns-in_default-clause-adds c = none_has_codes (maps_seen c.args.maps.now) (unicode_seen c.args.unicode.now) c.args.glyphs.now c.args.first c.in_ok-row.row c.in_ok-row.ensures.of c.args.texts.now c.in_default.is

pub returns-in_default-cid-clause-adds : goal.returns-in_default-cid-clause-adds
returns-in_default-cid-clause-adds c = none_has_glyphs (maps_seen c.args.maps.now) (unicode_seen c.args.unicode.now) c.args.glyphs.now c.args.first c.in_ok-row.row c.in_ok-row.ensures.of c.args.texts.now c.in_default-cid.is

pub returns-clause-adds : goal.returns-clause-adds
returns-clause-adds c =
    let further = c.min-more.result in let begins = c.stretch-own.ensures.within in let silent = c.in_ok-silent.ensures.within in
    row_added (maps_seen c.args.maps.now) (unicode_seen c.args.unicode.now) c.args.glyphs.now c.args.first c.in_ok-row.row c.in_ok-row.ensures.of c.in-Some.code c.in-Some-cid.cid c.stretch-own.result c.in_ok-silent.silent further c.in-Some.is c.in-Some-cid.is c.in_ok-row.ensures.others (subst (λ codes. IsKeyStretch codes c.in-Some-cid.cid c.stretch-own.result) c.by_place.ensures c.stretch-own.ensures) c.in_ok-silent.ensures
    (omega (arith, c.min.ensures, c.min-more.ensures)) (omega (arith, c.min.ensures, c.min-more.ensures)) (omega (arith, c.min.ensures, c.min-more.ensures))
    c.own_form.result c.own_form.ensures c.args.texts.now c.add_characters.new.self c.add_characters-2.new.self
    (subst (λ begin. AddsCharacters c.args.texts.now c.add_characters.new.self c.args.first begin further) c.canonical.ensures c.in_ok-add_characters.ensures.texts) c.in_ok-add_characters-2.ensures.texts
