use Rattle.std.proofs.Common.{◌≡◌, subst, sym, ap, arith}
use Rattle.std.specs.Prelude.{MatchOption, option_map}
use Rattle.cmap_encode.specs.GatheredSeen.{AddsGlyphs}
use Rattle.cmap_encode.specs.Maps.{maps_seen, unicode_seen}
use Rattle.cmap_encode.proofs.CharactersAdded.{more_characters}
use Rattle.cmap_encode.proofs.by_character.add_characters.Goals as goal

pub loop-next-preserved : goal.loop-next-preserved
loop-next-preserved c = record {
  within = c.in_ok-next.ensures.more.1;
  are = c.in_ok-next.ensures.are;
  adds = more_characters (maps_seen c.args.maps.now) (unicode_seen c.in-Some.unicode) c.args.glyphs.now c.args.texts.now c.loop-next.texts c.add_row.new.texts 0 c.loop-next.next c.in_ok-next.next (omega arith) (let later = c.in_ok-next.ensures.more.0 in omega arith) c.loop-next.invariant.adds c.in_ok-next.ensures.adds;
}

pub returns-clause-adds : goal.returns-clause-adds
returns-clause-adds c =
    let maps = maps_seen c.args.maps.now in let new = c.loop-next.texts in let old = c.args.texts.now in
    let end : c.loop-next.next ≡ 0x110000 = omega (arith, c.loop-next.invariant.within, c.loop-next-test.false) in
    subst (λ found. MatchOption found (new ≡ old) (λ unicode. AddsGlyphs maps unicode c.args.glyphs.now 0 0x110000 old new)) (sym (ap (option_map unicode_seen) c.in-Some.is))
    (subst (λ n. AddsGlyphs maps (unicode_seen c.in-Some.unicode) c.args.glyphs.now 0 n old new) end c.loop-next.invariant.adds)
