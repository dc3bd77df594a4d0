use Rattle.std.proofs.Common.{◌≡◌, ◌+◌, ◌-◌, refl, sym, subst, arith}
use Rattle.std.specs.Prelude.{All}
use Rattle.std.proofs.lemmas.List.Elements.{All-push}
use Rattle.cmap_values.specs.CodeLengths.{length_of}
use Rattle.cmap_encode.specs.KeyCodesSeen.{IsCodeRun}
use Rattle.cmap_encode.specs.GatheredSeen.{AreGathered, HaveGlyphs}
use Rattle.cmap_encode.specs.Maps.{maps_seen}
use Rattle.cmap_encode.proofs.GatheredRows.{cids_gathered, is_false, is_so, passed_over, silent_over}
use Rattle.cmap_encode.proofs.GlyphsFound.{no_glyph_after}
use Rattle.cmap_encode.proofs.gathered.Gathered.add_silent.Goals as goal

pub returns-then-not-whole-clause-are : goal.returns-then-not-whole-clause-are
returns-then-not-whole-clause-are c =
    let maps = maps_seen c.args.maps.now in let code = c.args.code in let whole = c.whole_stretch-whole.result in let are = c.whole_stretch-whole.ensures in
    subst (λ last. AreGathered maps (length_of code.len) (last + 1) c.args.self.now) (sym c.from-then-not-whole.ensures) (passed_over maps code whole are.whole c.args.self.now are.within (is_false whole.are_whole c.if-not-whole.true) c.requires.before)

pub returns-in_default-clause-are : goal.returns-in_default-clause-are
returns-in_default-clause-are c =
    let maps = maps_seen c.args.maps.now in let code = c.args.code in let req = c.requires in
    subst (λ last. AreGathered maps (length_of code.len) (last + 1) c.args.self.now) (sym c.from.ensures)
    (silent_over maps (length_of code.len) code.number c.args.last c.args.glyphs c.args.self.now req.within (no_glyph_after c.args.glyphs c.in_default.not-CountOn) req.none req.glyphs req.before)

pub returns-clause-are : goal.returns-clause-are
returns-clause-are c =
    let maps = maps_seen c.args.maps.now in let code = c.args.code in let len = length_of code.len in let old = c.args.self.now in
    let whole = c.whole_stretch-whole.result in let are = c.whole_stretch-whole.ensures in
    let is = is_so whole.are_whole c.if-not-whole.false in
    let run = c.from_key.result in let made = c.from_key.ensures in
    let begins = are.within in let within = c.requires.within in
    let fit = rw c.in-CountOn.is at c.requires.fit in
    let further = c.min-last.result - code.number in
    let glyphs = subst (HaveGlyphs maps len code.number c.args.last) c.in-CountOn.is c.requires.glyphs in
    let next : code.number + further + 1 ≡ c.from-2.result + 1 = omega (arith, c.from-2.ensures, c.min-last.ensures) in
    subst (λ n. AreGathered maps len n (record old { cids = c.push.new.self })) next
    (cids_gathered maps code whole are.whole is (are.fits is) c.in-CountOn.cid c.args.last further (omega (arith, c.min-last.ensures)) (omega (arith, c.min-last.ensures)) c.requires.none glyphs run made.first made.key (made.all (omega (arith, fit, c.min-last.ensures)))
    old (record old { cids = c.push.new.self }) refl c.in_ok-push.ensures.items (subst (All IsCodeRun) (sym c.in_ok-push.ensures.items) (All-push IsCodeRun old.cids.items run c.requires.before.cids made.run)) c.requires.before)
