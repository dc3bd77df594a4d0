use Rattle.std.proofs.Common.{◌≡◌, ◌+◌, refl, sym, subst, arith}
use Rattle.cmap_tokens.specs.TextSeen.{text_seen}
use Rattle.cmap_values.specs.CodeLengths.{length_of}
use Rattle.cmap_encode.specs.GatheredSeen.{AreGathered}
use Rattle.cmap_encode.specs.Maps.{maps_seen}
use Rattle.cmap_encode.proofs.GatheredRows.{is_false, is_so, passed_over, texts_gathered}
use Rattle.cmap_encode.proofs.gathered.Gathered.add_stated.Goals as goal

pub returns-then-not-whole-clause-are : goal.returns-then-not-whole-clause-are
returns-then-not-whole-clause-are c =
    let maps = maps_seen c.args.maps.now in let code = c.args.code in let whole = c.whole_stretch-whole.result in let are = c.whole_stretch-whole.ensures in
    subst (λ last. AreGathered maps (length_of code.len) (last + 1) c.args.self.now) (sym c.from.ensures) (passed_over maps code whole are.whole c.args.self.now are.within (is_false whole.are_whole c.if-not-whole.true) c.requires.before)

pub returns-clause-are : goal.returns-clause-are
returns-clause-are c =
    let maps = maps_seen c.args.maps.now in let code = c.args.code in let len = length_of code.len in
    let further = c.in_ok-further.further in
    let whole = c.whole_stretch-whole.result in let are = c.whole_stretch-whole.ensures in
    let is = is_so whole.are_whole c.if-not-whole.false in
    let some = c.in_ok-further.ensures.within in
    let begins = are.within in
    let next : code.number + further + 1 ≡ c.from-2.result + c.from-3.result + 1 = omega (arith, c.from-2.ensures, c.from-3.ensures) in
    subst (λ n. AreGathered maps len n (record c.args.self.now { texts = c.add_texts.new.self })) next
    (texts_gathered maps code whole are.whole is (are.fits is) (text_seen c.args.text.now) c.args.last further (omega (arith, c.min.ensures)) (omega (arith, c.min.ensures)) c.requires.texts c.requires.shown c.args.self.now (record c.args.self.now { texts = c.add_texts.new.self }) refl c.in_ok-further.ensures.are c.in_ok-further.ensures.texts c.requires.before)
