use Rattle.std.proofs.Common.{◌≡◌, ◌+◌, ◌-◌, ◌<◌, ◌≤◌, length, refl, ap, subst, sym, inl, inr, arith}
use Rattle.std.proofs.lemmas.List.{take_rest}
use Rattle.cmap_unicode.specs.Characters.{font_of}
use Rattle.cmap_c.specs.ExtractedParts.{IsMade, IsStop}
use Rattle.cmap_c.proofs.CharactersExtracted.{IsExtracting, ends, extracts_all, extracts_more, extracts_none}
use Rattle.cmap_c.proofs.extract.extract.Goals as goal

pub loop-extracted-init : goal.loop-extracted-init
loop-extracted-init c = subst (IsExtracting (font_of c.args.font.now) c.args.string.now c.args.characters.now c.args.characters.now c.args.text.now c.args.text.now) (sym c.requires)
    (extracts_none (font_of c.args.font.now) c.args.string.now c.args.characters.now c.args.text.now)

pub loop-extracted-preserved : goal.loop-extracted-preserved
loop-extracted-preserved c =
    let font = font_of c.args.font.now in
    let before = c.loop-extracted in
    let made = subst (λ left. IsMade font left before.extracted.used before.text c.next_code.new.text c.in-Ok.next) (take_rest c.args.string.now before.extracted.taken) c.in-Ok.ensures in
    let room : before.extracted.made < length c.args.characters.now = omega (arith, c.loop-extracted-test.true, before.auto.characters) in
    extracts_more font c.args.string.now c.args.characters.now before.characters c.args.text.now before.text c.next_code.new.text before.extracted _ c.in-Ok.next before.invariant made room before.auto.text refl
    (ap (λ n. before.extracted.taken + n) c.from.ensures) refl

pub returns-in-Err : goal.returns-in-Err
returns-in-Err c =
    let font = font_of c.args.font.now in
    let before = c.loop-extracted in
    let stop = subst (λ left. IsStop font left (length before.text - before.extracted.used) c.in-Err.end) (take_rest c.args.string.now before.extracted.taken) c.in-Err.ensures.1 in
    let is_end = ends font c.args.string.now c.args.characters.now c.args.text.now _ before.extracted c.in-Err.end before.invariant.within (ap (λ n. n - before.extracted.used) before.auto.text) stop in
    let same : IsExtracting font c.args.string.now c.args.characters.now before.characters c.args.text.now c.next_code.new.text before.extracted = rw c.in-Err.ensures.0 before.invariant in
    rw c.number.ensures (extracts_all font c.args.string.now c.args.characters.now before.characters c.args.text.now c.next_code.new.text before.extracted _ same is_end)

pub returns-then-extracted-string : goal.returns-then-extracted-string
returns-then-extracted-string c =
    extracts_all (font_of c.args.font.now) c.args.string.now c.args.characters.now c.loop-extracted.characters c.args.text.now c.loop-extracted.text c.loop-extracted.extracted _ c.loop-extracted.invariant
    (inl (c.number-then-extracted-string.ensures, c.if-extracted-string.true))

pub returns-else-extracted-string : goal.returns-else-extracted-string
returns-else-extracted-string c =
    let full : c.loop-extracted.extracted.made ≡ length c.args.characters.now = omega (arith, c.loop-extracted-test.false, c.loop-extracted.invariant.fits, c.loop-extracted.auto.characters) in
    extracts_all (font_of c.args.font.now) c.args.string.now c.args.characters.now c.loop-extracted.characters c.args.text.now c.loop-extracted.text c.loop-extracted.extracted _ c.loop-extracted.invariant
    (inr (inl (c.number-else-extracted-string.ensures, omega (arith, c.if-extracted-string.false, c.loop-extracted.invariant.within), inl full)))

pub next_code-requires : goal.next_code-requires
next_code-requires c = subst (λ n. c.loop-extracted.extracted.used ≤ n) (sym c.loop-extracted.auto.text) c.loop-extracted.invariant.texts_fit

pub slice_bounds-next_code-count : goal.slice_bounds-next_code-count
slice_bounds-next_code-count c = c.loop-extracted.invariant.within

pub loop-extracted-smaller : goal.loop-extracted-smaller
loop-extracted-smaller c = omega (arith, c.loop-extracted-test.true, c.loop-extracted.auto.characters)

pub bounds-characters-extracted : goal.bounds-characters-extracted
bounds-characters-extracted c = c.loop-extracted-test.true
