use Rattle.std.proofs.Common.{◌≡◌, Bool, Option, None, Some, ℕ, sym, ap, subst, ◌∙◌, arith}
use Rattle.std.specs.Prelude.{◌↔◌, IsTrue, if◌then◌else◌, option_and_then, option_map}
use Rattle.cmap_tokens.specs.TextSeen.{text_seen}
use Rattle.cmap_encode.specs.GlyphsSeen.{AreOfCharacters, AreReadSo}
use Rattle.cmap_encode.specs.Maps.{maps_seen, unicode_seen}
use Rattle.cmap_encode.specs.StandsFor.{HasGlyph, is_other, only_one}
use Rattle.cmap_encode.proofs.CharactersAdded.{none_read, none_reads, others_so, reads_so}
use Rattle.cmap_encode.proofs.by_character.read_back.Goals.{then-counts, else-counts}
use Rattle.cmap_encode.proofs.by_character.read_back.Goals as goal

pub returns-in_default-clause-of : goal.returns-in_default-clause-of
returns-in_default-clause-of c = none_reads (maps_seen c.args.maps.now) (unicode_seen c.args.unicode.now) c.args.first c.args.row c.requires c.in_default.is

pub returns-in_default-clause-others : goal.returns-in_default-clause-others
returns-in_default-clause-others c = none_read (maps_seen c.args.maps.now) c.args.first c.args.row c.in_default.is

pub returns-clause-of : goal.returns-clause-of
returns-clause-of c =
    let row = c.args.row in let kept = c.counts.result in let maps = maps_seen c.args.maps.now in let unicode = unicode_seen c.args.unicode.now in let other = c.is_other.result in
    let chosen : c.if-counts.result ≡ (if kept then row.cid else None) = elim c.if-counts.branch [ then-counts w ↦ w.result-is ∙ sym (ap (λ b. if b then row.cid else None) w.if-counts.true) | else-counts w ↦ w.result-is ∙ sym (ap (λ b. if b then row.cid else None) w.if-counts.false) ] in
    subst (λ (cid : Option ℕ). AreOfCharacters unicode.form (HasGlyph maps unicode) c.args.first (record { code = row.code; cid = cid; reads_other = other; more = c.min.result })) (sym chosen)
    (reads_so maps unicode c.args.first row c.requires c.in-Some.cid c.in_ok-texts.texts c.in-Some.is c.in_ok-texts.ensures.texts c.in_ok-texts.ensures.counts c.min.result (omega (arith, c.min.ensures)) (let within = c.in_ok-texts.ensures.texts.within in omega (arith, c.min.ensures)) kept other
    (subst (λ (read : Option ℕ). IsTrue kept ↔ (IsTrue maps.exact → read ≡ Some c.args.first)) c.only_character-read.ensures c.counts.ensures))

pub returns-clause-others : goal.returns-clause-others
returns-clause-others c =
    let row = c.args.row in let kept = c.counts.result in let maps = maps_seen c.args.maps.now in let unicode = unicode_seen c.args.unicode.now in
    let chosen : c.if-counts.result ≡ (if kept then row.cid else None) = elim c.if-counts.branch [ then-counts w ↦ w.result-is ∙ sym (ap (λ b. if b then row.cid else None) w.if-counts.true) | else-counts w ↦ w.result-is ∙ sym (ap (λ b. if b then row.cid else None) w.if-counts.false) ] in
    let other : is_other c.args.first (option_and_then only_one (option_map text_seen c.in_ok-texts.texts.text)) ≡ c.is_other.result = ap (is_other c.args.first) (sym c.only_character-read.ensures) ∙ sym c.is_other.ensures in
    subst (λ (cid : Option ℕ). AreReadSo maps c.args.first (record { code = row.code; cid = cid; reads_other = c.is_other.result; more = c.min.result })) (sym chosen)
    (subst (λ (other : Bool). AreReadSo maps c.args.first (record { code = row.code; cid = if kept then row.cid else None; reads_other = other; more = c.min.result })) other
    (others_so maps unicode c.args.first row c.requires c.in-Some.cid c.in_ok-texts.texts c.in-Some.is c.in_ok-texts.ensures.texts c.in_ok-texts.ensures.counts c.min.result (omega (arith, c.min.ensures)) (let within = c.in_ok-texts.ensures.texts.within in omega (arith, c.min.ensures)) kept))
