use Rattle.std.proofs.Common.{◌≡◌, ◌+◌, sym, ap, subst, ◌∙◌, arith}
use Rattle.std.specs.Prelude.{option_map}
use Rattle.std.specs.Option.{option_copied}
use Rattle.cmap_tokens.specs.TextSeen.{text_seen}
use Rattle.cmap_unicode.proofs.TextsFilled.{text_filled}
use Rattle.cmap_encode.specs.GatheredSeen.{AddsCids}
use Rattle.cmap_encode.proofs.CidsAdded.{no_code, no_text, row_added}
use Rattle.cmap_encode.proofs.by_cid.add_row.Goals as goal

pub returns-in_default-clause-adds : goal.returns-in_default-clause-adds
returns-in_default-clause-adds c =
    let collection = option_copied c.args.collection in let old = c.args.texts.now in
    subst (λ last. AddsCids collection c.args.cids.now c.args.first (last + 1) old old) (sym c.from.ensures) (no_code collection c.args.cids.now old c.args.first c.stretch-stretch.result c.stretch-stretch.ensures c.in_default.is)

pub returns-in_default-text-clause-adds : goal.returns-in_default-text-clause-adds
returns-in_default-text-clause-adds c =
    let collection = option_copied c.args.collection in let old = c.args.texts.now in
    subst (λ last. AddsCids collection c.args.cids.now c.args.first (last + 1) old old) (sym c.from-in_default-text.ensures)
    (no_text collection c.args.cids.now old c.args.first c.min-last.result c.in_ok-row.row c.in_ok-row.ensures.texts c.in_default-text.is (omega (arith, c.min-last.ensures)))

pub add_texts-requires-clause-some : goal.add_texts-requires-clause-some
add_texts-requires-clause-some c =
    text_filled (option_copied c.args.collection) c.args.first (text_seen c.in-Some-text.text) (sym c.in_ok-row.ensures.texts.text ∙ ap (option_map text_seen) c.in-Some-text.is)

pub returns-clause-adds : goal.returns-clause-adds
returns-clause-adds c =
    let collection = option_copied c.args.collection in
    let further = c.in_ok-further.further in
    let some = c.in_ok-further.ensures.within in
    let within = c.in_ok-row.ensures.texts.within in
    let stretch = c.stretch-stretch.ensures.within in
    let added = row_added collection c.args.cids.now c.args.first further c.stretch-stretch.result c.in-Some.own c.in_ok-row.row c.in-Some-text.text c.stretch-stretch.ensures c.in-Some.is c.in_ok-row.ensures.texts c.in-Some-text.is c.in_ok-row.ensures.counts
    (omega (arith, c.min-last.ensures)) (omega (arith, c.min-last.ensures)) c.args.texts.now c.add_texts.new.self c.in_ok-further.ensures.texts in
    let next : c.args.first + further + 1 ≡ c.from-2.result + c.from-3.result + 1 = omega (arith, c.from-2.ensures, c.from-3.ensures) in
    subst (λ n. AddsCids collection c.args.cids.now c.args.first n c.args.texts.now c.add_texts.new.self) next added
