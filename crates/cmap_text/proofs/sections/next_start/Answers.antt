use Rattle.std.proofs.Common.{ap, sym, refl, ◌∙◌}
use Rattle.cmap_text.specs.TextSeen.{code_seen, section_seen}
use Rattle.cmap_text.specs.TokenParsers.{token_in}
use Rattle.cmap_text.proofs.EntriesRead.{code_starts}
use Rattle.cmap_text.proofs.Refusals.{handed_on}
use Rattle.cmap_text.proofs.sections.next_start.Goals as goal

pub returns-in-Some : goal.returns-in-Some
returns-in-Some c =
    let (piece, reads, is) = c.in-Some.ensures in
    (code_starts (section_seen c.args.section) c.args.reader.now c.plain_start.new.reader piece (code_seen c.in-Some.code) reads is, tt)

pub returns-in-Ok : goal.returns-in-Ok
returns-in-Ok c =
    let reads = ap token_in (sym c.in_default.ensures) ∙ c.in-Ok.ensures.0 in
    rw reads c.code_or_closer.ensures

pub returns-in-Err : goal.returns-in-Err
returns-in-Err c = (tt, handed_on c.in-Err.fault c.required_token.new.self _ _ c.in-Err.ensures.1 (λ e is. rw (ap token_in (sym c.in_default.ensures) ∙ is) refl))
