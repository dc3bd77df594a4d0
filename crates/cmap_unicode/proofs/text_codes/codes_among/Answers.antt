use Rattle.std.proofs.Common.{subst, sym}
use Rattle.cmap_unicode.specs.CodesOfTexts.{AreAmong, Spells}
use Rattle.cmap_unicode.proofs.RowsWithText.{alike, counting, filled, no_text}
use Rattle.cmap_unicode.proofs.text_codes.codes_among.Goals as goal

pub returns-in_default : goal.returns-in_default
returns-in_default c = λ texts are_filled are. no_text texts c.args.text.now c.args.row.now c.args.range are c.requires.within c.in_default.is

pub returns-then-row : goal.returns-then-row
returns-then-row c = λ texts are_filled are.
    let some = filled texts c.args.text.now c.args.row.now c.args.range are c.requires.within c.in-Some.begin c.in-Some.is are_filled in
    counting texts c.args.text.now c.args.row.now c.args.range are c.requires.within c.in-Some.begin c.in-Some.is c.if-row.true c.code_among.result
    (rw (c.deref.ensures.value, c.in_ok-begin.ensures) at c.code_among.ensures some)

pub returns : goal.returns
returns c = λ texts are_filled are.
    subst (AreAmong (Spells texts c.args.text.now) c.args.range) (sym (rw (c.eq.ensures, c.as_slice.ensures.value, c.in_ok-begin.ensures) at c.then_some.ensures))
    (alike texts c.args.text.now c.args.row.now c.args.range are c.requires.within c.in-Some.begin c.in-Some.is c.if-row.false c.requires.filled)
