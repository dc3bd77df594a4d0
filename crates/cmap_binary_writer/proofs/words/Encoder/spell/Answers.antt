use Rattle.std.proofs.Common.{◌≤◌, ◌<◌, get_or, length, take, sym, subst, arith, ap}
use Rattle.std.proofs.lemmas.Result.{IfOk-from_err}
use Rattle.cmap_binary.proofs.BitsOfBytes.{length-bits, length-bits_of}
use Rattle.std.proofs.lemmas.List.{get_or_default, length-append, take_all, take_more}
use Rattle.cmap_binary.specs.PrefixWords.{BeginWithWordsOf, bits_of}
use Rattle.cmap_binary_writer.proofs.Spelling.{IsSpelled-push, BeginWithWordsOf-spelled}
use Rattle.cmap_binary_writer.proofs.words.Encoder.spell.Goals as goal

pub loop-symbol-preserved : goal.loop-symbol-preserved
loop-symbol-preserved c =
    let symbols = c.args.symbols.now in
    let i = c.loop-symbol.symbol-index in
    let within : i < length symbols = omega arith in
    let w = c.in-Some.word in
    let has = c.in-Some.ensures.some in
    rw (take_more symbols i 0 within, c.in_ok-push.ensures) (
      IsSpelled-push c.args.self.now (take i symbols) c.loop-symbol.written (get_or symbols i 0) w.len w.value c.loop-symbol.invariant.0 has,
      omega (arith, c.loop-symbol.invariant.1, has.most, length-append c.loop-symbol.written (bits_of w.len w.value), length-bits_of w.len w.value),
    )

pub returns : goal.returns
returns c =
    let symbols = c.args.symbols.now in
    let i = c.loop-symbol.symbol-index in
    let past : length symbols ≤ i = omega arith in
    let all = rw (take_all i symbols past) at c.loop-symbol.invariant.0 in
    let (rest, begun, few, zeros) = c.in_ok-finish.ensures in
    let bytes = c.in_ok-finish.field-0.items in (
      subst (BeginWithWordsOf c.args.self.now symbols) (sym begun) (BeginWithWordsOf-spelled c.args.self.now symbols c.loop-symbol.written rest all),
      omega (arith, c.loop-symbol.invariant.1, few, length-bits bytes, ap length begun, length-append c.loop-symbol.written rest),
      record { stream = c.loop-symbol.written; rest = rest; spelled = all; bits_are = begun; few = few; zeros = zeros },
    )

pub returns-in_default : goal.returns-in_default
returns-in_default c =
    let symbols = c.args.symbols.now in
    let i = c.loop-symbol.symbol-index in
    (i, get_or symbols i 0, c.loop-symbol-test.true, get_or_default symbols i (get_or symbols i 0) 0 c.loop-symbol-test.true, c.in_default.ensures.none)

pub returns-in_err-push : goal.returns-in_err-push
returns-in_err-push c = IfOk-from_err _ _ c.from_residual.ensures.0

pub returns-in_err-finish : goal.returns-in_err-finish
returns-in_err-finish c = IfOk-from_err _ _ c.from_residual-in_err-finish.ensures.0
