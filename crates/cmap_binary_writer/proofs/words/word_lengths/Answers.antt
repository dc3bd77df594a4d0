use Rattle.std.proofs.Common.{◌≡◌, ◌+◌, ◌<◌, ◌++◌, get_or, length, replicate, take, ap, sym, ◌∙◌, arith}
use Rattle.std.proofs.lemmas.List.{take_more, length-take-le}
use Rattle.std.proofs.lemmas.Result.{IfOk-from_err}
use Rattle.cmap_binary.specs.PrefixWords.{lengths_from}
use Rattle.cmap_binary_writer.proofs.TablesWritten.{lengths_from-push}
use Rattle.cmap_binary_writer.proofs.words.word_lengths.Goals as goal

pub loop-i-preserved : goal.loop-i-preserved
loop-i-preserved c =
    let counts = c.args.counts.now in
    let i = c.loop-i.i in
    let within : i < length counts = omega arith in
    let len : 1 + length (take i counts) ≡ i + 1 = omega (arith, length-take-le i counts (omega arith)) in
    c.in_ok-push_copies.ensures
    ∙ ap (λ ls. ls ++ replicate (get_or counts i 0) (i + 1)) c.loop-i.invariant
    ∙ ap (λ n. lengths_from 1 (take i counts) ++ replicate (get_or counts i 0) n) (sym len)
    ∙ sym (lengths_from-push 1 (take i counts) (get_or counts i 0))
    ∙ ap (lengths_from 1) (sym (take_more counts i 0 within))

pub returns-in_err-push_copies : goal.returns-in_err-push_copies
returns-in_err-push_copies c = IfOk-from_err _ _ c.from_residual.ensures.0
