use Rattle.std.proofs.lemmas.Result.{IfOk-from_err}
use Rattle.cmap_binary_writer.specs.Written.{bytes_of}
use Rattle.cmap_binary_writer.specs.declared.words.Word.{Word}
use Rattle.cmap_binary_writer.proofs.RowsAdded.{rows_done, rows_more}
use Rattle.cmap_binary_writer.proofs.words.push_symbols.Goals as goal

pub loop-word-preserved : goal.loop-word-preserved
loop-word-preserved c =
    let d : Word = record { symbol = 0; len = 0; value = 0 } in
    rows_more (λ w. bytes_of c.args.width w.symbol) c.args.words.now c.loop-word.word-index c.args.out.now.items c.loop-word.out.items d _ c.loop-word-test.true c.loop-word.invariant c.in_ok-push_number.ensures

pub returns : goal.returns
returns c = rows_done (λ w. bytes_of c.args.width w.symbol) c.args.words.now c.loop-word.word-index c.args.out.now.items c.loop-word.out.items c.loop-word-test.false c.loop-word.invariant

pub returns-in_err-push_number : goal.returns-in_err-push_number
returns-in_err-push_number c = IfOk-from_err _ _ c.from_residual.ensures.0
