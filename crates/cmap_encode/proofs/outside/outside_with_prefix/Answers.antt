use Rattle.std.proofs.Common.{sym, ◌∙◌, arith}
use Rattle.std.proofs.lemmas.Bool.{false≢true}
use Rattle.cmap_values.specs.CodeLengths.{length_of}
use Rattle.cmap_encode.proofs.CodesOutside.{inside_begins}
use Rattle.cmap_encode.proofs.Numbers.{fits_length}
use Rattle.cmap_encode.proofs.outside.outside_with_prefix.Goals as goal

pub returns-clause-outside : goal.returns-clause-outside
returns-clause-outside c = λ number from to inside.
    let code = c.args.code in
    let same = c.last_with_prefix.ensures.same number (omega arith) to in
    false≢true (sym c.if-may_begin.false ∙ c.may_begin.ensures.1 (inside_begins c.args.encoding.now (length_of code.len) number code.number c.args.after same c.requires.after.0 c.requires.after.1 (fits_length code.len).1 inside))
