use Rattle.std.proofs.Common.{refl, arith}
use Rattle.std.proofs.lemmas.Bool.{le-ltb}
use Rattle.std.specs.Prelude.{Some, pos}
use Rattle.cmap_tokens.specs.Numbers.{Integer}
use Rattle.cmap_tokens.specs.Tokens.{Numeral}
use Rattle.cmap_text.proofs.tokens.cid_of_number.Goals as goal

pub returns-in-Err : goal.returns-in-Err
returns-in-Err c = λ next.
    (tt, rw c.wrong.ensures (Some (Numeral (Integer (pos c.args.number))), rw (le-ltb c.args.number 4294967296 (omega (arith, c.in-Err.ensures))) refl, refl))
