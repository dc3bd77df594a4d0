use Rattle.std.proofs.Common.{refl, arith}
use Rattle.cmap_codespaces.proofs.SpacesFound.{front_rows, query-rows}
use Rattle.cmap_codespaces.proofs.query.Query.of_front.Goals as goal

pub returns-clause-is : goal.returns-clause-is
returns-clause-is c = rw (c.row_at.ensures, c.row_at-2.ensures, c.row_at-3.ensures, c.row_at-4.ensures, c.row_of_length-length.ensures) refl

pub returns-clause-rows : goal.returns-clause-rows
returns-clause-rows c =
    rw (c.row_at.ensures, c.row_at-2.ensures, c.row_at-3.ensures, c.row_at-4.ensures, c.row_of_length-length.ensures) (query-rows c.args.byte_len c.args.front.now (λ k. omega (arith, c.type_inv.front k)) c.requires.length.1)

pub returns-clause-ranges : goal.returns-clause-ranges
returns-clause-ranges c = λ space.
    rw (c.row_at.ensures, c.row_at-2.ensures, c.row_at-3.ensures, c.row_at-4.ensures, c.row_of_length-length.ensures) (front_rows c.args.byte_len c.args.front.now space (λ k. omega (arith, c.type_inv.front k)) c.requires.length.0 c.requires.few)
