use Rattle.std.proofs.Common.{◌-◌, ◌≤◌, subst}
use Rattle.cmap_codespaces.specs.CodesWithin.{byte_at}
use Rattle.cmap_values.specs.CodeLengths.{length_of}
use Rattle.cmap_values.specs.DeclarationsSeen.{codespace_seen}
use Rattle.cmap_encode.proofs.Numbers.{fits_length}
use Rattle.cmap_encode.proofs.WholeCodes.{within_too}
use Rattle.cmap_encode.proofs.whole.last_within.Goals as goal

pub returns-clause-inside : goal.returns-clause-inside
returns-clause-inside c = λ number from to.
    let between = c.last_with_byte.ensures.between number from to in
    let after = c.args.after in
    within_too (codespace_seen c.args.space.now) (length_of c.args.code.len) after c.args.code.number number c.requires.after.0 c.requires.after.1 (fits_length c.args.code.len).1 (c.last_with_byte.ensures.same number from to) c.requires.full between.0 (subst (λ byte. byte_at number (after - 1) ≤ byte) c.byte_of.ensures between.1) c.requires.within
