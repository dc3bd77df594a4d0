use Rattle.std.proofs.Common.{rules}
use borrow.Author.Tests.{tests}
use Rattle.std.proofs.lemmas.Iterator.{YieldsList-from_slice, cases_from_any}
use Rattle.cmap_values.specs.CodeLengths.{length_of}
use Rattle.cmap_values.specs.DeclarationsSeen.{codespace_seen}
use Rattle.cmap_values.specs.declared.declarations.Codespace.{Codespace}
use Rattle.cmap_layers.proofs.BytesWithin.{any_seen}
use Rattle.cmap_encode.specs.Outside.{BeginsSo}
use Rattle.cmap_encode.proofs.outside.any_begins.Goals as goal

pub returns : goal.returns
returns c =
    let Begins = BeginsSo (length_of c.args.code.len) c.args.code.number c.args.after in
    let Seen = λ (space : Codespace). Begins (codespace_seen space) in
    let answer = cases_from_any _ _ _ Seen (λ space. Seen space → ⊥) c.any.ensures.ran (YieldsList-from_slice c.args.spaces.now cc) (λ x q k. search (rules, tests)) (λ x q k. search (rules, tests)) in
    any_seen codespace_seen Begins c.args.spaces.now c.any.result answer
