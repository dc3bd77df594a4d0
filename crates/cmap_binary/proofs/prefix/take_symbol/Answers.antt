use Rattle.std.proofs.Common.{sym, subst, arith}
use Rattle.cmap_binary.specs.PrefixWords.{Decodes}
use Rattle.cmap_binary.proofs.BitsAhead.{ahead_after}
use Rattle.cmap_binary.proofs.BitsOfBytes.{AreBits-ahead}
use Rattle.cmap_binary.proofs.TablesDecoded.{BeginsAt-none, BeginsAt-only, first_decodes}
use Rattle.cmap_binary.proofs.prefix.take_symbol.Goals as goal

pub returns-in_err-word-clause-none : goal.returns-in_err-word-clause-none
returns-in_err-word-clause-none c =
    rw (c.from_residual.ensures, ← c.table.view_is) (BeginsAt-none c.table.invariant.table _ (AreBits-ahead c.args.bits.now) (rw c.fill.ensures.same at c.in_err-word.ensures.first))

pub returns-in_err-word-clause-only : goal.returns-in_err-word-clause-only
returns-in_err-word-clause-only c = rw (← c.table.view_is) (BeginsAt-only c.table.invariant.table _ (AreBits-ahead c.args.bits.now))

pub returns-clause-only : goal.returns-clause-only
returns-clause-only c = rw (← c.table.view_is) (BeginsAt-only c.table.invariant.table _ (AreBits-ahead c.args.bits.now))

pub returns-clause-found : goal.returns-clause-found
returns-clause-found c =
    let (next, enough) = first_decodes c.table.invariant.table _ _ _ (AreBits-ahead c.fill.new.self) c.in_ok-word.ensures.first in
    let after = sym (ahead_after c.fill.new.self c.in_ok-word.word.len c.in_ok-word.ensures.at_hand) in
    (c.in_ok-word.word.len, rw (← c.table.view_is, c.skip-2.ensures, ← c.fill.ensures.same) (subst (Decodes _ _ _ _) after next))

pub skip-requires : goal.skip-requires
skip-requires c = (c.look_up-known.ensures c.table.inside.counts.items c.table.inside.symbols.items c.table.invariant.knows (omega (arith, c.if-known-ne0.true))).0

pub returns-then-known-ne0-clause-only : goal.returns-then-known-ne0-clause-only
returns-then-known-ne0-clause-only c = rw (← c.table.view_is) (BeginsAt-only c.table.invariant.table _ (AreBits-ahead c.args.bits.now))

pub returns-then-known-ne0-clause-found : goal.returns-then-known-ne0-clause-found
returns-then-known-ne0-clause-found c =
    let (enough, first) = c.look_up-known.ensures c.table.inside.counts.items c.table.inside.symbols.items c.table.invariant.knows (omega (arith, c.if-known-ne0.true)) in
    let (next, within) = first_decodes c.table.invariant.table _ _ _ (AreBits-ahead c.fill.new.self) first in
    let after = sym (ahead_after c.fill.new.self c.look_up-known.result.len enough) in
    (c.look_up-known.result.len, rw (← c.table.view_is, c.skip.ensures, ← c.fill.ensures.same) (subst (Decodes _ _ _ _) after next))
