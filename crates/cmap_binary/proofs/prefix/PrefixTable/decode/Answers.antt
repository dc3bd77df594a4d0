use Rattle.std.proofs.Common.{subst}
use Rattle.std.proofs.lemmas.List.{drop-drop}
use Rattle.cmap_binary.specs.PrefixWords.{Decodes, bits}
use Rattle.cmap_binary.proofs.BitsOfBytes.{AreBits-left}
use Rattle.cmap_binary.proofs.TablesDecoded.{BeginsAt-none, BeginsAt-only, first_decodes, first_few}
use Rattle.cmap_binary.proofs.prefix.PrefixTable.decode.Goals as goal

pub returns-in_err-word-clause-none : goal.returns-in_err-word-clause-none
returns-in_err-word-clause-none c =
    rw (c.from_residual.ensures, ← c.self.view_is) (BeginsAt-none c.self.invariant.table _ (AreBits-left c.args.reader.now) (rw (c.fill.ensures.same, c.queue-bits.ensures) at c.in_err-word.ensures.first))

pub returns-in_err-word-clause-only : goal.returns-in_err-word-clause-only
returns-in_err-word-clause-only c = rw (← c.self.view_is) (BeginsAt-only c.self.invariant.table _ (AreBits-left c.args.reader.now))

pub skip_bits-requires-clause-few : goal.skip_bits-requires-clause-few
skip_bits-requires-clause-few c = first_few c.self.invariant.table _ _ _ c.in_ok-word.ensures.first

pub skip_bits-requires-clause-within : goal.skip_bits-requires-clause-within
skip_bits-requires-clause-within c = (first_decodes c.self.invariant.table _ _ _ (AreBits-left c.args.reader.now) (rw (c.fill.ensures.same, c.queue-bits.ensures) at c.in_ok-word.ensures.first)).1

pub returns-clause-only : goal.returns-clause-only
returns-clause-only c = rw (← c.self.view_is) (BeginsAt-only c.self.invariant.table _ (AreBits-left c.args.reader.now))

pub returns-clause-found : goal.returns-clause-found
returns-clause-found c =
    let (next, enough) = first_decodes c.self.invariant.table _ _ _ (AreBits-left c.args.reader.now) (rw (c.fill.ensures.same, c.queue-bits.ensures) at c.in_ok-word.ensures.first) in
    let after = drop-drop c.in_ok-word.word.len c.args.reader.now.taken (bits c.args.reader.now.source) in
    (_, rw (← c.self.view_is, c.skip_bits.ensures) (subst (Decodes _ _ _ _) after next), c.skip_bits.ensures)
