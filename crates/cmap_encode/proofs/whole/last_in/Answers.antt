use Rattle.std.proofs.Common.{arith}
use Rattle.cmap_codespaces.specs.CodesWithin.{IsWithin}
use Rattle.cmap_values.specs.CodeLengths.{length_of}
use Rattle.cmap_values.specs.DeclarationsSeen.{codespace_seen}
use Rattle.cmap_encode.proofs.WholeCodes.{any_at}
use Rattle.cmap_encode.proofs.whole.last_in.Goals as goal

pub returns-then-is_full-clause-inside : goal.returns-then-is_full-clause-inside
returns-then-is_full-clause-inside c = λ number from to.
    any_at codespace_seen (λ space. IsWithin space number (length_of c.args.code.len)) c.args.spaces.now c.loop-space.space-index _ (omega arith) (c.last_within.ensures.inside number (omega arith) to)
