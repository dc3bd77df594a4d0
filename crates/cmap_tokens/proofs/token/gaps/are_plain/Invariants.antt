use Rattle.std.proofs.Common.{◌≡◌, take}
use Rattle.std.specs.List.{list_all}
use Rattle.std.specs.Prelude.{not}
use Rattle.cmap_tokens.specs.TokenReading.{is_plain}
use Rattle.cmap_tokens.proofs.token.gaps.are_plain.Given as goal

abbrev pub invariant-loop-byte : goal.invariant-loop-byte
invariant-loop-byte l = not l.ends ≡ list_all is_plain (take l.byte-index l.bytes)
