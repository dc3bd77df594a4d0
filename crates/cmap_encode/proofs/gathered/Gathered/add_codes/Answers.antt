use Rattle.std.proofs.Common.{arith}
use Rattle.cmap_values.specs.CodeLengths.{length_of}
use Rattle.cmap_encode.specs.Maps.{maps_seen}
use Rattle.cmap_encode.proofs.GatheredRows.{all_gathered}
use Rattle.cmap_encode.proofs.gathered.Gathered.add_codes.Goals as goal

pub returns : goal.returns
returns c = all_gathered (maps_seen c.args.maps.now) (length_of c.args.len) c.loop-next.next c.loop-next.self (omega (arith, c.loop-next-test.false, c.from-last.ensures, c.last_code.ensures)) c.loop-next.invariant
