use Rattle.std.proofs.Common.{length, ap, subst, arith}
use Rattle.cmap_binary.specs.TableFronts.{TableAt}
use Rattle.cmap_binary_writer.specs.EncodersSeen.{encoders_seen}
use Rattle.cmap_binary_writer.specs.Written.{Appends, Writes}
use Rattle.cmap_bundle_maker.proofs.BundlesWritten.{HoldsTables-written}
use Rattle.cmap_bundle_maker.proofs.bundle.tables_text.Goals as goal

pub returns-clause-written : goal.returns-clause-written
returns-clause-written c =
    let tables = encoders_seen c.args.tables.now in
    HoldsTables-written tables c.write.new.out.items c.write-2.new.out.items
    (subst (λ old. Appends old c.write.new.out.items (Writes (TableAt 4) tables.delta)) c.new-text.ensures.items c.in_ok-write.ensures.written)
    c.in_ok-write-2.ensures.written

pub returns-clause-len : goal.returns-clause-len
returns-clause-len c = omega (arith, c.in_ok-write-2.ensures.len, c.in_ok-write.ensures.len, ap length c.new-text.ensures.items)
