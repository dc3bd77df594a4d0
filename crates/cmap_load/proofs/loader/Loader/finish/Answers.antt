use Rattle.std.proofs.Common.{refl}
use Rattle.cmap_load.specs.Numbers.{text_at}
use Rattle.cmap_load.proofs.Meant.{meant, within_means}
use Rattle.cmap_load.proofs.TableLayers.{loaded}
use Rattle.cmap_load.proofs.loader.Loader.finish.Goals as goal

pub returns-in-Ok-clause-loads : goal.returns-in-Ok-clause-loads
returns-in-Ok-clause-loads g c =
    let load = c.args.self in let texts = g.N.Texts.texts load.list in let graph = load.table.graph in
    let within = rw c.in-Whole.is at c.requires.loading.follows in
    record {
      by = λ tables answers reads.
          let shows = rw c.in-Whole.is at reads.ready in
          loaded tables answers texts load.table shows graph.budget c.in-Ok.layers c.in-Ok.ensures
          (λ bytes there. within_means tables answers (text_at texts) graph (meant tables answers texts load.table c.requires.loading.set.table shows) graph.budget refl bytes there within);
    }

pub returns-in-Ok-clause-within : goal.returns-in-Ok-clause-within
returns-in-Ok-clause-within g c =
    let load = c.args.self in let texts = g.N.Texts.texts load.list in let graph = load.table.graph in
    let within = rw c.in-Whole.is at c.requires.loading.follows in
    record {
      by = λ tables answers reads.
          let shows = rw c.in-Whole.is at reads.ready in
          record { from = λ bytes there. within_means tables answers (text_at texts) graph (meant tables answers texts load.table c.requires.loading.set.table shows) graph.budget refl bytes there within };
    }
