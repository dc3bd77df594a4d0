use Rattle.std.proofs.Common.{subst, sym}
use Rattle.cmap_load.specs.Loading.{IsWanted}
use Rattle.cmap_load.proofs.Supplied.{wanted_new}
use Rattle.cmap_load.proofs.loader.Loader.wanted.Goals as goal

pub returns-in-Wanted-clause-new : goal.returns-in-Wanted-clause-new
returns-in-Wanted-clause-new g c = λ tables answers reads.
    let load = c.args.self.now in
    let (begun, awaits) = rw c.in-Wanted.is at c.requires.follows in
    let shows = rw c.in-Wanted.is at reads.ready in
    subst (IsWanted tables answers) (sym c.text.ensures) (wanted_new tables answers (g.N.Texts.texts load.list) load.table c.requires.set.table shows c.in-Wanted.wanted begun.some awaits)
