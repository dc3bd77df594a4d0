use Rattle.std.proofs.Common.{◌++◌, ◌∷◌, [], subst, sym, List}
use Rattle.std.specs.Option.{option_copied}
use Rattle.std.specs.Prelude.{IfSome, Some}
use Rattle.cmap_binary.specs.BundleSeen.{tables_given}
use Rattle.cmap_load.specs.Kept.{files_of}
use Rattle.cmap_load.specs.Loading.{Answer}
use Rattle.cmap_load.specs.SalvageLoads.{IsReady, ReadsPast, wanted_by}
use Rattle.cmap_load.proofs.Grown.{on_err}
use Rattle.cmap_load.proofs.Growing.{bytes_at_front}
use Rattle.cmap_load.proofs.KeptRead.{ready_open}
use Rattle.cmap_load.proofs.salvage.loader.SalvageLoader.supply.Goals as goal

pub returns-in_err-progress-clause-same : goal.returns-in_err-progress-clause-same
returns-in_err-progress-clause-same g c = on_err c.from_residual.result (λ tables answers reads. record {
  top = reads.top;
  first = reads.first;
  ready = subst (λ now. IsReady tables answers reads.top (files_of g.N.Texts.texts c.supply.new.self) now) (sym c.in-Wanted.is) (c.in_err-progress.ensures.stays.reads tables answers reads.top (rw c.in-Wanted.is at reads.ready));
})

pub returns-clause-reads : goal.returns-clause-reads
returns-clause-reads g c =
    let tables = tables_given c.args.bundle in let given = option_copied c.args.bytes in let old = c.args.self.now in
    let new = record old { files = c.supply.new.self; progress = c.in_ok-progress.progress } in
    subst (λ now. IfSome (wanted_by (g.N.Texts.texts old.files.load.list) now) (λ name. (answers : List Answer) → ReadsPast g.N.Texts.texts tables answers old → ReadsPast g.N.Texts.texts tables (answers ++ record { name = Some name; bytes = given } ∷ []) new)) (sym c.in-Wanted.is)
    (λ answers reads. record {
      top = reads.top;
      first = bytes_at_front answers _ 0 reads.top reads.first;
      ready = ready_open tables _ reads.top (files_of g.N.Texts.texts c.supply.new.self) c.in_ok-progress.progress c.in_ok-progress.ensures.«open» (c.in_ok-progress.ensures.adds.reads answers reads.top (rw c.in-Wanted.is at reads.ready));
    })
