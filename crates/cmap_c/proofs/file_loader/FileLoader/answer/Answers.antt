use Rattle.std.specs.Option.{option_copied}
use Rattle.cmap_binary.specs.BundleSeen.{tables_given}
use Rattle.cmap_c.proofs.LoadersAsked.{answered-past, answered-refusing}
use Rattle.cmap_c.proofs.file_loader.FileLoader.answer.Goals.{in-PastFaults, in-Refusing}
use Rattle.cmap_c.proofs.file_loader.FileLoader.answer.Goals as goal

pub returns-clause-answered : goal.returns-clause-answered
returns-clause-answered c =
    let tables = tables_given c.args.tables in
    let file = option_copied c.args.file in
    elim c.match-self.branch [
      | in-Refusing w ↦
          let ensures = w.supply.ensures in
          rw (w.result-is, w.self-inside-is, ← c.self.view_is, w.in-Refusing.is) (answered-refusing tables file w.supply.result w.in-Refusing.loader w.supply.new.self ensures.budget ensures.reads ensures.further)
      | in-PastFaults w ↦
          let ensures = w.supply-in-PastFaults.ensures in
          rw (w.result-is, w.self-inside-is, ← c.self.view_is, w.in-PastFaults.is) (answered-past tables file w.supply-in-PastFaults.result w.in-PastFaults.loader w.supply-in-PastFaults.new.self ensures.budget ensures.reads ensures.further)
    ]
