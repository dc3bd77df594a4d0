use Rattle.std.proofs.Common.{sym, subst, map, ℕ, Option}
use Rattle.std.specs.Global.{Vec}
use Rattle.cmap_load.specs.Kept.{IsSalvaged, files_of, layers_on}
use Rattle.cmap_load.specs.SalvageSeen.{AreNamed, fault_named}
use Rattle.cmap_load.specs.declared.faults.FoundFault.{FoundFault}
use Rattle.cmap_load.proofs.KeptRead.{path_fits}
use Rattle.cmap_load.proofs.NamesPastFaults.{found_few}
use Rattle.cmap_load.proofs.Walked.{walks_top}
use Rattle.cmap_load.proofs.salvage.kept.KeptFiles.walk.Goals as goal

pub returns-in-Ok-clause-walks : goal.returns-in-Ok-clause-walks
returns-in-Ok-clause-walks g c =
    let files = files_of g.N.Texts.texts c.args.self.now in let budget = files.table.graph.budget in
    let is = walks_top files budget c.in_ok-walk.walk c.walk_file.new.walk c.in-Ok.chain c.in_ok-walk.ensures.names c.in_ok-walk.ensures.faults c.in_ok-walk.ensures.opening c.in-Ok.ensures.walks in
    subst (λ (path : Vec (Option ℕ)). IsSalvaged files budget (layers_on files path.items) (map (fault_named files.texts) c.found_files.result.faults.items)) (sym c.found_files.ensures.path)
    (subst (λ (faults : Vec FoundFault). IsSalvaged files budget (layers_on files c.in-Ok.chain.path.items) (map (fault_named files.texts) faults.items)) (sym c.found_files.ensures.faults) is)

pub returns-in-Ok-clause-follows : goal.returns-in-Ok-clause-follows
returns-in-Ok-clause-follows g c =
    let files = files_of g.N.Texts.texts c.args.self.now in
    let faults = c.found_files.result.faults.items in
    let (some, few) = path_fits files files.table.graph.budget c.found_files.result.path.items (map (fault_named files.texts) faults) (returns-in-Ok-clause-walks g c) in
    let named = subst (λ (found : Vec FoundFault). AreNamed files.texts found.items) (sym c.found_files.ensures.faults) c.in-Ok.ensures.walks.knows.marked.named in
    (some, few, named, found_few files files.table.graph.budget (layers_on files c.found_files.result.path.items) faults (returns-in-Ok-clause-walks g c))
