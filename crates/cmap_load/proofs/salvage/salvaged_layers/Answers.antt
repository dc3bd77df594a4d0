use Rattle.std.proofs.Common.{subst, sym, ap, map, ◌∙◌}
use Rattle.cmap_binary.specs.BundleSeen.{tables_given}
use Rattle.cmap_load.specs.NameLists.{texts_of}
use Rattle.cmap_load.specs.Salvage.{SalvagesMap}
use Rattle.cmap_load.specs.SalvageLoads.{IsGiven, faults_of}
use Rattle.cmap_load.specs.SalvageSeen.{fault_named, faults_seen}
use Rattle.cmap_load.proofs.KeptRead.{Salvages-new, map_agreed}
use Rattle.cmap_load.proofs.NamesPastFaults.{map_few}
use Rattle.cmap_load.proofs.SalvagedMaps.{right_map, wrong_map}
use Rattle.cmap_load.proofs.salvage.salvaged_layers.Goals as goal

pub returns : goal.returns
returns g c =
    let tables = tables_given c.args.bundle in let answers = g.S.Source.answers c.args.source.now in let bytes = c.args.«data».now in
    let budget = c.args.budget in let by_name = c.requires.by_name in
    let loads = c.in_ok-supply_all.ensures.loads budget bytes (Salvages-new texts_of c.in_ok-load.load c.in_ok-load.ensures.budget c.in_ok-load.ensures.reads) in
    let layers = c.in_ok-layers.layers in let refusals = c.in_ok-faults.faults.items in let faults = faults_seen refusals in
    let same = c.in_ok-faults.ensures ∙ ap (map (fault_named (texts_of c.supply_all.new.load.files.load.list))) c.found_faults.ensures in
    let given = subst (λ b. SalvagesMap tables (IsGiven loads.answers) bytes b layers (faults_of texts_of c.supply_all.new.load)) loads.within (c.in_ok-layers.ensures.by tables loads.answers bytes loads.reads loads.first) in
    let says = map_agreed tables (IsGiven loads.answers) answers bytes budget layers faults loads.agrees (subst (λ f. SalvagesMap tables (IsGiven loads.answers) bytes budget layers f) (sym same) given) in
    record {
      says = says;
      right = right_map tables answers bytes budget by_name layers faults says;
      wrong = wrong_map tables answers bytes budget by_name layers faults says;
      few = map_few tables answers bytes budget layers refusals says;
    }
