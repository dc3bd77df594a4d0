use Rattle.std.proofs.Common.{◌∷◌, [], ◌∙◌, ap, map, refl, subst, sym}
use Rattle.std.specs.Prelude.{None, Some}
use Rattle.cmap_binary.specs.BundleSeen.{tables_given}
use Rattle.cmap_layers.specs.Layers.{layer_of}
use Rattle.cmap_values.specs.ListsAppended.{no_file}
use Rattle.cmap_load.specs.Kept.{files_of, layers_on}
use Rattle.cmap_load.specs.Salvage.{SalvagesMap}
use Rattle.cmap_load.specs.SalvageLoads.{IsGiven}
use Rattle.cmap_load.specs.SalvageSeen.{fault_named, fault_of}
use Rattle.cmap_load.proofs.Listed.{found_all}
use Rattle.cmap_load.proofs.KeptRead.{map_too_long, ready_open}
use Rattle.cmap_load.proofs.salvage.loader.SalvageLoader.new.Goals as goal

pub returns-then-exceeds-clause-reads : goal.returns-then-exceeds-clause-reads
returns-then-exceeds-clause-reads g c =
    let tables = tables_given c.args.bundle in let top = c.args.«data».now in let files = files_of g.N.Texts.texts c.new-files.result in
    let answers = record { name = None; bytes = Some top } ∷ [] in
    let found = c.in_ok-found_too_long.field-0 in
    record {
      top = top;
      first = refl;
      ready = subst (λ budget. SalvagesMap tables (IsGiven answers) top budget (layers_on files found.path.items) (map (fault_named files.texts) found.faults.items)) (sym c.new-files.ensures.table.within)
          (subst (λ path. SalvagesMap tables (IsGiven answers) top c.args.budget (layers_on files path) (map (fault_named files.texts) found.faults.items)) (sym c.in_ok-found_too_long.ensures.path)
          (subst (λ faults. SalvagesMap tables (IsGiven answers) top c.args.budget (layer_of no_file ∷ []) faults) (sym (found_all files.texts found.faults.items ∙ ap (map (fault_of files.texts)) c.in_ok-found_too_long.ensures.faults)) (map_too_long tables answers top c.args.budget c.if-exceeds.ensures.over)));
    }

pub returns-clause-reads : goal.returns-clause-reads
returns-clause-reads g c =
    let read = c.in_ok-progress.ensures in
    record {
      top = c.args.«data».now;
      first = refl;
      ready = ready_open (tables_given c.args.bundle) _ c.args.«data».now (files_of g.N.Texts.texts c.read.new.self) c.in_ok-progress.progress read.«open» (read.adds.1 c.new-files.ensures.table.nodes c.new-files.ensures.long);
    }
