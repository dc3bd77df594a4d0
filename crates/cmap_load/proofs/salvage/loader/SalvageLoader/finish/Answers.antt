use Rattle.std.proofs.Common.{◌≡◌, ◌∙◌, ap, map, sym, subst, List}
use Rattle.std.specs.Prelude.{Some}
use Rattle.cmap_layers.specs.Layers.{Layer}
use Rattle.cmap_load.specs.Kept.{layer_in}
use Rattle.cmap_load.specs.Salvage.{NamedFault, SalvagesMap}
use Rattle.cmap_load.specs.SalvageLoads.{IsGiven, budget_in, faults_by}
use Rattle.cmap_load.specs.SalvageSeen.{fault_named}
use Rattle.cmap_load.specs.declared.salvage.kept.Progress.{Progress}
use Rattle.cmap_load.specs.declared.salvage.kept.Progress.TheVariants as progress
use Rattle.cmap_load.proofs.salvage.loader.SalvageLoader.finish.Goals as goal

pub returns : goal.returns
returns g c = record {
  by = λ tables answers top reads first.
      let loader = c.args.self in let found = c.in-Found.found in let budget = budget_in loader in
      let faults : Progress → List NamedFault = λ now. map (fault_named (g.N.Texts.texts loader.files.load.list)) (faults_by now) in
      let layers = c.of.ensures ∙ c.in_ok-layers.ensures.layers ∙ ap (map (layer_in loader.files.load.table.contents.items)) c.deref.ensures.value in
      let both : Some reads.top ≡ Some top = sym reads.first ∙ first in
      let same : reads.top ≡ top = cc in
      subst (λ (f : List NamedFault). SalvagesMap tables (IsGiven answers) top budget c.of.result f) (ap faults (sym c.in-Found.is))
      (subst (λ bytes. SalvagesMap tables (IsGiven answers) bytes budget c.of.result (faults (progress.Found found))) same
      (subst (λ (l : List Layer). SalvagesMap tables (IsGiven answers) reads.top budget l (faults (progress.Found found))) (sym layers) (rw c.in-Found.is at reads.ready)));
}
