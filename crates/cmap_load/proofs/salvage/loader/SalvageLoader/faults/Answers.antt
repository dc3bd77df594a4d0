use Rattle.std.proofs.Common.{◌≡◌, ◌≤◌, ◌∙◌, ap, length, map}
use Rattle.std.specs.Global.{Vec}
use Rattle.std.specs.List.{All}
use Rattle.cmap_load.specs.Kept.{files_of}
use Rattle.cmap_load.specs.SalvageLoads.{faults_by, faults_of}
use Rattle.cmap_load.specs.SalvageSeen.{fault_named, faults_seen}
use Rattle.cmap_load.specs.declared.refusal.Refusal.{Refusal}
use Rattle.cmap_load.proofs.KeptRead.{few_by}
use Rattle.cmap_load.proofs.NamesPastFaults.{seen_few}
use Rattle.cmap_load.proofs.Walked.{ok_as}
use Rattle.cmap_load.proofs.salvage.loader.SalvageLoader.faults.Goals as goal

pub returns-clause-faults : goal.returns-clause-faults
returns-clause-faults g c =
    let loader = c.args.self.now in let named = map (fault_named (g.N.Texts.texts loader.files.load.list)) in
    ok_as {P = λ (refusals : Vec Refusal). faults_seen refusals.items ≡ named c.found_faults.result.now} {Q = λ (refusals : Vec Refusal). faults_seen refusals.items ≡ faults_of g.N.Texts.texts loader} c.refusals.result c.refusals.ensures
    (λ refusals same. same ∙ ap named c.found_faults.ensures)

pub returns-clause-few : goal.returns-clause-few
returns-clause-few g c =
    let loader = c.args.self.now in let texts = g.N.Texts.texts loader.files.load.list in
    let few = few_by (files_of g.N.Texts.texts loader.files) loader.progress c.requires.salvaging.follows in
    ok_as {P = λ (refusals : Vec Refusal). faults_seen refusals.items ≡ faults_of g.N.Texts.texts loader} {Q = λ (refusals : Vec Refusal). All (λ fault. length fault.names.items ≤ 16) refusals.items} c.refusals.result (returns-clause-faults g c)
    (λ refusals same. seen_few texts (faults_by loader.progress) refusals.items same few)
