use Rattle.std.proofs.Common.{◌≡◌, ◌∙◌, ap, true}
use Rattle.cmap_load.specs.NameCopies.{texts_of}
use Rattle.cmap_load.specs.SalvageLoads.{faults_of, is_settled}
use Rattle.cmap_load.specs.SalvageSeen.{faults_seen}
use Rattle.cmap_c.proofs.LoadersAsked.{shows}
use Rattle.cmap_c.proofs.file_loader.FileLoader.shown_faults.Goals as goal

pub returns : goal.returns
returns c =
    let loader = c.in-PastFaults.loader in
    let settled : is_settled loader ≡ true = rw (← c.self.view_is, c.in-PastFaults.is) at c.requires in
    let same : faults_seen c.deref.result.now ≡ faults_of texts_of loader = ap faults_seen c.deref.ensures.value ∙ c.in_ok-faults.ensures.faults in
    rw (← c.self.view_is, c.in-PastFaults.is) (shows loader (faults_seen c.deref.result.now) c.in_ok-of.field-0 settled same c.in_ok-of.ensures)
