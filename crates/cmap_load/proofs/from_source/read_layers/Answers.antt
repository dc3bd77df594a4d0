use Rattle.std.proofs.Common.{subst, ap, map, ◌∙◌}
use Rattle.std.specs.Prelude.{Err, Ok}
use Rattle.cmap_binary.specs.BundleSeen.{tables_given}
use Rattle.cmap_values.specs.declared.fault.Fault.TheVariants as fault
use Rattle.cmap_load.specs.Loads.{FitsGiven}
use Rattle.cmap_load.specs.NameLists.{texts_of}
use Rattle.cmap_load.specs.Numbers.{text_at}
use Rattle.cmap_load.proofs.Loaded.{IsRefused-same, Loads-new, found}
use Rattle.cmap_load.proofs.from_source.read_layers.Goals as goal

pub returns-in-Ok : goal.returns-in-Ok
returns-in-Ok g c =
    let tables = tables_given c.args.bundle in let budget = c.args.budget in
    let loads = c.in_ok-supply_all.ensures.loads budget c.args.«data».now (Loads-new c.in_ok-load.load c.in_ok-load.ensures.budget c.in_ok-load.ensures.reads) in
    let loaded = c.in-Ok.ensures.loads.by tables loads.answers loads.reads in
    let fits = subst (λ b. FitsGiven tables b loads.answers) loads.within (c.in-Ok.ensures.within.by tables loads.answers loads.reads) in
    found tables budget c.requires.by_name loads.answers loads.first loads.agrees (Ok c.in-Ok.layers) loaded fits tt

pub returns-in_ok-refusal-in-Err-Refused : goal.returns-in_ok-refusal-in-Err-Refused
returns-in_ok-refusal-in-Err-Refused g c =
    let tables = tables_given c.args.bundle in let budget = c.args.budget in
    let loads = c.in_ok-supply_all.ensures.loads budget c.args.«data».now (Loads-new c.in_ok-load.load c.in_ok-load.ensures.budget c.in_ok-load.ensures.reads) in
    let refusal = c.in_ok-refusal-in-Err-Refused.refusal in
    let refused = rw c.in-Err-Refused.field-0-is at c.in-Err-Refused.ensures.refuses in
    let by = refused.by.by tables loads.answers loads.reads in
    let told = c.in_ok-refusal-in-Err-Refused.ensures in
    let is = IsRefused-same tables loads.answers by loads.within (told.names ∙ ap (map (text_at (texts_of c.in-Err-Refused.refused.list))) c.as_slice-names.ensures.value) told.cause in
    found tables budget c.requires.by_name loads.answers loads.first loads.agrees (Err (fault.Refused refusal)) tt tt is
