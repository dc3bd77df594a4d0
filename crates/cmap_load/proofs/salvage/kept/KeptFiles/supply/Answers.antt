use Rattle.std.proofs.Common.{ap, subst, sym}
use Rattle.std.specs.Option.{option_copied}
use Rattle.cmap_binary.specs.BundleSeen.{tables_given}
use Rattle.cmap_load.specs.SalvageLoads.{AddsAnswer}
use Rattle.cmap_load.proofs.KeptFiles.{on_ok_as}
use Rattle.cmap_load.specs.Kept.{files_of}
use Rattle.cmap_load.proofs.salvage.kept.KeptFiles.supply.Goals as goal

pub returns-in_default-clause-adds : goal.returns-in_default-clause-adds
returns-in_default-clause-adds g c =
    let tables = tables_given c.args.bundle in
    on_ok_as c.add_nothing.result c.add_nothing.ensures.adds (λ adds. subst (λ given. AddsAnswer tables (files_of g.N.Texts.texts c.args.self.now) (files_of g.N.Texts.texts c.add_nothing.new.self) c.args.name given) (sym (ap option_copied c.in_default.is)) (adds tables))

pub returns-then-exceeds-clause-adds : goal.returns-then-exceeds-clause-adds
returns-then-exceeds-clause-adds g c =
    let tables = tables_given c.args.bundle in
    on_ok_as c.add_too_long.result c.add_too_long.ensures.adds (λ adds. subst (λ given. AddsAnswer tables (files_of g.N.Texts.texts c.args.self.now) (files_of g.N.Texts.texts c.add_too_long.new.self) c.args.name given) (sym (ap option_copied c.in-Some.is)) (adds tables))
