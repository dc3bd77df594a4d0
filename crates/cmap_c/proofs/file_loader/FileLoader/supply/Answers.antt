use Rattle.std.specs.Option.{option_copied}
use Rattle.cmap_binary.specs.BundleSeen.{tables_given}
use Rattle.cmap_c.proofs.LoadersAsked.{supplied}
use Rattle.cmap_c.proofs.file_loader.FileLoader.supply.Goals as goal

pub returns-in-Ok-clause-supplies : goal.returns-in-Ok-clause-supplies
returns-in-Ok-clause-supplies c =
    λ _. supplied (option_copied c.args.bundle) c.args.found c.args.file.now c.name.result.now c.args.self.now c.wants.new.self c.answer.new.self
    (tables_given c.tables_of.result) (option_copied c.file_named-file.result) c.wants.ensures.asked c.name.ensures.name c.tables_of.ensures c.file_named-file.ensures c.in-Ok.ensures.answered
