use Rattle.cmap_load.specs.NameLists.{number_of, texts_of}
use Rattle.cmap_load.proofs.Numbered.{distinct}
use Rattle.cmap_load.proofs.names.NameSlicesNames.number.Goals as goal

pub returns-clause-distinct : goal.returns-clause-distinct
returns-clause-distinct c = λ was. distinct (number_of c.add.new.self) (texts_of c.add.new.self) c.in_ok-add.ensures.numbered
