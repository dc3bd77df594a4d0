use Rattle.std.proofs.Common.{ap, sym, ◌∙◌}
use Rattle.cmap_load.specs.SalvageSeen.{is_marked_last}
use Rattle.cmap_load.proofs.Listed.{last_numbered}
use Rattle.cmap_load.proofs.faults.Faults.has.Goals as goal

pub returns-in-Some : goal.returns-in-Some
returns-in-Some c = c.has.ensures ∙ c.kinds_of.ensures c.args.cause ∙ ap (λ last. is_marked_last c.args.self.now last c.args.cause) (sym (last_numbered c.args.names.now c.in-Some.name.now c.in-Some.ensures.value))
