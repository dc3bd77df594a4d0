use Rattle.std.proofs.Common.{◌≡◌, Some, ap, sym, ◌∙◌}
use Rattle.cmap_binary.proofs.entries.add_text_entries.Goals as goal

pub returns-in-Some-eq1 : goal.returns-in-Some-eq1
returns-in-Some-eq1 c = let one : c.args.fixed ≡ Some 1 = c.in-Some-eq1.is ∙ ap Some (sym c.in-Some-eq1.field-0-is ∙ c.in-Some-eq1.field-0-test) in rw one c.add_each_text.ensures

pub returns-in-Some-eq1-2 : goal.returns-in-Some-eq1-2
returns-in-Some-eq1-2 c = let one : c.args.fixed ≡ Some 1 = c.in-Some-eq1.is ∙ ap Some (sym c.in-Some-eq1.field-0-is ∙ c.in-Some-eq1.field-0-test) in rw one c.add_each_text-in-Some-eq1-2.ensures
