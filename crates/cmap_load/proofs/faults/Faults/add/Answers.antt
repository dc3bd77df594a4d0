use Rattle.std.proofs.Common.{[], ap, sym, ◌∙◌}
use Rattle.std.specs.Prelude.{map}
use Rattle.std.proofs.lemmas.Result.{on_ok_weaker}
use Rattle.cmap_load.specs.SalvageSeen.{found_of}
use Rattle.cmap_load.proofs.Listed.{any_one, fault_put, lists_new, lists_same}
use Rattle.cmap_load.proofs.faults.Faults.add.Goals as goal

pub returns-then-has : goal.returns-then-has
returns-then-has c = lists_same c.args.self.now c.args.self.now c.args.names.now c.args.cause [] (sym c.has.ensures ∙ c.if-has.true)

pub returns : goal.returns
returns c =
    let (fault, made, items) = c.in_ok-put_last.ensures.added in
    let (same, cause) = rw made at c.new.ensures in
    let added = fault_put c.args.self.now.list.items c.put_last.new.list.items fault c.args.names.now c.args.cause items same cause in
    on_ok_weaker c.mark.result (λ marks. lists_new c.args.self.now c.mark.new.self c.args.names.now c.args.cause [] (sym c.has.ensures ∙ c.if-has.false) (ap (λ l. map found_of l.items) c.mark.ensures.same ∙ added) (λ names name kind. any_one names c.args.cause name kind) marks)
    c.mark.ensures.marked
