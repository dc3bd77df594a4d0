use Rattle.std.proofs.Common.{ap, cond, sym, ◌∙◌, Some}
use Rattle.std.specs.Prelude.{◌&&◌, ◌||◌}
use Rattle.std.specs.BTreeMap.{get_by}
use Rattle.std.specs.Ordering.{nat_cmp}
use Rattle.cmap_load.specs.SalvageSeen.{is_last, is_marked}
use Rattle.cmap_load.specs.declared.faults.Faults.{Faults}
use Rattle.cmap_load.specs.Salvage.{is_same_kind}
use Rattle.cmap_load.proofs.Listed.{last_numbered, marked_more}
use Rattle.cmap_load.proofs.NumbersEqual.{at_number}
use Rattle.cmap_load.proofs.faults.Faults.mark.Goals as goal

pub returns-in-Ok-clause-marked : goal.returns-in-Ok-clause-marked
returns-in-Ok-clause-marked c = λ number other.
    let key = c.in-Some.name.now in
    let kinds = c.add.new.self in
    let old = c.args.self.now in
    let new : Faults = record old { kinds = c.insert.new.self } in
    let updates = c.in-Ok.ensures.updates.0 number ∙ ap (λ b. cond b (Some kinds) (get_by (λ k. nat_cmp number k) old.kinds)) (at_number key number) in
    marked_more key number kinds old new c.args.cause other updates (c.add.ensures other ∙ ap (λ m. is_same_kind other c.args.cause || m) (c.kinds_of-kinds.ensures other))
    ∙ ap (λ last. is_last number last && is_same_kind other c.args.cause || is_marked old number other) (sym (last_numbered c.args.names.now key c.in-Some.ensures.value))
