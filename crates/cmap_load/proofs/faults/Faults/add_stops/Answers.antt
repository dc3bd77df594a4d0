use Rattle.std.proofs.Common.{ap, sym, ◌∙◌, ◌++◌, subst, None}
use Rattle.std.specs.Prelude.{◌&&◌, ◌||◌, map}
use Rattle.std.specs.BTreeMap.{get_by}
use Rattle.std.specs.List.{last_or}
use Rattle.std.specs.Ordering.{nat_cmp}
use Rattle.std.proofs.lemmas.Result.{on_ok_weaker}
use Rattle.cmap_load.specs.Salvage.{is_same_kind}
use Rattle.cmap_load.specs.SalvageSeen.{AddsFaults, found_of, has_kind_of, is_last}
use Rattle.cmap_load.specs.declared.refusal.Cause.TheVariants.{Malformed}
use Rattle.cmap_load.proofs.Listed.{any_stops, begins_with, lists_new, lists_none, lists_same, none_first, numbered_stops}
use Rattle.cmap_load.proofs.faults.Faults.add_stops.Goals as goal

pub returns-in_default : goal.returns-in_default
returns-in_default c = subst (λ s. AddsFaults c.args.self.now c.args.self.now c.args.names.now (map Malformed s)) (sym (none_first c.args.stops.now c.in_default.ensures.value)) (lists_none c.args.self.now c.args.names.now)

pub returns-then-has : goal.returns-then-has
returns-then-has c =
    let old = c.args.self.now in
    let first = c.in-Some.first.now in
    let (more, begins) = begins_with c.args.stops.now first c.in-Some.ensures.value in
    subst (λ s. AddsFaults old old c.args.names.now (map Malformed s)) (sym begins) (lists_same old old c.args.names.now (Malformed first) (map Malformed more) (sym c.has.ensures ∙ c.if-has.true))

pub returns : goal.returns
returns c =
    let numbers = c.args.names.now in
    let old = c.args.self.now in
    let new = c.mark.new.self in
    let first = c.in-Some.first.now in
    let (more, begins) = begins_with c.args.stops.now first c.in-Some.ensures.value in
    let added = rw begins at (ap (λ l. map found_of l.items) c.mark.ensures.same ∙ c.in_ok-put_stops.ensures.added ∙ ap (λ l. map found_of old.list.items ++ l) (numbered_stops numbers c.args.stops.now)) in
    on_ok_weaker c.mark.result (λ marks. subst (λ s. AddsFaults old new numbers (map Malformed s)) (sym begins)
    (lists_new old new numbers (Malformed first) (map Malformed more) (sym c.has.ensures ∙ c.if-has.false) added (λ names name kind. any_stops name kind names first more)
    (λ number kind. marks number kind ∙ ap (λ k. is_last number (last_or None numbers) && is_same_kind kind (Malformed first) || has_kind_of (get_by (λ o. nat_cmp number o) k) kind) c.in_ok-put_stops.ensures.same)))
    c.mark.ensures.marked
