use Rattle.std.proofs.Common.{◌≡◌, ◌∙◌, ◌∷◌, [], List, ap, arith, inl, inr, refl, sym, subst}
use Rattle.std.specs.Prelude.{map, Some, None}
use Rattle.std.proofs.lemmas.Option.{slice_get_read}
use Rattle.cmap_values.specs.declared.fault.Stop.{Stop}
use Rattle.cmap_load.specs.Budgets.{IsOver}
use Rattle.cmap_load.specs.BytesSpent.{Leaves}
use Rattle.cmap_load.specs.Kept.{files_of, length_of}
use Rattle.cmap_load.specs.SalvageSeen.{HasRoom}
use Rattle.cmap_load.specs.declared.refusal.Cause.TheVariants.{Malformed, OverBudget}
use Rattle.cmap_load.specs.declared.salvage.walk.Walk.{Walk}
use Rattle.cmap_load.proofs.KeptFiles.{there}
use Rattle.cmap_load.proofs.Walked.{listed_on}
use Rattle.cmap_load.proofs.salvage.walk.read_within.Goals as goal

room : (stops : List Stop) → HasRoom (map Malformed stops)
room [] = tt
room (stop ∷ stops) = tt

pub returns-then-not-spend : goal.returns-then-not-spend
returns-then-not-spend g c =
    let files = files_of g.N.Texts.texts c.args.files.now in
    let (over, left) = rw c.if-not-spend.true at c.spend.ensures.over in
    let lists = listed_on files c.args.walk.now c.add_fault.new.self (OverBudget ∷ []) c.requires.kept c.requires.known c.in_ok-add_fault.ensures.listed in
    let after = c.add_fault.ensures.same in
    let node = slice_get_read files.table.graph.nodes.items _ c.args.at c.index.result.now refl (there files c.args.at c.requires.kept c.requires.read) c.index.ensures in
    record {
      reads = record {
        causes = OverBudget ∷ [];
        reads = inl (subst (IsOver c.args.walk.now.search.left) (sym (ap length_of node)) over, refl, refl, ap (λ w. w.search.left) after ∙ left);
        on = record { names = ap (λ w. w.search.names.items) after; all = lists.all };
        marked = lists.marked;
        known = ap (λ w. w.search.known) after;
        read = λ whole. absurd (let cut = ap (λ w. w.is_cut) after in cc);
        closed = ap (λ w. w.is_closed) after;
      };
      same = tt;
    }

pub index-requires-2 : goal.index-requires-2
index-requires-2 g c =
    let files = files_of g.N.Texts.texts c.args.files.now in
    let lt = there files c.args.at c.requires.kept c.requires.read in let long = c.requires.kept.stops in
    omega (arith, lt, long, c.args.files.now.stops.ok.0)

pub unreachable-requires : goal.unreachable-requires
unreachable-requires g c =
    let files = files_of g.N.Texts.texts c.args.files.now in
    let lt = there files c.args.at c.requires.kept c.requires.read in let long = c.requires.kept.stops in
    let at = slice_get_read files.stops _ c.args.at c.index-2.result.now refl (omega (arith, lt, long)) c.index-2.ensures in
    let (stops, is) = c.requires.read in
    let both : Some c.index-2.result.now ≡ Some (Some stops) = sym at ∙ is in
    let none = c.in_default.is in
    let e : c.index-2.result.now ≡ Some stops = cc in
    let no : None ≡ Some stops = sym none ∙ e in
    absurd (cc)

pub returns : goal.returns
returns g c =
    let files = files_of g.N.Texts.texts c.args.files.now in
    let adds = rw (c.deref-2.ensures.value, c.deref.ensures.value) at c.in_ok-add_stops.ensures in
    let after : Walk = record c.args.walk.now { faults = c.add_stops.new.self } in
    let lists = listed_on files c.args.walk.now after (map Malformed c.in-Some.stops.items) c.requires.kept c.requires.known adds in
    let lt = there files c.args.at c.requires.kept c.requires.read in let long = c.requires.kept.stops in
    let node = slice_get_read files.table.graph.nodes.items _ c.args.at c.index.result.now refl lt c.index.ensures in
    let at = slice_get_read files.stops _ c.args.at c.index-2.result.now refl (omega (arith, lt, long)) c.index-2.ensures in
    let stops = c.in-Some.stops in
    record {
      reads = record {
        causes = map Malformed stops.items;
        reads = inr (stops.items, subst (λ n. Leaves c.args.walk.now.search.left n c.spend.new.left) (sym (ap length_of node)) (rw c.if-not-spend.false at c.spend.ensures.spent), (stops, at ∙ ap Some c.in-Some.is, refl, refl), refl);
        on = record { names = refl; all = lists.all };
        marked = lists.marked;
        known = refl;
        read = λ whole. (whole, room stops.items);
        closed = refl;
      };
      same = refl;
    }
