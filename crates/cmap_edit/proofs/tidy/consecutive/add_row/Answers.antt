use Rattle.std.proofs.Common.{◌≡◌, ◌<◌, ◌-◌, ◌++◌, ◌∷◌, [], Some, length, map, set, refl, subst, sym, ap, ◌∙◌, true≢false}
use Rattle.std.specs.Prelude.{slice_get}
use Rattle.std.proofs.lemmas.List.{map-append}
use Rattle.std.proofs.lemmas.Option.{same_Some}
use Rattle.cmap_edit.specs.Consecutive.{AddsRowIn}
use Rattle.cmap_edit.proofs.ListsEnd.{at_end, seen_last, seen_none, seen_set, set_back}
use Rattle.cmap_edit.proofs.TidyAdded.{row_pushed, row_went_on}
use Rattle.cmap_edit.proofs.tidy.consecutive.add_row.Goals as goal
use Rattle.cmap_edit.proofs.tidy.consecutive.add_row.Goals.{in-Some+else-join, in_default}

pub join-requires-clause-row : goal.join-requires-clause-row
join-requires-clause-row g c = let kind = g.C.Consecutive in
    at_end kind.layout.IsRow _ _ (seen_last kind.seen c.args.list.now.items _ c.in-Some.last.now c.args.list.now.ok.0 (c.in-Some.ensures.variant.0 refl) c.in-Some.ensures.value) c.requires.tidy.rows

pub join-requires-clause-after : goal.join-requires-clause-after
join-requires-clause-after g c = let kind = g.C.Consecutive in
    at_end (λ e. (kind.layout.span e).end < (kind.layout.span (kind.seen c.args.row)).start) _ _ (seen_last kind.seen c.args.list.now.items _ c.in-Some.last.now c.args.list.now.ok.0 (c.in-Some.ensures.variant.0 refl) c.in-Some.ensures.value) c.requires.after

pub returns-then-join-clause-added : goal.returns-then-join-clause-added
returns-then-join-clause-added g c =
    let kind = g.C.Consecutive in let layout = kind.layout in let list = c.args.list.now in
    let old = map kind.seen list.items in let last = c.in-Some.last.now in let row = kind.seen c.args.row in
    let found = seen_last kind.seen list.items _ last list.ok.0 (c.in-Some.ensures.variant.0 refl) c.in-Some.ensures.value in
    let (one, is) = c.join.ensures.joined c.if-join.true in
    subst (AddsRowIn layout old row) (sym (seen_set kind.seen list.items _ c.join.new.entry list.ok.0 ∙ ap (set old (length old - 1)) is))
    (row_went_on layout.span layout.at layout.IsRow layout.CouldBeOne layout.merge c.requires.layout old (kind.seen last) row c.requires.tidy c.requires.after c.requires.row found one)

pub returns-clause-added : goal.returns-clause-added
returns-clause-added g c =
    let kind = g.C.Consecutive in let layout = kind.layout in let list = c.args.list.now in
    let old = map kind.seen list.items in let row = kind.seen c.args.row in
    let apart : (last : kind.Seen) → slice_get old (length old - 1) ≡ Some last → layout.CouldBeOne last row → ⊥ =
    elim c.match-last_mut.branch [
      | in-Some+else-join w ↦ λ last is one.
          let found = seen_last kind.seen list.items _ w.in-Some.last.now list.ok.0 (w.in-Some.ensures.variant.0 refl) w.in-Some.ensures.value in
          let same : last ≡ kind.seen w.in-Some.last.now = same_Some _ _ (sym is ∙ found) in
          (w.join.ensures.same w.if-join.false).1 (subst (λ e. layout.CouldBeOne e row) same one)
      | in_default w ↦ λ last is one. seen_none kind.seen list.items _ last list.ok.0 (λ some. true≢false (sym (w.in_default.ensures.variant.1 some))) is
    ]
    in
    let same : c.match-last_mut.list.items ≡ list.items =
    elim c.match-last_mut.branch [
      | in-Some+else-join w ↦ ap (λ l. l.items) w.list-is ∙ ap (set list.items _) (w.join.ensures.same w.if-join.false).0 ∙ set_back list.items _ w.in-Some.last.now w.in-Some.ensures.value
      | in_default w ↦ ap (λ l. l.items) w.list-is
    ]
    in
    let pushed = ap (map kind.seen) (c.in_ok-push.ensures.items ∙ ap (λ xs. xs ++ c.args.row ∷ []) same) ∙ map-append kind.seen list.items (c.args.row ∷ []) in
    subst (AddsRowIn layout old row) (sym pushed)
    (row_pushed layout.span layout.at layout.IsRow layout.CouldBeOne layout.merge c.requires.layout old row c.requires.tidy c.requires.after c.requires.row apart)
