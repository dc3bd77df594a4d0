use Rattle.std.proofs.Common.{inl, inr, refl}
use Rattle.cmap_binary.specs.BundleSeen.{tables_seen}
use Rattle.cmap_binary.specs.ColumnsSeen.{shape_seen}
use Rattle.cmap_binary.proofs.Fronts.{gives, then_none, then_next, then_only}
use Rattle.cmap_binary.proofs.EntriesByColumns.{bfs_same}
use Rattle.cmap_binary.proofs.Reading.{made_none, made_only, same_none, same_only}
use Rattle.cmap_binary.proofs.RowsAdded.{in_words}
use Rattle.cmap_binary.proofs.entries.add_texts.Goals as goal

pub returns-in_default : goal.returns-in_default
returns-in_default c = (tt, (made_none (then_none _ _ c.in_default.ensures), inl (c.in_default.ensures, refl)))

pub returns-in_default-take_columns : goal.returns-in_default-take_columns
returns-in_default-take_columns c =
    let same = bfs_same (tables_seen c.args.tables.now) (shape_seen c.args.shape) c.args.fixed c.in-Some.count c.take_u16.new.text.now in (
      tt,
      (
        made_none (then_next _ c.in-Some.ensures (same_none same (then_none _ _ c.in_default-take_columns.ensures))),
        inr (_, _, c.in-Some.ensures.holds, inl (c.in_default-take_columns.ensures, refl)),
      ),
    )

pub returns : goal.returns
returns c =
    let same = bfs_same (tables_seen c.args.tables.now) (shape_seen c.args.shape) c.args.fixed c.in-Some.count c.take_u16.new.text.now in
    in_words c.add_text_entries.result c.add_text_entries.ensures
    (λ row. record {
      declared = _;
      only = made_only (then_only _ c.in-Some.ensures (same_only same (then_only _ c.in-Some-take_columns.ensures (then_only _ row.only gives))));
      says = rw c.reserve.ensures.items at row.says;
    })
    (λ reason is. (
      made_none (then_next _ c.in-Some.ensures (same_none same (then_next _ c.in-Some-take_columns.ensures (then_none _ _ is.0)))),
      inr (_, _, c.in-Some.ensures.holds, inr (_, _, c.in-Some-take_columns.ensures.holds, is.1)),
    ))
