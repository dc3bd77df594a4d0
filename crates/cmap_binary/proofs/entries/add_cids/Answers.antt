use Rattle.std.proofs.Common.{◌≡◌, ℕ, zero, suc, ◌<◌, List, map, arith, inl, inr, refl, ap, ◌∙◌}
use Rattle.cmap_values.specs.CodeLengths.{length_of}
use Rattle.cmap_values.specs.Files.{cid, lists_of}
use Rattle.cmap_values.specs.Only.{HoldsOfNone}
use Rattle.cmap_values.specs.ListsAppended.{append_lists}
use Rattle.cmap_binary.specs.Bundles.{PrefixTables}
use Rattle.cmap_binary.specs.BinaryEntries.{Shape}
use Rattle.cmap_binary.specs.EntryByEntry.{CidEntryAt, CidsByEntry, CidsOf, ColumnsAt}
use Rattle.cmap_binary.specs.WrongSegments.{MissesThen, WrongCidEntries, WrongCidEntry, WrongInRow}
use Rattle.cmap_values.specs.declared.fault.Reason.{Reason}
use Rattle.cmap_values.specs.declared.fault.Reason.TheVariants.{Field}
use Rattle.cmap_values.specs.declared.fault.Segment.TheVariants.{Cids}
use Rattle.cmap_binary.specs.BundleSeen.{tables_seen}
use Rattle.cmap_binary.specs.ColumnsSeen.{shape_seen}
use Rattle.cmap_binary.proofs.Fronts.{gives, then_none, then_next, then_only}
use Rattle.cmap_binary.proofs.EntriesByColumns.{cids_same}
use Rattle.cmap_binary.proofs.Reading.{made_none, made_only, same_none, same_only}
use Rattle.cmap_binary.proofs.RowsAdded.{adds_none, in_words}
use Rattle.cmap_binary.proofs.entries.add_cids.Goals as goal

-- of some entries the columns are read
some_cids : (tables : PrefixTables) (shape : Shape) (n : ℕ) (text : List ℕ) → 0 < n → CidsByEntry tables shape n text ≡ CidsOf tables shape n text
some_cids tables shape zero text some = absurd (omega (arith, some))
some_cids tables shape (suc m) text some = refl

-- the same of what is wrong
some_wrong : (tables : PrefixTables) (shape : Shape) (n : ℕ) (text : List ℕ) (reason : Reason) → 0 < n
    → WrongCidEntries tables shape n text reason ≡ MissesThen (ColumnsAt shape text) (Field Cids) (λ columns raws. WrongInRow (CidEntryAt tables) (WrongCidEntry tables) n (record { columns = columns; raws = raws; next = 0 })) reason
some_wrong tables shape zero text reason some = absurd (omega (arith, some))
some_wrong tables shape (suc m) text reason some = refl

pub returns-in_default : goal.returns-in_default
returns-in_default c = (tt, (made_none (then_none _ _ c.in_default.ensures), inl (c.in_default.ensures, refl)))

pub returns-then-count-eq0 : goal.returns-then-count-eq0
returns-then-count-eq0 c = (record { declared = _; only = made_only (then_only _ (rw c.if-count-eq0.true at c.in-Some.ensures) gives); says = adds_none _ }, tt)

pub returns-in_default-take_columns : goal.returns-in_default-take_columns
returns-in_default-take_columns c =
    let tables = tables_seen c.args.tables.now in let shape = shape_seen c.args.shape in let text = c.take_u16.new.text.now in
    let none : HoldsOfNone (CidsByEntry tables shape c.in-Some.count text) = rw (some_cids tables shape c.in-Some.count text (omega arith)) (then_none _ _ c.in_default-take_columns.ensures) in (
      tt,
      (
        made_none (then_next _ c.in-Some.ensures (same_none (cids_same tables shape c.in-Some.count text) none)),
        inr (_, _, c.in-Some.ensures.holds, rw (some_wrong _ _ c.in-Some.count _ _ (omega arith)) (inl (c.in_default-take_columns.ensures, refl))),
      ),
    )

pub returns : goal.returns
returns c =
    let tables = tables_seen c.args.tables.now in let shape = shape_seen c.args.shape in let len = length_of c.args.len in
    let here = some_cids tables shape c.in-Some.count c.take_u16.new.text.now (omega arith) in
    let same = cids_same tables shape c.in-Some.count c.take_u16.new.text.now in
    in_words c.add_cid_entries.result c.add_cid_entries.ensures
    (λ row.
    let only = then_only _ c.in-Some-take_columns.ensures (then_only _ row.only gives) in
    record {
      declared = _;
      only = made_only (then_only _ c.in-Some.ensures (same_only same (rw here only)));
      says = row.says ∙ ap (λ lists. append_lists lists (lists_of (map (cid len) row.entries))) c.reserve_cids.ensures.same;
    })
    (λ reason is. (
      made_none (then_next _ c.in-Some.ensures (same_none same (rw here (then_next _ c.in-Some-take_columns.ensures (then_none _ _ is.0))))),
      inr (_, _, c.in-Some.ensures.holds, rw (some_wrong _ _ c.in-Some.count _ reason (omega arith)) (inr (_, _, c.in-Some-take_columns.ensures.holds, is.1))),
    ))
