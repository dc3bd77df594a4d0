-- What contracts see of declarations.
use Rattle.std.specs.Prelude.{List, map}
use Rattle.std.specs.Global.{Vec}
use Rattle.cmap_values.specs.Spans.{Span}
use Rattle.cmap_values.specs.CodeLengths.{length_of}
use Rattle.cmap_values.specs.Files as files
use Rattle.cmap_values.specs.declared.code_length.CodeLength.{CodeLength}
use Rattle.cmap_values.specs.declared.code_length.CodeLength.TheVariants.{One, Two, Three, Four}
use Rattle.cmap_values.specs.declared.declarations.ByLength.{ByLength}
use Rattle.cmap_values.specs.declared.declarations.CidRange.{CidRange}
use Rattle.cmap_values.specs.declared.declarations.BfRange.{BfRange}
use Rattle.cmap_values.specs.declared.declarations.Codespace.{Codespace}
use Rattle.cmap_values.specs.declared.declarations.Lists.{Lists}
use Rattle.cmap_values.specs.UnitsSeen.{units_seen}

abbrev pub cid_range_span : CidRange → Span
cid_range_span declaration = record { start = declaration.range.start; end = declaration.range.end }

abbrev pub bf_range_span : BfRange → Span
bf_range_span declaration = record { start = declaration.range.start; end = declaration.range.end }

abbrev pub cid_entry_seen : CidRange → files.CidEntry
cid_entry_seen declaration = record { start = declaration.range.start; end = declaration.range.end; cid = declaration.cid }

abbrev pub bf_entry_seen : BfRange → files.BfEntry
bf_entry_seen declaration = record { start = declaration.range.start; end = declaration.range.end; units = units_seen declaration.units }

abbrev pub codespace_seen : Codespace → files.Codespace
codespace_seen space = record { len = length_of space.len; low = space.low; high = space.high }

abbrev pub entries_seen : List CidRange → List files.CidEntry
entries_seen declarations = map cid_entry_seen declarations

abbrev pub by_length_seen : ByLength (Vec CidRange) → files.ByLength
by_length_seen lists = record { one = entries_seen lists.one.items; two = entries_seen lists.two.items; three = entries_seen lists.three.items; four = entries_seen lists.four.items }

abbrev pub lists_seen : Lists → files.Lists
lists_seen lists = record {
  cids = by_length_seen lists.cids;
  notdefs = by_length_seen lists.notdefs;
  bfs = map bf_entry_seen lists.bfs.items;
  spaces = map codespace_seen lists.spaces.items;
}

-- the value for codes of a length
abbrev pub slot : {T : Type 0} → ByLength T → CodeLength → T
slot lists One = lists.one
slot lists Two = lists.two
slot lists Three = lists.three
slot lists Four = lists.four
