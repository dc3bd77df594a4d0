use Rattle.std.proofs.Common.{◌+◌, ◌-◌, ◌≤◌, subst, arith}
use Rattle.std.specs.Prelude.{option_map}
use Rattle.std.specs.Option.{option_copied}
use Rattle.cmap_values.specs.DeclarationsSeen.{bf_entry_seen}
use Rattle.cmap_layers.specs.CodeStretches.{IsTextStretch}
use Rattle.cmap_unicode.proofs.RowsEnd.{map_ends}
use Rattle.cmap_unicode.proofs.rows.last_in_row.Goals as goal

pub returns-in-Some-clause-longest : goal.returns-in-Some-clause-longest
returns-in-Some-clause-longest c = λ small.
    let map = c.args.map.now in let first = c.args.first in let stretch = c.text_stretch-stretch in let d = c.in-Some.declaration.now in let more = c.further_texts-more.result in
    let starts : d.range.start ≤ first = rw c.in-Some.is at stretch.ensures.start in
    let here = subst (λ o. IsTextStretch map first stretch.result.last (option_map bf_entry_seen (option_copied o))) c.in-Some.is stretch.ensures.texts in
    let ends = rw c.as_slice.ensures at c.further_texts-more.ensures.ends in
    map_ends map first stretch.result.last more (first + c.min.result) (bf_entry_seen d) here starts stretch.ensures.within (omega arith) (omega (arith, c.min.ensures)) ends small
