use Rattle.std.proofs.Common.{◌≡◌, ◌+◌, ◌-◌, None, Some, map, sym, ap, ◌∙◌, true≢false}
use Rattle.std.proofs.lemmas.Result.{on_ok_weaker}
use Rattle.cmap_tokens.specs.Texts.{shifted, text_at}
use Rattle.cmap_values.specs.DeclarationsSeen.{bf_entry_seen}
use Rattle.cmap_values.specs.UnitsSeen.{units_seen}
use Rattle.cmap_layers.specs.Lookups.{bf_at}
use Rattle.cmap_edit.proofs.FlattenTextsAdded.{no_text_from, none_added, same_texts, text_from}
use Rattle.cmap_edit.proofs.TextUnits.{shifted_past}
use Rattle.cmap_edit.proofs.flatten.texts.add_declared.Goals as goal

pub returns-then-not-fits : goal.returns-then-not-fits
returns-then-not-fits c =
    let e = bf_entry_seen c.args.declaration.now in let range = c.args.range in let first = range.start in
    let none : shifted e.units (first - e.start) ≡ None = ap (λ us. shifted us (first - e.start)) (sym c.as_slice-units.ensures)
    ∙ shifted_past c.as_slice-units.result.now (first - e.start) (λ some small. true≢false (sym (c.fits.ensures.1 (some, small)) ∙ c.if-not-fits.true)) in
    none_added (map bf_entry_seen c.args.texts.now.items) range c.requires.room c.requires.range (λ code. bf_at e code) (λ code le within. no_text_from e first code c.requires.start le none)

pub returns : goal.returns
returns c =
    let e = bf_entry_seen c.args.declaration.now in let range = c.args.range in let first = range.start in let made = units_seen c.in_ok-units.units in
    let is : shifted e.units (first - e.start) ≡ Some made = ap (λ us. shifted us (first - e.start)) (sym c.as_slice-units.ensures) ∙ c.in_ok-units.ensures in
    on_ok_weaker c.add_units.result (same_texts (map bf_entry_seen c.args.texts.now.items) (map bf_entry_seen c.add_units.new.texts.items) first (range.end + 1) (λ code. text_at c.as_slice.result.now (code - first)) (λ code. bf_at e code)
    (λ code le within. ap (λ us. text_at us (code - first)) c.as_slice.ensures ∙ text_from e first code c.requires.start le made is)) c.add_units.ensures
