-- Declarations of texts that could be one.
use Rattle.std.proofs.Common.{◌≡◌, ◌+◌, ◌-◌, refl, ap, ◌∙◌, arith}
use Rattle.cmap_tokens.specs.Texts.{shifted}
use Rattle.cmap_edit.specs.Consecutive.{IsLayout, text_layout}
use Rattle.cmap_edit.proofs.TextUnits.{shifted_is, shifted_twice}

pub texts_merged : IsLayout text_layout
texts_merged = record {
  filled = λ e row. row.0.0;
  meets = λ e later one. one.0.0;
  row = λ e later row row_too one.
      let (front, same, small, made, last) = shifted_is e.units later.units (later.start - e.start) one.1 in
      ((omega arith, one.0.1 ∙ row_too.0.1, row_too.0.2), row.1, row.2, omega arith);
  spans = λ e later. refl;
  old = λ e later code. refl;
  new = λ e later code row row_too one from to.
      ap (shifted e.units) (let same : code - e.start ≡ later.start - e.start + (code - later.start) = omega arith in same)
      ∙ shifted_twice e.units later.units (later.start - e.start) (code - later.start) one.1;
  before = λ x e later one. one;
}
