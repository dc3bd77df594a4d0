use Rattle.std.proofs.Common.{◌-◌, Some, refl, sym, ap, ◌∙◌, arith}
use Rattle.std.specs.Prelude.{option_map}
use Rattle.cmap_tokens.specs.Texts.{only_character, text_at}
use Rattle.cmap_layers.proofs.TextsCounted.{counted_from}
use Rattle.cmap_layers.proofs.stretches.declared_characters.Goals as goal
use Rattle.cmap_layers.proofs.stretches.declared_characters.Goals.{in-Some, in-None}

pub returns-clause-cids : goal.returns-clause-cids
returns-clause-cids c = λ code le lt.
    let start = c.args.declaration.now.range.start in
    let counted = counted_from c.as_slice-units.result.now start c.args.first code c.further_texts-more.result c.one_char.result c.requires.start le (omega arith) c.one_char.ensures c.further_texts-more.ensures.count in
    let is = ap (λ units. option_map (λ x. Some x) (only_character (text_at units (code - start)))) (sym c.as_slice-units.ensures) ∙ ap (option_map (λ x. Some x)) counted in
    elim c.match-one_char.branch [
      | in-Some w ↦ is ∙ rw (w.in-Some.is, w.cids-is, w.from.ensures) refl
      | in-None w ↦ is ∙ rw (w.in-None.is, w.cids-is) refl
    ]
