use Rattle.std.proofs.Common.{Some, None, ap, inl, inr, map, refl, sym, ◌∙◌, subst, arith}
use Rattle.std.specs.Prelude.{option_map}
use Rattle.std.specs.Option.{option_copied}
use Rattle.cmap_runs.specs.Stretches.{IsLongest, IsStretch}
use Rattle.cmap_values.specs.DeclarationsSeen.{bf_entry_seen, bf_range_span}
use Rattle.cmap_layers.specs.Lookups.{bf_span}
use Rattle.cmap_layers.proofs.LayerStretches.{found_text, longest_texts}
use Rattle.cmap_layers.proofs.RowWritten.{character_said_in}
use Rattle.cmap_layers.proofs.stretches.characters_in.Goals as goal

pub returns-in-Some-clause-cids : goal.returns-in-Some-clause-cids
returns-in-Some-clause-cids c = λ code le lt.
    let table = c.args.texts.now in let last = c.stretch-stretch.result.last in let d = c.in-Some.declaration.now in
    let here = subst (λ o. IsStretch bf_range_span table c.args.first last (option_copied o)) c.in-Some.is c.stretch-stretch.ensures.same in
    ap (option_map (λ x. Some x)) (character_said_in table c.args.first last code (Some d) here le (omega (arith, lt, c.declared_characters.ensures.within))) ∙ c.declared_characters.ensures.cids code le lt

pub returns-in-None-clause-cids : goal.returns-in-None-clause-cids
returns-in-None-clause-cids c = λ code le lt.
    let table = c.args.texts.now in let last = c.stretch-stretch.result.last in
    let here = subst (λ o. IsStretch bf_range_span table c.args.first last (option_copied o)) c.in-None.is c.stretch-stretch.ensures.same in
    ap (option_map (λ x. Some x)) (character_said_in table c.args.first last code None here le lt)

pub returns-in-None-clause-ends : goal.returns-in-None-clause-ends
returns-in-None-clause-ends c =
    inl (longest_texts c.args.texts.now (map bf_entry_seen c.args.texts.now) c.args.first c.stretch-stretch.result.last refl c.stretch-stretch.ensures.longest)

pub returns-in-Some-clause-ends : goal.returns-in-Some-clause-ends
returns-in-Some-clause-ends c =
    let table = c.args.texts.now in let d = c.in-Some.declaration.now in let last = c.declared_characters.result.last in let stretch = c.stretch-stretch.result.last in
    elim c.declared_characters.ensures.ends [
      | inl same ↦ inl (subst (IsLongest (map bf_span (map bf_entry_seen table)) c.args.first) (sym same)
          (longest_texts table (map bf_entry_seen table) c.args.first stretch refl c.stretch-stretch.ensures.longest))
      | inr row ↦ inr (
          let here = subst (λ o. IsStretch bf_range_span table c.args.first stretch (option_copied o)) c.in-Some.is c.stretch-stretch.ensures.same in
          (bf_entry_seen d, found_text table (map bf_entry_seen table) c.args.first stretch last (Some d) refl here (omega (arith, c.declared_characters.ensures.within)) (omega (arith, c.declared_characters.ensures.within)), row))
    ]
