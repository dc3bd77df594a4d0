use Rattle.std.proofs.Common.{◌≡◌, ℕ, ◌+◌, ◌-◌, List, ap, sym, ◌∙◌, subst, arith}
use Rattle.std.specs.Prelude.{slice_index, unwrap_or}
use Rattle.cmap_values.specs.DeclarationsSeen.{bf_entry_seen}
use Rattle.cmap_tokens.specs.Texts.{only_character, text_at}
use Rattle.cmap_layers.specs.Lookups.{bf_at}
use Rattle.cmap_layers.proofs.RowWritten.{one_written, written_none, IsWrittenTo}
use Rattle.cmap_layers.proofs.row.write_text.Goals as goal
use Rattle.cmap_layers.proofs.row.write_text.Goals.{in-Some, in_default}

pub loop-index-init : goal.loop-index-init
loop-index-init c = written_none _ c.args.code c.args.cids.now

pub loop-index-preserved : goal.loop-index-preserved
loop-index-preserved c =
    let entry = bf_entry_seen c.args.declaration.now in let code = c.args.code in let start = c.args.declaration.now.range.start in
    let said = λ (k : ℕ). only_character (bf_at entry k) in let index = c.loop-index.index in let old = c.args.cids.now in let now = c.loop-index.cids in
    let was = slice_index old index in
    let moved : code - start + index ≡ code + index - start = omega arith in
    elim c.match-one_char.branch [
      | in-Some w ↦
          let same = w.in-Some.ensures ∙ ap (λ units. only_character (text_at units (code - start + index))) c.as_slice-units.ensures ∙ ap (λ n. only_character (text_at entry.units n)) moved in
          subst (λ (cids : List ℕ). IsWrittenTo said code old cids (index + 1)) (sym w.cids-is) (one_written said code old now index w.from.result c.loop-index.invariant (omega arith) (w.from.ensures ∙ ap (λ o. unwrap_or o was) same))
      | in_default w ↦
          let same = w.in_default.ensures ∙ ap (λ units. only_character (text_at units (code - start + index))) c.as_slice-units.ensures ∙ ap (λ n. only_character (text_at entry.units n)) moved in
          subst (λ (cids : List ℕ). IsWrittenTo said code old cids (index + 1)) (sym w.cids-is) (one_written said code old now index (slice_index now index) c.loop-index.invariant (omega arith) (c.loop-index.invariant.rest index (omega arith) ∙ ap (λ o. unwrap_or o was) same))
    ]

pub returns : goal.returns
returns c = λ k lt. c.loop-index.invariant.codes k (omega arith)
