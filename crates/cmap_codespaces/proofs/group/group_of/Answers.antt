use Rattle.std.proofs.Common.{◌≡◌, ◌≢◌, ℕ, ◌+◌, ◌<◌, ◌⊎◌, List, length, get_or, refl, ap, sym, subst, rules, arith}
use Rattle.std.specs.Prelude.{◌↔◌}
use Rattle.std.specs.Int.{bit_at}
use Rattle.std.proofs.lemmas.Option.{slice_get_read}
use Rattle.cmap_codespaces.specs.SpaceBits.{HasGroup, HasRange, row_count}
use Rattle.cmap_codespaces.proofs.RowBits.{all_bits, more_bits, no_bits, written_back}
use Rattle.cmap_codespaces.proofs.group.group_of.Goals as goal

pub loop-index-init : goal.loop-index-init
loop-index-init c = no_bits HasRange c.args.blocks.now c.args.first c.in_ok-rows.rows.items c.in_ok-rows.ensures

pub loop-index-preserved : goal.loop-index-preserved
loop-index-preserved c =
    let blocks = c.args.blocks.now in let first = c.args.first in let index = c.loop-index.index in let old = c.loop-index.rows.items in let new = c.mark_rows.new.rows in
    let was : c.deref_mut.result.now ≡ old = search rules in
    let size : length new ≡ row_count = omega (arith, c.loop-index.invariant.size, ap (λ (l : List ℕ). length l) was) in
    let is = written_back new old c.loop-index.rows.len (omega (arith, c.loop-index.invariant.size)) in
    let block = c.index-blocks-first.result in
    let here : c.deref.result.now ≡ block.items = search rules in
    let set : (row i : ℕ) → row < row_count → (bit_at (get_or new row 0) i ≡ 1) ↔ ((bit_at (get_or old row 0) i ≡ 1) ⊎ ((i ≡ index) × (get_or block.items row 0 ≢ 0))) = λ row i within. rw (← was, ← here) (c.mark_rows.ensures row i within) in
    subst (HasGroup blocks first (index + 1)) (sym is)
    (more_bits HasRange blocks first index block old new (slice_get_read blocks _ (first + index) block refl (omega arith) c.index-blocks-first.is) c.loop-index.invariant size set)

pub returns : goal.returns
returns c = all_bits HasRange c.args.blocks.now c.args.first _ c.loop-index.rows.items c.requires.first (omega arith) c.loop-index.invariant
