use Rattle.std.proofs.Common.{◌≡◌, ℕ, ◌<◌, ◌+◌, ◌⊎◌, List, length, get_or, ap, sym, subst, rules, arith}
use Rattle.std.proofs.lemmas.Option.{slice_get-get_or}
use Rattle.std.specs.Prelude.{◌↔◌}
use Rattle.std.specs.Int.{bit_at}
use Rattle.cmap_values.specs.DeclarationsSeen.{codespace_seen}
use Rattle.cmap_values.specs.declared.code_length.CodeLength.TheVariants.{One}
use Rattle.cmap_values.specs.declared.declarations.Codespace.{Codespace}
use Rattle.cmap_codespaces.specs.SpaceBits.{HaveBits, InRow, IsInRow, row_count}
use Rattle.cmap_codespaces.proofs.RowBits.{all_bits, more_bits, no_bits, written_back}
use Rattle.cmap_codespaces.proofs.block.rows_of.Goals as goal

pub loop-index-init : goal.loop-index-init
loop-index-init c = no_bits IsInRow c.args.spaces.now c.args.first c.in_ok-rows.rows.items c.in_ok-rows.ensures

pub loop-index-preserved : goal.loop-index-preserved
loop-index-preserved c =
    let spaces = c.args.spaces.now in let first = c.args.first in let index = c.loop-index.index in let old = c.loop-index.rows.items in let new = c.add.new.rows in
    let was : c.deref_mut.result.now ≡ old = search rules in
    let size : length new ≡ row_count = omega (arith, c.loop-index.invariant.size, ap (λ (l : List ℕ). length l) was) in
    let whole : length new ≡ c.loop-index.rows.len = omega (arith, c.loop-index.invariant.size) in
    let is = written_back new old c.loop-index.rows.len whole in
    let none : Codespace = record { len = One; low = 0; high = 0 } in
    let space = get_or spaces (first + index) none in
    let set : (row i : ℕ) → row < row_count → (bit_at (get_or new row 0) i ≡ 1) ↔ ((bit_at (get_or old row 0) i ≡ 1) ⊎ ((i ≡ index) × InRow row (codespace_seen space))) = λ row i within. rw (← was) (c.add.ensures row i within) in
    subst (HaveBits spaces first (index + 1)) (sym is) (more_bits IsInRow spaces first index space old new (slice_get-get_or spaces (first + index) none (omega arith)) c.loop-index.invariant size set)

pub returns : goal.returns
returns c = all_bits IsInRow c.args.spaces.now c.args.first _ c.loop-index.rows.items c.requires (omega arith) c.loop-index.invariant
