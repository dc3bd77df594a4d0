use Rattle.std.proofs.Common.{◌≡◌, ℕ, ◌<◌, ◌+◌, ◌⊎◌, List, length, get_or, ap, sym, subst, rules, arith}
use Rattle.std.proofs.lemmas.Option.{slice_get-get_or}
use Rattle.std.specs.Prelude.{◌↔◌}
use Rattle.std.specs.Int.{bit_at}
use Rattle.cmap_values.specs.CodeLengths.{length_of}
use Rattle.cmap_values.specs.DeclarationsSeen.{codespace_seen}
use Rattle.cmap_values.specs.declared.code_length.CodeLength.TheVariants.{One}
use Rattle.cmap_values.specs.declared.declarations.Codespace.{Codespace}
use Rattle.cmap_codespaces.specs.SpaceBits.{BeginsInRow, HaveLengths, front_row_count}
use Rattle.cmap_codespaces.proofs.RowBits.{written_back}
use Rattle.cmap_codespaces.proofs.FrontRows.{lengths_more, no_lengths_yet}
use Rattle.cmap_codespaces.proofs.lengths.rows_of.Goals as goal

pub loop-index-init : goal.loop-index-init
loop-index-init c = no_lengths_yet c.args.spaces.now c.in_ok-rows.rows.items c.in_ok-rows.ensures

pub loop-index-preserved : goal.loop-index-preserved
loop-index-preserved c =
    let spaces = c.args.spaces.now in let index = c.loop-index.index in let old = c.loop-index.rows.items in let new = c.add_length.new.rows in
    let none : Codespace = record { len = One; low = 0; high = 0 } in
    let space = get_or spaces index none in
    let was : c.deref_mut.result.now ≡ old = search rules in
    let size : length new ≡ front_row_count = omega (arith, c.loop-index.invariant.size, ap (λ (l : List ℕ). length l) was) in
    let whole : length new ≡ c.loop-index.rows.len = omega (arith, c.loop-index.invariant.size) in
    let is = written_back new old c.loop-index.rows.len whole in
    let set : (row i : ℕ) → row < front_row_count → (bit_at (get_or new row 0) i ≡ 1) ↔ ((bit_at (get_or old row 0) i ≡ 1) ⊎ ((i ≡ length_of space.len) × BeginsInRow row (codespace_seen space))) = λ row i within. rw (← was) (c.add_length.ensures row i within) in
    subst (HaveLengths spaces (index + 1)) (sym is) (lengths_more spaces index space old new (slice_get-get_or spaces index none (omega arith)) c.loop-index.invariant size set)

pub returns : goal.returns
returns c =
    let end : c.loop-index.index ≡ length c.args.spaces.now = omega arith in
    subst (λ n. HaveLengths c.args.spaces.now n c.loop-index.rows.items) end c.loop-index.invariant
