use Rattle.std.proofs.Common.{◌≡◌, ◌∙◌, ◌≤◌, ℕ, List, Option, Some, None, ap, length, subst, sym}
use Rattle.std.specs.Prelude.{map, option_and_then, option_map, slice_get}
use Rattle.std.proofs.lemmas.Option.{slice_get-map, slice_get_past}
use Rattle.cmap_values.specs.DeclarationsSeen.{bf_entry_seen}
use Rattle.cmap_values.specs.Files.{BfEntry}
use Rattle.cmap_values.specs.declared.declarations.BfRange.{BfRange}
use Rattle.cmap_layers.specs.Layers.{Layer}
use Rattle.cmap_c.proofs.declared.units_at.Goals as goal

abbrev bf_in : ℕ → Option Layer → Option BfEntry
bf_in index layer = option_and_then (λ given. slice_get given.lists.bfs index) layer

abbrev units_in : Option BfEntry → Option (List ℕ)
units_in entry = option_map (λ declared. declared.units) entry

-- what a layer with these declarations has at an index
of_layer : (layer : Layer) (found : Option Layer) (declared : List BfRange) (index : ℕ) → Some layer ≡ found → map bf_entry_seen declared ≡ layer.lists.bfs
    → option_map bf_entry_seen (slice_get declared index) ≡ option_and_then (λ given. slice_get given.lists.bfs index) found
of_layer layer found declared index is seen = sym (slice_get-map bf_entry_seen declared index) ∙ ap (λ bfs. slice_get bfs index) seen ∙ ap (option_and_then (λ given. slice_get given.lists.bfs index)) is

past : (declared : List BfRange) (index count : ℕ) → count ≡ length declared → count ≤ index → slice_get declared index ≡ None
past declared index count is beyond = slice_get_past declared index (subst (λ n. n ≤ index) is beyond)

pub returns-in_default : goal.returns-in_default
returns-in_default c = ap (λ layer. units_in (bf_in c.args.index layer)) c.in_default.ensures

pub returns-then-index-decl_count : goal.returns-then-index-decl_count
returns-then-index-decl_count c =
    ap Some c.as_slice.ensures
    ∙ ap units_in (sym (ap (option_map bf_entry_seen) c.decl.ensures.declaration) ∙ of_layer _ _ c.texts-texts.result.now c.args.index c.in-Some.ensures c.texts-texts.ensures)

pub returns-else-index-decl_count : goal.returns-else-index-decl_count
returns-else-index-decl_count c =
    ap units_in
    (sym (ap (option_map bf_entry_seen) (past c.texts-texts.result.now c.args.index c.decl_count.result c.decl_count.ensures c.if-index-decl_count.false)) ∙ of_layer _ _ c.texts-texts.result.now c.args.index c.in-Some.ensures c.texts-texts.ensures)
