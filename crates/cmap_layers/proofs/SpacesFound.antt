-- Codespace ranges that are asked for, of all layers.
use Rattle.std.proofs.Common.{◌∷◌, [], zero, suc, sym, subst, Any, List, arith}
use Rattle.cmap_values.specs.Files.{Codespace}
use Rattle.cmap_layers.specs.Layers.{Layer}
-- those of one layer
pub use Rattle.cmap_codespaces.proofs.SpacesFound.{AreBytes, NoneBelow, all_more, any_at, any_same, at_any, block_finds, blocks_find, bytes_of_code, code_bytes, code_found, code_within, each_row, fewest_ranges, found_here, found_in, found_with_front, found_within, front_row-fits, front_rows, group_found, group_has, have_rows, least_block, least_from, least_more, least_of_both, least_only, least_ranges, least_same, none_from, none_inside, none_shorter, none_with_front, only_item, query-rows, set_below, set_front, set_more, shifted, some_inside, taken_bytes, too_few}

pub any_of_one : {A : Type 0} (P : A → Type 0) (x : A) → Any P (x ∷ []) → P x
any_of_one P x (zero, y, within, is, holds) = subst P (sym is) holds
any_of_one P x (suc k, y, within, is, holds) = absurd (omega arith)

pub any_weaker : (P Q : Codespace → Type 0) (layers : List Layer) → ((space : Codespace) → P space → Q space) → Any (λ layer. Any P layer.lists.spaces) layers → Any (λ layer. Any Q layer.lists.spaces) layers
any_weaker P Q layers weaker (k, layer, within, is, (i, space, below, at, holds)) = (k, layer, within, is, (i, space, below, at, weaker space holds))
