use Rattle.std.proofs.Common.{◌≡◌, ◌+◌, ◌-◌, ◌≤◌, [], ◌∷◌, ◌++◌, length, option_map}
use Rattle.std.specs.Str.{chars}
use Rattle.std.specs.String.{string_bytes}
use Rattle.cmap_tokens.specs.Texts.{characters}
use Rattle.cmap_tokens.proofs.TextsOfUnits.{characters_from}
use Rattle.cmap_tokens.proofs.utf16.string.Given as goal

abbrev pub invariant-loop-index : goal.invariant-loop-index
invariant-loop-index l = record {
  within : l.index ≤ 1 + length l.front;
  written : characters (l.front ++ l.last ∷ []) ≡ option_map (λ cs. chars (string_bytes l.text) ++ cs) (characters_from (l.front ++ l.last ∷ []) l.index);
}

abbrev pub decreases-loop-index : goal.decreases-loop-index
decreases-loop-index l = 1 + length l.front - l.index
