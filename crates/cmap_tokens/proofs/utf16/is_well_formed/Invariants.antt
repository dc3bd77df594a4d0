use Rattle.std.proofs.Common.{◌≡◌, ◌+◌, ◌-◌, ◌≤◌, [], ◌∷◌, ◌++◌, length, is_some}
use Rattle.cmap_tokens.specs.Texts.{characters}
use Rattle.cmap_tokens.proofs.TextsOfUnits.{characters_from}
use Rattle.cmap_tokens.proofs.utf16.is_well_formed.Given as goal

abbrev pub invariant-loop-index : goal.invariant-loop-index
invariant-loop-index l = record {
  within : l.index ≤ 1 + length l.front;
  same : is_some (characters_from (l.front ++ l.last ∷ []) l.index) ≡ is_some (characters (l.front ++ l.last ∷ []));
}

abbrev pub decreases-loop-index : goal.decreases-loop-index
decreases-loop-index l = 1 + length l.front - l.index
