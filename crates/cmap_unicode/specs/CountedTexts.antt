-- Texts that count on by their last character.
use Rattle.std.specs.Prelude.{ℕ, ◌+◌}
use Rattle.cmap_tokens.specs.Texts.{Text, more, one}
pub use Rattle.cmap_layers.specs.CodeStretches.{counted_on}

abbrev pub text_after : Text → ℕ → Text
text_after (one c) k = one (c + k)
text_after (more cs) k = more (counted_on cs k)
