-- The codes that one declaration is for.
use Rattle.std.specs.Prelude.{ℕ}

-- codes from start to end; no codes if start is above end
pub record Span : Type 0 where
  pub start : ℕ
  pub end : ℕ
