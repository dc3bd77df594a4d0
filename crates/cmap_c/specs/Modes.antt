-- The writing mode that C gives as a number.
use Rattle.std.specs.Prelude.{ℕ, ◌==◌, if◌then◌else◌}
use Rattle.cmap_values.specs.declared.writing_mode.WritingMode.{WritingMode}
use Rattle.cmap_values.specs.declared.writing_mode.WritingMode.TheVariants.{Horizontal, Vertical}

-- vertical for its number, otherwise horizontal, like a text without a mode
abbrev pub mode_for : ℕ → WritingMode
mode_for mode = if mode == 1 then Vertical else Horizontal
