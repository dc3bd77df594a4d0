use Rattle.std.proofs.Common.{◌≡◌, ◌++◌, string_bytes}
use Rattle.std.specs.List.{flat_map}
use Rattle.cmap_io.specs.Shown.{AddsShown}
use Rattle.cmap_io.specs.PathTexts.{path_character_shown}
use Rattle.cmap_io.proofs.path_text.push_path.Given as goal

abbrev pub invariant-loop-character : goal.invariant-loop-character
invariant-loop-character l = AddsShown (string_bytes l.initial.out) (string_bytes l.out)
    × (string_bytes l.out ≡ string_bytes l.initial.out ++ flat_map path_character_shown l.yielded)
