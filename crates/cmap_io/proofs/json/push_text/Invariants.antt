use Rattle.std.proofs.Common.{◌≡◌, ◌++◌, string_bytes}
use Rattle.std.specs.List.{flat_map}
use Rattle.cmap_io.specs.Escapes.{AddsPrintable}
use Rattle.cmap_io.specs.Json.{character_escaped}
use Rattle.cmap_io.proofs.json.push_text.Given as goal

abbrev pub invariant-loop-character : goal.invariant-loop-character
invariant-loop-character l = AddsPrintable (string_bytes l.initial.out) (string_bytes l.out)
    × (string_bytes l.out ≡ string_bytes l.initial.out ++ flat_map character_escaped l.yielded)
