use Rattle.std.proofs.Common.{◌≡◌, ◌∙◌, false, true, sym, refl, rules}
use Rattle.std.specs.Prelude.{bytes_eq, codes}
use Rattle.std.specs.List.{list_any}
use Rattle.cmap_text.specs.Salvage.{known_words, lone_brackets}
use Rattle.cmap_text.proofs.salvage.known_words.class_of_name.Goals as goal

pub returns-then-is_among-2 : goal.returns-then-is_among-2
returns-then-is_among-2 c =
    let name = c.args.name.now in
    let opens : bytes_eq name (codes "[") ≡ false = search rules in
    let closes : bytes_eq name (codes "]") ≡ false = search rules in
    let lone : list_any (bytes_eq name) lone_brackets ≡ false = sym c.is_among.ensures ∙ c.if-is_among.false in
    let known : list_any (bytes_eq name) known_words ≡ true = sym c.is_among-else-is_among.ensures ∙ c.if-is_among-2.true in
    rw (opens, closes, lone, known) refl
