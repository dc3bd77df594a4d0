use Rattle.std.proofs.Common.{◌≡◌, ◌∙◌, List, [], ◌∷◌, Some, ap, refl, sym}
use Rattle.std.specs.Prelude.{option_map}
use Rattle.cmap_tokens.specs.TokenSeen.{piece_seen}
use Rattle.cmap_values.specs.DeclarationsSeen.{codespace_seen, lists_seen}
use Rattle.cmap_values.specs.Files.{Declaration, Lists}
use Rattle.cmap_text.specs.Salvage.{Salvaged, code_of_piece, having_lists, widened}
use Rattle.cmap_text.specs.SalvageSeen.{found_seen}
use Rattle.cmap_text.specs.TextReading.{adding}
use Rattle.cmap_text.specs.TextSeen.{code_seen}
use Rattle.cmap_text.proofs.salvage.Found.mend_high.Goals as goal

pub returns : goal.returns
returns c =
    let declared : List Declaration = Declaration.codespace (codespace_seen c.in-Some-widened.space) ∷ [] in
    let code : code_of_piece (piece_seen c.args.piece.now) ≡ Some (code_seen c.in-Some.high) = sym c.in_ok-high.ensures.code ∙ ap (option_map code_seen) c.in-Some.is in
    let widens : widened (code_seen c.args.low) (code_seen c.in-Some.high) ≡ Some declared = sym c.widened.ensures ∙ ap (option_map (λ space. Declaration.codespace (codespace_seen space) ∷ [])) c.in-Some-widened.is in
    let old : Lists = lists_seen c.args.self.now.said.lists in
    let Adds : Salvaged → Salvaged = λ found. having_lists found (adding found.said.lists declared) in
    (adding old declared, rw (code, widens, c.entry.ensures) refl, ap (having_lists (found_seen c.code_of.new.self)) c.in_ok-add_codespace.ensures.added ∙ ap Adds c.in_ok-high.ensures.same)
