use Rattle.std.proofs.Common.{◌≡◌, ℕ, inr, map, subst}
use Rattle.cmap_values.specs.DeclarationsSeen.{codespace_seen}
use Rattle.cmap_values.specs.FilesSeen.{file_seen}
use Rattle.cmap_text_writer.specs.Lengths.{length_by, text_length}
use Rattle.cmap_c_writer.proofs.TextsGiven.{outcome_as, written_so}
use Rattle.cmap_c_writer.proofs.write.written_text.Goals as goal

pub returns : goal.returns
returns c =
    let file = file_seen c.in_ok-file.file in
    let same = subst (λ ss. (code : ℕ) → text_length c.by.result code ≡ length_by (map codespace_seen ss) code) c.deref.ensures.value c.by.ensures in
    outcome_as c.text_of.result c.text_of.ensures
    (λ text written. (file, c.in_ok-file.ensures.0, written_so (text_length c.by.result) (length_by file.lists.spaces) file text.items same written))
    (λ _ none. inr (file, c.in_ok-file.ensures.0, none))
