use Rattle.std.proofs.Common.{◌≡◌, ℕ, map, subst, sym}
use Rattle.std.specs.Prelude.{IsSomeAnd, MatchOption}
use Rattle.cmap_values.specs.DeclarationsSeen.{codespace_seen}
use Rattle.cmap_values.specs.FilesSeen.{file_seen}
use Rattle.cmap_text_writer.specs.Lengths.{text_length}
use Rattle.cmap_c_writer.specs.Given.{text_lengths_given}
use Rattle.cmap_c_writer.specs.Made.{HasNoTidyText, IsTidyText}
use Rattle.cmap_c_writer.proofs.TextsGiven.{outcome_as, written_so}
use Rattle.cmap_c_writer.proofs.make.made_text.Goals as goal

pub returns : goal.returns
returns c =
    let ds = c.args.declarations.now in
    let file = file_seen c.in_ok-file.file in
    let tidied = file_seen c.in_ok-tidied.tidied in
    let is = sym c.in_ok-file.ensures.0 in
    let same = subst (λ ss. (code : ℕ) → text_length c.text_lengths.result code ≡ text_lengths_given ds (map codespace_seen ss) code) c.deref.ensures.value c.text_lengths.ensures in
    outcome_as c.text_of.result c.text_of.ensures
    (λ text written. subst (λ o. IsSomeAnd o (λ file. IsTidyText (text_lengths_given ds file.lists.spaces) file text.items)) is
    (tidied, c.in_ok-tidied.ensures, written_so (text_length c.text_lengths.result) (text_lengths_given ds file.lists.spaces) tidied text.items same written))
    (λ _ none. subst (λ o. MatchOption o (Unit {0}) HasNoTidyText) is (tidied, c.in_ok-tidied.ensures, none))
