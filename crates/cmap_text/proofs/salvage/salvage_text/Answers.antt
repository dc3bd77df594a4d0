use Rattle.std.proofs.Common.{◌≡◌, [], length, refl, sym, subst}
use Rattle.cmap_values.specs.Faults.{Ascend}
use Rattle.cmap_values.specs.Files.{File}
use Rattle.cmap_values.specs.MetadataSeen.{metadata_seen}
use Rattle.cmap_values.specs.Only.{HoldsOfNone, IsOnly}
use Rattle.cmap_text.specs.FaultyTexts.{SalvagesFile, SalvagesNoOther}
use Rattle.cmap_text.specs.FirstFaults.{BeginsRefused, KeepsFronts}
use Rattle.cmap_text.specs.Salvage.{Salvaged, salvaged}
use Rattle.cmap_text.specs.TextFiles.{IsTextFile}
use Rattle.cmap_text.specs.TextReading.{AreSaid}
use Rattle.cmap_text.specs.Standing.{AreDeclared}
use Rattle.cmap_text.proofs.Declared.{salvaged_declared}
use Rattle.cmap_text.proofs.FaultPlaces.{salvaged_ascends}
use Rattle.cmap_text.proofs.FaultyRead.{salvages_file, salvages_no_other}
use Rattle.cmap_text.proofs.FrontsKept.{fronts_kept}
use Rattle.cmap_text.proofs.TextFaults.{salvage_file, salvage_first}
use Rattle.cmap_text.proofs.salvage.salvage_text.Goals as goal

pub returns : goal.returns
returns c =
    let text = c.args.text.now in
    let metadata = metadata_seen c.in_ok-metadata.metadata in
    let same = c.in_ok-found.ensures in
    let only = c.in_ok-metadata.ensures in
    let values : IsOnly (AreSaid (salvaged text).said.values) metadata = subst (λ s. IsOnly (AreSaid s.said.values) metadata) same only in
    let Gives : Salvaged → Type 0 = λ s. (file : File) → IsTextFile text file → (record { metadata = metadata; lists = s.said.lists; uses = s.said.uses } ≡ file) × (s.faults ≡ []) in
    let Ordered : Salvaged → Type 0 = λ s. Ascend 0 s.faults (length text) in
    let Keeps : Salvaged → Type 0 = λ s. KeepsFronts text s.faults s.said.lists s.said.uses in
    let Declares : Salvaged → Type 0 = λ s. AreDeclared text s.said.lists in
    let Refused : Salvaged → Type 0 = λ s. HoldsOfNone (IsTextFile text) → BeginsRefused text s.faults in
    let Says : Salvaged → Type 0 = λ s. SalvagesFile text (record { metadata = metadata; lists = s.said.lists; uses = s.said.uses }) s.faults in
    let SaysOnly : Salvaged → Type 0 = λ s. SalvagesNoOther text (record { metadata = metadata; lists = s.said.lists; uses = s.said.uses }) s.faults in
    let found = salvaged text in
    record {
      says = subst Says (sym same) (salvages_file text (record { metadata = metadata; lists = found.said.lists; uses = found.said.uses }) found.faults (values.holds, refl, refl, refl));
      only = subst SaysOnly (sym same) (salvages_no_other text metadata values);
      file = subst Gives (sym same) (salvage_file text metadata values);
      first = subst Refused (sym same) (salvage_first text metadata values);
      kept = subst Keeps (sym same) (fronts_kept text);
      declared = subst Declares (sym same) (salvaged_declared text);
      ascend = subst Ordered (sym same) (salvaged_ascends text);
    }
