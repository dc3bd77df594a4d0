-- What the relation says of a text is what the reading of its pieces, one after another, says: it is read so, and not otherwise.
use Rattle.std.proofs.Common.{◌≡◌, ◌∙◌, ℕ, Bool, true, false, List, [], ◌∷◌, ap, refl, sym, subst, length}
use Rattle.std.specs.Prelude.{◌==◌, ◌&&◌, not, flat_map, None, if◌then◌else◌}
use Rattle.cmap_tokens.specs.Pieces.{Piece, pieces_left}
use Rattle.cmap_tokens.specs.TokensLeft.{start_of}
use Rattle.cmap_values.specs.Files.{File, FileMetadata, lists_of}
use Rattle.cmap_values.specs.Only.{IsOnly}
use Rattle.cmap_values.specs.declared.fault.Stop.{Stop}
use Rattle.cmap_text.specs.Rows.{are_rows, parts_on, rows_at, rows_of}
use Rattle.cmap_text.specs.declared.salvage.rows.Row.{Row}
use Rattle.cmap_text.specs.TextFiles.{declared_by}
use Rattle.cmap_text.specs.FaultyTexts as faulty
use Rattle.cmap_text.specs.FaultyTexts.{FirstRead, Found, InRows, ReadAgain, ReadInRows, SalvagesNoOther, TextRead, cells_of, has_rows}
use Rattle.cmap_text.specs.Salvage.{Salvaged, State, finished, first_read, is_read_in_rows, item, nothing_salvaged, read_in_rows, salvaged, take_all, take_rows}
use Rattle.cmap_text.proofs.ItemsSaid.{values_said}
use Rattle.cmap_text.proofs.FaultyPassed.{run, step}
use Rattle.cmap_text.proofs.FaultyItems.{SaysSo, items_said}
use Rattle.cmap_text.proofs.FaultyTotal.{items_read}
use Rattle.cmap_text.specs.TextReading.{AreSaid, last_values}

-- ---- the pieces of a text
first_run : (len : ℕ) (rows : List Row) (pieces : List Piece) (now : State × Salvaged) → run false len now (cells_of rows pieces) ≡ finished len (take_all now pieces)
unfolding run step take_all
first_run len rows [] now = refl
first_run len rows (piece ∷ pieces) now = first_run len (rows_at rows piece) pieces (step false len now (record { piece = piece; parts = parts_on (rows_at rows piece) }))

rows_run : (len : ℕ) (rows : List Row) (pieces : List Piece) (now : State × Salvaged) → run true len now (cells_of rows pieces) ≡ finished len (take_rows rows now pieces)
unfolding run step take_rows
rows_run len rows [] now = refl
rows_run len rows (piece ∷ pieces) now = rows_run len (rows_at rows piece) pieces (step true len now (record { piece = piece; parts = parts_on (rows_at rows piece) }))

-- ---- what is said of them
record Same (now : Salvaged) (found : Found) : Type 0 where
  pub values_are : now.said.values ≡ last_values found.items
  pub lists_are : now.said.lists ≡ lists_of (flat_map declared_by found.items)
  pub uses_are : now.said.uses ≡ found.uses
  pub faults_are : now.faults ≡ found.faults

same : (rows : Bool) (len : ℕ) (now : Salvaged) (found : Found) → SaysSo rows len nothing_salvaged now found → Same now found
same rows len now found so = record {
  values_are = so.values_are ∙ sym (values_said found.items);
  lists_are = so.lists_are;
  uses_are = so.uses_are;
  faults_are = so.faults_are;
}

first_same : (text : List ℕ) (found : Found) → FirstRead text found → Same (first_read text) found
first_same text found is =
    let pieces = pieces_left (start_of text) in
    subst (λ now. Same now found) (first_run (length text) [] pieces (item, nothing_salvaged)) (same false (length text) _ found (items_said false (length text) is nothing_salvaged refl))

rows_same : (text : List ℕ) (found : Found) → ReadInRows text found → Same (read_in_rows (rows_of text) text) found
rows_same text found is =
    let pieces = pieces_left (start_of text) in
    subst (λ now. Same now found) (rows_run (length text) (rows_of text) pieces (item, nothing_salvaged)) (same true (length text) _ found (items_said true (length text) is nothing_salvaged refl))

-- which texts are read in rows
rows_are : (text : List ℕ) (first : Found) → FirstRead text first → has_rows text first ≡ is_read_in_rows text
rows_are text first is = ap (λ fs. not (length fs == 0) && are_rows (rows_of text)) (sym (first_same text first is).faults_are)

read_same : (text : List ℕ) (found : Found) → TextRead text found → Same (salvaged text) found
read_same text found (first, is, again) = by (is_read_in_rows text) refl (subst (λ b. ReadAgain b text first found) (rows_are text first is) again)
  where
    by : (b : Bool) → is_read_in_rows text ≡ b → ReadAgain (is_read_in_rows text) text first found → Same (salvaged text) found
    by true in_rows again =
        let now : ReadInRows text found = subst (λ b. ReadAgain b text first found) in_rows again in
        subst (λ now. Same now found) (sym (ap (λ b. if b then read_in_rows (rows_of text) text else first_read text) in_rows)) (rows_same text found now)
    by false in_rows again =
        let now : found ≡ first = subst (λ b. ReadAgain b text first found) in_rows again in
        subst (λ now. Same now found) (sym (ap (λ b. if b then read_in_rows (rows_of text) text else first_read text) in_rows)) (subst (Same (first_read text)) (sym now) (first_same text first is))

-- each text is read
text_read : (text : List ℕ) → (found : Found) × TextRead text found
text_read text =
    let (first, is) = items_read false (length text) None (cells_of [] (pieces_left (start_of text))) in
    let (found, again) = by first (has_rows text first) in
    (found, (first, is, again))
  where
    by : (first : Found) (b : Bool) → (found : Found) × ReadAgain b text first found
    by first false = (first, refl)
    by first true = items_read true (length text) None (cells_of (rows_of text) (pieces_left (start_of text)))

pub faults_read : (text : List ℕ) → (found : Found) × TextRead text found × (found.faults ≡ (salvaged text).faults)
faults_read text = let (found, is) = text_read text in (found, is, sym (read_same text found is).faults_are)

pub in_rows_now : (text : List ℕ) → InRows text (is_read_in_rows text)
in_rows_now text = let (first, is) = items_read false (length text) None (cells_of [] (pieces_left (start_of text))) in (first, is, sym (rows_are text first is))

pub in_rows_is : (text : List ℕ) (rows : Bool) → InRows text rows → rows ≡ is_read_in_rows text
in_rows_is text rows (first, is, same) = same ∙ rows_are text first is

-- ---- a file and its faults
abbrev pub Salvages : List ℕ → File → List Stop → Type 0
Salvages text file faults = let found = salvaged text in AreSaid found.said.values file.metadata × (file.lists ≡ found.said.lists) × (file.uses ≡ found.said.uses) × (faults ≡ found.faults)

-- whatever is read piece by piece is read so
pub salvages_file : (text : List ℕ) (file : File) (faults : List Stop) → Salvages text file faults → faulty.SalvagesFile text file faults
salvages_file text file faults (metadata_is, lists, uses, stops) =
    let (found, is) = text_read text in
    let so = read_same text found is in
    (found, is, subst (λ v. AreSaid v file.metadata) so.values_are metadata_is, lists ∙ so.lists_are, uses ∙ so.uses_are, stops ∙ so.faults_are)

-- and nothing else is
pub file_salvaged : (text : List ℕ) (file : File) (faults : List Stop) → faulty.SalvagesFile text file faults → Salvages text file faults
file_salvaged text file faults (found, is, metadata_is, lists, uses, stops) =
    let so = read_same text found is in
    (subst (λ v. AreSaid v file.metadata) (sym so.values_are) metadata_is, lists ∙ sym so.lists_are, uses ∙ sym so.uses_are, stops ∙ sym so.faults_are)

-- so no other file is read
pub salvages_no_other : (text : List ℕ) (metadata : FileMetadata) → IsOnly (AreSaid (salvaged text).said.values) metadata
    → SalvagesNoOther text (record { metadata = metadata; lists = (salvaged text).said.lists; uses = (salvaged text).said.uses }) (salvaged text).faults
salvages_no_other text metadata only other stops says =
    let (metadata_is, lists, uses, faults) = file_salvaged text other stops says in
    let other_is : other ≡ record { metadata = other.metadata; lists = other.lists; uses = other.uses } = refl in
    (other_is ∙ rw (only.alone other.metadata metadata_is, lists, uses) refl, faults)
