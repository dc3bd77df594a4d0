-- What the faults of a text say of it: without one it is a file; else the first is the one for which it is refused.
use Rattle.std.proofs.Common.{◌≡◌, ◌≤◌, ◌∙◌, ◌∷◌, ℕ, Bool, true, false, List, [], length, refl, sym, ap, subst, arith}
use Rattle.std.specs.Prelude.{Ok, Err}
use Rattle.cmap_values.specs.Faults.{Ascend}
use Rattle.cmap_values.specs.Files.{File, FileMetadata}
use Rattle.cmap_values.specs.Only.{HoldsOfNone, IsOnly}
use Rattle.cmap_values.specs.Outcomes.{DecidedBy}
use Rattle.cmap_values.specs.declared.fault.Reason.{Reason}
use Rattle.cmap_values.specs.declared.fault.Reason.TheVariants.{UnclosedString}
use Rattle.cmap_values.specs.declared.fault.Stop.{Stop}
use Rattle.cmap_tokens.proofs.Fronts.{has_tokens}
use Rattle.cmap_tokens.specs.TokensLeft.{Left, start_of, tokens_of}
use Rattle.cmap_text.specs.Rows.{rows_of}
use Rattle.cmap_text.specs.FaultyTexts as faulty
use Rattle.cmap_text.specs.FaultyTexts.{SalvagesFile, TextRead}
use Rattle.cmap_text.specs.FirstFaults.{BeginsRefused, IsFirstOf, refusal_of, refused_at}
use Rattle.cmap_text.specs.Salvage.{Salvaged, first_read, is_read_in_rows, read_in_rows, salvaged}
use Rattle.cmap_text.specs.TextFiles.{IsTextFile}
use Rattle.cmap_text.specs.TextReading.{AreSaid, Said, StopsText, all_said, nothing_said}
use Rattle.cmap_text.specs.TokenParsers.{Found, Refused}
use Rattle.cmap_text.proofs.FaultPlaces.{ascend_within, first_ascends}
use Rattle.cmap_text.proofs.FaultyRead.{Salvages, faults_read, file_salvaged, in_rows_is}
use Rattle.cmap_text.proofs.RowsRead.{NoLater, read_no_later}
use Rattle.cmap_text.proofs.Stops.{decided_text, refused_text}
use Rattle.cmap_text.proofs.TextRead.{said_file, text_file}
use Rattle.cmap_text.proofs.WholeRead.{Stops, whole_of}

refused_within : (len : ℕ) (reason : Reason) (offset : ℕ) → offset ≤ len → refused_at len reason offset ≤ len
refused_within len reason offset within = elim reason as (λ r. refused_at len r offset ≤ len) [ UnclosedString ↦ omega arith | _ ↦ within ]

-- the faults of a text that is refused: the first one, and the one for which it is refused
record Refusal (text : List ℕ) (faults : List Stop) : Type 0 where
  fault : Stop
  more : List Stop
  refusal : Stop
  is : faults ≡ fault ∷ more
  stops : StopsText text refusal
  first : IsFirstOf text fault refusal

module _ (text : List ℕ) where
  abbrev pub Reads : Found Said → Type 0
  Reads found = all_said nothing_said (tokens_of (start_of text)) ≡ found

  -- ---- what stops the one reading is the first fault of the other
  refusal_from : (e : Refused) → Reads (Err e) → Stops (length text) e (first_read text) → Refusal text (salvaged text).faults
  refusal_from e none stops = by (is_read_in_rows text) refl
    where
      stop : Stop
      stop = stops.fault

      ascend : Ascend 0 (stop ∷ stops.more) (length text)
      ascend = subst (λ fs. Ascend 0 fs (length text)) stops.is (first_ascends text)

      within_text : stop.offset ≤ length text
      within_text = ascend_within stop.offset (length text) stops.more ascend.1

      within : refused_at (length text) stop.reason stop.offset ≤ length text
      within = refused_within (length text) stop.reason stop.offset within_text

      refused : StopsText text (refusal_of (length text) stop)
      refused = (e, none, omega (arith, within, stops.of.offset), stops.of.reason)

      read : (found : faulty.Found) × TextRead text found × (found.faults ≡ (salvaged text).faults)
      read = faults_read text

      by : (rows : Bool) → is_read_in_rows text ≡ rows → Refusal text (salvaged text).faults
      by false is = record { fault = stop; more = stops.more; refusal = refusal_of (length text) stop; is = rw is stops.is; stops = refused; first = (stop, stops.more, read.0, refl, omega arith, λ _. refl, read.1, read.2 ∙ rw is stops.is) }
      by true is =
          let (fault, more, found, before) = subst (λ fs. NoLater fs (read_in_rows (rows_of text) text).faults) stops.is (read_no_later (rows_of text) text) in
          record { fault = fault; more = more; refusal = refusal_of (length text) stop; is = rw is found; stops = refused; first = (stop, more, read.0, refl, before, λ not. (let clash = sym is ∙ sym (in_rows_is text false not) in absurd (cc)), read.1, read.2 ∙ rw is found) }

  refused : (e : Refused) → Reads (Err e) → Refusal text (salvaged text).faults
  refused e none = refusal_from e none (whole_of text (Err e) none)

  -- a text without a fault is read once
  read_once : (said : Said) → first_read text ≡ record { said = said; faults = [] } → salvaged text ≡ record { said = said; faults = [] }
  read_once said whole = rw (ap (λ s. s.faults) whole) whole

  whole : (p : Said × Left) → Reads (Ok p) → salvaged text ≡ record { said = p.0; faults = [] }
  whole p is = read_once p.0 (whole_of text (Ok p) is)

  module _ (file : File) where
    -- without a fault it is a file
    no_fault_read : Salvages text file [] → IsTextFile text file
    no_fault_read (metadata_is, lists, uses, none) = by (all_said nothing_said (tokens_of (start_of text))) refl
      where
        by : (r : Found Said) → Reads r → IsTextFile text file
        by (Ok p) is =
            let values : AreSaid p.0.values file.metadata = subst (λ s. AreSaid s.said.values file.metadata) (whole p is) metadata_is in
            let read = said_file text (tokens_of (start_of text)) (has_tokens text) p.0 p.1 file.metadata is values in
            let same_lists : file.lists ≡ p.0.lists = lists ∙ ap (λ s. s.said.lists) (whole p is) in
            let same_uses : file.uses ≡ p.0.uses = uses ∙ ap (λ s. s.said.uses) (whole p is) in
            let file_is : file ≡ record { metadata = file.metadata; lists = file.lists; uses = file.uses } = refl in
            subst (IsTextFile text) (sym (file_is ∙ rw (same_lists, same_uses) refl)) read
        by (Err e) is = let wrong = none ∙ (refused e is).is in absurd (cc)

    pub no_fault : SalvagesFile text file [] → IsTextFile text file
    no_fault salvages = no_fault_read (file_salvaged text file [] salvages)

    -- the first fault is that for which it is refused, or in rows one before it
    first_fault_read : (fault : Stop) (more : List Stop) → Salvages text file (fault ∷ more)
        → (refusal : Stop) × HoldsOfNone (IsTextFile text) × (refusal.offset ≤ length text) × DecidedBy IsTextFile text refusal × StopsText text refusal × IsFirstOf text fault refusal
    first_fault_read fault more (metadata_is, lists, uses, faults) = by (all_said nothing_said (tokens_of (start_of text))) refl
      where
        by : (r : Found Said) → Reads r → (refusal : Stop) × HoldsOfNone (IsTextFile text) × (refusal.offset ≤ length text) × DecidedBy IsTextFile text refusal × StopsText text refusal × IsFirstOf text fault refusal
        by (Ok p) is = let wrong = faults ∙ ap (λ s. s.faults) (whole p is) in absurd (cc)
        by (Err e) is =
            let begins = refused e is in
            let same : begins.fault ≡ fault = let heads = faults ∙ begins.is in cc in
            let (none, within) = refused_text text begins.refusal begins.stops in
            (begins.refusal, none, within, decided_text text begins.refusal begins.stops, begins.stops, subst (λ f. IsFirstOf text f begins.refusal) same begins.first)

    pub first_fault : (fault : Stop) (more : List Stop) → SalvagesFile text file (fault ∷ more)
        → (refusal : Stop) × HoldsOfNone (IsTextFile text) × (refusal.offset ≤ length text) × DecidedBy IsTextFile text refusal × StopsText text refusal × IsFirstOf text fault refusal
    first_fault fault more salvages = first_fault_read fault more (file_salvaged text file (fault ∷ more) salvages)

  -- ---- what is given
  -- of a file, just that
  pub salvage_file : (metadata : FileMetadata) → IsOnly (AreSaid (salvaged text).said.values) metadata → (file : File) → IsTextFile text file
      → (record { metadata = metadata; lists = (salvaged text).said.lists; uses = (salvaged text).said.uses } ≡ file) × ((salvaged text).faults ≡ [])
  salvage_file metadata only file is_file = by (all_said nothing_said (tokens_of (start_of text))) refl
    where
      by : (r : Found Said) → Reads r → (record { metadata = metadata; lists = (salvaged text).said.lists; uses = (salvaged text).said.uses } ≡ file) × ((salvaged text).faults ≡ [])
      by (Ok p) is =
          let values : IsOnly (AreSaid p.0.values) metadata = subst (λ s. IsOnly (AreSaid s.said.values) metadata) (whole p is) only in
          let read = text_file text (tokens_of (start_of text)) (has_tokens text) p.0 p.1 metadata is values in
          let Gives : Salvaged → Type 0 = λ s. (record { metadata = metadata; lists = s.said.lists; uses = s.said.uses } ≡ file) × (s.faults ≡ []) in
          subst Gives (sym (whole p is)) (sym (read.alone file is_file), refl)
      by (Err e) is =
          let begins = refused e is in
          absurd ((refused_text text begins.refusal begins.stops).0 file is_file)

  -- of another text, first the fault for which it is refused, or in rows one before it
  pub salvage_first : (metadata : FileMetadata) → IsOnly (AreSaid (salvaged text).said.values) metadata → HoldsOfNone (IsTextFile text) → BeginsRefused text (salvaged text).faults
  salvage_first metadata only no_file = by (all_said nothing_said (tokens_of (start_of text))) refl
    where
      by : (r : Found Said) → Reads r → BeginsRefused text (salvaged text).faults
      by (Ok p) is =
          let values : IsOnly (AreSaid p.0.values) metadata = subst (λ s. IsOnly (AreSaid s.said.values) metadata) (whole p is) only in
          let read = text_file text (tokens_of (start_of text)) (has_tokens text) p.0 p.1 metadata is values in
          absurd (no_file _ read.holds)
      by (Err e) is = let begins = refused e is in (begins.fault, begins.more, begins.refusal, begins.is, begins.stops, begins.first)
