-- Private aid: the declarations for consecutive codes, and the lists so far.
use Rattle.std.specs.Prelude.{◌≡◌, ◌≢◌, ◌↔◌, ℕ, ◌<◌, ◌≤◌, ◌^◌, List, [], All, AllPairs, Contains, Option, Some, option_and_then}
use Rattle.cmap_runs.specs.Ranges.{last_of}
use Rattle.cmap_values.specs.CodeLengths.{length_of}
use Rattle.cmap_values.specs.Files.{BfEntry, CidEntry, File, Lists}
use Rattle.cmap_values.specs.declared.code_length.CodeLength.{CodeLength}
use Rattle.cmap_layers.specs.Layers.{Layer, top_metadata}
use Rattle.cmap_layers.specs.Lookups.{bf_at, bf_of, cid_of, last_bf}
use Rattle.cmap_layers.specs.StringCodes.{ranges_of}
use Rattle.cmap_edit.specs.Chosen.{Chosen, ChosenNumber, codes_span}
use Rattle.cmap_unicode.specs.Given.{Given, cid_given, given, notdef_given}
use Rattle.cmap_edit.specs.Subsets.{AnswersOnly, IsContradiction, IsKept, cid_listed, cid_of_one}
use Rattle.cmap_edit.specs.declared.flatten.answers.Contradiction.{Contradiction}
use Rattle.cmap_edit.specs.Tidy.{AreTidyCids, AreTidyNotdefs, AreTidyTexts, notdef_said}
use Rattle.cmap_edit.specs.declared.flatten.codes.Codes.{Codes}

-- the CID and the notdef that two lists give to a code
abbrev pub said : List CidEntry → List CidEntry → ℕ → Option ℕ × Option ℕ
said cids notdefs code = (cid_listed cids code, notdef_said notdefs code)

-- the CID and the notdef that are declared
abbrev pub parts : Option Given → Option ℕ × Option ℕ
parts declared = (cid_given declared, notdef_given declared)

-- the answer that a code is to have: the answer of the whole map where the table contains the code
abbrev pub wanted : {A : Type 0} → List Codes → ℕ → Option A → Option A
wanted table code whole = option_and_then (λ one. whole) (last_of codes_span table code)

-- two tidy lists of declarations for codes below a limit
pub record IsRoom (cids notdefs : List CidEntry) (limit : ℕ) : Type 0 where
  pub tidy_cids : AreTidyCids cids
  pub tidy_notdefs : AreTidyNotdefs notdefs
  pub cids_end : All (λ e. e.end < limit) cids
  pub notdefs_end : All (λ e. e.end < limit) notdefs

-- for the codes below the limit the lists declare what the layers declare where the table contains the code, and nothing elsewhere
pub record AreDeclaredBelow (layers : List Layer) (len : ℕ) (table : List Codes) (limit : ℕ) (cids notdefs : List CidEntry) : Type 0 where
  pub room : IsRoom cids notdefs limit
  pub codes : (code : ℕ) → code < limit → said cids notdefs code ≡ parts (wanted table code (given layers code len))

-- the text that a list declares for a code
abbrev pub text_said : List BfEntry → ℕ → Option (List ℕ)
text_said texts code = option_and_then (λ e. bf_at e code) (last_bf texts code)

-- a tidy list of texts for codes below a limit
pub record IsTextRoom (texts : List BfEntry) (limit : ℕ) : Type 0 where
  pub tidy : AreTidyTexts texts
  pub ends : All (λ e. e.end < limit) texts

-- for the codes below the limit the list has the texts of the layers where the table contains the code, and no others
pub record AreTextsBelow (layers : List Layer) (table : List Codes) (limit : ℕ) (texts : List BfEntry) : Type 0 where
  pub room : IsTextRoom texts limit
  pub codes : (code : ℕ) → code < limit → text_said texts code ≡ wanted table code (bf_of layers code)

-- a list with these texts added for the codes from first up to the limit; the codes before first keep their texts
pub record AreTextsAdded (texts : List BfEntry) (first limit : ℕ) (text : ℕ → Option (List ℕ)) (new : List BfEntry) : Type 0 where
  pub room : IsTextRoom new limit
  pub here : (code : ℕ) → first ≤ code → code < limit → text_said new code ≡ text code
  pub below : (code : ℕ) → code < first → text_said new code ≡ text_said texts code

-- a tidy list with the texts of the layers for the chosen numbers, and no others
pub record AreTexts (layers : List Layer) (chosen : List Codes) (texts : List BfEntry) : Type 0 where
  pub tidy : AreTidyTexts texts
  pub codes : (code : ℕ) → code < 2 ^ 32 → AnswersOnly (ChosenNumber chosen code) (bf_of layers code) (text_said texts code)

-- two lists with these declarations added for the codes from first up to the limit; the codes before first keep their declarations
pub record IsAdded (cids notdefs : List CidEntry) (first limit : ℕ) (declared : ℕ → Option Given) (new_cids new_notdefs : List CidEntry) : Type 0 where
  pub room : IsRoom new_cids new_notdefs limit
  pub here : (code : ℕ) → first ≤ code → code < limit → said new_cids new_notdefs code ≡ parts (declared code)
  pub below : (code : ℕ) → code < first → said new_cids new_notdefs code ≡ said cids notdefs code

-- two tidy lists that declare for the chosen codes of len bytes what the layers declare, and nothing for other codes
pub record AreDeclared (layers : List Layer) (chosen : List Codes) (len : ℕ) (cid_list notdef_list : List CidEntry) : Type 0 where
  pub tidy : AreTidyCids cid_list × AreTidyNotdefs notdef_list
  pub cids : (code : ℕ) → code < 2 ^ 32 → AnswersOnly (Chosen chosen code len) (cid_given (given layers code len)) (cid_listed cid_list code)
  pub notdefs : (code : ℕ) → code < 2 ^ 32 → AnswersOnly (Chosen chosen code len) (notdef_given (given layers code len)) (notdef_said notdef_list code)

-- two lists have the same elements, in any order and any number of times
abbrev pub HasSame : {A : Type 0} → List A → List A → Type 0
HasSame {A} xs ys = (x : A) → Contains xs x ↔ Contains ys x

-- a list has the elements of another, each once
pub record AreEachOnce {A : Type 0} (all kept : List A) : Type 0 where
  pub same : HasSame all kept
  pub once : AllPairs (λ x later. x ≢ later) kept

-- the lists of one file: the declarations of the layers for the chosen codes, and their codespace ranges
pub record AreLists (layers : List Layer) (chosen : List Codes) (lists : Lists) : Type 0 where
  pub one : AreDeclared layers chosen 1 lists.cids.one lists.notdefs.one
  pub two : AreDeclared layers chosen 2 lists.cids.two lists.notdefs.two
  pub three : AreDeclared layers chosen 3 lists.cids.three lists.notdefs.three
  pub four : AreDeclared layers chosen 4 lists.cids.four lists.notdefs.four
  pub texts : AreTexts layers chosen lists.bfs
  pub spaces : AreEachOnce (ranges_of layers) lists.spaces

-- the file with the metadata of the top layer and with such lists
pub record IsFileOf (layers : List Layer) (chosen : List Codes) (file : File) : Type 0 where
  pub metadata : top_metadata layers ≡ Some file.metadata
  pub uses : file.uses ≡ []
  pub lists : AreLists layers chosen file.lists

-- one file can give each chosen code of a length its CID
abbrev pub AreKept : List Layer → List Codes → CodeLength → Type 0
AreKept layers chosen len = (code : ℕ) → code < 2 ^ 32 → Chosen chosen code (length_of len) → IsKept layers code (length_of len)

-- one file can give each chosen code of any length its CID
abbrev pub AreAllKept : List Layer → List Codes → Type 0
AreAllKept layers chosen = (len : CodeLength) → AreKept layers chosen len

-- a contradiction, for a code of 32 bits
abbrev pub IsFound : List Layer → List Codes → Contradiction → Type 0
IsFound layers chosen at = (at.code < 2 ^ 32) × IsContradiction layers chosen at

-- the CIDs of a map are the CIDs that one file can give to the chosen codes
abbrev pub HasCidsOfOne : List Layer → List Codes → List Layer → Type 0
HasCidsOfOne layers chosen flat = (code : ℕ) (len : CodeLength) → code < 2 ^ 32 → Chosen chosen code (length_of len) → cid_of flat code (length_of len) ≡ cid_of_one layers code (length_of len)

-- two maps have the same CIDs for the codes from first up to the limit
abbrev pub HaveSameCids : List Layer → List Layer → ℕ → ℕ → ℕ → Type 0
HaveSameCids one other len first limit = (code : ℕ) → first ≤ code → code < limit → cid_of one code len ≡ cid_of other code len
