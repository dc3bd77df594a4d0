-- Private aid: what contracts see of a text that is read past its faults.
use Rattle.std.specs.Prelude.{◌≡◌, List, MatchOption, Option, Some, None, option_map, Result, Ok, Err}
use Rattle.cmap_values.specs.DeclarationsSeen.{lists_seen}
use Rattle.cmap_values.specs.Files.{Declaration, Lists}
use Rattle.cmap_values.specs.Outcomes.{Outcome}
use Rattle.cmap_values.specs.declared.fault.Fault.{Fault}
use Rattle.cmap_values.specs.declared.fault.Reason.{Reason}
use Rattle.cmap_text.specs.Rows as rows
use Rattle.cmap_text.specs.Salvage as salvage
use Rattle.cmap_text.specs.Salvage.{Filled, Mended, having_lists}
use Rattle.cmap_text.specs.TextReading.{adding}
use Rattle.cmap_text.specs.TextSeen.{code_seen, key_name, said_seen, section_seen}
use Rattle.cmap_text.specs.declared.salvage.Found.{Found}
use Rattle.cmap_text.specs.declared.salvage.pieces.Class.{Class}
use Rattle.cmap_text.specs.declared.salvage.pieces.Class.TheVariants as class
use Rattle.cmap_text.specs.declared.salvage.rows.Lines.{Lines}
use Rattle.cmap_text.specs.declared.salvage.states.AtFault.{AtFault}
use Rattle.cmap_text.specs.declared.salvage.states.Entry.{Entry}
use Rattle.cmap_text.specs.declared.salvage.states.TextList.{TextList}
use Rattle.cmap_text.specs.declared.salvage.states.Parts.{Parts}
use Rattle.cmap_text.specs.declared.salvage.states.Parts.TheVariants as parts
use Rattle.cmap_text.specs.declared.salvage.states.State.{State}
use Rattle.cmap_text.specs.declared.salvage.states.State.TheVariants as state

abbrev pub class_seen : Class → salvage.Class
class_seen class.Word = salvage.known
class_seen class.Alone = salvage.alone
class_seen class.OpenBracket = salvage.open_bracket
class_seen class.CloseBracket = salvage.close_bracket
class_seen class.Part = salvage.part

abbrev pub parts_seen : Parts → salvage.Parts
parts_seen parts.None = salvage.none
parts_seen (parts.One code) = salvage.one (code_seen code)
parts_seen (parts.Two start end) = salvage.two (code_seen start) (code_seen end)

abbrev pub entry_seen : Entry → salvage.Entry
entry_seen entry = record { section = section_seen entry.section; parts = parts_seen entry.parts; begins_line = entry.begins_line }

abbrev pub rest_seen : AtFault → salvage.Rest
rest_seen rest = record { section = section_seen rest.section; places = rest.places; begins_line = rest.begins_line }

abbrev pub texts_seen : TextList → salvage.Texts
texts_seen list = record { first = list.first; next = list.next; last = list.last; kept = list.kept; begins_line = list.begins_line; one_line = list.is_one_line }

abbrev pub state_seen : State → salvage.State
state_seen state.Item = salvage.item
state_seen (state.Value key) = salvage.value (key_name key)
state_seen (state.Entry entry) = salvage.in_entry (entry_seen entry)
state_seen (state.AtFault rest) = salvage.at_fault (rest_seen rest)
state_seen (state.PassingList rest) = salvage.in_brackets (rest_seen rest)
state_seen (state.PassingLine section) = salvage.in_line (section_seen section)
state_seen (state.List list) = salvage.in_list (texts_seen list)

abbrev pub found_seen : Found → salvage.Salvaged
found_seen found = record { said = said_seen found.said; faults = found.faults.items }

abbrev pub lines_seen : Lines → rows.Lines
lines_seen lines = record { done = lines.rows.items; row = lines.row; inner = lines.inner.items; section = option_map section_seen lines.section; in_brackets = lines.is_in_brackets }

-- these declarations are added to the lists, and nothing else changes
abbrev pub AddsLists : List Declaration → Found → Found → Type 0
AddsLists declared old new = found_seen new ≡ having_lists (found_seen old) (adding (lists_seen old.said.lists) declared)

-- the answer is the value that is found; if nothing is found, the refusal has this reason
abbrev pub ReadsToken : {A B : Type 0} → Option B → (A → B) → Reason → Result A (Fault Reason) → Type 0
ReadsToken found seen fault = Outcome (λ x. found ≡ Some (seen x)) (λ reason. (found ≡ None) × (reason ≡ fault))

-- a part at fault fills its place with this result, or nothing changes
abbrev pub MendsPlace : Mended → Found → Found → Option State → Type 0
MendsPlace mended old new result = MatchOption result ((mended ≡ None) × (found_seen new ≡ found_seen old))
    (λ state. (lists : Lists) × (mended ≡ Some (state_seen state, lists)) × (found_seen new ≡ having_lists (found_seen old) lists))

-- a place is filled with this result, or nothing changes
abbrev pub FillsPlace : Filled → Found → Found → Result State (Fault Reason) → Type 0
FillsPlace filled old new = Outcome (λ state. (lists : Lists) × (filled ≡ Ok (state_seen state, lists)) × (found_seen new ≡ having_lists (found_seen old) lists)) (λ reason. (filled ≡ Err reason) × (found_seen new ≡ found_seen old))
