-- The file for the metadata and the declarations that C hands in.
use Rattle.std.specs.Prelude.{ℕ, ◌==◌, ◌&&◌, Bool, false, not, true, List, [], ◌∷◌, Option, Some, None, flat_map, length, nat_le, nat_lt, option_and_then, option_map, if◌then◌else◌}
use Rattle.std.specs.Char.Escape.{encode_utf16}
use Rattle.std.specs.Str.{chars, is_utf8}
use Rattle.cmap_values.specs.Files as files
use Rattle.cmap_values.specs.Files.{Codespace, File, bf, cid, codespace, lists_of, notdef}
use Rattle.cmap_values.specs.Metadata.{Collection, FileMetadata, mode_numbered}
use Rattle.cmap_values.specs.Names.{family_of}
use Rattle.cmap_text_writer.specs.Lengths.{length_by}
use Rattle.cmap_text_writer.specs.Spelled.{end_length}
use Rattle.cmap_c_writer.specs.declared.declaration.Declaration.{Declaration}
use Rattle.cmap_c_writer.specs.declared.declaration.Kind.{Kind}
use Rattle.cmap_c_writer.specs.declared.declaration.Kind.TheVariants.{CidRange, CodespaceRange, NotdefRange, TextRange}
use Rattle.cmap_c_writer.specs.declared.facts.Facts.{Facts}

-- codes have one to four bytes
abbrev pub length_given : ℕ → Option ℕ
length_given count = if nat_le 1 count && nat_le count 4 then Some count else None

-- the UTF-16 units of a text that is UTF-8 and has a character or more
abbrev pub units_given : List ℕ → Option (List ℕ)
units_given text = if is_utf8 text && nat_lt 0 (length text) then Some (flat_map encode_utf16 (chars text)) else None

-- the numbers of the kinds in the C header
abbrev pub kind_numbered : ℕ → Option Kind
kind_numbered number =
    if number == 0 then Some CodespaceRange
    else if number == 1 then Some CidRange
    else if number == 2 then Some NotdefRange
    else if number == 3 then Some TextRange
    else None

-- the declaration of this kind for codes of len bytes
abbrev pub said_by : Declaration → ℕ → Kind → Option files.Declaration
said_by d len CodespaceRange = Some (codespace (record { len = len; low = d.first; high = d.last }))
said_by d len CidRange = Some (cid len (record { start = d.first; end = d.last; cid = d.cid }))
said_by d len NotdefRange = Some (notdef len (record { start = d.first; end = d.last; cid = d.cid }))
said_by d len TextRange = option_map (λ units. bf (record { start = d.first; end = d.last; units = units })) (units_given d.text.now)

-- the declaration that C hands in; nothing where its length or its kind isn't valid, or where it needs a text and has none
abbrev pub declared_by : Declaration → Option files.Declaration
declared_by d = option_and_then (λ len. option_and_then (said_by d len) (kind_numbered d.kind)) (length_given d.byte_len)

-- the declarations that C hands in, if each is valid
abbrev pub all_declared : List Declaration → Option (List files.Declaration)
all_declared [] = Some []
all_declared (d ∷ ds) = option_and_then (λ said. option_map (λ more. said ∷ more) (all_declared ds)) (declared_by d)

-- the metadata of the file
abbrev pub name_given : Facts → Option (List ℕ)
name_given facts = if facts.has_name == 0 then None else Some facts.name.now

abbrev pub collection_given : Facts → Option Collection
collection_given facts = if facts.has_collection == 0 then None else Some (record { family = family_of facts.registry.now facts.ordering.now; supplement = facts.supplement })

abbrev pub metadata_given : Facts → FileMetadata
metadata_given facts = record { collection = collection_given facts; name = name_given facts; mode = mode_numbered facts.writing_mode }

-- the file with this metadata and these declarations, which uses no other file
abbrev pub file_given : Facts → List Declaration → Option File
file_given facts ds = option_map (λ said. record { metadata = metadata_given facts; lists = lists_of said; uses = [] }) (all_declared ds)

-- the declaration gives texts
abbrev pub gives_text : Option Kind → Bool
gives_text (Some TextRange) = true
gives_text other = false

-- the length differs from the one before
abbrev pub is_other : Option ℕ → ℕ → Bool
is_other None len = false
is_other (Some before) len = not (before == len)

-- the number of bytes of the codes of all texts, including the texts before; nothing where the numbers differ, or where there is no text
abbrev pub same_after : Option ℕ → List Declaration → Option ℕ
same_after before [] = before
same_after before (d ∷ ds) =
    if gives_text (kind_numbered d.kind) then (if is_other before d.byte_len then None else same_after (Some d.byte_len) ds)
    else same_after before ds

-- the length of the code of a text: the common length, or four where the code doesn't fit in it; without a common length, the length by the codespace ranges
abbrev pub length_of_text : Option ℕ → List Codespace → ℕ → ℕ
length_of_text (Some len) ss code = end_length len code
length_of_text None ss code = length_by ss code

abbrev pub text_lengths_given : List Declaration → List Codespace → ℕ → ℕ
text_lengths_given ds ss code = length_of_text (option_and_then length_given (same_after None ds)) ss code
