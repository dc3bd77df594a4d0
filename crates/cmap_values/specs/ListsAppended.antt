-- Private aid: a file without content, and the lists of declarations of one part of a file after another.
use Rattle.std.specs.Prelude.{[], ◌++◌, None}
use Rattle.cmap_values.specs.Files.{ByLength, File, Lists, lists_of}

abbrev pub no_lists : Lists
no_lists = lists_of []

abbrev pub append_by_length : ByLength → ByLength → ByLength
append_by_length a b = record { one = a.one ++ b.one; two = a.two ++ b.two; three = a.three ++ b.three; four = a.four ++ b.four }

abbrev pub append_lists : Lists → Lists → Lists
append_lists a b = record {
  cids = append_by_length a.cids b.cids;
  notdefs = append_by_length a.notdefs b.notdefs;
  bfs = a.bfs ++ b.bfs;
  spaces = a.spaces ++ b.spaces;
}

-- a file without metadata, declarations and uses
abbrev pub no_file : File
no_file = record { metadata = record { collection = None; name = None; mode = None }; lists = no_lists; uses = [] }
