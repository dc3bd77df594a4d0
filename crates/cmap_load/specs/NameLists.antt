-- Private aid: lists of names that are slices.
use Rattle.std.specs.Prelude.{ℕ, List, Option}
use Rattle.std.specs.Ordering.{nat_cmp}
use Rattle.std.specs.Cmp.Lexicographic.{slice_cmp}
use Rattle.std.specs.BTreeMap.{get_by}
use Rattle.cmap_values.specs.NamesSeen.{names_seen}
use Rattle.cmap_load.specs.Numbers.{FindsEach}
use Rattle.cmap_load.specs.declared.names.NameSlices.{NameSlices}

abbrev pub number_of : NameSlices → List ℕ → Option ℕ
number_of names text = get_by (λ other. slice_cmp nat_cmp text other.now) names.numbers

abbrev pub texts_of : NameSlices → List (List ℕ)
texts_of names = names_seen names.texts.items

abbrev pub AreNumbered : NameSlices → Type 0
AreNumbered names = FindsEach (number_of names) (texts_of names)
