-- Private aid: lists of copies of names.
use Rattle.std.specs.Prelude.{ℕ, List, Option, map}
use Rattle.std.specs.Ordering.{nat_cmp}
use Rattle.std.specs.Cmp.Lexicographic.{slice_cmp}
use Rattle.std.specs.BTreeMap.{get_by}
use Rattle.cmap_load.specs.Numbers.{FindsEach}
use Rattle.cmap_load.specs.declared.names.NameCopies.{NameCopies}

abbrev pub number_of : NameCopies → List ℕ → Option ℕ
number_of names text = get_by (λ other. slice_cmp nat_cmp text other.items) names.numbers

abbrev pub texts_of : NameCopies → List (List ℕ)
texts_of names = map (λ text. text.items) names.texts.items

abbrev pub AreNumbered : NameCopies → Type 0
AreNumbered names = FindsEach (number_of names) (texts_of names)
