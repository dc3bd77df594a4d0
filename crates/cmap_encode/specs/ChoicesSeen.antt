-- Private aid: what choices have for texts.
use Rattle.std.specs.Prelude.{ℕ, List, [], Option, None, Some, option_map}
use Rattle.cmap_encode.specs.Codes.{code_bytes}
use Rattle.cmap_encode.specs.IndexSeen.{own_at, own_in}
use Rattle.cmap_encode.specs.Pieces as pieces
use Rattle.cmap_encode.specs.Standing.{standing}
use Rattle.cmap_encode.specs.declared.choices.Choice.{Choice}
use Rattle.cmap_encode.specs.declared.choices.Choices.{Choices}
use Rattle.cmap_encode.specs.declared.choices.Grade.{Grade}
use Rattle.cmap_encode.specs.declared.choices.Grade.TheVariants as grade
use Rattle.cmap_encode.specs.declared.code.Code.{Code}
use Rattle.cmap_encode.specs.declared.rank.Rank.{Rank}
use Rattle.cmap_encode.specs.declared.rank.Rank.TheVariants as rank
use Rattle.cmap_encode.specs.declared.rank.Ranked.{Ranked}
use Rattle.cmap_encode.specs.declared.index.Index.{Index}

abbrev pub grade_of : Rank → Grade
grade_of rank.Stated = grade.Stated
grade_of rank.OwnForm = grade.Canonical
grade_of rank.Canonical = grade.Canonical
grade_of rank.Collection = grade.Collection

-- the code of a text, as the choice for the text
abbrev pub own_choice : Ranked → pieces.Choice
own_choice own = record { bytes = code_bytes own.code; grade = grade_of own.rank }

abbrev pub bytes_in : Option Code → List ℕ
bytes_in None = []
bytes_in (Some code) = code_bytes code

abbrev pub choice_seen : Choice → pieces.Choice
choice_seen choice = record { bytes = bytes_in choice.code; grade = choice.grade }

-- the own code of each text in an index
abbrev pub owned : Index → pieces.Choices
owned index text = option_map own_choice (own_in index text)

abbrev pub owned_at : Index → Option ℕ → ℕ → Option pieces.Choice
owned_at index node last = option_map own_choice (own_at index node last)

-- what stands for each text
abbrev pub choices_of : Choices → pieces.Choices
choices_of choices = standing (owned choices.index) choices.exact
