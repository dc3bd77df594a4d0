-- What holds of the lists for codes of each length.
use Rattle.std.proofs.Common.{ℕ, Bool, true, false, List, [], refl, inl, inr}
use Rattle.std.specs.Prelude.{◌==◌, if◌then◌else◌}
use Rattle.cmap_values.specs.Files.{ByLength, CidEntry, of_length}
use Rattle.cmap_edit.specs.Kinds.{AreTidiedOf, Kind, notdef_kind}
use Rattle.cmap_edit.specs.Tidied.{AreTidiedNotdefs}
use Rattle.cmap_edit.proofs.TidyLists.{no_entries}

-- the tests of a length
if_both : {A : Type 0} (R : A → A → Type 0) (test : Bool) (old new old_else new_else : A) → R old new → R old_else new_else → R (if test then old else old_else) (if test then new else new_else)
if_both R true old new old_else new_else is is_else = is
if_both R false old new old_else new_else is is_else = is_else

pub each_length : (R : List CidEntry → List CidEntry → Type 0) (old new : ByLength) → R old.one new.one → R old.two new.two → R old.three new.three → R old.four new.four → R [] []
    → (len : ℕ) → R (of_length old len) (of_length new len)
each_length R old new one two three four none len =
    if_both R (len == 1) old.one new.one _ _ one
    (if_both R (len == 2) old.two new.two _ _ two (if_both R (len == 3) old.three new.three _ _ three (if_both R (len == 4) old.four new.four [] [] four none)))

pub none_anew : {X : Type 0} (kind : Kind X) → AreTidiedOf kind [] []
none_anew kind = inl (no_entries _ _ _, λ code lt. refl)

-- no notdef is lost
pub notdefs_tidied : (old new : List CidEntry) → AreTidiedOf notdef_kind old new → AreTidiedNotdefs old new
notdefs_tidied old new (inl tidied) = tidied
notdefs_tidied old new (inr (lost, same)) = absurd lost.2
