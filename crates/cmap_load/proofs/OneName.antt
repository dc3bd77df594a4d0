-- A text has one answer at the most, since its name is one name.
use Rattle.std.proofs.Common.{◌∙◌, sym, ℕ, List, Option}
use Rattle.std.specs.Borrow.{Bor}
use Rattle.std.specs.Fn.{Shared}
use Rattle.cmap_values.proofs.OneName.{IsSameName-from_text}
use Rattle.cmap_values.specs.declared.names.CMapName.{CMapName}
use Rattle.cmap_load.specs.Answers.{Answers, AnswersByName, IsByName}

pub IsByName-from_answers : {F : Type 0} (calls : Shared F (CMapName × Unit {0}) (Option (Bor (List ℕ)))) (get_cmap : F)
    → AnswersByName calls get_cmap → IsByName (Answers calls get_cmap)
IsByName-from_answers calls get_cmap h text first second a b = a.4 ∙ h a.0 b.0 a.1 b.1 (IsSameName-from_text text a.0 b.0 a.2 b.2) a.3 b.3 ∙ sym b.4
