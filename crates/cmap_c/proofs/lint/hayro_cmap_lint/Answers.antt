use Rattle.std.proofs.Common.{refl}
use Rattle.cmap_handles.specs.declared.status.Status.TheVariants.{Absent, NoMemory}
use Rattle.cmap_handles.proofs.HandlesRead.{no_map, of_map}
use Rattle.cmap_handles.proofs.StatusNumbers.{not_both, put_no_memory}
use Rattle.cmap_c.proofs.lint.hayro_cmap_lint.Goals as goal

pub returns-in_default-clause-findings : goal.returns-in_default-clause-findings
returns-in_default-clause-findings c = λ _. no_map _ _ _ c.in_default.ensures.map (c.number.ensures, refl, refl)

pub returns-in_default-clause-unwritten : goal.returns-in_default-clause-unwritten
returns-in_default-clause-unwritten c = λ memory. absurd (not_both Absent NoMemory refl c.number.ensures memory)

pub returns-in-Ok-clause-findings : goal.returns-in-Ok-clause-findings
returns-in-Ok-clause-findings c = λ _. of_map _ c.in-Some.layers.now _ _ c.in-Some.ensures.map (c.deref.result.now, c.put.ensures)

pub returns-in-Ok-clause-unwritten : goal.returns-in-Ok-clause-unwritten
returns-in-Ok-clause-unwritten c = λ memory. absurd (put_no_memory _ _ _ _ _ c.put.ensures memory)

pub returns-in-Err-clause-findings : goal.returns-in-Err-clause-findings
returns-in-Err-clause-findings c = λ other. absurd (other c.number-in-Err.ensures)

pub returns-in-Err-clause-unwritten : goal.returns-in-Err-clause-unwritten
returns-in-Err-clause-unwritten c = λ _. (refl, refl)
