use Rattle.std.proofs.Common.{refl}
use Rattle.cmap_handles.specs.declared.status.Status.TheVariants.{Absent, NoMemory}
use Rattle.cmap_handles.proofs.HandlesRead.{no_map, of_map}
use Rattle.cmap_handles.proofs.StatusNumbers.{not_both, put_no_memory}
use Rattle.cmap_c.proofs.codes_of_cid.hayro_cmap_codes_of_cid.Goals as goal

pub returns-in_default-clause-codes : goal.returns-in_default-clause-codes
returns-in_default-clause-codes c = λ _. no_map _ _ _ c.in_default.ensures.map (c.number.ensures, refl, refl)

pub returns-in_default-clause-unwritten : goal.returns-in_default-clause-unwritten
returns-in_default-clause-unwritten c = λ memory. absurd (not_both Absent NoMemory refl c.number.ensures memory)

pub returns-in-Ok-clause-codes : goal.returns-in-Ok-clause-codes
returns-in-Ok-clause-codes c = λ _. of_map _ c.in-Some.layers.now _ _ c.in-Some.ensures.map (c.in-Ok.codes.items, c.in-Ok.ensures, c.put_items.ensures)

pub returns-in-Ok-clause-unwritten : goal.returns-in-Ok-clause-unwritten
returns-in-Ok-clause-unwritten c = λ memory. absurd (put_no_memory _ _ _ _ _ c.put_items.ensures memory)

pub returns-in-Err-clause-codes : goal.returns-in-Err-clause-codes
returns-in-Err-clause-codes c = λ other. absurd (other c.number-in-Err.ensures)

pub returns-in-Err-clause-unwritten : goal.returns-in-Err-clause-unwritten
returns-in-Err-clause-unwritten c = λ _. (refl, refl)
