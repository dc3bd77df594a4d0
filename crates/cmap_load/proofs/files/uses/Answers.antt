use Rattle.cmap_load.proofs.files.uses.Goals as goal

pub returns-in-Err-Refused : goal.returns-in-Err-Refused
returns-in-Err-Refused c = λ value uses. (rw c.in-Err-Refused.field-0-is at c.in-Err-Refused.ensures.reads.1).0 uses.0 uses.1
