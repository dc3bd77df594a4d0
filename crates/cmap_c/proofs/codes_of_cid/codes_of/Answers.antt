use Rattle.cmap_c.proofs.codes_of_cid.codes_of.Goals as goal

pub returns-in-Some : goal.returns-in-Some
returns-in-Some c = rw c.in-Some.ensures.1 at c.codes_of_cid.ensures
