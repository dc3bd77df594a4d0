use Rattle.hayro_cmap.proofs.map.CMap.parse.Goals as goal

pub returns-in-Ok-clause-accepts : goal.returns-in-Ok-clause-accepts
returns-in-Ok-clause-accepts g c = c.in-Ok.ensures.accepts

pub returns-in-Ok-clause-refuses : goal.returns-in-Ok-clause-refuses
returns-in-Ok-clause-refuses g c = c.in-Ok.ensures.refuses
