use Rattle.std.proofs.Common.{refl}
use Rattle.std.proofs.lemmas.Option.{MatchOption-at_none}
use Rattle.cmap_handles.proofs.HandlesRead.{answered_in, in_handle, in_lent, none_found}
use Rattle.cmap_c.proofs.cids.hayro_cmap_cid_strict.Goals as goal

pub returns-in-Some-clause-within : goal.returns-in-Some-clause-within
returns-in-Some-clause-within c = λ within. answered_in _ _ c.in-Some.layers.now c.strict_cid.result _ _ c.in-Some.ensures.map (c.strict_cid.ensures.value.within (in_lent _ _ _ _ c.in-Some.ensures.map within)) c.put_cid.ensures

pub returns-in-Some-clause-outside : goal.returns-in-Some-clause-outside
returns-in-Some-clause-outside c = λ outside. MatchOption-at_none _ _ (c.strict_cid.ensures.value.outside (λ within. outside (in_handle _ _ _ _ c.in-Some.ensures.map within))) c.put_cid.ensures

pub returns-in-None-clause-within : goal.returns-in-None-clause-within
returns-in-None-clause-within c = λ _. none_found _ _ _ _ c.in-None.ensures.map (refl, refl)

pub returns-in-None-clause-outside : goal.returns-in-None-clause-outside
returns-in-None-clause-outside c = λ _. (refl, refl)
