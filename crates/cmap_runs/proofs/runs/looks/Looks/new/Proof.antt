-- `new` makes the one machine value of a `Looks`, and starts both counts at 0. Assumes `Logic`.
use Rattle.std.proofs.Common.{◌≡◌, [], ◌∷◌, refl}
use Rattle.std.proofs.raw_atomic.Walks.{proved, leaves}
use base.Fml.{ftrue}
use base.Logic.{emp}
use contract.Monad.{fact, fact_i}
use denote.Shadow.{pure_i}
use denote.Steps.{nothing}
use denote.Triple.Entry.{alive}
use denote.Triple.Walked.{Stays, walk_of}
use mir.Val.{vstruct, vnil, vcons}
use types.ByLocal.{alloc_all, pass_all, free_all, look_at, get, sets}
use types.Kit.{‵, raw, ◌⊛◌, ◌$◌, ◌∵◌, !, qed, by, move, keep, use0, split, join}
use types.Part.{agg}
use types.Run.{no_more, and_then, returns, enter}
use Rattle.cmap_runs.specs.contracts.runs.looks.Looks.{the_row as R}
use Rattle.cmap_runs.specs.contracts.runs.looks.Looks.new as f
use Rattle.cmap_runs.proofs.runs.looks.Looks.new.Statement.{statement}
use Rattle.cmap_runs.proofs.runs.looks.Looks.new.Code as code

abbrev stayed : Stays f.ended.signature.params f.ended.kept
stayed = tt

pub new_spec : {M : Type 1} → statement M
new_spec 𝓤 𝓛 𝓜 𝓡 wired =
    let c = f.clauses 𝓛 𝓜.mem 𝓡.returns in let W = walk_of 𝓛 f.ended stayed c in
    let token = vstruct (vcons (vstruct vnil) vnil) in
    let made : R.Denot = record { marker = record {}; runs = 0; declarations = 0 } in
    proved 𝓛 f.ended stayed c 𝓜 𝓡 tt
    f.Key.name code.function (code.unfolded 𝓤 𝓛.H 𝓜 𝓡 wired)
    (λ κs. tt) (λ κs. tt) (λ κs qs bounds a _ are.
    let y : W.Ghost = ((κs, qs, bounds, a, tt), tt) in
    qed 𝓛 ((raw (alive 𝓛 f.signature κs qs) ⊛ ‵ ftrue) ∷ ‵ ftrue ∷ []) ∵ split ! $ keep ! (0 ∷ []) $
    enter ! _ _ _ _ _ $ alloc_all ! (λ l. pass_all ! refl tt $
    sets ! (agg ! (no_more !)) refl (tt, tt) $
    sets ! (agg ! (and_then ! (get ! refl) (no_more !))) refl (tt, (tt, tt)) $
    returns ! (look_at ! 0 refl) $ free_all ! refl $
    use0 𝓛 (raw (fact 𝓤 (0 ≡ 0))) (fact_i 𝓤 (0 ≡ 0) (emp 𝓤) refl) $ use0 𝓛 (raw (fact 𝓤 (0 ≡ 0))) (fact_i 𝓤 (0 ≡ 0) (emp 𝓤) refl) $ join ! $
    pure_i ! (R.own_val made (token ∷ [])) ((λ vss. (tt, ((λ uss. (tt, tt)), tt))), tt) (((vstruct vnil ∷ [], tt), (refl, ((tt, (refl, tt)), tt))), tt) $
    -- [the result; the clauses; the tokens]
    nothing ! $ move ! (3 ∷ 0 ∷ 1 ∷ 2 ∷ []) $ by ! (leaves 𝓛 f.ended stayed c y token made tt tt)))
