-- `count` sets the two counts, of which the machine has nothing. Assumes `Logic`.
use Rattle.std.proofs.Common.{◌≡◌, ◌+◌, [], ◌∷◌, refl, w64}
use Rattle.std.proofs.raw_atomic.Walks.{proved, leaves}
use base.Fml.{ftrue, flft}
use base.Logic.{emp}
use contract.Monad.{fact, fact_i}
use denote.Builtin.{u64}
use denote.Exit.{yes}
use denote.Plain.{uint_vals, uint_Tells}
use denote.Ref.{MutRef, mut_vals, mut_Tells}
use denote.Signature.{plain}
use denote.Steps.{nothing, opens, closes}
use denote.Triple.Walked.{Stays, stay_ref, stay_dropped, Goes-ref, Goes-dropped, walk_of}
use mir.Syntax.{named}
use mir.Val.{vunit}
use types.ByLocal.{alloc_all, pass_all, free_all, look_at, sets}
use types.Kit.{‵, raw, ◌⊛◌, ◌$◌, ◌∵◌, !, qed, by, move, keep, use0, split, join, fsplit3, fjoin, fjoin3, feq_i}
use types.Run.{unit_lit, of_opd, returns, enter}
use Rattle.cmap_runs.specs.contracts.runs.looks.Looks.{the_row as R}
use Rattle.cmap_runs.specs.contracts.runs.looks.Looks.count as f
use Rattle.cmap_runs.proofs.runs.looks.Looks.count.Statement.{statement}
use Rattle.cmap_runs.proofs.runs.looks.Looks.count.Code as code

abbrev stayed : Stays f.ended.signature.params f.ended.kept
stayed = (stay_ref (0 ∷ []) tt (plain (λ _. R)), (stay_dropped _ yes, (stay_dropped _ yes, tt)))

pub count_spec : {M : Type 1} → statement M
count_spec 𝓤 𝓛 𝓜 𝓡 wired =
    let c = f.clauses 𝓛 𝓜.mem 𝓡.returns in let W = walk_of 𝓛 f.ended stayed c in
    let goes = Goes-dropped 𝓛 1 (plain (λ _. u64)) yes (λ κs x w. refl) in
    proved 𝓛 f.ended stayed c 𝓜 𝓡 (Goes-ref 𝓛 1 0 tt (plain (λ _. R)), (goes, (goes, tt)))
    f.Key.name code.function (code.unfolded 𝓤 𝓛.H 𝓜 𝓡 wired)
    (λ κs. (mut_vals, (uint_vals w64, (uint_vals w64, tt)))) (λ κs. (mut_Tells (named 0) κs.0 R, (uint_Tells w64, (uint_Tells w64, tt)))) (λ κs qs bounds a _ are.
    let r = a.0 in let b = r.ref_ptr.0 in let o = r.ref_ptr.1 in let m = a.1.0 in let n = a.1.1.0 in let vs = mut_vals r in
    let old : R.Denot = r.now in let new : R.Denot = record old { runs = old.runs + m; declarations = old.declarations + n } in
    let y : W.Ghost = ((κs, qs, bounds, a, (vs, (uint_vals w64 m, (uint_vals w64 n, tt)))), tt) in
    qed 𝓛 (((‵ (flft κs.0 qs.0) ⊛ ‵ ftrue) ⊛ ‵ ((MutRef (named 0) κs.0 R).own_val r vs) ⊛ ‵ (u64.own_val m (uint_vals w64 m)) ⊛ ‵ (u64.own_val n (uint_vals w64 n)) ⊛ ‵ ftrue) ∷ ‵ ftrue ∷ []) ∵
    split ! $ split ! $ move ! (2 ∷ []) $ split ! $ keep ! (0 ∷ 2 ∷ []) $
    enter ! _ _ _ _ _ $ alloc_all ! (λ l. pass_all ! refl ((tt, tt), ((tt, record { fits = are.1.0.1 }), ((tt, record { fits = are.1.1.0.1 }), tt))) $
    fsplit3 ! $ move ! (1 ∷ 2 ∷ 3 ∷ []) $ opens ! tt R b o (λ us.
    closes ! tt R new us b o $
    sets ! (of_opd ! (unit_lit !)) refl (tt, tt) $
    returns ! (look_at ! 0 refl) $ free_all ! refl $
    -- [two parts of self; the token; self's first part]
    move ! (3 ∷ 0 ∷ 1 ∷ []) $ fjoin3 ! $ nothing ! $ nothing ! $ fjoin ! $ nothing ! $ fjoin ! $ move ! (1 ∷ 0 ∷ []) $ fjoin ! $
    nothing ! $ move ! (2 ∷ 0 ∷ []) $ join ! $ feq_i ! _ (vunit ∷ []) _ refl $
    use0 𝓛 (raw (fact 𝓤 (new.declarations ≡ old.declarations + n))) (fact_i 𝓤 _ (emp 𝓤) refl) $
    use0 𝓛 (raw (fact 𝓤 (new.runs ≡ old.runs + m))) (fact_i 𝓤 _ (emp 𝓤) refl) $ join ! $
    -- [the clauses; the result; the tokens; what is had of the parameters]
    move ! (2 ∷ 3 ∷ 1 ∷ 0 ∷ []) $ by ! (leaves 𝓛 f.ended stayed c y vunit tt (new, (tt, (tt, tt))) (tt, (tt, (tt, tt)))))))
