use Rattle.std.proofs.Common.{◌≡◌, ◌+◌, ◌<◌, ◌++◌, ℕ, List, [], ◌∷◌, ap, append_assoc, arith, get_or, length, refl, sym, take, ◌∙◌}
use Rattle.std.specs.Borrow.{Bor}
use Rattle.std.specs.List.{concat}
use Rattle.std.specs.Prelude.{IsErr, Result, Ok, Err, MatchResult}
use Rattle.std.proofs.lemmas.Bool.{false≢true}
use Rattle.std.proofs.lemmas.List.{append-nil, map-append, take_all, take_more}
use Rattle.cmap_values.specs.NamesSeen.{names_seen}
use Rattle.cmap_handles.proofs.names.push_names.Goals as goal

concat_push : (lists : List (List ℕ)) (list : List ℕ) → concat (lists ++ list ∷ []) ≡ concat lists ++ list
concat_push [] list = append-nil list
concat_push (first ∷ lists) list = ap (λ rest. first ++ rest) (concat_push lists list) ∙ sym (append_assoc first (concat lists) list)

next_name : (names : List (Bor (List ℕ))) (i : ℕ) (d : Bor (List ℕ)) (begin old new : List ℕ) → i < length names → new ≡ old ++ (get_or names i d).now
    → old ≡ begin ++ concat (names_seen (take i names)) → new ≡ begin ++ concat (names_seen (take (i + 1) names))
next_name names i d begin old new within more before =
    let name = get_or names i d in
    let seen = ap names_seen (take_more names i d within) ∙ map-append (λ (n : Bor (List ℕ)). n.now) (take i names) (name ∷ []) in
    more ∙ ap (λ bytes. bytes ++ name.now) before ∙ append_assoc begin (concat (names_seen (take i names))) name.now ∙ ap (λ rest. begin ++ rest) (sym (concat_push (names_seen (take i names)) name.now) ∙ ap concat (sym seen))

of_err : {A E : Type 0} (P Q : Type 0) (r : Result A E) → IsErr r → Q → MatchResult r (λ _. P) (λ _. Q)
of_err P Q (Ok x) err holds = absurd (false≢true err)
of_err P Q (Err e) err holds = holds

pub loop-name-preserved : goal.loop-name-preserved
loop-name-preserved c = next_name c.args.names.now c.loop-name.name-index _ _ c.loop-name.bytes.items _ c.loop-name-test.true c.in_ok-extend_from_slice.ensures.items c.loop-name.invariant

pub returns-in_err-extend_from_slice : goal.returns-in_err-extend_from_slice
returns-in_err-extend_from_slice c = of_err _ _ c.from_residual.result c.from_residual.ensures.0 (c.loop-name.name-index, c.in_err-extend_from_slice.ensures.items ∙ c.loop-name.invariant)

pub returns : goal.returns
returns c = c.loop-name.invariant ∙ ap (λ names. c.args.bytes.now.items ++ concat (names_seen names)) (take_all c.loop-name.name-index c.args.names.now (omega arith))

pub slice_bounds-extend_from_slice-end : goal.slice_bounds-extend_from_slice-end
slice_bounds-extend_from_slice-end c = refl
