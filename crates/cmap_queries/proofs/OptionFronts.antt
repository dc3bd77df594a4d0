-- Arguments that begin with an option.
use Rattle.std.proofs.Common.{◌≡◌, ◌≤◌, ◌-◌, ap, ◌∙◌, sym, arith, false, not, List, [], ◌∷◌, ℕ, nat_eq, length, map, take, drop, get_or}
use Rattle.std.specs.Cmp.Lexicographic.{pointwise, same_text}
use Rattle.std.proofs.lemmas.Bool.{not-false}
use Rattle.std.proofs.lemmas.List.{take_rest}
use Rattle.cmap_queries.specs.OptionArguments.{BeginWith}

-- a list of two items at least, by these and the others
list_of_two : {X : Type 0} (xs : List X) (first second : X) → 2 ≤ length xs → first ≡ get_or xs 0 first → second ≡ get_or xs 1 second → xs ≡ first ∷ second ∷ take (length xs - 2) (drop 2 xs)
list_of_two [] first second long is next = absurd (omega (arith, long))
list_of_two (x ∷ []) first second long is next = absurd (omega (arith, long))
list_of_two (x ∷ (y ∷ rest)) first second long is next =
    ap (λ a. a ∷ y ∷ rest) (sym is) ∙ ap (λ b. first ∷ b ∷ rest) (sym next) ∙ ap (λ l. first ∷ second ∷ l) (sym (take_rest (x ∷ y ∷ rest) 2))

-- two arguments at least, whose first is not another than the name, begin with the option
pub begin : {X : Type 0} (text : X → List ℕ) (arguments : List X) (name read : List ℕ) (first second : X) → read ≡ text first → false ≡ not (pointwise nat_eq read name) → 2 ≤ length arguments
    → first ≡ get_or arguments 0 first → second ≡ get_or arguments 1 second → BeginWith name (map text arguments) (text second) (map text (take (length arguments - 2) (drop 2 arguments)))
begin text arguments name read first second is_read not_other long is next =
    let named = sym is_read ∙ same_text read name (sym (not-false (pointwise nat_eq read name) (sym not_other))) in
    let others = map text (take (length arguments - 2) (drop 2 arguments)) in
    ap (map text) (list_of_two arguments first second long is next) ∙ ap (λ n. n ∷ text second ∷ others) named
