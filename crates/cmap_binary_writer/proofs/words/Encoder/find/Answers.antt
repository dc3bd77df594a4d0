use Rattle.std.proofs.Common.{◌≡◌, ◌<◌, ◌∙◌, get_or, length, rules, Some, ap, sym, subst}
use Rattle.std.specs.List.{All, Contains, slice_get}
use Rattle.std.specs.List.Sorted.{IsNonDecreasingBy}
use Rattle.std.proofs.lemmas.List.Elements.{All-map, Contains-get_or}
use Rattle.std.proofs.lemmas.List.Sorted.{answers_always, All-permutation, Contains-permutation, IsPermutation-sym}
use Rattle.std.proofs.lemmas.Option.{slice_get-get_or}
use Rattle.cmap_binary_writer.specs.Spelled.{HasWord, IsNoSymbol}
use Rattle.cmap_binary_writer.specs.WordsHeld.{word_seen}
use Rattle.cmap_binary_writer.specs.declared.words.Word.{Word}
use Rattle.cmap_binary_writer.proofs.Spelling.{HasWord-held}
use Rattle.cmap_binary_writer.proofs.WordsSought.{absent, found}
use Rattle.cmap_binary_writer.proofs.words.Encoder.find.Goals as goal

pub returns-in-Ok-clause-some : goal.returns-in-Ok-clause-some
returns-in-Ok-clause-some c =
    let i = c.in-Ok.index in
    let words = c.self.inside.words.items in
    let sorted = c.self.inside.by_symbol.items in
    let w = c.index.result.now in
    let slice = c.deref.result.now in
    let symbol_is : w.symbol ≡ c.args.symbol =
    ap (λ (w : Word). w.symbol) c.index.ensures
    ∙ ap (λ ws. (get_or ws i w).symbol) (sym c.deref.ensures.value)
    ∙ found (λ (w : Word). w.symbol) slice c.args.symbol i w (c.in-Ok.ensures.position (λ w. w.symbol) (answers_always _ _ _ (λ f a r g called. search rules))) in
    let within_sorted : i < length sorted = subst (λ ws. i < length ws) c.deref.ensures.value c.in-Ok.ensures.bound in
    let (k, within, is) = Contains-permutation sorted words w (IsPermutation-sym words sorted c.self.invariant.same) (subst (Contains sorted) (sym c.index.ensures) (Contains-get_or sorted i w within_sorted)) in
    let at : slice_get words k ≡ Some w = slice_get-get_or words k w within ∙ ap (λ v. Some v) is in
    subst (λ s. HasWord c.args.self.now s w.len w.value) symbol_is (subst (λ t. HasWord t w.symbol w.len w.value) c.self.view_is (HasWord-held words w k c.self.invariant.sound c.self.invariant.words at))

pub returns-in-Err-clause-none : goal.returns-in-Err-clause-none
returns-in-Err-clause-none c =
    let words = c.self.inside.words.items in
    let sorted = c.self.inside.by_symbol.items in
    let slice = c.deref.result.now in
    let up : IsNonDecreasingBy (λ (w : Word). w.symbol) slice = subst (IsNonDecreasingBy (λ (w : Word). w.symbol)) (sym c.deref.ensures.value) c.self.invariant.sorted in
    let none = absent (λ (w : Word). w.symbol) slice c.args.symbol c.in-Err.field-0 c.in-Err.ensures.bound up (c.in-Err.ensures.position (λ w. w.symbol) (answers_always _ _ _ (λ f a r g called. search rules))) in
    let all = All-permutation (λ (w : Word). w.symbol ≡ c.args.symbol → ⊥) sorted words (IsPermutation-sym words sorted c.self.invariant.same) (subst (All (λ (w : Word). w.symbol ≡ c.args.symbol → ⊥)) c.deref.ensures.value none) in
    subst (λ t. IsNoSymbol t c.args.symbol) c.self.view_is (All-map (λ p. p.symbol ≡ c.args.symbol → ⊥) word_seen words all)
