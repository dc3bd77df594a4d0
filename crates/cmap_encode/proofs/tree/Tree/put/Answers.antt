use Rattle.std.proofs.Common.{◌≡◌, ℕ, false, refl, sym, ap}
use Rattle.std.specs.Ordering.{is_eq, nat_cmp, ordering_then}
use Rattle.std.specs.declared.cmp.Ordering.{Ordering}
use Rattle.std.specs.declared.cmp.Ordering.TheVariants.{Equal, Greater, Less}
use Rattle.std.proofs.lemmas.Map.Lookups.{exact_pairs, exact_unsigned}
use Rattle.cmap_encode.proofs.tree.Tree.put.Goals as goal

unlike : (o : Ordering) → (o ≡ Equal → ⊥) → is_eq o ≡ false
unlike Less not = refl
unlike Equal not = absurd (not refl)
unlike Greater not = refl

same_step : (node character n c : ℕ) → ordering_then (nat_cmp node n) (nat_cmp character c) ≡ Equal → (n ≡ node) × (c ≡ character)
same_step node character n c equal =
    let same = exact_pairs nat_cmp nat_cmp exact_unsigned exact_unsigned (node, character) (n, c) equal in
    (sym (ap (λ (p : ℕ × ℕ). p.0) same), sym (ap (λ (p : ℕ × ℕ). p.1) same))

pub returns : goal.returns
returns c =
    let updates = c.in_ok-insert.ensures.updates in
    record {
      here = updates.1;
      others = λ n character apart. updates.2 (record { node = n; character = character }) (unlike _ (λ equal. apart (same_step c.args.node c.args.character n character equal)));
    }
