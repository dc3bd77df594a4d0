use Rattle.std.proofs.Common.{◌≡◌, ℕ, List, true, false, refl}
use Rattle.std.specs.Prelude.{bytes_eq, codes}
use Rattle.cmap_values.specs.Names.{adobe_gb1, adobe_cns1, adobe_korea1, adobe_identity, custom, family_of}
use Rattle.cmap_values.proofs.character_collection.CidFamily.of_adobe.Goals as goal

module _ (text : List ℕ) (japan : false ≡ bytes_eq text (codes "Japan1")) where
  second : true ≡ bytes_eq text (codes "GB1") → adobe_gb1 ≡ family_of (codes "Adobe") text
  second gb = rw (← japan, ← gb) refl

  third : false ≡ bytes_eq text (codes "GB1") → true ≡ bytes_eq text (codes "CNS1") → adobe_cns1 ≡ family_of (codes "Adobe") text
  third gb cns = rw (← japan, ← gb, ← cns) refl

  fourth : false ≡ bytes_eq text (codes "GB1") → false ≡ bytes_eq text (codes "CNS1") → true ≡ bytes_eq text (codes "Korea1") → adobe_korea1 ≡ family_of (codes "Adobe") text
  fourth gb cns korea = rw (← japan, ← gb, ← cns, ← korea) refl

  fifth : false ≡ bytes_eq text (codes "GB1") → false ≡ bytes_eq text (codes "CNS1") → false ≡ bytes_eq text (codes "Korea1") → true ≡ bytes_eq text (codes "Identity") → adobe_identity ≡ family_of (codes "Adobe") text
  fifth gb cns korea identity = rw (← japan, ← gb, ← cns, ← korea, ← identity) refl

  none : false ≡ bytes_eq text (codes "GB1") → false ≡ bytes_eq text (codes "CNS1") → false ≡ bytes_eq text (codes "Korea1") → false ≡ bytes_eq text (codes "Identity") → family_of (codes "Adobe") text ≡ custom (codes "Adobe") text
  none gb cns korea identity = rw (← japan, ← gb, ← cns, ← korea, ← identity) refl

pub returns-then-eq-2 : goal.returns-then-eq-2
returns-then-eq-2 c = second c.args.ordering.now c.if-eq.ensures c.if-eq-2.ensures

pub returns-then-eq-3 : goal.returns-then-eq-3
returns-then-eq-3 c = third c.args.ordering.now c.if-eq.ensures c.if-eq-2.ensures c.if-eq-3.ensures

pub returns-then-eq-4 : goal.returns-then-eq-4
returns-then-eq-4 c = fourth c.args.ordering.now c.if-eq.ensures c.if-eq-2.ensures c.if-eq-3.ensures c.if-eq-4.ensures

pub returns-then-eq-5 : goal.returns-then-eq-5
returns-then-eq-5 c = fifth c.args.ordering.now c.if-eq.ensures c.if-eq-2.ensures c.if-eq-3.ensures c.if-eq-4.ensures c.if-eq-5.ensures

pub returns-else-eq-5 : goal.returns-else-eq-5
returns-else-eq-5 c = none c.args.ordering.now c.if-eq.ensures c.if-eq-2.ensures c.if-eq-3.ensures c.if-eq-4.ensures c.if-eq-5.ensures
