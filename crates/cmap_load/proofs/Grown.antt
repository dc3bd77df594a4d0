-- A loader whose names have more numbers.
use Rattle.std.proofs.Common.{ℕ, List}
use Rattle.std.specs.Prelude.{Err, Ok, OnErr, Result}
use Rattle.cmap_load.specs.Loads.{HasGrown}
use Rattle.cmap_load.specs.declared.loader.Loader.{Loader}
use Rattle.cmap_load.proofs.TableGrowing.{Grows-more, Grows-none, IsMore-more, IsMore-none}

pub on_err : {A E P : Type 0} (result : Result A E) → P → OnErr result P
on_err (Ok value) holds = tt
on_err (Err error) holds = holds

module _ {N : Type 0} (texts : N → List (List ℕ)) where
  pub HasGrown-none : (loader : Loader N) → HasGrown texts loader loader
  HasGrown-none loader = record { grows = Grows-none loader.table; more = IsMore-none (texts loader.list) }

  pub HasGrown-more : (a b c : Loader N) → HasGrown texts a b → HasGrown texts b c → HasGrown texts a c
  HasGrown-more a b c first second = record { grows = Grows-more a.table b.table c.table first.grows second.grows; more = IsMore-more (texts a.list) (texts b.list) (texts c.list) first.more second.more }
