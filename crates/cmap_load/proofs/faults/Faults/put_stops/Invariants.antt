use Rattle.std.proofs.Common.{◌≡◌, ◌++◌, take}
use Rattle.std.specs.Prelude.{map}
use Rattle.cmap_load.specs.SalvageSeen.{found_of}
use Rattle.cmap_load.specs.declared.refusal.Cause.TheVariants.{Malformed}
use Rattle.cmap_load.proofs.faults.Faults.put_stops.Given as goal

abbrev pub invariant-loop-stop : goal.invariant-loop-stop
invariant-loop-stop l =
    (map found_of l.self.list.items ≡ map found_of l.initial.self.list.items ++ map (λ stop. record { names = l.names; cause = Malformed stop }) (take l.stop-index l.stops)) × (l.self.kinds ≡ l.initial.self.kinds)
