use Rattle.std.proofs.Common.{◌≡◌, inl, inr, refl, subst}
use Rattle.std.specs.Option.{option_copied}
use Rattle.cmap_c.specs.Salvaged.{IsSalvageOver, IsSalvagedWith}
use Rattle.cmap_handles.specs.declared.status.Status.TheVariants.{Done, NoMemory}
use Rattle.cmap_handles.proofs.StatusNumbers.{not_both}
use Rattle.cmap_c.proofs.salvage.hayro_cmap_salvage.Goals as goal

pub returns-in_default : goal.returns-in_default
returns-in_default c = record {
  same = c.bundle.follows.holds-at-none;
  says = λ done. absurd (not_both NoMemory Done refl c.number.ensures done);
  unwritten = λ _. (refl, refl, refl, refl);
  failed = inr (c.number.ensures, c.clear.ensures);
}

pub returns : goal.returns
returns c =
    let given : option_copied c.bundle.result ≡ c.args.bundle.now.slot.bundle = c.bundle.ensures.bundle in
    let files = c.args.files.now in
    let said = subst (λ budget. IsSalvagedWith (IsSalvageOver c.args.bundle.now.slot.bundle files c.args.data.now budget) c.in-Ok.salvaged) c.limit.ensures
    (subst (λ bundle. IsSalvagedWith (IsSalvageOver bundle files c.args.data.now c.limit.result) c.in-Ok.salvaged) given c.in-Ok.ensures) in
    record {
      same = c.bundle.follows.holds-at-none;
      says = λ _. record {
        layers = c.in-Ok.salvaged.map.value;
        faults = said.0;
        said = said.1;
        is_map = c.put.ensures;
        written = c.put-2.ensures said.0 said.2;
      };
      unwritten = λ memory. absurd (not_both Done NoMemory refl c.number-2.ensures memory);
      failed = inl c.number-2.ensures;
    }
