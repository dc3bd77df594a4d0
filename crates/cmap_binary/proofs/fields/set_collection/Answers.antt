use Rattle.std.proofs.Common.{◌≡◌, refl, rules}
use Rattle.std.specs.Prelude.{ℤ}
use Rattle.cmap_values.specs.Names.{Family}
use Rattle.cmap_values.specs.Files.{Collection}
use Rattle.cmap_values.specs.Only.{IsOnly}
use Rattle.cmap_binary.proofs.Fronts.{gives, then_none, then_next, then_only}
use Rattle.cmap_binary.proofs.Reading.{made_none, made_only}
use Rattle.cmap_binary.proofs.fields.set_collection.Goals as goal

collection_only : (P : Collection → Type 0) (family other_family : Family) (number other_number : ℤ) → family ≡ other_family → number ≡ other_number → IsOnly P (record { family = other_family; supplement = other_number })
    → IsOnly P (record { family = family; supplement = number })
collection_only P family other_family number other_number families numbers only = rw (families, numbers) only

pub returns-in_default : goal.returns-in_default
returns-in_default c = (let none = then_none _ _ c.in_default.ensures in (tt, (made_none none, (none, refl))))

pub returns-in_default-take_terminated : goal.returns-in_default-take_terminated
returns-in_default-take_terminated c = (let none = then_next _ c.in-Some.ensures (then_none _ _ c.in_default-take_terminated.ensures) in (tt, (made_none none, (none, refl))))

pub returns-in_default-take_u16 : goal.returns-in_default-take_u16
returns-in_default-take_u16 c = (let none = then_next _ c.in-Some.ensures (then_next _ c.in-Some-take_terminated.ensures (then_none _ _ c.in_default-take_u16.ensures)) in (tt, (made_none none, (none, refl))))

pub returns : goal.returns
returns c =
    let only = then_only _ c.in-Some.ensures (then_only _ c.in-Some-take_terminated.ensures (then_only _ c.in-Some-take_u16.ensures gives)) in
    (record { content = _; only = made_only (collection_only _ _ _ _ _ c.in_ok-family.ensures.value (search rules) only); says = refl }, tt)
