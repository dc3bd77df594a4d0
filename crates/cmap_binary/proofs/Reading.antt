-- What a segment says, by the one value that is read of it.
use Rattle.std.proofs.Common.{refl, ap, ◌∙◌}
use Rattle.std.specs.Prelude.{◌↔◌}
use Rattle.cmap_values.specs.Only.{IsOnly, HoldsOfNone}
use Rattle.cmap_binary.specs.BinaryFiles.{Content, Made}

-- what holds of the same values
pub same_none : {A : Type 0} {P Q : A → Type 0} → ((x : A) → P x ↔ Q x) → HoldsOfNone Q → HoldsOfNone P
same_none same none other is = none other ((same other).0 is)

pub same_only : {A : Type 0} {P Q : A → Type 0} {x : A} → ((y : A) → P y ↔ Q y) → IsOnly Q x → IsOnly P x
same_only same only = record { holds = (same _).1 only.holds; alone = λ other is. only.alone other ((same other).0 is) }

-- what is made of a value
pub made_none : {A : Type 0} {reads : A → Type 0} {make : A → Content} → HoldsOfNone reads → HoldsOfNone (Made reads make)
made_none none other (value, at, is) = none value at

pub made_only : {A : Type 0} {reads : A → Type 0} {make : A → Content} {value : A} → IsOnly reads value → IsOnly (Made reads make) (make value)
made_only {make = make} {value = value} only = record { holds = (value, only.holds, refl); alone = λ other (x, at, is). is ∙ ap make (only.alone x at) }
