use Rattle.std.proofs.Common.{◌≡◌, ℕ, List, [], ◌∷◌, ◌++◌, Some, None, refl, sym, ap, ◌∙◌, subst}
use Rattle.std.specs.Borrow.{Bor}
use Rattle.std.specs.Prelude.{Option, unwrap_or}
use Rattle.cmap_values.specs.Only.{HoldsOfNone}
use Rattle.cmap_values.specs.Outcomes.{Finds}
use Rattle.cmap_binary.specs.BinaryFiles.{BodyOf}
use Rattle.cmap_binary.specs.BinarySalvage.{AfterHeader, BodyRead, header_fault, no_header, whole, wrong_length}
use Rattle.cmap_binary.proofs.salvage.salvage_body.Goals as goal

-- without a body it is what follows the header, or nothing
no_body : (bytes : List ℕ) → HoldsOfNone (BodyOf bytes) → (o : Option (Bor (List ℕ))) (nothing : Bor (List ℕ)) → Finds (AfterHeader bytes) (λ rest. rest.now) o → nothing.now ≡ [] → BodyRead bytes (unwrap_or o nothing).now (header_fault ∷ [])
no_body bytes wrong None nothing none empty = subst (λ b. BodyRead bytes b (header_fault ∷ [])) (sym empty) (no_header none)
no_body bytes wrong (Some rest) nothing only empty = wrong_length wrong only.holds

pub returns-in-Some : goal.returns-in-Some
returns-in-Some c none = subst (BodyRead c.args.bytes.now c.in-Some.body.now) (sym none) (whole c.in-Some.ensures.holds)

pub returns-in_ok-add_fault-in-None : goal.returns-in_ok-add_fault-in-None
returns-in_ok-add_fault-in-None c none =
    let faults : c.add_fault.new.faults.items ≡ header_fault ∷ [] = c.in_ok-add_fault-in-None.ensures ∙ ap (λ f. f ++ header_fault ∷ []) none in
    let read = no_body c.args.bytes.now c.in-None.ensures c.after_header.result _ c.after_header.ensures refl in
    subst (BodyRead c.args.bytes.now c.unwrap_or.result.now) (sym faults) (rw c.unwrap_or.ensures read)
