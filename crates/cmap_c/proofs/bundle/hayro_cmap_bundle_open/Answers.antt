use Rattle.std.proofs.Common.{inl, inr, refl, subst, sym}
use Rattle.std.specs.Prelude.{IsSomeAnd}
use Rattle.cmap_binary.specs.Bundles.{IsBundle}
use Rattle.cmap_values.specs.Only.{IsOnly, HoldsOfNone}
use Rattle.cmap_handles.specs.declared.status.Status.TheVariants.{Done, NoMemory, NotABundle}
use Rattle.cmap_handles.proofs.HandlesRead.{kept, kept_done}
use Rattle.cmap_handles.proofs.StatusNumbers.{not_both}
use Rattle.cmap_c.proofs.bundle.hayro_cmap_bundle_open.Goals as goal

pub returns-in-Ok-Some : goal.returns-in-Ok-Some
returns-in-Ok-Some c =
    let only : IsOnly (IsBundle c.args.bytes.now) c.in-Ok-Some.parsed = rw c.in-Ok-Some.field-0-is at c.in-Ok-Some.ensures in
    let keeps = kept _ c.new.result c.in-Ok-Some.parsed c.keep.result c.keep.new.self.slot.bundle c.new.ensures c.keep.ensures in
    record {
      opened = λ done. subst (λ now. IsSomeAnd now (IsOnly (IsBundle c.args.bytes.now))) (sym (kept_done _ _ _ keeps done)) only;
      not_a_bundle = λ not. elim keeps [ inl done ↦ absurd (not_both Done NotABundle refl done.0 not) | inr memory ↦ absurd (not_both NoMemory NotABundle refl memory.0 not) ];
      failed = elim keeps [ inl done ↦ inl done.0 | inr memory ↦ inr (inl memory.0, memory.1) ];
    }

pub returns-in-Ok-None : goal.returns-in-Ok-None
returns-in-Ok-None c =
    let none : HoldsOfNone (IsBundle c.args.bytes.now) = rw c.in-Ok-None.field-0-is at c.in-Ok-None.ensures in
    record {
      opened = λ done. absurd (not_both NotABundle Done refl c.number.ensures done);
      not_a_bundle = λ _. none;
      failed = inr (inr c.number.ensures, c.clear.ensures);
    }

pub returns-in-Err : goal.returns-in-Err
returns-in-Err c = record {
  opened = λ done. absurd (not_both NoMemory Done refl c.number-in-Err.ensures done);
  not_a_bundle = λ none. absurd (not_both NoMemory NotABundle refl c.number-in-Err.ensures none);
  failed = inr (inl c.number-in-Err.ensures, c.clear.ensures);
}
