use Rattle.std.proofs.Common.{◌≡◌, ◌∙◌, Result, Some, Ok, ap, inr, refl, subst, sym, true≢false}
use Rattle.std.specs.Prelude.{IfOk}
use Rattle.cmap_handles.specs.declared.status.Status.TheVariants.{Done, NoMemory}
use Rattle.cmap_handles.proofs.HandlesRead.{kept, kept_done, kept_or_none}
use Rattle.cmap_handles.proofs.StatusNumbers.{not_both}
use Rattle.cmap_c.proofs.identity.hayro_cmap_identity.Goals.{then-vertical, else-vertical}
use Rattle.cmap_c.proofs.identity.hayro_cmap_identity.Goals as goal

made_as : {A E : Type 0} (r : Result A E) (x : A) (P : A → Type 0) → r ≡ Ok x → IfOk r P → P x
made_as r x P is holds = subst (λ r. IfOk r P) is holds

pub returns-in-Ok : goal.returns-in-Ok
returns-in-Ok c =
    let keeps = kept _ c.new.result c.in-Ok.layers c.keep.result c.keep.new.self.slot.map c.new.ensures c.keep.ensures in
    record {
      horizontal = λ done is. elim c.if-vertical.branch [
        | then-vertical w ↦ absurd (true≢false (sym w.if-vertical.true ∙ is))
        | else-vertical w ↦ kept_done _ _ _ keeps done ∙ ap Some (made_as _ c.in-Ok.layers _ (sym w.made-is ∙ c.in-Ok.is) w.identity_h-made.ensures)
      ];
      vertical = λ done is. elim c.if-vertical.branch [
        | then-vertical w ↦ kept_done _ _ _ keeps done ∙ ap Some (made_as _ c.in-Ok.layers _ (sym w.made-is ∙ c.in-Ok.is) w.identity_v-made.ensures)
        | else-vertical w ↦ absurd (true≢false (sym is ∙ w.if-vertical.false))
      ];
      failed = kept_or_none _ _ _ keeps;
    }

pub returns-in-Err : goal.returns-in-Err
returns-in-Err c = record {
  horizontal = λ done. absurd (not_both NoMemory Done refl c.number.ensures done);
  vertical = λ done. absurd (not_both NoMemory Done refl c.number.ensures done);
  failed = inr (c.number.ensures, c.clear.ensures);
}
