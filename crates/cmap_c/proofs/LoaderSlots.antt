-- The machine values of a `LoaderSlot`. Assumes `Logic`.
use Rattle.std.proofs.Common.{◌≡◌, ℕ, List, [], ◌∷◌, ◌++◌, refl, sym, ap, subst}
use seplogic.Ra.Ura.{Ura}
use mir.Raw.{raw as bare}
use mir.Val.{Val, vptr, vstruct, of_list}
use base.Logic.{never, fst∗}
use types.Logic.{Logic, sem}
use types.Kit.{Item, Goal, Seq, Step, step, ‵, ◌$◌, move, drop, fsplit, fjoin, fpick, fpack, rewrite, feq_i, feq_l}
use denote.RattleType.{RattleType, Valss}
use denote.Memory.{lone}
use denote.RawPtr.{Ptr, block_ptr, null_ptr, ptr_val, in_a_block}
use denote.Steps.{nothing}
use denote.Param.{layout}
use denote.Struct.Struct.{within}
use denote.Struct.Owning.{shape, fields}
use Rattle.core.proofs.alloc.Calls.{handle_tells}
use Rattle.core.proofs.cell.Inside.{Good}
use Rattle.std.specs.Prelude.{Option, Some}
use Rattle.std.proofs.alloc.Global.TheLaws as heap_laws
use Rattle.std.specs.contracts.impls.GlobalAllocator.TheImpl.{ghosts}
use Rattle.cmap_handles.specs.Held.{held}
use Rattle.cmap_c.specs.LoaderRow.{held_loader}
use Rattle.cmap_handles.specs.contracts.loose.Loose as loose
use Rattle.cmap_c.specs.contracts.loader_slot.LoaderSlot as slot
use Rattle.cmap_handles.proofs.Values.{both, al, Heap}

abbrev pub Slot : RattleType
Slot = slot.the_row

abbrev pub LooseLoader : RattleType
LooseLoader = loose.the_row held_loader Heap ghosts

module _ {M : Type 1} {𝓤 : Ura M} {𝓛 : Logic 𝓤} {K : Type 0} {Γ : List (Item 𝓤)} {G : Goal 𝓤 𝓛.H} where
  pub slot_out : K → (d : Slot.Denot) (vs : List Val) (x : held_loader.Denot) → d.loader ≡ Some x
      → ((b o : ℕ) (h : Val) → d.at ≡ block_ptr b o → vs ≡ both (vptr b o) h ∷ [] → Good (layout Heap) h → Seq K 𝓛 (‵ (held held_loader d.alloc (block_ptr b o) (Some x)) ∷ ‵ (Heap.own_val d.alloc (h ∷ [])) ∷ Γ) G)
      → Seq K 𝓛 (‵ (Slot.own_val d vs) ∷ Γ) G
  slot_out t d vs x is k =
      fsplit t $ fpick t (λ vss. fsplit t $ feq_l t (λ ev. fsplit t $ feq_l t (λ ep. fsplit t $ handle_tells (al held_loader Heap heap_laws.the_row_laws ghosts) t d.alloc vss.1.0 (λ h ea fits. move t (1 ∷ []) $ drop t $ move t (1 ∷ []) $
      rewrite t 0 (λ (m : Option held_loader.Denot). ‵ (held held_loader d.alloc d.at m)) is refl $
      in_a_block t d.at (λ p. held held_loader d.alloc p (Some x)) (fst∗ 𝓤 (never 𝓤) (sem 𝓛 (ghosts.dealloc_token d.alloc (bare (lone held_loader.mir)) null_ptr))) (λ b o e. k b o h e
      (subst (λ (p : Ptr). vs ≡ vstruct (of_list (ptr_val p ∷ h ∷ [])) ∷ []) e
      (subst (λ (ws : List Val). vs ≡ vstruct (of_list (ptr_val d.at ∷ (ws ++ []))) ∷ []) ea (subst (λ (ps : List Val). vs ≡ vstruct (of_list (ps ++ (vss.1.0 ++ []))) ∷ []) ep ev))) fits)))))

  pub slot_in : K → (h : Val) (a : Heap.Denot) (m : Option held_loader.Denot) (p : Ptr) (w : Val) → ptr_val p ≡ w
      → Step K 𝓛 (‵ (Slot.own_val (record { at = p; alloc = a; loader = m }) (both w h ∷ [])) ∷ Γ) G (‵ (held held_loader a p m) ∷ ‵ (Heap.own_val a (h ∷ [])) ∷ Γ) G
  slot_in t h a m p w e = step (λ s. let v : Val = both w h in
      nothing t $ move t (2 ∷ 0 ∷ []) $ fjoin t $ feq_i t (List Val) (w ∷ []) (ptr_val p ∷ []) (ap (λ (x : Val). x ∷ []) (sym e)) $ fjoin t $ feq_i t (List Val) (v ∷ []) (v ∷ []) refl $ fjoin t $
      fpack t (Valss (fields slot.the_type)) (within (shape slot.the_type) (p, (((tt, tt), tt), tt)) (v ∷ [])) (w ∷ [], (h ∷ [], tt)) $ fjoin t $ s)
