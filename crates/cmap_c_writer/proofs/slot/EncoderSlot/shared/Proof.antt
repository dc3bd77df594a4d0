-- `shared` follows the pointer to the encoder, and the slot follows the encoder.
use Rattle.cmap_handles.proofs.Steps.{◌≡◌, ℕ, List, [], ◌∷◌, ◌++◌, refl, sym, ap, subst, named, Val, vptr, bare, SProp, ent, emp, id⊢, sep, Ura, full_share, GName, Fml, Lft, Share, fsep, ftrue, flft, Env, WpFn, Logic, sem, ‵, raw, ◌⊛◌, at_ret, ◌$◌, ◌∵◌, !, qed, by, move, keep, split, join, rewrite, fsplit, fsplit3, fjoin, fpack, feq_l, suffices, use0, use1, group, some, later, await, pick, done, look_in, sub, whole, stop, fld, load, of_opd, addr, first, blocks, exec, returns, enter, alloc_all, pass_all, free_all, look_at, get, through, sets, sets_last, env, fact, fact_i, tables, RefMutOf, MutBor, MutRef, Part, follows, lends_Part, cell_at, lone, mem, part_at, part_of, owns, Ptr, block_ptr, ptr_val, types_at, plain, nothing, heard, opens, Stays, stay_dropped, walk_of, Goes-spent_ref, after, proved_at, leaves, ghosts, Some, IsSome}
use Rattle.cmap_handles.specs.Held.{held}
use Rattle.cmap_c_writer.specs.HeldEncoder.{shared_encoder}
use Rattle.cmap_handles.proofs.Values.{both, some_of, Heap}
use Rattle.cmap_c_writer.proofs.EncoderSlots.{Slot, slot_in, slot_out}
use Rattle.cmap_c_writer.specs.contracts.slot.EncoderSlot.shared.{ended, clauses}
use Rattle.cmap_c_writer.specs.contracts.slot.EncoderSlot.shared.Key.{name as #self}
use Rattle.cmap_c_writer.proofs.slot.EncoderSlot.shared.Statement.{statement}
use Rattle.cmap_c_writer.proofs.slot.EncoderSlot.shared.Code as code

abbrev with_encoder : Slot.Denot → shared_encoder.Denot → Slot.Denot
with_encoder v w = record v { encoder = Some w }

module _ {M : Type 1} {𝓤 : Ura M} (𝓛 : Logic 𝓤) (v : Slot.Denot) (rb ro b o : ℕ) (h : Val) where
  -- all of the slot but the encoder
  abbrev Rest : Fml
  Rest = fsep (fsep (ghosts.dealloc_token v.alloc (bare (lone shared_encoder.mir)) (block_ptr b o)) (Heap.own_val v.alloc (h ∷ []))) (cell_at full_share Slot.mir (both (vptr b o) h ∷ []) rb ro)

  back : v.at ≡ block_ptr b o → (w : shared_encoder.Denot) → ent 𝓤 (sep 𝓤 (sem 𝓛 ((mem shared_encoder).own_at w b o)) (sem 𝓛 Rest)) (sem 𝓛 ((mem Slot).own_at (with_encoder v w) rb ro))
  unfolding part_of
  back is w =
      qed 𝓛 (‵ (part_at shared_encoder full_share w b o) ∷ ‵ Rest ∷ []) ∵ move ! (1 ∷ []) $ fsplit ! $ fsplit ! $ move ! (3 ∷ 0 ∷ []) $ fjoin ! $
      rewrite ! 0 (λ (p : Ptr). ‵ (held shared_encoder v.alloc p (Some w))) (sym is) refl $ slot_in ! h v.alloc (Some w) v.at (vptr b o) (ap ptr_val is) $ move ! (1 ∷ 0 ∷ []) $ fjoin ! $
      fpack ! (List Val) (λ us. fsep (cell_at full_share Slot.mir us rb ro) (Slot.own_val (with_encoder v w) us)) (both (vptr b o) h ∷ []) $ done !

pub shared_spec : {M : Type 1} → statement M
shared_spec 𝓤 𝓛 𝓜 𝓡 wired =
    let H = 𝓛.H in let 𝓣 = tables 𝓤 H 𝓜 𝓡 𝓡.env in let c = clauses 𝓛 𝓜.mem 𝓡.returns in let A = RefMutOf (0 ∷ []) tt (plain {n = 1} (λ _. Slot)) (λ _. tt) in
    let hs : Stays ended.signature.params ended.kept = (stay_dropped A ended.kept.0, tt) in
    proved_at 𝓛 ended hs c 𝓜 𝓡 (Goes-spent_ref 𝓛 1 (0 ∷ []) tt (plain (λ _. Slot)), tt) #self code.function (code.unfolded 𝓤 H 𝓜 𝓡 wired) (λ z are.
    let κ : Lft = z.0.0.0 in let q : Share = z.0.1.0 in let v = z.0.3.0.now in let rb : ℕ = z.0.3.0.ref_ptr.0 in let ro : ℕ = z.0.3.0.ref_ptr.1 in let γ : GName = z.0.3.0.ghost_name in
    let Post : Val → SProp 𝓤 = (walk_of 𝓛 ended hs c).post z in let Run : List Val → SProp 𝓤 = λ ws. WpFn 𝓤 H 𝓣.C 𝓣.Λ code.function ws Post in
    qed 𝓛 (((‵ (flft κ q) ⊛ ‵ ftrue) ⊛ ‵ (owns (types_at ended.signature.params z.0.0) z.0.3 z.0.4)) ∷ raw ((c z.0.0 z.0.3).requires z.1) ∷ []) ∵ split ! $ move ! (2 ∷ []) $
    heard ! (IsSome v.encoder) (λ has. let x = (some_of v.encoder has).0 in let is : v.encoder ≡ Some x = (some_of v.encoder has).1 in
    split ! $ move ! (2 ∷ []) $ fsplit ! $ fsplit3 ! $ feq_l ! (λ e0. keep ! (0 ∷ 1 ∷ 3 ∷ []) $
    suffices ! (Run (vptr rb ro ∷ [])) (subst (λ (us : List Val). ent 𝓤 (Run (vptr rb ro ∷ [])) (Run (us ++ []))) (sym e0) (id⊢ 𝓤 (Run (vptr rb ro ∷ [])))) $
    enter ! 𝓣.C 𝓣.Λ code.function (vptr rb ro ∷ []) Post $ alloc_all ! (λ l. pass_all ! refl ((tt, tt), tt) $
    let En : Env 𝓤 H = env code.function.locals l in
    opens ! tt Slot {h = v} rb ro (λ vs. move ! (1 ∷ []) $ slot_out ! v vs x is (λ b o h at_b ws fits. fsplit ! $ move ! (1 ∷ 2 ∷ []) $ fjoin ! $ move ! (1 ∷ []) $
    rewrite ! 2 (λ (us : List Val). ‵ (cell_at full_share Slot.mir us rb ro)) ws refl $ first ! $ blocks ! $
    sets ! (of_opd ! (load ! (through ! refl (fld ! refl (stop !))) (look_in ! 2 (sub ! 0 refl (whole !))))) refl (tt, tt) $
    sets ! (of_opd ! (get ! refl)) refl (tt, tt) $
    sets_last ! (addr ! (through ! refl (stop !))) refl (tt, tt) $
    exec ! 𝓣.C 𝓣.Λ En (after 1 code.function.body) (at_ret En Post) $ sets ! (of_opd ! (get ! refl)) refl (tt, tt) $
    move ! (1 ∷ 2 ∷ []) $ fjoin ! $ move ! (2 ∷ 3 ∷ 4 ∷ 1 ∷ 0 ∷ []) $ group ! 5 $
    use1 𝓛 (later (some (λ (γ' : GName). raw (Part 𝓛 Slot shared_encoder (with_encoder v) (named 0) κ q rb ro b o γ (sem 𝓛 (Rest 𝓛 v rb ro b o h)) (back 𝓛 v rb ro b o h at_b) x γ'))))
    (lends_Part 𝓛 Slot shared_encoder (with_encoder v) (named 0) κ q rb ro b o γ (sem 𝓛 (Rest 𝓛 v rb ro b o h)) (back 𝓛 v rb ro b o h at_b) (Slot.coded.code v) (Slot.coded.code v) x) $ await ! tt $ pick ! (λ γ'.
    returns ! (look_at ! 0 refl) $ free_all ! refl $ keep ! (0 ∷ []) $ by !
    (let lent : MutBor shared_encoder.Denot = record { ref_ptr = (b, o); ghost_name = γ'; now = x } in
    qed 𝓛 (‵ ((MutRef (named 0) κ shared_encoder).own_val lent (vptr b o ∷ [])) ∷ ‵ (flft κ q) ∷ ‵ (follows Slot shared_encoder γ γ' (with_encoder v)) ∷ []) {P = Post (vptr b o)} (
    use0 𝓛 (raw (fact 𝓤 (Some x ≡ v.encoder))) (fact_i 𝓤 (Some x ≡ v.encoder) (emp 𝓤) (sym is)) $ nothing ! $ nothing ! $ fjoin ! $ nothing ! $ move ! (4 ∷ 0 ∷ []) $ join ! $ move ! (4 ∷ 2 ∷ []) $ join ! $ keep ! (1 ∷ 2 ∷ 3 ∷ 0 ∷ []) $
    by ! (leaves 𝓛 ended hs c z (vptr b o) lent (tt, tt) (tt, tt)))))))))))
