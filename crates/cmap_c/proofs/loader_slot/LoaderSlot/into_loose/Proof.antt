-- `into_loose` has the pointer as one to an loader again.
use Rattle.cmap_handles.proofs.Steps.{◌≡◌, List, [], ◌∷◌, ◌++◌, refl, sym, subst, Val, vptr, SProp, ent, emp, id⊢, WpFn, ‵, raw, ◌⊛◌, ◌$◌, ◌∵◌, !, qed, by, move, keep, split, fsplit, fjoin, suffices, use0, stop, fld, of_opd, no_more, and_then, returns, enter, alloc_all, pass_all, free_all, look_at, get, get_in, sets, agg, sub, whole, fact, fact_i, tables, owns, block_ptr, types_at, plain, nothing, alive, Stays, stay_dropped, walk_of, Goes-blank, proved_at, leaves, Some, heard, IsSome}
use Rattle.std.proofs.alloc.Global.TheLaws as heap_laws
use Rattle.std.specs.contracts.impls.GlobalAllocator.TheImpl.{ghosts}
use Rattle.cmap_c.specs.LoaderRow.{held_loader}
use Rattle.cmap_handles.proofs.Values.{both, Heap, loose_good, loose_in, some_of}
use Rattle.cmap_c.proofs.LoaderSlots.{Slot, slot_out}
use Rattle.cmap_c.specs.contracts.loader_slot.LoaderSlot.into_loose.{ended, clauses}
use Rattle.cmap_c.specs.contracts.loader_slot.LoaderSlot.into_loose.Key.{name as #self}
use Rattle.cmap_c.proofs.loader_slot.LoaderSlot.into_loose.Statement.{statement}
use Rattle.cmap_c.proofs.loader_slot.LoaderSlot.into_loose.Code as code

pub into_loose_spec : {M : Type 1} → statement M
into_loose_spec 𝓤 𝓛 𝓜 𝓡 wired =
    let H = 𝓛.H in let 𝓣 = tables 𝓤 H 𝓜 𝓡 𝓡.env in let c = clauses 𝓛 𝓜.mem 𝓡.returns in let L = heap_laws.the_row_laws in
    let hs : Stays ended.signature.params ended.kept = (stay_dropped (plain (λ _. Slot)) ended.kept.0, tt) in
    proved_at 𝓛 ended hs c 𝓜 𝓡 (Goes-blank 𝓛 0 (plain (λ _. Slot)) ended.kept.0 (λ κs x f. tt), tt) #self code.function (code.unfolded 𝓤 H 𝓜 𝓡 wired) (λ z are.
    let κs = z.0.0 in let v = z.0.3.0 in let Post : Val → SProp 𝓤 = (walk_of 𝓛 ended hs c).post z in let Run : List Val → SProp 𝓤 = λ ws. WpFn 𝓤 H 𝓣.C 𝓣.Λ code.function ws Post in
    qed 𝓛 ((raw (alive 𝓛 ended.signature κs z.0.1) ⊛ ‵ (owns (types_at ended.signature.params κs) z.0.3 z.0.4)) ∷ raw ((c κs z.0.3).requires z.1) ∷ []) ∵ split ! $ move ! (2 ∷ []) $
    heard ! (IsSome v.loader) (λ has. let x = (some_of v.loader has).0 in let is = (some_of v.loader has).1 in move ! (1 ∷ []) $ fsplit ! $
    slot_out ! v z.0.4.0 x is (λ b o h e ws fits.
    let w : Val = both (vptr b o) h in let typed = loose_good held_loader Heap L ghosts b o h fits in
    suffices ! (Run (w ∷ [])) (subst (λ (us : List Val). ent 𝓤 (Run (w ∷ [])) (Run us)) (sym (λ i. ws i ++ [])) (id⊢ 𝓤 (Run (w ∷ [])))) $
    enter ! 𝓣.C 𝓣.Λ code.function (w ∷ []) Post $ alloc_all ! (λ l. pass_all ! refl (typed, tt) $
    sets ! (of_opd ! (get_in ! (fld ! refl (stop !)) (sub ! 0 refl (whole !)))) refl (tt, tt) $
    sets ! (of_opd ! (get_in ! (fld ! refl (stop !)) (sub ! 1 refl (whole !)))) refl fits $
    sets ! (of_opd ! (get ! refl)) refl (tt, tt) $
    sets ! (agg ! (and_then ! (get ! refl) (and_then ! (get ! refl) (no_more !)))) refl typed $
    loose_in held_loader Heap L ghosts ! b o h v.alloc x $
    use0 𝓛 (raw (fact 𝓤 (Some x ≡ v.loader))) (fact_i 𝓤 (Some x ≡ v.loader) (emp 𝓤) (sym is)) $ nothing ! $ nothing ! $ fjoin ! $
    returns ! (look_at ! 0 refl) $ free_all ! refl $ keep ! (4 ∷ 0 ∷ 2 ∷ 1 ∷ []) $
    by ! (leaves 𝓛 ended hs c z w (record { at = block_ptr b o; alloc = v.alloc; value = x }) (tt, tt) (tt, tt))))))
