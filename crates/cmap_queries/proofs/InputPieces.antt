-- What is kept of a reader's bytes while it is read in pieces.
use Rattle.std.proofs.Common.{◌≡◌, ℕ, List, [], ◌++◌, IfSome, length, take, refl, sym, ap, ◌∙◌, subst, append-nil}
use Rattle.std.proofs.Math.Seq.{take-append_seam}
use Rattle.std.specs.declared.option.Option.{Option}
use Rattle.std.specs.Io.KnownBytes.{Consumes, IsAtEnd, Keeps}
use Rattle.std.proofs.KnownBytes.{Consumes-trans, Consumes-kept, Consumes-all}

-- a whole buffer that was written over holds what was written
pub overwritten : (len : ℕ) (written after held : List ℕ) → length written ≡ len → held ≡ take len (written ++ after) → held ≡ written
overwritten len written after held full is =
    is ∙ ap (λ n. take n (written ++ after)) (sym full) ∙ take-append_seam written after

-- the piece that a read gave comes after what was kept
pub Consumes-piece : (start old new : Option (List ℕ)) (kept piece all : List ℕ) → Consumes start old kept → Consumes old new piece → all ≡ kept ++ piece → Consumes start new all
Consumes-piece start old new kept piece all before read is =
    subst (Consumes start new) (sym is) (Consumes-trans start old new kept piece before read)

-- a read that failed took nothing
pub Consumes-nothing : (start old new : Option (List ℕ)) (kept all : List ℕ) → Consumes start old kept → Keeps old new → all ≡ kept → Consumes start new all
Consumes-nothing start old new kept all before read is =
    subst (Consumes start new) (sym is) (Consumes-kept start old new kept before read)

-- at the end all bytes are kept
pub Consumes-end : (start old new : Option (List ℕ)) (kept piece : List ℕ) → Consumes start old kept → Consumes old new piece → piece ≡ [] → IsAtEnd new → IfSome start (λ given. kept ≡ given)
Consumes-end start old new kept piece before read empty ends =
    let all = Consumes-piece start old new kept piece kept before read (sym (append-nil kept) ∙ ap (λ l. kept ++ l) (sym empty)) in
    Consumes-all start new kept [] kept all ends refl
