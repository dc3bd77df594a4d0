-- Lists to which texts are added, and taken away again.
use Rattle.std.proofs.Common.{◌≡◌, ℕ, refl, ap, ◌∙◌, List, [], ◌∷◌, ◌++◌, length, take, append-nil, append_assoc}
use Rattle.std.proofs.Math.Seq.{take-append_seam}
use Rattle.cmap_values.specs.Files.{BfEntry, Lists, lists_of}
use Rattle.cmap_values.specs.ListsAppended.{append_lists}
use Rattle.cmap_text.specs.EntriesSeen.{with_texts}
use Rattle.cmap_text.specs.TextReading.{text_of}

pub no_texts : (lists : Lists) → lists ≡ with_texts lists []
no_texts lists = rw (append-nil lists.bfs) refl

pub more_texts : (old now new : Lists) (start end : ℕ) (units : List ℕ) → ((more : List BfEntry) × (now ≡ with_texts old more)) → new ≡ append_lists now (lists_of (text_of start end units)) → (more : List BfEntry) × (new ≡ with_texts old more)
more_texts old now new start end units (more, is) adds =
    let entry : BfEntry = record { start = start; end = end; units = units } in
    (more ++ entry ∷ [], adds ∙ ap (λ l. append_lists l (lists_of (text_of start end units))) is ∙ simp (append-nil, append_assoc) refl)

pub cut_back : (old now : Lists) (more kept : List BfEntry) → now ≡ with_texts old more → kept ≡ take (length old.bfs) now.bfs → let cut : Lists = record { cids = now.cids; notdefs = now.notdefs; bfs = kept; spaces = now.spaces } in cut ≡ old
cut_back old now more kept is cut = rw (cut, is, take-append_seam) refl
