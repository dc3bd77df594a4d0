use Rattle.std.proofs.Common.{◌≡◌, ◌∙◌, ◌+◌, ◌<◌, ℕ, List, drop, get_or, length, cond, false, true, refl, sym, ap, Some}
use Rattle.std.specs.Prelude.{bytes_eq}
use Rattle.std.proofs.lemmas.List.{drop_more}
use Rattle.cmap_load.specs.NamedFiles.{first_named}
use Rattle.cmap_load.proofs.named_files.NamedFiles.find.Goals as goal

-- the first file of the name among those from an index on: the one there, or one after it
module _ {N : Type 0} (name_of bytes_of : N → List ℕ) (files : List N) (i : ℕ) (file : N) (name : List ℕ) (within : i < length files) (here : file ≡ get_or files i file) where
  first_at : first_named name_of bytes_of (drop i files) name ≡ cond (bytes_eq (name_of file) name) (Some (bytes_of file)) (first_named name_of bytes_of (drop (i + 1) files) name)
  first_at = ap (λ files. first_named name_of bytes_of files name) (drop_more files i file within)
      ∙ ap (λ f. cond (bytes_eq (name_of f) name) (Some (bytes_of f)) (first_named name_of bytes_of (drop (i + 1) files) name)) (sym here)

  first_here : bytes_eq (name_of file) name ≡ true → first_named name_of bytes_of (drop i files) name ≡ Some (bytes_of file)
  first_here same = first_at ∙ ap (λ b. cond b (Some (bytes_of file)) (first_named name_of bytes_of (drop (i + 1) files) name)) same

  first_after : bytes_eq (name_of file) name ≡ false → first_named name_of bytes_of (drop i files) name ≡ first_named name_of bytes_of (drop (i + 1) files) name
  first_after other = first_at ∙ ap (λ b. cond b (Some (bytes_of file)) (first_named name_of bytes_of (drop (i + 1) files) name)) other

pub loop-file-init : goal.loop-file-init
loop-file-init g c = refl

pub loop-file-preserved : goal.loop-file-preserved
loop-file-preserved g c =
    let other = rw c.name.ensures at (sym c.if-eq.ensures) in
    sym (first_after g.N.NamedFile.name_of g.N.NamedFile.bytes_of c.args.self.now.files.now c.loop-file.file-index c.file-item.result c.args.name.now c.loop-file-test.true c.file-item.is other) ∙ c.loop-file.invariant

pub returns-then-eq : goal.returns-then-eq
returns-then-eq g c =
    let same = rw c.name.ensures at (sym c.if-eq.ensures) in
    let found = sym c.loop-file.invariant ∙ first_here g.N.NamedFile.name_of g.N.NamedFile.bytes_of c.args.self.now.files.now c.loop-file.file-index c.file-item.result c.args.name.now c.loop-file-test.true c.file-item.is same in
    rw found (ap Some c.bytes.ensures)
