-- Files that were read past their faults: what stands at an index.
use Rattle.std.proofs.Common.{◌≡◌, refl, sym, ap, ◌∙◌, arith, ℕ, zero, suc, ◌<◌, List, [], ◌∷◌, length, Option, Some, None}
use Rattle.std.specs.Prelude.{Contains, IfSome, OnOk, Result, Ok, Err, map, slice_get}
use Rattle.std.proofs.Math.ListN.{length-map}
use Rattle.cmap_layers.specs.LayersSeen.{layer_seen, layers_seen}
use Rattle.cmap_layers.specs.declared.layer.Layer as declared
use Rattle.std.proofs.lemmas.Option.{slice_get_within}
use Rattle.cmap_layers.specs.Layers.{layer_of}
use Rattle.cmap_load.specs.Kept.{AreKept, Files, IsKept, files_of, IsReadAt, file_at, file_with, layer_in, layer_with}
use Rattle.cmap_load.specs.Numbers.{text_at}
use Rattle.cmap_load.specs.declared.salvage.kept.KeptFiles.{KeptFiles}
use Rattle.cmap_load.proofs.Numbered.{text_at-there}
use Rattle.cmap_load.specs.declared.table.Contents.{Contents}

-- the files of a list of names, as the walk sees them
pub are_kept : {N : Type 0} (texts : N → List (List ℕ)) (are_numbered : N → Type 0) (kept : KeptFiles N) → IsKept texts are_numbered kept → AreKept (files_of texts kept)
are_kept texts are_numbered kept is = record { table = is.set.table; texts_are = is.set.texts_are; stops = is.stops }

pub there : (files : Files) (i : ℕ) → AreKept files → IsReadAt files i → i < length files.table.graph.nodes.items
there files i kept (stops, is) = let within = slice_get_within files.stops i (Some stops) is in let long = kept.stops in omega (arith, within, long)

pub there_read : (files : Files) (at : ℕ) (read : Option ℕ) → AreKept files → IsReadAt files at → IfSome read (λ i. i ≡ at) → IfSome read (λ i. i < length files.table.graph.nodes.items)
there_read files at None kept is same = tt
there_read files at (Some i) kept is same = let within = there files at kept is in omega (arith, within, same)

layer_got : (contents : Option Contents) (uses : List (List ℕ)) → layer_with contents ≡ layer_of (file_with contents uses)
layer_got None uses = refl
layer_got (Some contents) uses = refl

pub layer_read : (files : Files) (read : Option ℕ) → layer_in files.table.contents.items read ≡ layer_of (file_at files read)
layer_read files None = refl
layer_read files (Some i) = layer_got (slice_get files.table.contents.items i) _

pub none_mapped : {A B : Type 0} (f : A → B) (xs : List A) → length xs ≡ 0 → map f xs ≡ []
none_mapped f [] none = refl
none_mapped f (x ∷ xs) none = absurd (omega (arith, none))

-- the text of the name of a number
pub named_text : (files : Files) (number : ℕ) → AreKept files → number < length files.table.graph.found.items → slice_get files.texts number ≡ Some (text_at files.texts number)
named_text files number kept lt = let long = kept.texts_are.long in text_at-there files.texts number (omega (arith, lt, long))

-- ---- layers along a path
-- the layer of an index that isn't on the path stays
pub layer_apart : (old new : List Contents) (read : Option ℕ) (path : List (Option ℕ)) → (Contains path read → ⊥) → ((at : ℕ) → (Contains path (Some at) → ⊥) → slice_get new at ≡ slice_get old at) → layer_in new read ≡ layer_in old read
layer_apart old new None path apart others = refl
layer_apart old new (Some at) path apart others = ap layer_with (others at apart)

slice_get_mapped : {A B : Type 0} (f : A → B) (xs : List A) (i : ℕ) (x : A) → slice_get xs i ≡ Some x → slice_get (map f xs) i ≡ Some (f x)
slice_get_mapped f [] i x there = absurd (cc)
slice_get_mapped f (y ∷ xs) zero x there = let same : Some y ≡ Some x = there in let e : y ≡ x = cc in ap (λ z. Some (f z)) e
slice_get_mapped f (y ∷ xs) (suc i) x there = slice_get_mapped f xs i x there

-- the layer at the place of an index on the path is the layer of the index
pub layer_there : (contents : List Contents) (path : List (Option ℕ)) (layers : List declared.Layer) → layers_seen layers ≡ map (layer_in contents) path → (i : ℕ) (read : Option ℕ) → slice_get path i ≡ Some read → (layer : declared.Layer) → slice_get layers i ≡ Some layer → layer_seen layer ≡ layer_in contents read
layer_there contents path layers are i read there layer has =
    let one : slice_get (layers_seen layers) i ≡ Some (layer_seen layer) = slice_get_mapped layer_seen layers i layer has in
    let other : slice_get (map (layer_in contents) path) i ≡ Some (layer_in contents read) = slice_get_mapped (layer_in contents) path i read there in
    let both : Some (layer_seen layer) ≡ Some (layer_in contents read) = sym one ∙ ap (λ l. slice_get l i) are ∙ other in
    cc

pub layers_long : (contents : List Contents) (path : List (Option ℕ)) (layers : List declared.Layer) → layers_seen layers ≡ map (layer_in contents) path → length layers ≡ length path
layers_long contents path layers are =
    let a : length (layers_seen layers) ≡ length layers = simp length-map in
    let b : length (map (layer_in contents) path) ≡ length path = simp length-map in
    sym a ∙ ap length are ∙ b

pub ok_holds : {A E P : Type 0} (result : Result A E) → P → OnOk result P
ok_holds (Ok value) holds = holds
ok_holds (Err error) holds = tt

pub on_ok_as : {A E P Q : Type 0} (result : Result A E) → OnOk result P → (P → Q) → OnOk result Q
on_ok_as (Ok value) holds gives = gives holds
on_ok_as (Err error) holds gives = tt
