-- Files over files in two worlds: where each file of the one stands for one of the other, so do their layers.
use Rattle.std.proofs.Common.{◌≡◌, ℕ, zero, suc, refl, sym, subst, List, [], ◌∷◌, Option, Some, None}
use Rattle.std.specs.Prelude.{unwrap_or}
use Rattle.std.specs.List.{AllZip, last_or}
use Rattle.cmap_values.specs.Files.{File}
use Rattle.cmap_layers.specs.Layers.{Layer, layer_of}
use Rattle.cmap_load.specs.Layers.{AreLayers, OfAnswer}

-- a file that stands for another one: it uses the same names, and over layers that are alike it is alike
pub record StandsFor (Alike : List Layer → List Layer → Type 0) (file made : File) : Type 0 where
  pub uses : made.uses ≡ file.uses
  pub over : (below others : List Layer) → Alike below others → Alike (layer_of file ∷ below) (layer_of made ∷ others)

module _ (Alike : List Layer → List Layer → Type 0) where
  -- the layers of the last one
  last_alike : (last other : Option (List Layer)) (each others : List (List Layer)) → Alike (unwrap_or last []) (unwrap_or other []) → AllZip Alike each others → Alike (unwrap_or (last_or last each) []) (unwrap_or (last_or other others) [])
  last_alike last other [] [] alike zip = alike
  last_alike last other [] (y ∷ others) alike zip = absurd zip
  last_alike last other (x ∷ each) [] alike zip = absurd zip
  last_alike last other (x ∷ each) (y ∷ others) alike zip = last_alike (Some x) (Some y) each others zip.0 zip.1

  each_followed : (P Q : List ℕ → List Layer → Type 0) → ((name : List ℕ) (layers : List Layer) → P name layers → (others : List Layer) × Q name others × Alike layers others) → (names : List (List ℕ)) (each : List (List Layer)) → AllZip P names each
      → (others : List (List Layer)) × AllZip Q names others × AllZip Alike each others
  each_followed P Q follow [] [] zip = ([], tt, tt)
  each_followed P Q follow [] (x ∷ each) zip = absurd zip
  each_followed P Q follow (name ∷ names) [] zip = absurd zip
  each_followed P Q follow (name ∷ names) (x ∷ each) zip =
      let (y, here, alike) = follow name x zip.0 in
      let (others, all, rest) = each_followed P Q follow names each zip.1 in
      (y ∷ others, (here, all), (alike, rest))

module _ (Alike : List Layer → List Layer → Type 0) (means other_means : List ℕ → File → Type 0) (answer other_answer : List ℕ → Option (List ℕ) → Type 0) (Stands : List ℕ → List ℕ → Type 0)
    (none : Alike [] [])
    (files : (bytes others : List ℕ) → Stands bytes others → (file : File) → means bytes file → (made : File) × other_means others made × StandsFor Alike file made)
    (named : (name bytes : List ℕ) → answer name (Some bytes) → (others : List ℕ) × other_answer name (Some others) × Stands bytes others) where
  use_followed : (Under Over : List ℕ → List Layer → Type 0) → ((bytes others : List ℕ) → Stands bytes others → (found : List Layer) → Under bytes found → (made : List Layer) × Over others made × Alike found made)
      → (name : List ℕ) (found : List Layer) → OfAnswer answer Under name found → (made : List Layer) × OfAnswer other_answer Over name made × Alike found made
  use_followed Under Over follow name found (under, said, are) =
      let (stored, answered, stand) = named name under said in
      let (made, over, alike) = follow under stored stand found are in
      (made, (stored, answered, over), alike)

  pub followed : (most : ℕ) (bytes others : List ℕ) → Stands bytes others → (layers : List Layer) → AreLayers means answer most bytes layers → (made : List Layer) × AreLayers other_means other_answer most others made × Alike layers made
  followed zero bytes others stands layers are = absurd are
  followed (suc most) bytes others stands layers (file, base, means_it, (each, zip, base_is), is) =
      let (made, made_it, stand) = files bytes others stands file means_it in
      let uses = use_followed (AreLayers means answer most) (AreLayers other_means other_answer most) (λ under stored stand found are. followed most under stored stand found are) in
      let (bases, all, alike) = each_followed Alike (OfAnswer answer (AreLayers means answer most)) (OfAnswer other_answer (AreLayers other_means other_answer most)) uses file.uses each zip in
      let over = stand.over (unwrap_or (last_or None each) []) (unwrap_or (last_or None bases) []) (last_alike Alike None None each bases none alike) in (
        layer_of made ∷ unwrap_or (last_or None bases) [],
        (made, unwrap_or (last_or None bases) [], made_it, (bases, subst (λ names. AllZip (OfAnswer other_answer (AreLayers other_means other_answer most)) names bases) (sym stand.uses) all, refl), refl),
        rw (is, base_is) over,
      )
