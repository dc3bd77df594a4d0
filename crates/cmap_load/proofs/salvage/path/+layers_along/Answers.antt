use Rattle.std.proofs.Common.{◌≡◌, ◌∙◌, ◌∷◌, [], ap, arith, refl, sym, subst, List, ℕ, Option, Ok}
use Rattle.std.specs.Prelude.{Contains, Some, map}
use Rattle.std.proofs.lemmas.List.Elements.{Contains-append_left, Contains-append_right, Contains-push}
use Rattle.std.proofs.lemmas.Option.{slice_get_read, slice_get_within}
use Rattle.std.specs.Global.{Vec}
use Rattle.cmap_layers.specs.LayersSeen.{layer_seen, layers_seen}
use Rattle.cmap_layers.specs.declared.layer.Layer.{Layer}
use Rattle.cmap_load.specs.Kept.{layer_in}
use Rattle.cmap_load.proofs.KeptFiles.{layer_apart, layer_there, layers_long, ok_holds}
use Rattle.cmap_load.proofs.Walked.{ok_as}
use Rattle.cmap_load.proofs.salvage.path.+layers_along.Goals as goal

-- an index is on a path
on_path : (path below : List (Option ℕ)) (first : Option ℕ) → path ≡ first ∷ below → (read : Option ℕ) → Contains below read → Contains path read
on_path path below first is read there = subst (λ p. Contains p read) (sym is) (Contains-append_right (first ∷ []) below read there)

first_on : (path below : List (Option ℕ)) (first : Option ℕ) → path ≡ first ∷ below → (read : Option ℕ) → first ≡ read → Contains path read
first_on path below first is read same = subst (λ p. Contains p read) (sym is) (Contains-append_left (first ∷ []) below read (subst (Contains (first ∷ [])) same (Contains-push [] first)))

pub returns-in_default-place_of-clause-layers : goal.returns-in_default-place_of-clause-layers
returns-in_default-place_of-clause-layers t c =
    let old = c.args.contents.now.items in let mid = c.layers_along.new.contents.items in let first = c.in-Some.first.now in let below = c.in-Some.below.now in
    ok_as {P = λ (made : Vec Layer). (layer : Layer) × (c.take_layer-layer.result ≡ Ok layer) × (made.items ≡ layer ∷ c.in_ok-layers.layers.items)} {Q = λ (made : Vec Layer). layers_seen made.items ≡ map (layer_in old) c.args.path.now} c.put_first.result c.put_first.ensures (λ made (layer, taken, is).
    let here : layer_seen layer ≡ layer_in mid first = rw taken at c.take_layer-layer.ensures.layer in
    let same = layer_apart old mid first below c.in_default-place_of.ensures c.in_ok-layers.ensures.others in
    ap layers_seen is ∙ ap (λ l. l ∷ layers_seen c.in_ok-layers.layers.items) (here ∙ same) ∙ ap (λ l. layer_in old first ∷ l) c.in_ok-layers.ensures.layers ∙ ap (map (layer_in old)) (sym c.in-Some.ensures.cases.0))

pub returns-in_default-place_of-clause-others : goal.returns-in_default-place_of-clause-others
returns-in_default-place_of-clause-others t c = ok_holds c.put_first.result (λ at apart.
    let path = c.args.path.now in let below = c.in-Some.below.now in let first = c.in-Some.first.now in
    c.take_layer-layer.ensures.others at (λ same. apart (first_on path below first c.in-Some.ensures.cases.0 (Some at) same))
    ∙ c.in_ok-layers.ensures.others at (λ there. apart (on_path path below first c.in-Some.ensures.cases.0 (Some at) there)))

pub index-requires : goal.index-requires
index-requires t c =
    let below = c.in-Some.below.now in
    let within = slice_get_within below c.in-Some-place_of.i c.in-Some.first.now c.in-Some-place_of.ensures in
    let long = layers_long c.args.contents.now.items below c.in_ok-layers.layers.items c.in_ok-layers.ensures.layers in
    omega (arith, within, long, c.in_ok-layers.layers.ok.0)

pub returns-clause-layers : goal.returns-clause-layers
returns-clause-layers t c =
    let old = c.args.contents.now.items in let first = c.in-Some.first.now in let below = c.in-Some.below.now in
    let layers = c.in_ok-layers.layers.items in
    ok_as {P = λ (made : Vec Layer). (layer : Layer) × (c.clone-layer.result ≡ Ok layer) × (made.items ≡ layer ∷ c.in_ok-layers.layers.items)} {Q = λ (made : Vec Layer). layers_seen made.items ≡ map (layer_in old) c.args.path.now} c.put_first-2.result c.put_first-2.ensures (λ made (layer, cloned, is).
    let within = slice_get_within below c.in-Some-place_of.i first c.in-Some-place_of.ensures in
    let long = layers_long old below layers c.in_ok-layers.ensures.layers in
    let has = slice_get_read layers _ c.in-Some-place_of.i c.index.result.now refl (omega (arith, within, long)) c.index.ensures in
    let there = layer_there old below layers c.in_ok-layers.ensures.layers c.in-Some-place_of.i first c.in-Some-place_of.ensures c.index.result.now has in
    let here : layer_seen layer ≡ layer_seen c.index.result.now = rw cloned at c.clone-layer.ensures in
    ap layers_seen is ∙ ap (λ l. l ∷ layers_seen layers) (here ∙ there) ∙ ap (λ l. layer_in old first ∷ l) c.in_ok-layers.ensures.layers ∙ ap (map (layer_in old)) (sym c.in-Some.ensures.cases.0))

pub returns-clause-others : goal.returns-clause-others
returns-clause-others t c = ok_holds c.put_first-2.result (λ at apart.
    c.in_ok-layers.ensures.others at (λ there. apart (on_path c.args.path.now c.in-Some.below.now c.in-Some.first.now c.in-Some.ensures.cases.0 (Some at) there)))
