-- What holds of files by some answers to names, by what holds of them by others.
use Rattle.std.proofs.Common.{◌≡◌, refl, sym, ap, subst, ◌∙◌, arith, ℕ, zero, suc, true, false, List, [], ◌∷◌, ◌++◌, Option, Some, None, inl, inr}
use Rattle.std.specs.Prelude.{unwrap_or}
use Rattle.std.specs.List.{AllZip, last_or}
use Rattle.std.specs.Prelude.{All}
use Rattle.std.proofs.lemmas.List.Elements.{All-cons, All-nil, All-weaker}
use Rattle.cmap_values.specs.Files.{File}
use Rattle.cmap_values.specs.Only.{IsOnly, HoldsOfNone}
use Rattle.cmap_binary.specs.Bundles.{PrefixTables}
use Rattle.cmap_layers.specs.Layers.{Layer, layer_of}
use Rattle.cmap_load.specs.Answers.{IsByName}
use Rattle.cmap_load.specs.Layers.{AreLayers, Means, OfAnswer}
use Rattle.cmap_load.specs.Refusals.{HasLayers, IsFault, IsMissing, IsOwnFault, IsUsedAfter}
use Rattle.cmap_load.specs.declared.refusal.Cause.{Cause}
use Rattle.cmap_load.specs.declared.refusal.Cause.TheVariants.{Malformed, NoFile, ChainLength, OverBudget}
use Rattle.cmap_load.specs.Budgets.{OpensEach, OpensUse, Trail}
use Rattle.cmap_load.specs.Loading.{Agrees, MeansOnly, OpensOnly}

all_zip_as : {A B : Type 0} {R S : A → B → Type 0} → ((a : A) (b : B) → R a b → S a b) → (xs : List A) (ys : List B) → AllZip R xs ys → AllZip S xs ys
all_zip_as weaker [] [] h = h
all_zip_as weaker [] (y ∷ ys) h = absurd h
all_zip_as weaker (x ∷ xs) [] h = absurd h
all_zip_as weaker (x ∷ xs) (y ∷ ys) h = (weaker x y h.0, all_zip_as weaker xs ys h.1)

all_zip_same : {A B : Type 0} {R S : A → B → Type 0} → ((a : A) (b c : B) → R a b → S a c → c ≡ b) → (xs : List A) (bs cs : List B) → AllZip R xs bs → AllZip S xs cs → cs ≡ bs
all_zip_same same [] [] [] h g = refl
all_zip_same same [] [] (c ∷ cs) h g = absurd g
all_zip_same same [] (b ∷ bs) cs h g = absurd h
all_zip_same same (x ∷ xs) [] cs h g = absurd h
all_zip_same same (x ∷ xs) (b ∷ bs) [] h g = absurd g
all_zip_same same (x ∷ xs) (b ∷ bs) (c ∷ cs) h g = let head = same x b c h.0 g.0 in let tail = all_zip_same same xs bs cs h.1 g.1 in cc

-- layers by what means more and by more answers
pub AreLayers-as : {means other_means : List ℕ → File → Type 0} {answer other : List ℕ → Option (List ℕ) → Type 0} → ((bytes : List ℕ) (file : File) → means bytes file → other_means bytes file) → Agrees answer other
    → (most : ℕ) (bytes : List ℕ) (layers : List Layer) → AreLayers means answer most bytes layers → AreLayers other_means other most bytes layers
AreLayers-as meant agrees zero bytes layers h = absurd h
AreLayers-as meant agrees (suc most) bytes layers (file, base, meaning, (each, zipped, is), same) =
    (file, base, meant bytes file meaning, (each, all_zip_as (λ name below (b, said, h). (b, agrees name (Some b) said, AreLayers-as meant agrees most b below h)) file.uses each zipped, is), same)

-- the layers of files each of which means one thing alone are the only ones
pub AreLayers-same : (means : List ℕ → File → Type 0) {answer other : List ℕ → Option (List ℕ) → Type 0} → Agrees answer other → IsByName other
    → (most more : ℕ) (bytes : List ℕ) (layers found : List Layer) → AreLayers (λ bytes. IsOnly (means bytes)) answer most bytes layers → AreLayers means other more bytes found → found ≡ layers
AreLayers-same means agrees by_name zero more bytes layers found h g = absurd h
AreLayers-same means agrees by_name (suc most) zero bytes layers found h g = absurd g
AreLayers-same means {answer} {other} agrees by_name (suc most) (suc more) bytes layers found (file, base, meant, (each, zipped, is), same) (file', base', meant', (each', zipped', is'), same') =
    let same_file : file' ≡ file = meant.alone file' meant' in
    let zipped_there : AllZip (OfAnswer other (AreLayers means other more)) file.uses each' = subst (λ (f : File). AllZip (OfAnswer other (AreLayers means other more)) f.uses each') same_file zipped' in
    let same_each : each' ≡ each = all_zip_same {R = OfAnswer answer (AreLayers (λ bytes. IsOnly (means bytes)) answer most)} {S = OfAnswer other (AreLayers means other more)} (λ name b c (bytes, said, h) (bytes', said', g).
    let same_bytes : Some bytes' ≡ Some bytes = by_name name (Some bytes') (Some bytes) said' (agrees name (Some bytes) said) in
    let same_list : bytes' ≡ bytes = cc in
    AreLayers-same means agrees by_name most more bytes b c h (subst (λ l. AreLayers means other more l c) same_list g)) file.uses each each' zipped zipped_there in
    let same_base : base' ≡ base = is' ∙ ap (λ e. unwrap_or (last_or None e) []) same_each ∙ sym is in
    same' ∙ ap (λ (f : File). layer_of f ∷ base') same_file ∙ ap (λ b. layer_of file ∷ b) same_base ∙ sym same

-- a map, by answers that are given by name
pub IsMap-agreed : (means : List ℕ → File → Type 0) {answer other : List ℕ → Option (List ℕ) → Type 0} → Agrees answer other → IsByName other
    → (most : ℕ) (bytes : List ℕ) (layers : List Layer) → AreLayers (λ bytes. IsOnly (means bytes)) answer most bytes layers → IsOnly (AreLayers means other most bytes) layers
IsMap-agreed means agrees by_name most bytes layers h = record {
  holds = AreLayers-as {means = λ bytes. IsOnly (means bytes)} {other_means = means} (λ b f only. only.holds) agrees most bytes layers h;
  alone = λ other g. AreLayers-same means agrees by_name most most bytes layers other h g;
}

module _ (tables : Option PrefixTables) {answer other : List ℕ → Option (List ℕ) → Type 0} (agrees : Agrees answer other) where
  HasLayers-as : (most : ℕ) (name : List ℕ) → HasLayers tables answer most name → HasLayers tables other most name
  HasLayers-as most name (layers, (bytes, said, h)) = (layers, (bytes, agrees name (Some bytes) said, AreLayers-as {means = Means tables} {other_means = Means tables} (λ b f m. m) agrees most bytes layers h))

  IsUsedAfter-as : (most : ℕ) (uses : List (List ℕ)) (name : List ℕ) → IsUsedAfter (HasLayers tables answer most) uses name → IsUsedAfter (HasLayers tables other most) uses name
  IsUsedAfter-as most uses name (before, after, is, have) = (before, after, is, All-weaker (HasLayers tables answer most) (HasLayers tables other most) (HasLayers-as most) before have)

  pub IsOwnFault-as : (bytes : List ℕ) (cause : Cause) → IsOwnFault tables answer bytes cause → IsOwnFault tables other bytes cause
  IsOwnFault-as bytes (Malformed stop) h = h
  IsOwnFault-as bytes NoFile h = h
  IsOwnFault-as bytes ChainLength h = h
  IsOwnFault-as bytes OverBudget h = h

  IsMissing-as : (room : ℕ) (name : List ℕ) (cause : Cause) → IsMissing tables answer room name cause → IsMissing tables other room name cause
  IsMissing-as room name (Malformed stop) h = h
  IsMissing-as room name OverBudget h = h
  IsMissing-as room name NoFile h = (h.0, agrees name None h.1)
  IsMissing-as room name ChainLength h = h

  pub IsFault-as : (most : ℕ) (bytes : List ℕ) (names : List (List ℕ)) (cause : Cause) → IsFault tables answer most bytes names cause → IsFault tables other most bytes names cause
  IsFault-as zero bytes names cause h = absurd h
  IsFault-as (suc most) bytes [] cause h = IsOwnFault-as bytes cause h
  IsFault-as (suc most) bytes (name ∷ names) cause (file, meant, uses, ends) = (
    file,
    meant,
    IsUsedAfter-as most file.uses name uses,
    elim ends [
      | inl (missing, none) ↦ inl (IsMissing-as most name cause missing, none)
      | inr (base, said, fault) ↦ inr (base, agrees name (Some base) said, IsFault-as most base names cause fault)
    ],
  )

-- one of the zipped, by where it stands
zipped_at : {A B : Type 0} (R : A → B → Type 0) (before : List A) (a : A) (after : List A) (bs : List B) → AllZip R (before ++ a ∷ after) bs → (b : B) × R a b
zipped_at R [] a after [] h = absurd h
zipped_at R [] a after (b ∷ bs) h = (b, h.0)
zipped_at R (x ∷ before) a after [] h = absurd h
zipped_at R (x ∷ before) a after (b ∷ bs) h = zipped_at R before a after bs h.1

-- a file with a fault has no map
module _ (tables : Option PrefixTables) (answer : List ℕ → Option (List ℕ) → Type 0) (by_name : IsByName answer) where
  own_none : (bytes : List ℕ) (cause : Cause) → IsOwnFault tables answer bytes cause → HoldsOfNone (Means tables bytes)
  own_none bytes (Malformed stop) h = h.0
  own_none bytes NoFile h = absurd h
  own_none bytes ChainLength h = absurd h
  own_none bytes OverBudget h = absurd h

  missing_none : (room : ℕ) (name : List ℕ) (cause : Cause) → IsMissing tables answer room name cause → (layers : List Layer) → OfAnswer answer (AreLayers (Means tables) answer room) name layers → ⊥
  missing_none room name (Malformed stop) h layers g = h
  missing_none room name OverBudget h layers g = h
  missing_none room name NoFile h layers (bytes, said, g) = let e = by_name name None (Some bytes) h.1 said in absurd (cc)
  missing_none zero name ChainLength h layers (bytes, said, g) = g
  missing_none (suc room) name ChainLength h layers (bytes, said, g) = absurd (omega (arith, h))

  pub no_map : (most : ℕ) (bytes : List ℕ) (names : List (List ℕ)) (cause : Cause) → IsFault tables answer most bytes names cause → HoldsOfNone (AreLayers (Means tables) answer most bytes)
  no_map zero bytes names cause h layers g = absurd h
  no_map (suc most) bytes [] cause h layers (file, base, meant, more, same) = own_none bytes cause h file meant
  no_map (suc most) bytes (name ∷ names) cause (file, only, (before, after, is, have), ends) layers (file', base, meant, (each, zipped, _), same) =
      let same_file : file' ≡ file = only.alone file' meant in
      let same_uses : file'.uses ≡ before ++ name ∷ after = ap (λ (f : File). f.uses) same_file ∙ is in
      let at = zipped_at (OfAnswer answer (AreLayers (Means tables) answer most)) before name after each (subst (λ u. AllZip (OfAnswer answer (AreLayers (Means tables) answer most)) u each) same_uses zipped) in
      elim ends [
        | inl (missing, none) ↦ missing_none most name cause missing at.0 at.1
        | inr (below, said, fault) ↦ (
            let e = by_name name (Some at.1.0) (Some below) at.1.1 said in
            let same_bytes : at.1.0 ≡ below = cc in
            no_map most below names cause fault at.0 (subst (λ b. AreLayers (Means tables) answer most b at.0) same_bytes at.1.2))
      ]

-- what is opened whole has layers
module _ (tables : Option PrefixTables) (answer : List ℕ → Option (List ℕ) → Type 0) where
  use_layers : (most : ℕ) → ((bytes lengths : List ℕ) → OpensOnly tables answer most bytes (lengths, false) → (layers : List Layer) × AreLayers (MeansOnly tables) answer most bytes layers)
      → (name lengths : List ℕ) → OpensUse answer (OpensOnly tables answer most) most name (lengths, false) → (layers : List Layer) × OfAnswer answer (AreLayers (MeansOnly tables) answer most) name layers
  use_layers zero gives name lengths h = let e : false ≡ true = ap (λ (t : Trail). t.1) h in absurd (cc)
  use_layers (suc most) gives name lengths (inl (none, is)) = let e : false ≡ true = ap (λ (t : Trail). t.1) is in absurd (cc)
  use_layers (suc most) gives name lengths (inr (bytes, said, h)) = let (layers, are) = gives bytes lengths h in (layers, (bytes, said, are))

  each_layers : (most : ℕ) → ((bytes lengths : List ℕ) → OpensOnly tables answer most bytes (lengths, false) → (layers : List Layer) × AreLayers (MeansOnly tables) answer most bytes layers)
      → (uses : List (List ℕ)) (trail : Trail) → trail.1 ≡ false → OpensEach (OpensUse answer (OpensOnly tables answer most) most) uses trail
      → (each : List (List Layer)) × AllZip (OfAnswer answer (AreLayers (MeansOnly tables) answer most)) uses each
  each_layers most gives [] trail whole h = ([], tt)
  each_layers most gives (name ∷ uses) trail whole (inl (h, broken)) = absurd (cc)
  each_layers most gives (name ∷ uses) trail whole (inr (first, rest, h, more, is)) =
      let still : rest.1 ≡ false = sym (ap (λ (t : Trail). t.1) is) ∙ whole in
      let here = use_layers most gives name first h in
      let others = each_layers most gives uses rest still more in
      (here.0 ∷ others.0, (here.1, others.1))

  pub opened_layers : (most : ℕ) (bytes lengths : List ℕ) → OpensOnly tables answer most bytes (lengths, false) → (layers : List Layer) × AreLayers (MeansOnly tables) answer most bytes layers
  opened_layers zero bytes lengths h = absurd h
  opened_layers (suc most) bytes lengths (inl (none, is)) = let e : false ≡ true = ap (λ (t : Trail). t.1) is in absurd (cc)
  opened_layers (suc most) bytes lengths (inr (file, rest, only, each, is)) =
      let still : rest.1 ≡ false = sym (ap (λ (t : Trail). t.1) is) in
      let all = each_layers most (opened_layers most) file.uses rest still each in
      let base : List Layer = unwrap_or (last_or None all.0) [] in
      (layer_of file ∷ base, (file, base, only, (all.0, all.1, refl), refl))

  has_layers : (room : ℕ) (name lengths : List ℕ) → OpensUse answer (OpensOnly tables answer room) room name (lengths, false) → HasLayers tables answer room name
  has_layers room name lengths h =
      let (layers, (bytes, said, are)) = use_layers room (opened_layers room) name lengths h in
      (layers, (bytes, said, AreLayers-as {means = MeansOnly tables} {other_means = Means tables} {answer = answer} {other = answer} (λ b f only. only.holds) (λ n b said. said) room bytes layers are))

  pub all_have : (room : ℕ) (uses : List (List ℕ)) (trail : Trail) → trail.1 ≡ false → OpensEach (OpensUse answer (OpensOnly tables answer room) room) uses trail → All (HasLayers tables answer room) uses
  all_have room [] trail whole h = All-nil (HasLayers tables answer room)
  all_have room (name ∷ uses) trail whole (inl (h, broken)) = absurd (cc)
  all_have room (name ∷ uses) trail whole (inr (first, rest, h, more, is)) =
      let still : rest.1 ≡ false = sym (ap (λ (t : Trail). t.1) is) ∙ whole in
      All-cons (HasLayers tables answer room) name uses (has_layers room name first h) (all_have room uses rest still more)
