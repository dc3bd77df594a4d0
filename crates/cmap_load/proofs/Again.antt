-- What was found of a file is found again, whichever names lead to it, where the chain and the budget have room for it.
use Rattle.std.proofs.Common.{◌≡◌, ◌<◌, ◌≤◌, ◌+◌, ℕ, zero, suc, refl, sym, ap, subst, ◌∙◌, false, List, [], ◌∷◌, ◌++◌, length, inl, inr, append-nil, append_assoc, arith, Option, Some, None}
use Rattle.std.specs.List.{All, AllZip}
use Rattle.std.proofs.Math.ListN.{length-append}
use Rattle.std.proofs.lemmas.List.Elements.{All-cons, All-head, All-nil, All-tail}
use Rattle.cmap_values.specs.Files.{File}
use Rattle.cmap_layers.specs.Layers.{Layer, layer_of}
use Rattle.cmap_load.specs.BytesSpent.{Leaves}
use Rattle.cmap_load.specs.Kept.{Files, IsAnswer, IsPast, Over, Stored, size}
use Rattle.cmap_load.specs.Salvage.{Found, Opening, Reading, ReadsWithin, SalvagesEach, SalvagesNamed, SalvagesUse, no_layers}
use Rattle.cmap_load.specs.SalvageSeen.{HasRoom, IsRead}
use Rattle.cmap_load.specs.declared.refusal.Cause.{Cause}
use Rattle.cmap_load.specs.declared.refusal.Cause.TheVariants.{ChainLength, NoFile}
use Rattle.cmap_load.proofs.BudgetLeft.{Leaves-more, Leaves-none}

-- ---- a budget
Leaves-zero : (budget left : Option ℕ) → Leaves budget 0 left → left ≡ budget
Leaves-zero None left leaves = leaves
Leaves-zero (Some budget) None leaves = absurd leaves
Leaves-zero (Some budget) (Some left) leaves = let same : left ≡ budget = omega (arith, leaves) in ap (λ n. Some n) same

Leaves-split : (budget left : Option ℕ) (first second : ℕ) → Leaves budget (first + second) left → (mid : Option ℕ) × Leaves budget first mid × Leaves mid second left
Leaves-split None left first second leaves = (None, refl, leaves)
Leaves-split (Some budget) None first second leaves = absurd leaves
Leaves-split (Some budget) (Some left) first second leaves = (Some (left + second), omega (arith, leaves), refl)

-- ---- lists
pub All-front : {A : Type 0} (P : A → Type 0) (xs ys : List A) → All P (xs ++ ys) → All P xs
All-front P [] ys all = All-nil P
All-front P (x ∷ xs) ys all = All-cons P x xs (All-head P x (xs ++ ys) all) (All-front P xs ys (All-tail P x (xs ++ ys) all))

pub All-back : {A : Type 0} (P : A → Type 0) (xs ys : List A) → All P (xs ++ ys) → All P ys
All-back P [] ys all = all
All-back P (x ∷ xs) ys all = All-back P xs ys (All-tail P x (xs ++ ys) all)

AllZip-append : {A : Type 0} (R : A → A → Type 0) (xs ys us vs : List A) → AllZip R xs ys → AllZip R us vs → AllZip R (xs ++ us) (ys ++ vs)
AllZip-append R [] [] us vs one other = other
AllZip-append R [] (y ∷ ys) us vs one other = absurd one
AllZip-append R (x ∷ xs) [] us vs one other = absurd one
AllZip-append R (x ∷ xs) (y ∷ ys) us vs one other = (one.0, AllZip-append R xs ys us vs one.1 other)

AllZip-weaker : {A : Type 0} (R S : A → A → Type 0) → ((x y : A) → R x y → S x y) → (xs ys : List A) → AllZip R xs ys → AllZip S xs ys
AllZip-weaker R S gives [] [] all = tt
AllZip-weaker R S gives [] (y ∷ ys) all = absurd all
AllZip-weaker R S gives (x ∷ xs) [] all = absurd all
AllZip-weaker R S gives (x ∷ xs) (y ∷ ys) all = (gives x y all.0, AllZip-weaker R S gives xs ys all.1)

pub All-alike : {A : Type 0} (R : A → A → Type 0) (P Q : A → Type 0) → ((x y : A) → R x y → P x → Q y) → (xs ys : List A) → AllZip R xs ys → All P xs → All Q ys
All-alike R P Q gives [] [] zip all = All-nil Q
All-alike R P Q gives [] (y ∷ ys) zip all = absurd zip
All-alike R P Q gives (x ∷ xs) [] zip all = absurd zip
All-alike R P Q gives (x ∷ xs) (y ∷ ys) zip all = All-cons Q y ys (gives x y zip.0 (All-head P x xs all)) (All-alike R P Q gives xs ys zip.1 (All-tail P x xs all))

-- ---- what is found again
-- the same of a file to which other names lead
pub record IsAlike (names others : List (List ℕ)) (reading other : Reading) : Type 0 where
  pub below : List (List ℕ)
  pub was : reading.names ≡ names ++ below
  pub now : other.names ≡ others ++ below
  pub causes : other.causes ≡ reading.causes

pub record FoundAgain (salvages : Opening → Found → Type 0) (names others : List (List ℕ)) (found : Found) (budget left : Option ℕ) : Type 0 where
  pub readings : List Reading
  pub finds : salvages (record { left = budget; closed = false }) (record { layers = found.layers; readings = readings; after = record { left = left; closed = false } })
  pub alike : AllZip (IsAlike names others) found.readings readings

-- wherever there is room for what was spent
pub record Repeats (salvages : Opening → Found → Type 0) (names others : List (List ℕ)) (before : Option ℕ) (found : Found) : Type 0 where
  pub count : ℕ
  pub leaves : Leaves before count found.after.left
  pub is_open : found.after.closed ≡ false
  pub again : (budget left : Option ℕ) → Leaves budget count left → FoundAgain salvages names others found budget left

-- under one more name
under_name : (names others : List (List ℕ)) (name : List ℕ) (reading other : Reading) → IsAlike (names ++ name ∷ []) (others ++ name ∷ []) reading other → IsAlike names others reading other
under_name names others name reading other alike = record {
  below = name ∷ alike.below;
  was = alike.was ∙ append_assoc names (name ∷ []) alike.below;
  now = alike.now ∙ append_assoc others (name ∷ []) alike.below;
  causes = alike.causes;
}

itself : (names others : List (List ℕ)) (causes : List Cause) → IsAlike names others (record { names = names; causes = causes }) (record { names = others; causes = causes })
itself names others causes = record { below = []; was = sym (append-nil names); now = sym (append-nil others); causes = refl }

-- ---- uses
module _ (longest : ℕ) (names others : List (List ℕ)) (first later : List ℕ → List Layer → Opening → Found → Type 0)
    (each : (name : List ℕ) (base : List Layer) (opening : Opening) (found : Found) → opening.closed ≡ false → first name base opening found → All (IsRead longest) found.readings → Repeats (later name base) names others opening.left found) where
  each_again : (uses : List (List ℕ)) (base : List Layer) (opening : Opening) (found : Found) → opening.closed ≡ false → SalvagesEach first uses base opening found → All (IsRead longest) found.readings
      → Repeats (SalvagesEach later uses base) names others opening.left found
  each_again [] base opening found is_open is read = subst (λ f. Repeats (SalvagesEach later [] base) names others opening.left f) (sym is) (record {
    count = 0;
    leaves = Leaves-none opening.left;
    is_open = is_open;
    again = λ budget left leaves. record { readings = []; finds = ap (λ l. record { layers = base; readings = []; after = record { left = l; closed = false } }) (Leaves-zero budget left leaves); alike = tt };
  })
  each_again (name ∷ uses) base opening found is_open (one, rest, finds, more, is) read =
      let all : All (IsRead longest) (one.readings ++ rest.readings) = subst (λ f. All (IsRead longest) f.readings) is read in
      let here = each name base opening one is_open finds (All-front (IsRead longest) one.readings rest.readings all) in
      let below = each_again uses one.layers one.after rest here.is_open more (All-back (IsRead longest) one.readings rest.readings all) in
      subst (λ f. Repeats (SalvagesEach later (name ∷ uses) base) names others opening.left f) (sym is) (record {
        count = here.count + below.count;
        leaves = Leaves-more opening.left one.after.left rest.after.left here.count below.count here.leaves below.leaves;
        is_open = below.is_open;
        again = λ budget left leaves.
            let (mid, now, then) = Leaves-split budget left here.count below.count leaves in
            let found = here.again budget mid now in
            let last = below.again mid left then in
            record {
              readings = found.readings ++ last.readings;
              finds = (
                record { layers = one.layers; readings = found.readings; after = record { left = mid; closed = false } },
                record { layers = rest.layers; readings = last.readings; after = record { left = left; closed = false } },
                found.finds,
                last.finds,
                refl,
              );
              alike = AllZip-append (IsAlike names others) one.readings found.readings rest.readings last.readings found.alike last.alike;
            };
      })

module _ (files : Files) where
  -- ---- the file of a name
  module _ (longest : ℕ) (names others : List (List ℕ)) (name : List ℕ) (now : Opening) (found : Found) (is_open : now.closed ≡ false) (read : All (IsRead longest) found.readings) where
    pub named_again : (most room : ℕ) → longest < length names + room
        → ((stored : Stored) → Over files most names stored now found → Repeats (Over files room others stored) names others now.left found)
        → SalvagesNamed (IsAnswer files) (Over files most) most names name now found → Repeats (SalvagesNamed (IsAnswer files) (Over files room) room others name) names others now.left found
    named_again zero room fits file is =
        let all : All (IsRead longest) (record { names = names; causes = ChainLength ∷ [] } ∷ []) = subst (λ f. All (IsRead longest) f.readings) is read in
        absurd (All-head (IsRead longest) (record { names = names; causes = ChainLength ∷ [] }) [] all).room
    named_again (suc most) room fits file (inl (said, is)) =
        let all : All (IsRead longest) (record { names = names; causes = NoFile ∷ [] } ∷ []) = subst (λ f. All (IsRead longest) f.readings) is read in
        let short : length names ≤ longest = (All-head (IsRead longest) (record { names = names; causes = NoFile ∷ [] }) [] all).short in
        subst (λ f. Repeats (SalvagesNamed (IsAnswer files) (Over files room) room others name) names others now.left f) (sym is) (record {
          count = 0;
          leaves = Leaves-none now.left;
          is_open = is_open;
          again = λ budget left leaves. missing room fits short budget left (Leaves-zero budget left leaves);
        })
      where
        missing : (room : ℕ) → longest < length names + room → length names ≤ longest → (budget left : Option ℕ) → left ≡ budget
            → FoundAgain (SalvagesNamed (IsAnswer files) (Over files room) room others name) names others (no_layers names NoFile now) budget left
        missing zero fits short budget left same = absurd (omega (arith, fits, short))
        missing (suc room) fits short budget left same = record {
          readings = record { names = others; causes = NoFile ∷ [] } ∷ [];
          finds = inl (said, ap (λ l. no_layers others NoFile (record { left = l; closed = false })) same);
          alike = (itself names others (NoFile ∷ []), tt);
        }
    named_again (suc most) room fits file (inr (stored, said, salvaged)) = answered room (file stored salvaged)
      where
        answered : (room : ℕ) → Repeats (Over files room others stored) names others now.left found → Repeats (SalvagesNamed (IsAnswer files) (Over files room) room others name) names others now.left found
        answered zero repeats = absurd (repeats.again now.left found.after.left repeats.leaves).finds
        answered (suc room) repeats = record {
          count = repeats.count;
          leaves = repeats.leaves;
          is_open = repeats.is_open;
          again = λ budget left leaves. let again = repeats.again budget left leaves in record { readings = again.readings; finds = inr (stored, said, again.finds); alike = again.alike };
        }

  -- ---- a use
  use_again : (longest most room : ℕ) (names others : List (List ℕ)) (name : List ℕ) (base : List Layer) (now : Opening) (found : Found) → now.closed ≡ false
      → (SalvagesNamed (IsAnswer files) (Over files most) most (names ++ name ∷ []) name now found → Repeats (SalvagesNamed (IsAnswer files) (Over files room) room (others ++ name ∷ []) name) (names ++ name ∷ []) (others ++ name ∷ []) now.left found)
      → SalvagesUse (IsAnswer files) (Over files most) most names name base now found → Repeats (SalvagesUse (IsAnswer files) (Over files room) room others name base) names others now.left found
  use_again longest most room names others name base now found is_open file used = elim used [
    | inl (closed, is) ↦ absurd (cc)
    | inr (opens, named) ↦ (let repeats = file named in record {
      count = repeats.count;
      leaves = repeats.leaves;
      is_open = repeats.is_open;
      again = λ budget left leaves.
          let again = repeats.again budget left leaves in
          record {
            readings = again.readings;
            finds = inr (refl, again.finds);
            alike = AllZip-weaker (IsAlike (names ++ name ∷ []) (others ++ name ∷ [])) (IsAlike names others) (under_name names others name) found.readings again.readings again.alike;
          };
    })
  ]

  -- ---- a file
  module _ (longest : ℕ) (names others : List (List ℕ)) (stored : Stored) (opening : Opening) (file : File) (causes : List Cause) (rest : Option ℕ) (below : Found) where
    over_again : (most room : ℕ) → longest < length names + room → length names ≤ longest → HasRoom causes → ReadsWithin (size files) (IsPast files) opening.left stored file causes rest
        → ((room : ℕ) → longest < length names + suc room → Repeats (SalvagesEach (SalvagesUse (IsAnswer files) (Over files room) room others) file.uses []) names others rest below)
        → Repeats (Over files room others stored) names others opening.left (record { layers = layer_of file ∷ below.layers; readings = record { names = names; causes = causes } ∷ below.readings; after = below.after })
    over_again most zero fits short has_room reads uses = absurd (omega (arith, fits, short))
    over_again most (suc room) fits short has_room reads uses = elim reads [
      | inl (over, nothing, causes_are, same) ↦ absurd (subst HasRoom causes_are has_room)
      | inr (stops, leaves, past, causes_are) ↦ (let repeats = uses room fits in record {
        count = size files stored + repeats.count;
        leaves = Leaves-more opening.left rest below.after.left (size files stored) repeats.count leaves repeats.leaves;
        is_open = repeats.is_open;
        again = λ budget left leaves.
            let (mid, now, then) = Leaves-split budget left (size files stored) repeats.count leaves in
            let again = repeats.again mid left then in
            record {
              readings = record { names = others; causes = causes } ∷ again.readings;
              finds = (file, causes, mid, record { layers = below.layers; readings = again.readings; after = record { left = left; closed = false } }, inr (stops, now, past, causes_are), again.finds, refl);
              alike = (itself names others causes, again.alike);
            };
      })
    ]

  pub file_again : (longest most room : ℕ) (names others : List (List ℕ)) (stored : Stored) (opening : Opening) (found : Found) → longest < length names + room → opening.closed ≡ false → Over files most names stored opening found → All (IsRead longest) found.readings
      → Repeats (Over files room others stored) names others opening.left found
  file_again longest zero room names others stored opening found fits is_open salvages read = absurd salvages
  file_again longest (suc most) room names others stored opening found fits is_open (file, causes, rest, below, reads, uses, is) read =
      let all : All (IsRead longest) (record { names = names; causes = causes } ∷ below.readings) = subst (λ f. All (IsRead longest) f.readings) is read in
      let first = All-head (IsRead longest) (record { names = names; causes = causes }) below.readings all in
      let each : (room : ℕ) → longest < length names + suc room → (name : List ℕ) (base : List Layer) (now : Opening) (one : Found) → now.closed ≡ false → SalvagesUse (IsAnswer files) (Over files most) most names name base now one → All (IsRead longest) one.readings
      → Repeats (SalvagesUse (IsAnswer files) (Over files room) room others name base) names others now.left one = λ room fits name base now one still_open used read.
      let longer : length (names ++ name ∷ []) ≡ length names + 1 = length-append names (name ∷ []) in
      let room_left : longest < length (names ++ name ∷ []) + room = omega (arith, longer, fits) in
      use_again longest most room names others name base now one still_open (λ named. named_again longest (names ++ name ∷ []) (others ++ name ∷ []) name now one still_open read most room room_left (λ under salvaged. file_again longest most room (names ++ name ∷ []) (others ++ name ∷ []) under now one room_left still_open salvaged read) named) used
      in
      subst (λ f. Repeats (Over files room others stored) names others opening.left f) (sym is)
      (over_again longest names others stored opening file causes rest below most room fits first.short first.room reads
      (λ room fits. each_again longest names others (SalvagesUse (IsAnswer files) (Over files most) most names) (SalvagesUse (IsAnswer files) (Over files room) room others) (each room fits) file.uses [] (record { left = rest; closed = opening.closed }) below is_open uses (All-tail (IsRead longest) (record { names = names; causes = causes }) below.readings all)))
