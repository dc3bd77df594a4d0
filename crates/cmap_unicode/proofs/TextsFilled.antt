-- A text has a character.
use Rattle.std.proofs.Common.{◌≡◌, ℕ, ◌+◌, ◌-◌, ◌<◌, ◌^◌, Bool, true, false, List, [], ◌∷◌, ◌++◌, length, take, Option, Some, None, option_map, refl, subst, arith}
use Rattle.std.specs.Prelude.{if◌then◌else◌, nat_lt, option_and_then, slice_get}
use Rattle.std.proofs.lemmas.Option.{none-some, same_Some}
use Rattle.cmap_tokens.specs.Texts.{Text, characters, text_at, text_of_characters}
use Rattle.cmap_values.specs.Files.{BfEntry}
use Rattle.cmap_layers.specs.Layers.{Layer}
use Rattle.cmap_layers.specs.Lookups.{bf_of, decided_text, last_bf}
use Rattle.cmap_unicode.specs.Characters.{characters_of}
use Rattle.cmap_unicode.specs.TextsOfCodes.{text_in}
use Rattle.cmap_layers.proofs.TextsCounted.{some_ended}

by_sum : (b : Bool) (front : List ℕ) (last : ℕ) → option_and_then characters (if b then Some (front ++ last ∷ []) else None) ≡ Some [] → ⊥
by_sum true front last empty = some_ended front last empty
by_sum false front last empty = absurd (none-some [] empty)

by_last : (last : Option ℕ) (front : List ℕ) (offset : ℕ) → option_and_then characters (option_and_then (λ unit. if nat_lt (unit + offset) (2 ^ 16) then Some (front ++ (unit + offset) ∷ []) else None) last) ≡ Some [] → ⊥
by_last None front offset empty = absurd (none-some [] empty)
by_last (Some last) front offset empty = by_sum (nat_lt (last + offset) (2 ^ 16)) front (last + offset) empty

some_at : (units : List ℕ) (offset : ℕ) → text_at units offset ≡ Some [] → ⊥
some_at units offset empty = by_last (slice_get units (length units - 1)) (take (length units - 1) units) offset empty

decided : (code : ℕ) (entry : Option BfEntry) (below : Option (List ℕ)) → (below ≡ Some [] → ⊥) → decided_text code entry below ≡ Some [] → ⊥
decided code (Some entry) below some empty = some_at entry.units (code - entry.start) empty
decided code None below some empty = some empty

some_in : (layers : List Layer) (code : ℕ) → bf_of layers code ≡ Some [] → ⊥
some_in [] code empty = absurd (none-some [] empty)
some_in (layer ∷ layers) code empty = decided code (last_bf layer.lists.bfs code) (bf_of layers code) (some_in layers code) empty

of_found : (found : Option (List ℕ)) (text : Text) → (found ≡ Some [] → ⊥) → option_map text_of_characters found ≡ Some text → 0 < length (characters_of text)
of_found None text some is = absurd (none-some text is)
of_found (Some []) text some is = absurd (some refl)
of_found (Some (c ∷ [])) text some is = subst (λ t. 0 < length (characters_of t)) (same_Some (text_of_characters (c ∷ [])) text is) (omega arith)
of_found (Some (c ∷ d ∷ cs)) text some is = subst (λ t. 0 < length (characters_of t)) (same_Some (text_of_characters (c ∷ d ∷ cs)) text is) (omega arith)

pub text_filled : (map : Option (List Layer)) (code : ℕ) (text : Text) → text_in map code ≡ Some text → 0 < length (characters_of text)
text_filled None code text is = absurd (none-some text is)
text_filled (Some layers) code text is = of_found (bf_of layers code) text (some_in layers code) is
