-- Texts that count on by their last character.
use Rattle.std.proofs.Common.{◌≡◌, ℕ, ◌+◌, List, [], ◌∷◌, Option, Some, None, option_map, refl, ap, ◌∙◌, arith}
use Rattle.cmap_tokens.specs.Texts.{Text, more, one, text_of_characters}
use Rattle.cmap_unicode.specs.CountedTexts.{counted_on, text_after}

pub text_counted : (cs : List ℕ) (k : ℕ) → text_of_characters (counted_on cs k) ≡ text_after (text_of_characters cs) k
text_counted [] k = refl
text_counted (c ∷ []) k = refl
text_counted (c ∷ d ∷ []) k = refl
text_counted (c ∷ d ∷ e ∷ cs) k = refl

pub texts_counted : (found later : Option (List ℕ)) (k : ℕ) → later ≡ option_map (λ cs. counted_on cs k) found → option_map text_of_characters later ≡ option_map (λ text. text_after text k) (option_map text_of_characters found)
texts_counted None later k is = ap (option_map text_of_characters) is
texts_counted (Some cs) later k is = ap (option_map text_of_characters) is ∙ ap Some (text_counted cs k)

-- none further
same_characters : (cs : List ℕ) → counted_on cs 0 ≡ cs
same_characters [] = refl
same_characters (c ∷ []) = let same : c + 0 ≡ c = omega arith in ap (λ d. d ∷ []) same
same_characters (c ∷ d ∷ cs) = ap (λ l. c ∷ l) (same_characters (d ∷ cs))

pub same_text : (text : Text) → text_after text 0 ≡ text
same_text (one c) = let same : c + 0 ≡ c = omega arith in ap one same
same_text (more cs) = ap more (same_characters cs)
