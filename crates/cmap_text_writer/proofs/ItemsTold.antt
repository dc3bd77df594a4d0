-- Items that are written one after another.
use Rattle.std.proofs.Common.{◌≡◌, ◌∙◌, ℕ, false, true, List, [], ◌∷◌, ◌++◌, Some, None, refl, sym, ap, subst}
use Rattle.std.specs.Prelude.{Contains}
use Rattle.std.proofs.lemmas.Bool.{false≢true}
use Rattle.std.proofs.lemmas.List.{append_assoc}
use Rattle.std.proofs.lemmas.Option.{none-some}
use Rattle.cmap_tokens.specs.Tokens.{Token}
use Rattle.cmap_text.specs.TextFiles.{AreItems, IsItem, IsOtherToken, Item, key, keys, other}
use Rattle.cmap_text.specs.TextReading.{is_executable, key_in, opened_by, use_word}
use Rattle.cmap_text.proofs.ItemsRead.{key_in-own, opened_by-own}
use Rattle.cmap_text_writer.specs.Told.{TellsItems, TellsTokens}
use Rattle.cmap_text_writer.proofs.TokensTold.{no_tokens, tokens_both}

pub no_items : TellsItems [] []
no_items = record { tokens = []; told = no_tokens; are = λ rest more are. are }

pub items_both : (is js : List Item) (a b : List ℕ) → TellsItems is a → TellsItems js b → TellsItems (is ++ js) (a ++ b)
items_both is js a b first second = let ts = first.tokens in let us = second.tokens in record {
  tokens = ts ++ us;
  told = tokens_both ts us a b first.told second.told;
  are = λ rest more later.
      subst (λ tokens. AreItems tokens ((is ++ js) ++ more)) (sym (append_assoc ts us rest))
      (subst (AreItems (ts ++ (us ++ rest))) (sym (append_assoc is js more)) (first.are (us ++ rest) (js ++ more) (second.are rest more later)));
}

-- bytes without a token
pub gap_items : (gap : List ℕ) → TellsTokens [] gap → TellsItems [] gap
gap_items gap told = record { tokens = []; told = told; are = λ rest more are. are }

-- ---- one item
pub one_item : (item : Item) (tokens : List Token) (bytes : List ℕ) → TellsTokens tokens bytes → ((rest : List Token) → IsItem (tokens ++ rest) item rest) → TellsItems (item ∷ []) bytes
one_item item tokens bytes told is = record { tokens = tokens; told = told; are = λ rest more are. (rest, is rest, are) }

pub is_other : (t : Token) → opened_by t ≡ None → is_executable use_word t ≡ false → key_in t ≡ None → IsOtherToken t
is_other t no_section no_use no_key = (
  λ k contained same. none-some k (sym no_key ∙ ap key_in same ∙ key_in-own k contained),
  λ section same. none-some section (sym no_section ∙ ap opened_by same ∙ opened_by-own section),
  λ same. false≢true (sym no_use ∙ ap (is_executable use_word) same),
)

pub other_item : (t : Token) (bytes : List ℕ) → TellsTokens (t ∷ []) bytes → opened_by t ≡ None → is_executable use_word t ≡ false → key_in t ≡ None → TellsItems (other t ∷ []) bytes
other_item t bytes told no_section no_use no_key = one_item (other t) (t ∷ []) bytes told (λ rest. (is_other t no_section no_use no_key, refl))

pub key_item : (k : List ℕ) (value : Token) (bytes : List ℕ) → Contains keys k → TellsTokens (Token.Name true k ∷ value ∷ []) bytes → TellsItems (key k (Some value) ∷ []) bytes
key_item k value bytes is told = one_item (key k (Some value)) (Token.Name true k ∷ value ∷ []) bytes told (λ rest. (is, refl))
