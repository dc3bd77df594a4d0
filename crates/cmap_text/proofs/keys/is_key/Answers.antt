use Rattle.std.proofs.Common.{◌≡◌, ◌∙◌, refl, subst, sym}
use Rattle.std.specs.Prelude.{◌↔◌, IsTrue, Option, Some, None, is_some, option_map}
use Rattle.cmap_tokens.specs.TokenSeen.{token_seen}
use Rattle.cmap_text.specs.TextFiles.{IsKey}
use Rattle.cmap_text.specs.TextSeen.{key_name}
use Rattle.cmap_text.specs.declared.keys.Key.{Key}
use Rattle.cmap_text.proofs.ItemsRead.{is_key_if}
use Rattle.cmap_text.proofs.keys.is_key.Goals as goal

some_named : (key : Option Key) → is_some (option_map key_name key) ≡ is_some key
some_named None = refl
some_named (Some key) = refl

pub returns : goal.returns
returns c =
    subst (λ some. IsTrue some ↔ IsKey (token_seen c.args.token.now)) (some_named c.of.result ∙ sym c.is_some.ensures)
    (is_key_if (token_seen c.args.token.now) (option_map key_name c.of.result) (sym c.of.ensures))
