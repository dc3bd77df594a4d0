use Rattle.std.proofs.Common.{◌≡◌, ℕ, List, ap}
use Rattle.std.specs.Str.{chars}
use Rattle.std.specs.String.{string_bytes}
use Rattle.cmap_tokens.specs.Texts.{more}
use Rattle.cmap_tokens.specs.TextSeen.{text_seen}
use Rattle.cmap_tokens.proofs.TextsOfUnits.{OnErr-holds}
use Rattle.cmap_tokens.proofs.utf16.BfString.clone.Goals as goal

pub returns-in_err-from_str-in-String-clause-err : goal.returns-in_err-from_str-in-String-clause-err
returns-in_err-from_str-in-String-clause-err c =
    let taken : (characters : List ℕ) × (text_seen c.args.self.now ≡ more characters) = (chars (string_bytes c.in-String.text), ap text_seen c.in-String.is) in
    OnErr-holds _ taken
