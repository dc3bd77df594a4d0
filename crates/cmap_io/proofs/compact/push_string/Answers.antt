use Rattle.std.proofs.Common.{◌≡◌, [], ◌∷◌, ◌++◌, OnOk, rules, string_bytes}
use Rattle.std.proofs.lemmas.Result.{on_ok_weaker}
use Rattle.cmap_io.proofs.Spelled.{string_added}
use Rattle.cmap_io.proofs.compact.push_string.Goals as goal

pub returns : goal.returns
returns c =
    let begun : string_bytes c.push.new.self ≡ string_bytes c.args.out.now ++ 0x22 ∷ [] = search rules in
    let ended : OnOk c.push-2.result (string_bytes c.push-2.new.self ≡ string_bytes c.push_escaped.new.out ++ 0x22 ∷ []) = search rules in
    on_ok_weaker c.push-2.result (string_added _ _ _ _ c.args.text.now begun c.in_ok-push_escaped.ensures) ended
