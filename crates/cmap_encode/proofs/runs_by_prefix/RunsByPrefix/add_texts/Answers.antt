use Rattle.std.proofs.Common.{◌≡◌, ◌++◌, ◌∷◌, [], sym, ap, ◌∙◌, arith}
use Rattle.cmap_tokens.specs.TextSeen.{text_seen}
use Rattle.cmap_unicode.specs.Characters.{characters_of}
use Rattle.cmap_encode.proofs.RunsAdded.{texts_added}
use Rattle.cmap_encode.proofs.runs_by_prefix.RunsByPrefix.add_texts.Goals as goal

pub overflow_sub-result : goal.overflow_sub-result
overflow_sub-result c = let more = c.from_key-run.ensures.more in omega (arith, c.from_key-run.ensures.key)

pub returns-clause-texts : goal.returns-clause-texts
returns-clause-texts c =
    let its = text_seen c.args.text.now in
    let prefix = c.deref.result.now in
    let run = c.from_key-run.result in
    let ends : characters_of its ≡ prefix ++ c.from.result ∷ [] = sym c.in_ok-prefix.ensures ∙ c.in-Some.ensures.items ∙ ap (λ last. c.pop.new.self.items ++ last ∷ []) (sym c.from.ensures) ∙ ap (λ cs. cs ++ c.from.result ∷ []) (sym c.deref.ensures.value) in
    texts_added c.args.self.now c.add.new.self prefix c.from.result its c.args.first run ends c.from_key-run.ensures.key c.from_key-run.ensures.first
    (let more = c.from_key-run.ensures.more in omega (arith, c.from_key-run.ensures.key)) c.in_ok-add.ensures.runs
