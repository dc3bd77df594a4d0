use Rattle.std.proofs.Common.{◌≡◌, ◌-◌, [], refl, sym, subst, arith}
use Rattle.cmap_tokens.specs.Texts.{one}
use Rattle.cmap_encode.specs.RunsSeen.{AddsCharacters, AddsTexts}
use Rattle.cmap_encode.proofs.RunsAdded.{texts_added}
use Rattle.cmap_encode.proofs.runs_by_prefix.RunsByPrefix.add_characters.Goals as goal

pub returns-clause-texts : goal.returns-clause-texts
returns-clause-texts c =
    let old = c.args.self.now in let new = c.add.new.self in let run = c.from_key-run.result in let made = c.from_key-run.ensures in
    let end = made.all c.requires.keys in
    let count : run.range.end - run.range.start ≡ c.args.more = omega (arith, made.key, end) in
    let added = texts_added old new [] c.args.character (one c.args.character) c.in-Some.first run refl made.key made.first (omega (arith, made.key, end)) c.in_ok-add.ensures.runs in
    subst (λ first. AddsCharacters old new c.args.character first c.args.more) (sym c.in-Some.is) (subst (AddsTexts old new (one c.args.character) c.in-Some.first) count added)
