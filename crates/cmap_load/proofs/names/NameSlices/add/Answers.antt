use Rattle.std.proofs.Common.{◌∙◌, ◌++◌, ◌∷◌, [], ap, subst, sym}
use Rattle.std.proofs.Math.ListN.{length-map}
use Rattle.cmap_load.specs.NameLists.{number_of, texts_of}
use Rattle.cmap_load.specs.Numbers.{FindsEach}
use Rattle.cmap_load.proofs.Numbered.{numbered_more, texts_pushed}
use Rattle.cmap_load.proofs.names.NameSlices.add.Goals as goal

pub returns-clause-numbered : goal.returns-clause-numbered
returns-clause-numbered c =
    let old = c.args.self.now in let number = c.len-number.result in
    let long = c.len-number.ensures ∙ old.texts.ok.0 ∙ sym (length-map old.texts.items (λ x. x.now)) in
    let texts = texts_pushed old.texts.items c.push_reserved.new.self.items c.args.name (c.push_reserved.ensures.items ∙ ap (λ v. v.items ++ c.args.name ∷ []) c.insert.ensures.texts ∙ ap (λ l. l ++ c.args.name ∷ []) c.reserve.ensures.items) in
    subst (FindsEach (number_of (record c.insert.new.self { texts = c.push_reserved.new.self }))) (sym texts)
    (numbered_more (number_of old) (number_of c.insert.new.self) (texts_of old) c.args.name.now c.requires.numbered c.requires.new number long c.in_ok-insert.ensures.numbers)
