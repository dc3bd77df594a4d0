use Rattle.std.proofs.Common.{◌≡◌, ◌∙◌, ◌++◌, ◌∷◌, [], ℕ, List, ap, subst, sym}
use Rattle.std.specs.Prelude.{Some, bytes_eq, if◌then◌else◌}
use Rattle.std.proofs.Math.ListN.{length-map}
use Rattle.cmap_load.specs.NameCopies.{number_of, texts_of}
use Rattle.cmap_load.specs.Numbers.{FindsEach}
use Rattle.cmap_load.proofs.CopiedNames.{copies_pushed}
use Rattle.cmap_load.proofs.Numbered.{numbered_more}
use Rattle.cmap_load.proofs.names.NameCopies.add.Goals as goal

pub returns-clause-numbered : goal.returns-clause-numbered
returns-clause-numbered c =
    let old = c.args.self.now in let number = c.len-number.result in let name = c.args.name.now in
    let key : c.in_ok-key.key.items ≡ name = rw c.in_ok-key.ensures.0 at c.from_slice.ensures.items in
    let text : c.in_ok-key.text.items ≡ name = rw c.in_ok-key.ensures.1 at c.from_slice-2.ensures.items in
    let long = c.len-number.ensures ∙ old.texts.ok.0 ∙ sym (length-map old.texts.items (λ t. t.items)) in
    let pushed = c.push_reserved.ensures.items ∙ ap (λ v. v.items ++ c.in_ok-key.text ∷ []) c.insert.ensures.texts ∙ ap (λ l. l ++ c.in_ok-key.text ∷ []) c.reserve.ensures.items in
    let texts = copies_pushed old.texts.items c.push_reserved.new.self.items c.in_ok-key.text name pushed text in
    let noted = subst (λ k. (other : List ℕ) → number_of c.insert.new.self other ≡ (if bytes_eq k other then Some number else number_of old other)) key c.in_ok-insert.ensures.numbers in
    subst (FindsEach (number_of (record c.insert.new.self { texts = c.push_reserved.new.self }))) (sym texts)
    (numbered_more (number_of old) (number_of c.insert.new.self) (texts_of old) name c.requires.numbered c.requires.new number long noted)
