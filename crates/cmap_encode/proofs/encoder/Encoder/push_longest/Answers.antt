use Rattle.std.proofs.Common.{◌≡◌, ◌-◌, ◌++◌, length, take, drop, ap, ◌∙◌, arith, length-drop}
use Rattle.std.proofs.lemmas.List.{take_all}
use Rattle.cmap_encode.proofs.encoder.Encoder.push_longest.Goals as goal
use Rattle.cmap_encode.proofs.encoder.Encoder.push_longest.Goals.{in-Some+in_ok-extend_from_slice, in_default}

pub returns-clause-longest : goal.returns-clause-longest
returns-clause-longest c =
    let text = c.args.text.now in let count = c.in_ok-count.count in
    let longest = c.in_ok-count.ensures in
    let rest : take (length text - count) (drop count text) ≡ drop count text = take_all (length text - count) (drop count text) (let left = length-drop count text in omega (arith, left)) in
    let found = c.in_ok-prefix.ensures in
    elim c.match-branch-3.branch [
      | in-Some+in_ok-extend_from_slice w ↦ record {
        count = count;
        longest = longest;
        rest = rest;
        prefix = w.in-Some.prefix.items;
        encoding = rw w.in-Some.is at found;
        added = ap (λ v. v.items) w.string-is ∙ w.in_ok-extend_from_slice.ensures.items ∙ ap (λ l. c.args.string.now.items ++ l) w.deref.ensures.value;
      }
      | in_default w ↦ absurd ((rw w.in_default.is at found) longest.encodable)
    ]
