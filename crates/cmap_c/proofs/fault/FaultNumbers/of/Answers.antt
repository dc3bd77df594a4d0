use Rattle.std.proofs.Common.{◌≡◌, ◌∙◌, ◌≤◌, ◌++◌, ◌-◌, ℕ, List, drop, length, refl, subst, sym}
use Rattle.std.specs.Prelude.{map}
use Rattle.std.proofs.Math.ListN.{length-map, replicate}
use Rattle.std.proofs.lemmas.List.{drop-replicate}
use Rattle.cmap_values.specs.NamesSeen.{names_seen}
use Rattle.cmap_c.proofs.fault.FaultNumbers.of.Goals as goal

lengths : (names : List (List ℕ)) (room : List ℕ) → room ≡ map length names ++ drop (length (map length names)) (replicate 16 0) → room ≡ map length names ++ replicate (16 - length names) 0
lengths names room filled = rw (length-map names length, drop-replicate) at filled

pub returns-clause-names : goal.returns-clause-names
returns-clause-names c =
    let count : length c.args.names.now ≡ length (names_seen c.args.names.now) = sym (length-map c.args.names.now (λ name. name.now)) in
    let few : length (names_seen c.args.names.now) ≤ 16 = rw count at c.requires in
    (few, count, lengths (names_seen c.args.names.now) c.fill.new.room c.fill.ensures)

pub returns-clause-whole : goal.returns-clause-whole
returns-clause-whole c =
    let count : length c.args.names.now ≡ length (names_seen c.args.names.now) = sym (length-map c.args.names.now (λ name. name.now)) in
    rw (c.numbers_of-cause.ensures, count, lengths (names_seen c.args.names.now) c.fill.new.room c.fill.ensures) refl

pub fill-requires : goal.fill-requires
fill-requires c = subst (λ n. n ≤ 16) (sym (length-map (names_seen c.args.names.now) length ∙ length-map c.args.names.now (λ name. name.now))) c.requires

pub returns-clause-numbers : goal.returns-clause-numbers
returns-clause-numbers c = c.numbers_of-cause.ensures
