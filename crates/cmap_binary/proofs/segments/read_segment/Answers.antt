use Rattle.std.proofs.Common.{◌≡◌, ℕ, List, Some, sym, ◌∙◌, subst}
use Rattle.std.specs.Prelude.{◌↔◌}
use Rattle.std.proofs.lemmas.Option.{same_Some}
use Rattle.cmap_binary.specs.BundleSeen.{tables_seen}
use Rattle.cmap_binary.specs.Bundles.{PrefixTables}
use Rattle.cmap_binary.specs.BinaryFiles.{Content, IsSegment, Kind, SaysAs, kind_of}
use Rattle.cmap_binary.specs.BinarySeen.{kind_seen}
use Rattle.cmap_binary.proofs.Reading.{same_none, same_only}
use Rattle.cmap_binary.proofs.RowsAdded.{in_words}
use Rattle.cmap_binary.proofs.segments.read_segment.Goals as goal

-- a type is one kind
one_kind : (tables : PrefixTables) (number : ℕ) (kind : Kind) (payload : List ℕ) → kind_of number ≡ Some kind → (content : Content) → IsSegment tables number payload content ↔ SaysAs tables kind payload content
one_kind tables number kind payload is content =
    (λ (other, at, says). subst (λ k. SaysAs tables k payload content) (same_Some other kind (sym at ∙ is)) says, λ says. (kind, is, says))

pub returns-in-Some : goal.returns-in-Some
returns-in-Some c =
    let same = one_kind (tables_seen c.args.tables.now) c.args.number (kind_seen c.in-Some.kind) c.args.payload.now (sym c.in-Some.ensures) in
    in_words c.add_content.result c.add_content.ensures
    (λ says. record { content = says.content; only = same_only same says.only; says = says.says })
    (λ reason is. (same_none same is.0, rw (← c.in-Some.ensures) is.1))
