use Rattle.std.proofs.Common.{◌≡◌, ◌∙◌, ℕ, Some, ap, refl, sym}
use Rattle.std.specs.Prelude.{option_map}
use Rattle.cmap_values.specs.CodeLengths.{length_of}
use Rattle.cmap_values.specs.Files.{bf}
use Rattle.cmap_c_writer.specs.Given.{declared_by, kind_numbered, length_given, said_by}
use Rattle.cmap_c_writer.specs.declared.declaration.Declaration.{Declaration}
use Rattle.cmap_c_writer.specs.declared.declaration.Kind.{Kind}
use Rattle.cmap_c_writer.specs.declared.declaration.Kind.TheVariants.{CidRange, CodespaceRange, NotdefRange, TextRange}
use Rattle.cmap_c_writer.proofs.declaration.Declaration.add_to.Goals as goal

-- a declaration of this kind, for codes of this length
declared_as : (d : Declaration) (len count : ℕ) (kind given : Kind) → Some len ≡ length_given count → count ≡ d.byte_len → Some given ≡ kind_numbered d.kind → given ≡ kind → declared_by d ≡ said_by d len kind
declared_as d len count kind given of_length same of_kind is = rw (sym (of_length ∙ ap length_given same), sym of_kind, is) refl

pub returns-in_ok-add_codespace-in-CodespaceRange : goal.returns-in_ok-add_codespace-in-CodespaceRange
returns-in_ok-add_codespace-in-CodespaceRange c = (
  (_, declared_as c.args.self.now (length_of c.in-Some.len) c.from.result CodespaceRange c.in-Some-numbered.kind c.in-Some.ensures c.from.ensures c.in-Some-numbered.ensures c.in-CodespaceRange.is, c.in_ok-add_codespace-in-CodespaceRange.ensures.added),
  tt,
)

pub returns-in_ok-add_cid-in-CidRange : goal.returns-in_ok-add_cid-in-CidRange
returns-in_ok-add_cid-in-CidRange c = (
  (_, declared_as c.args.self.now (length_of c.in-Some.len) c.from.result CidRange c.in-Some-numbered.kind c.in-Some.ensures c.from.ensures c.in-Some-numbered.ensures c.in-CidRange.is, c.in_ok-add_cid-in-CidRange.ensures.added),
  tt,
)

pub returns-in_ok-add_notdef-in-NotdefRange : goal.returns-in_ok-add_notdef-in-NotdefRange
returns-in_ok-add_notdef-in-NotdefRange c = (
  (_, declared_as c.args.self.now (length_of c.in-Some.len) c.from.result NotdefRange c.in-Some-numbered.kind c.in-Some.ensures c.from.ensures c.in-Some-numbered.ensures c.in-NotdefRange.is, c.in_ok-add_notdef-in-NotdefRange.ensures.added),
  tt,
)

pub returns-in_ok-add_bf-in-TextRange : goal.returns-in_ok-add_bf-in-TextRange
returns-in_ok-add_bf-in-TextRange c =
    let d = c.args.self.now in (
      (_, declared_as d (length_of c.in-Some.len) c.from.result TextRange c.in-Some-numbered.kind c.in-Some.ensures c.from.ensures c.in-Some-numbered.ensures c.in-TextRange.is ∙ ap (option_map (λ units. bf (record { start = d.first; end = d.last; units = units }))) c.in_ok-units-in-TextRange.ensures.0, c.in_ok-add_bf-in-TextRange.ensures.added),
      tt,
    )
