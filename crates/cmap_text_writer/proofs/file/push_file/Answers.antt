use Rattle.std.proofs.Common.{◌≡◌, ◌++◌, ◌∙◌, ℕ, Option, Some, None, refl, subst}
use Rattle.std.specs.Prelude.{flat_map, is_some, option_map}
use Rattle.std.specs.Global.{Vec}
use Rattle.std.proofs.lemmas.Result.{IfOk-weaker}
use Rattle.cmap_values.specs.FilesSeen.{file_seen}
use Rattle.cmap_values.specs.NamesSeen.{names_seen}
use Rattle.cmap_text_writer.specs.FileItems.{use_text}
use Rattle.cmap_text_writer.specs.Lengths.{text_length}
use Rattle.cmap_text_writer.proofs.WholeTold.{whole_appended}
use Rattle.cmap_text_writer.proofs.file.push_file.Goals as goal

has_same : (name : Option (Vec ℕ)) → is_some name ≡ is_some (option_map (λ n. n.items) name)
has_same None = refl
has_same (Some name) = refl

pub returns : goal.returns
returns c =
    let file = file_seen c.args.file.now in
    let a = c.push_header.new.out.items in
    let b = c.push_uses.new.out.items in
    let uses = subst (λ names. b ≡ a ++ flat_map use_text (names_seen names)) c.deref.ensures.value c.in_ok-push_uses.ensures in
    let metadata = c.in_ok-push_metadata.ensures in
    IfOk-weaker _ _ _
    (λ _ last. whole_appended (text_length c.args.lengths) file c.is_to_unicode.result c.is_some.result c.args.out.now.items c.push_comments.new.out.items a b c.push_metadata.new.out.items c.push_lists.new.out.items c.push_footer.new.out.items c.is_to_unicode.ensures (c.is_some.ensures ∙ has_same c.args.file.now.metadata.name) c.in_ok-push_comments.ensures c.in_ok-push_header.ensures uses metadata.written c.in_ok-push_lists.ensures last c.requires metadata.fits)
    c.push_footer.ensures
