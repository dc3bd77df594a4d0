use Rattle.std.proofs.Common.{◌≡◌, ◌++◌, ℕ, List}
use Rattle.std.specs.Prelude.{codes}
use Rattle.std.proofs.lemmas.Result.{IfOk-weaker}
use Rattle.cmap_text_writer.specs.FileItems.{type_text}
use Rattle.cmap_text_writer.proofs.Walked.{joined}
use Rattle.cmap_text_writer.proofs.file.push_header.Goals as goal

abbrev first : List ℕ
first = codes "/CIDInit /ProcSet findresource begin\n12 dict begin\nbegincmap\n"

pub returns : goal.returns
returns c =
    let old = c.args.out.now.items in
    let mid = c.extend_from_slice.new.self.items in
    let new = c.push_type.new.out.items in
    let type = type_text c.args.is_to_unicode in
    IfOk-weaker _ _ _ (λ _ (last : new ≡ mid ++ type). joined old mid new first type c.in_ok-extend_from_slice.ensures.items last) c.push_type.ensures
