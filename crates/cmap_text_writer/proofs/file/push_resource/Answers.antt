use Rattle.cmap_text_writer.proofs.Walked.{joined}
use Rattle.cmap_text_writer.proofs.file.push_resource.Goals as goal

pub returns : goal.returns
returns c =
    let new = c.extend_from_slice-3.new.self.items in
    joined c.args.out.now.items c.extend_from_slice.new.self.items new _ _ c.in_ok-extend_from_slice.ensures.items
    (joined c.extend_from_slice.new.self.items c.extend_from_slice-2.new.self.items new _ _ c.in_ok-extend_from_slice-2.ensures.items c.in_ok-extend_from_slice-3.ensures.items)
