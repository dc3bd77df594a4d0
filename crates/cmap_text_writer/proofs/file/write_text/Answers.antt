use Rattle.std.proofs.Common.{◌≡◌, Global, Vec, ℕ, map, subst}
use Rattle.std.proofs.lemmas.Result.{IfOk-weaker}
use Rattle.cmap_values.specs.DeclarationsSeen.{codespace_seen}
use Rattle.cmap_values.specs.FilesSeen.{file_seen}
use Rattle.cmap_text_writer.specs.Lengths.{length_by, text_length}
use Rattle.cmap_text_writer.proofs.WholeTold.{same_lengths}
use Rattle.cmap_text_writer.proofs.file.write_text.Goals as goal

pub returns-clause-laid : goal.returns-clause-laid
returns-clause-laid c = IfOk-weaker _ _ _ (λ (text : Vec ℕ Global) laid. same_lengths (text_length c.by.result) (length_by (file_seen c.args.file.now).lists.spaces) (file_seen c.args.file.now) text.items (subst (λ ss. (code : ℕ) → text_length c.by.result code ≡ length_by (map codespace_seen ss) code) c.deref.ensures.value c.by.ensures) laid) c.write_text_by.ensures.laid
