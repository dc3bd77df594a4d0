use Rattle.std.proofs.Common.{◌≡◌, ◌≤◌, length, subst, ◌∙◌}
use Rattle.std.specs.List.{slice_range}
use Rattle.cmap_binary.specs.Reader.{bytes_left}
use Rattle.cmap_binary.proofs.BytesTaken.{none_read, number_read}
use Rattle.cmap_binary.proofs.bits.Reader.read_n_bytes.Goals as goal

pub returns-in_err-number-clause-value : goal.returns-in_err-number-clause-value
returns-in_err-number-clause-value c =
    let bytes = c.in_ok-bytes.bytes.now in
    let (from, within, is, size) = c.in_ok-bytes.ensures.lookup.0 in
    c.from_residual-in_err-number.ensures ∙ none_read (bytes_left c.args.self.now) c.args.n bytes (size ∙ c.from-n.ensures) c.in_err-number.ensures

pub returns-clause-value : goal.returns-clause-value
returns-clause-value c =
    let bytes = c.in_ok-bytes.bytes.now in let left = c.left.ensures in
    let (from, within, is, size) = rw c.from-n.ensures at c.in_ok-bytes.ensures.lookup.0 in
    number_read (bytes_left c.args.self.now) c.args.n bytes size _ c.in_ok-number.number (subst (λ l. bytes ≡ slice_range l 0 c.args.n) left is) (subst (λ l. c.args.n ≤ length l) left within) c.in_ok-number.ensures
