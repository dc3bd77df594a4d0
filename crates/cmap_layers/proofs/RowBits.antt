-- Bits of codespace ranges.
pub use Rattle.cmap_codespaces.proofs.RowBits.{IsSetIn, IsTouched, all_bits, all_set, all_touched, any_bit, both_set, cleared_more, each_more, item_within, length_in_row, length_more, more_bits, no_bits, none_touched, row_marked, row_set, set_in_more, set_in_same, set_in_span, some_bit, touched_first, touched_more, value_in_row, written_back}
