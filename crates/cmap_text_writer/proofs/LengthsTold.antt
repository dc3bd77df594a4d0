-- How many bytes the codes of texts have, by codespace ranges.
use Rattle.std.proofs.Common.{◌≡◌, ◌∙◌, ℕ, ◌==◌, true, false, zero, suc, List, [], ◌∷◌, ◌++◌, max, min, refl, sym, ap, arith}
use Rattle.std.specs.Prelude.{if◌then◌else◌}
use Rattle.cmap_values.specs.declared.range.Range.{Range}
use Rattle.cmap_values.specs.CodeLengths.{length_of}
use Rattle.cmap_values.specs.declared.code_length.CodeLength.{CodeLength}
use Rattle.cmap_values.specs.Files.{Codespace}
use Rattle.cmap_text_writer.specs.Lengths.{AreBounds, Bounds, highest, is_among, least_around, length_around, lowest, text_length}
use Rattle.cmap_text_writer.specs.Spelled.{end_length}
use Rattle.cmap_text_writer.specs.declared.text_lengths.TextLengths.{TextLengths}

lowest_more : (len : ℕ) (ss : List Codespace) (s : Codespace) → lowest len (ss ++ s ∷ []) ≡ (if s.len == len then min (lowest len ss) s.low else lowest len ss)
lowest_more len [] s = grind arith
lowest_more len (t ∷ ss) s = grind (arith, lowest_more len ss s)

highest_more : (len : ℕ) (ss : List Codespace) (s : Codespace) → highest len (ss ++ s ∷ []) ≡ (if s.len == len then max (highest len ss) s.high else highest len ss)
highest_more len [] s = grind arith
highest_more len (t ∷ ss) s = grind (arith, highest_more len ss s)

pub bounds_more : (r new : Range) (len : ℕ) (ss : List Codespace) (s : Codespace) → Bounds r len ss → (s.len == len) ≡ true → new.start ≡ min r.start s.low → new.end ≡ max r.end s.high → Bounds new len (ss ++ s ∷ [])
bounds_more r new len ss s h is start end = record {
  start = start ∙ ap (λ n. min n s.low) h.start ∙ sym (lowest_more len ss s ∙ ap (λ b. if b then min (lowest len ss) s.low else lowest len ss) is);
  end = end ∙ ap (λ n. max n s.high) h.end ∙ sym (highest_more len ss s ∙ ap (λ b. if b then max (highest len ss) s.high else highest len ss) is);
}

pub bounds_kept : (r : Range) (len : ℕ) (ss : List Codespace) (s : Codespace) → Bounds r len ss → (s.len == len) ≡ false → Bounds r len (ss ++ s ∷ [])
bounds_kept r len ss s h differs = record {
  start = h.start ∙ sym (lowest_more len ss s ∙ ap (λ b. if b then min (lowest len ss) s.low else lowest len ss) differs);
  end = h.end ∙ sym (highest_more len ss s ∙ ap (λ b. if b then max (highest len ss) s.high else highest len ss) differs);
}

around_same : (l : TextLengths) (other : CodeLength) (ss : List Codespace) (code : ℕ) → AreBounds l other ss → length_around l code ≡ least_around ss (length_of other) code
around_same l other ss code h = rw (h.one.start, h.one.end, h.two.start, h.two.end, h.three.start, h.three.end, h.four.start, h.four.end, h.other) refl

pub text_same : (l : TextLengths) (other : CodeLength) (ss : List Codespace) (code : ℕ) → AreBounds l other ss → text_length l code ≡ end_length (least_around ss (length_of other) code) code
text_same l other ss code h = ap (λ n. end_length n code) (around_same l other ss code h)

none_among : (len code : ℕ) → is_among [] len code ≡ false
none_among len zero = refl
none_among len (suc n) = grind arith

none_around : (other code : ℕ) → least_around [] other code ≡ other
none_around other code = rw (none_among 1 code) refl

pub text_outside : (l : TextLengths) (other : CodeLength) (code : ℕ) → AreBounds l other [] → text_length l code ≡ end_length (length_of other) code
text_outside l other code h = text_same l other [] code h ∙ ap (λ n. end_length n code) (none_around (length_of other) code)
