-- The codes of a row that have a text.
use Rattle.std.proofs.Common.{◌≡◌, ℕ, ◌+◌, ◌-◌, ◌<◌, ◌≤◌, true, false, List, [], ◌∷◌, ◌++◌, length, take, get_or, Option, Some, None, refl, sym, ap, ◌∙◌, subst, inl, inr, arith}
use Rattle.std.specs.Prelude.{◌↔◌, SomeIff, option_and_then, option_map, if◌then◌else◌}
use Rattle.std.specs.Bool.{then_some}
use Rattle.std.specs.Option.{option_or}
use Rattle.std.specs.Str.{bytes_eq}
use Rattle.std.proofs.lemmas.Bool.{cases_Bool, cases_lt, false≢true}
use Rattle.std.proofs.lemmas.List.{same_from_push, take_all, take_more}
use Rattle.std.proofs.lemmas.Option.{none-some, same_Some}
use Rattle.std.proofs.lemmas.Slice.Eq.{bytes_eq-Decides}
use Rattle.cmap_values.specs.declared.range.Range.{Range}
use Rattle.cmap_tokens.specs.Texts.{Text, more, one}
use Rattle.cmap_tokens.specs.TextSeen.{text_seen}
use Rattle.cmap_tokens.specs.declared.utf16.BfString.{BfString}
use Rattle.cmap_layers.specs.CodeRanges.{AreRangesOf, IsIn, joined}
use Rattle.cmap_layers.specs.Layers.{Layer}
use Rattle.cmap_layers.proofs.CodeRanges as ranges
use Rattle.cmap_unicode.specs.Characters.{characters_of}
use Rattle.cmap_unicode.specs.Cids.{declared_cid}
use Rattle.cmap_unicode.specs.CodesOfTexts.{AreAmong, AreFilled, CountsTo, HasText, Spells}
use Rattle.cmap_unicode.specs.CountedTexts.{counted_on, text_after}
use Rattle.cmap_unicode.specs.TextRows.{AreTexts, its_text}
use Rattle.cmap_unicode.specs.TextsOfCodes.{Font, IsTextOf, text_in}
use Rattle.cmap_unicode.specs.declared.rows.TextRow.{TextRow}
use Rattle.cmap_unicode.proofs.OneText.{is_text, one_text}
use Rattle.cmap_unicode.proofs.TextsCounted.{same_text}
use Rattle.cmap_unicode.proofs.TextsFilled.{text_filled}

-- ---- the last character counts on
counted_push : (front : List ℕ) (c k : ℕ) → counted_on (front ++ c ∷ []) k ≡ front ++ (c + k) ∷ []
counted_push [] c k = refl
counted_push (a ∷ []) c k = refl
counted_push (a ∷ b ∷ front) c k = ap (λ l. a ∷ l) (counted_push (b ∷ front) c k)

whole : (xs : List ℕ) → 0 < length xs → xs ≡ take (length xs - 1) xs ++ get_or xs (length xs - 1) 0 ∷ []
whole xs some =
    let all : length xs - 1 + 1 ≡ length xs = omega arith in
    sym (take_all (length xs) xs (omega arith)) ∙ ap (λ n. take n xs) (sym all) ∙ take_more xs (length xs - 1) 0 (omega arith)

pub no_characters : (begin : List ℕ) (k : ℕ) → 0 < length begin → CountsTo begin [] k → ⊥
no_characters [] k some is = omega (arith, some)
no_characters (c ∷ []) k some is = omega (arith, ap (λ (l : List ℕ). length l) is)
no_characters (c ∷ d ∷ cs) k some is = omega (arith, ap (λ (l : List ℕ). length l) is)

module _ (begin text : List ℕ) (k : ℕ) (some : 0 < length begin) (some_too : 0 < length text) where
  abbrev begin_front : List ℕ
  begin_front = take (length begin - 1) begin

  abbrev front : List ℕ
  front = take (length text - 1) text

  abbrev begin_last : ℕ
  begin_last = get_or begin (length begin - 1) 0

  abbrev last : ℕ
  last = get_or text (length text - 1) 0

  counted : counted_on begin k ≡ begin_front ++ (begin_last + k) ∷ []
  counted = ap (λ l. counted_on l k) (whole begin some) ∙ counted_push begin_front begin_last k

  parts : CountsTo begin text k → (begin_front ≡ front) × (begin_last + k ≡ last)
  parts is = same_from_push begin_front front (begin_last + k) last (sym counted ∙ is ∙ whole text some_too)

  together : begin_front ≡ front → begin_last + k ≡ last → CountsTo begin text k
  together same at = counted ∙ (λ i. same i ++ at i ∷ []) ∙ sym (whole text some_too)

  pub further_unlike : (begin_front ≡ front → ⊥) → CountsTo begin text k ↔ (◌≡◌ {A = Option ℕ} None (Some k))
  further_unlike unlike = (λ is. absurd (unlike (parts is).0), λ none. absurd (none-some k none))

  pub further_by : (sub : Option ℕ) → begin_front ≡ front → SomeIff sub (begin_last ≤ last) (last - begin_last) → CountsTo begin text k ↔ (sub ≡ Some k)
  further_by None same less = (λ is. absurd (less (let at = (parts is).1 in omega arith)), λ none. absurd (none-some k none))
  further_by (Some difference) same (le, is) = (
    λ counts. let at = (parts counts).1 in let equal : difference ≡ k = omega arith in ap Some equal,
    λ found. let equal = same_Some difference k found in together same (omega arith),
  )

-- ---- the codes of a row
among_same : (P Q : ℕ → Type 0) (range : Range) (found : Option Range) → ((code : ℕ) → IsIn code range → (P code ↔ Q code)) → AreAmong P range found → AreAmong Q range found
among_same P Q range None same none = λ code is_in holds. none code is_in ((same code is_in).1 holds)
among_same P Q range (Some these) same (from, filled, to, are) = (from, filled, to, λ code is_in. (λ holds. (are code is_in).0 ((same code is_in).1 holds), λ is_it. (same code is_in).0 ((are code is_in).1 is_it)))

characters_after : (text : Text) (k : ℕ) → characters_of (text_after text k) ≡ counted_on (characters_of text) k
characters_after (one c) k = refl
characters_after (more cs) k = refl

module _ (texts : ℕ → Option Text) (characters : List ℕ) (row : TextRow) (range : Range) (are : AreTexts texts range.start row) (within : range.end ≤ row.last) where
  its : (code : ℕ) → IsIn code range → texts code ≡ option_map (λ t. text_after t (if row.counts_on then code - range.start else 0)) (texts range.start)
  its code is_in =
      let at : range.start + (code - range.start) ≡ code = omega (arith, is_in.0) in
      ap texts (sym at) ∙ are.further (code - range.start) (omega (arith, is_in.0, is_in.1))

  pub no_text : row.text ≡ None → AreAmong (Spells texts characters) range None
  no_text none = λ code is_in spells.
      let empty : texts range.start ≡ None = sym are.text ∙ ap (option_map text_seen) none in
      none-some spells.0 (sym (its code is_in ∙ ap (option_map (λ t. text_after t (if row.counts_on then code - range.start else 0))) empty) ∙ spells.1)

  module _ (text : BfString) (some : row.text ≡ Some text) where
    begin : texts range.start ≡ Some (text_seen text)
    begin = sym are.text ∙ ap (option_map text_seen) some

    this : (code : ℕ) → IsIn code range → texts code ≡ Some (text_after (text_seen text) (if row.counts_on then code - range.start else 0))
    this code is_in = its code is_in ∙ ap (option_map (λ t. text_after t (if row.counts_on then code - range.start else 0))) begin

    pub filled : AreFilled texts → 0 < length (characters_of (text_seen text))
    filled are_filled = elim (cases_lt 0 (length (characters_of (text_seen text)))) [
      | inl some ↦ some
      | inr none ↦ absurd (are_filled range.start (text_seen text, begin, empty_list (characters_of (text_seen text)) none))
    ]
      where
        empty_list : (xs : List ℕ) → length xs ≤ 0 → xs ≡ []
        empty_list [] le = refl
        empty_list (x ∷ xs) le = absurd (omega (arith, le))

    pub counting : row.counts_on ≡ true → (found : Option Range) → AreAmong (λ code. CountsTo (characters_of (text_seen text)) characters (code - range.start)) range found → AreAmong (Spells texts characters) range found
    counting counts found = among_same (λ code. CountsTo (characters_of (text_seen text)) characters (code - range.start)) (Spells texts characters) range found (λ code is_in.
        let here : texts code ≡ Some (text_after (text_seen text) (code - range.start)) = this code is_in ∙ ap (λ b. Some (text_after (text_seen text) (if b then code - range.start else 0))) counts in (
          λ is. (text_after (text_seen text) (code - range.start), here, characters_after (text_seen text) (code - range.start) ∙ is),
          λ spells. sym (characters_after (text_seen text) (code - range.start)) ∙ ap characters_of (same_Some (text_after (text_seen text) (code - range.start)) spells.0 (sym here ∙ spells.1)) ∙ spells.2,
        ))

    pub alike : row.counts_on ≡ false → range.start ≤ range.end → AreAmong (Spells texts characters) range (then_some (bytes_eq (characters_of (text_seen text)) characters) range)
    alike same le =
        let here : (code : ℕ) → IsIn code range → texts code ≡ Some (text_seen text) = λ code is_in.
        this code is_in ∙ ap (λ b. Some (text_after (text_seen text) (if b then code - range.start else 0))) same ∙ ap Some (same_text (text_seen text)) in
        elim (cases_Bool (bytes_eq (characters_of (text_seen text)) characters)) [
          | inl equal ↦
              let is = (bytes_eq-Decides (characters_of (text_seen text)) characters).0 equal in
              subst (λ b. AreAmong (Spells texts characters) range (then_some b range)) (sym equal) (omega arith, le, omega arith, λ code is_in. (λ spells. is_in, λ is_it. (text_seen text, here code is_in, is)))
          | inr unequal ↦
              subst (λ b. AreAmong (Spells texts characters) range (then_some b range)) (sym unequal) (λ code is_in spells.
              let is = ap characters_of (same_Some (text_seen text) spells.0 (sym (here code is_in) ∙ spells.1)) ∙ spells.2 in
              false≢true (sym unequal ∙ (bytes_eq-Decides (characters_of (text_seen text)) characters).1 is))
        ]

-- ---- the codes of a font
module _ (font : Font) (len : ℕ) (characters : List ℕ) where
  spelled : (code : ℕ) → (Spells (its_text font len) characters code ↔ HasText font len characters code)
  spelled code = (
    λ spells. (spells.0, subst (IsTextOf font code len) spells.1 (is_text font code len), spells.2),
    λ has. (has.0, sym ((one_text font code len (its_text font len code) refl).alone (Some has.0) has.1), has.2),
  )

  pub spelled_among : (range : Range) (found : Option Range) → AreAmong (Spells (its_text font len) characters) range found → AreAmong (HasText font len characters) range found
  spelled_among range found = among_same (Spells (its_text font len) characters) (HasText font len characters) range found (λ code is_in. spelled code)

  module _ (next last : ℕ) (before : List Range) (are : AreRangesOf (HasText font len characters) next before) (le : next ≤ last) where
    pub passed_over : AreAmong (HasText font len characters) (record { start = next; end = last }) None → AreRangesOf (HasText font len characters) (last + 1) before
    passed_over none = ranges.passed_over (HasText font len characters) next last before are le (λ code from to. none code (from, to))

    pub added : (these : Range) → AreAmong (HasText font len characters) (record { start = next; end = last }) (Some these) → AreRangesOf (HasText font len characters) (last + 1) (joined before these)
    added these (from, filled, to, is) = ranges.added (HasText font len characters) next last before these are le from filled to (λ code low high. is code (low, high))

-- ---- no text is empty
map_filled : (map : Option (List Layer)) (code : ℕ) (text : Text) → text_in map code ≡ Some text → characters_of text ≡ [] → ⊥
map_filled map code text is empty = omega (arith, text_filled map code text is, ap (λ (l : List ℕ). length l) empty)

cids_filled : (collection : Option (List Layer)) (cid : Option ℕ) (text : Text) → option_and_then (text_in collection) cid ≡ Some text → characters_of text ≡ [] → ⊥
cids_filled collection None text is empty = none-some text is
cids_filled collection (Some cid) text is empty = map_filled collection cid text is empty

either_filled : (converted other : Option Text) (text : Text) → ((t : Text) → converted ≡ Some t → characters_of t ≡ [] → ⊥) → ((t : Text) → other ≡ Some t → characters_of t ≡ [] → ⊥) → option_or converted other ≡ Some text → characters_of text ≡ [] → ⊥
either_filled (Some t) other text first second is empty = first text is empty
either_filled None other text first second is empty = second text is empty

pub are_filled : (font : Font) (len : ℕ) → AreFilled (its_text font len)
are_filled font len code (text, is, empty) = either_filled (text_in font.to_unicode code) (option_and_then (text_in font.collection) (declared_cid font.encoding code len)) text (map_filled font.to_unicode code) (cids_filled font.collection (declared_cid font.encoding code len)) is empty
