-- The characters of a string and their texts in two rooms, one after another.
use Rattle.std.proofs.Common.{◌≡◌, ℕ, ◌+◌, ◌-◌, ◌<◌, ◌≤◌, List, [], ◌∷◌, ◌++◌, suc, zero-add, length, drop, take, refl, sym, ap, ◌∙◌, subst, inl, inr, arith}
use Rattle.std.specs.Prelude.{Option}
use Rattle.std.proofs.Math.ListN.{set}
use Rattle.std.proofs.Math.Seq.{take-append_seam}
use Rattle.std.proofs.lemmas.Grind.{flat_map-append}
use Rattle.std.proofs.lemmas.List.{append-nil, append_assoc, length-append, length-drop, length-take-le, drop-drop}
use Rattle.std.proofs.lemmas.Slice.{drop-append-drop}
use Rattle.cmap_unicode.specs.TextsOfCodes.{Font}
use Rattle.cmap_unicode.specs.declared.extractor.Character.{Character}
use Rattle.cmap_layers.specs.Layers.{Layer}
use Rattle.cmap_c.specs.Extracted.{BeginsWithCharacters, IsEnd, IsExtracted, PassesRoom, bytes_of, character_seen, characters_seen, font_given, texts_of}
use Rattle.cmap_c.specs.ExtractedParts.{IsMade, IsPutAt, IsStop}
use Rattle.cmap_handles.specs.Statuses.{number}
use Rattle.cmap_c.specs.declared.extract.Extracted.{Extracted}
use Rattle.cmap_c.specs.declared.extract.ExtractedCharacter.{ExtractedCharacter}
use Rattle.cmap_handles.specs.declared.status.Status.{Status}
use Rattle.cmap_handles.specs.declared.status.Status.TheVariants.{Absent, Done, NoMemory, NoRoom, NotABundle, OverBudget, Refused}
use Rattle.cmap_c.proofs.StringsCut.{room_more}

-- so much of a string is extracted
pub record IsExtracting (font : Font) (string : List ℕ) (old new : List ExtractedCharacter) (old_text new_text : List ℕ) (extracted : Extracted) : Type 0 where
  pub found : List Character
  pub characters : (more : List Character) (end : List ℕ) → BeginsWithCharacters font (drop extracted.taken string) more end → BeginsWithCharacters font string (found ++ more) end
  pub within : extracted.taken ≤ length string
  pub count : extracted.made ≡ length found
  pub used : extracted.used ≡ length (texts_of found)
  pub fits : extracted.made ≤ length old
  pub texts_fit : extracted.used ≤ length old_text
  pub written : new ≡ characters_seen 0 found ++ drop extracted.made old
  pub texts : new_text ≡ texts_of found ++ drop extracted.used old_text

pub extracts_none : (font : Font) (string : List ℕ) (old : List ExtractedCharacter) (old_text : List ℕ) → IsExtracting font string old old old_text old_text (record { made = 0; taken = 0; used = 0 })
extracts_none font string old old_text = record {
  found = [];
  characters = λ more end h. h;
  within = omega arith;
  count = refl;
  used = refl;
  fits = omega arith;
  texts_fit = omega arith;
  written = refl;
  texts = refl;
}

texts-push : (characters : List Character) (character : Character) → texts_of (characters ++ character ∷ []) ≡ texts_of characters ++ bytes_of character.text
texts-push characters character = flat_map-append (λ c. bytes_of c.text) characters (character ∷ []) ∙ ap (λ last. texts_of characters ++ last) (append-nil (bytes_of character.text))

length-texts : (character : Character) (characters : List Character) (start : ℕ) → start + length (bytes_of character.text) + length (texts_of characters) ≡ start + length (texts_of (character ∷ characters))
length-texts character characters start = omega (arith, length-append (bytes_of character.text) (texts_of characters))

seen-push : (start : ℕ) (characters : List Character) (character : Character) → characters_seen start (characters ++ character ∷ []) ≡ characters_seen start characters ++ character_seen (start + length (texts_of characters)) character ∷ []
seen-push start [] character = let same : start ≡ start + 0 = omega arith in ap (λ s. character_seen s character ∷ []) same
seen-push start (first ∷ characters) character =
    let later : ℕ = start + length (bytes_of first.text) in
    ap (λ seen. character_seen start first ∷ seen) (seen-push later characters character ∙ ap (λ s. characters_seen later characters ++ character_seen s character ∷ []) (length-texts first characters start))

length-seen : (start : ℕ) (characters : List Character) → length (characters_seen start characters) ≡ length characters
length-seen start [] = refl
length-seen start (character ∷ characters) = ap (λ n. suc n) (length-seen (start + length (bytes_of character.text)) characters)

-- a text after those that stand in the room
put_more : (texts bytes old : List ℕ) (n : ℕ) → n ≡ length texts → take n (texts ++ drop n old) ++ bytes ++ drop (n + length bytes) (texts ++ drop n old) ≡ (texts ++ bytes) ++ drop (n + length bytes) old
put_more texts bytes old n same =
    let first : take n (texts ++ drop n old) ≡ texts = ap (λ (k : ℕ). take k (texts ++ drop n old)) same ∙ take-append_seam texts (drop n old) in
    let last : drop (n + length bytes) (texts ++ drop n old) ≡ drop (n + length bytes) old = drop-append-drop n old texts (n + length bytes) (omega arith) (sym same) in
    λ i. first i ++ bytes ++ last i

-- bytes that are copied to a part of a room
module _ (bytes room : List ℕ) (start : ℕ) (inside : start ≤ length room) (few : length bytes ≤ length room - start) where
  pub part_length : length (take (start + length bytes - start) (drop start room)) ≡ length bytes
  part_length = omega (arith, length-take-le (start + length bytes - start) (drop start room) (omega (arith, length-drop start room)))

  pub is_put : (copied : List ℕ) → copied ≡ bytes → IsPutAt bytes start room (take start room ++ (copied ++ drop (start + length bytes - start) (drop start room)))
  is_put copied is =
      let count : start + length bytes - start ≡ length bytes = omega arith in
      let rest : drop (start + length bytes - start) (drop start room) ≡ drop (start + length bytes) room = ap (λ n. drop n (drop start room)) count ∙ drop-drop (length bytes) start room in
      record {
        within = omega arith;
        put = (λ i. take start room ++ (is i ++ rest i)) ∙ sym (append_assoc (take start room) bytes (drop (start + length bytes) room));
      }

pub extracts_more : (font : Font) (string : List ℕ) (old new : List ExtractedCharacter) (old_text text new_text : List ℕ) (extracted next : Extracted) (one : ExtractedCharacter) → IsExtracting font string old new old_text text extracted
    → IsMade font (drop extracted.taken string) extracted.used text new_text one → extracted.made < length old → length text ≡ length old_text
    → next.made ≡ extracted.made + 1 → next.taken ≡ extracted.taken + one.code.byte_len → next.used ≡ extracted.used + one.text_len
    → IsExtracting font string old (set new extracted.made one) old_text new_text next
extracts_more font string old new old_text text new_text extracted next one extracting made room text_room made_is taken_is used_is =
    let found = extracting.found in
    let character = made.character in
    let bytes : List ℕ = bytes_of character.text in
    let len : one.code.byte_len ≡ character.code.byte_len = ap (λ seen. seen.code.byte_len) made.seen in
    let taken : next.taken ≡ extracted.taken + character.code.byte_len = taken_is ∙ ap (λ n. extracted.taken + n) len in
    let used : next.used ≡ extracted.used + length bytes = used_is ∙ ap (λ seen. extracted.used + seen.text_len) made.seen in
    let put : new_text ≡ texts_of (found ++ character ∷ []) ++ drop next.used old_text =
    made.text.put ∙ ap (λ held. take extracted.used held ++ bytes ++ drop (extracted.used + length bytes) held) extracting.texts ∙ put_more (texts_of found) bytes old_text extracted.used extracting.used
    ∙ (λ i. sym (texts-push found character) i ++ drop (sym used i) old_text) in
    record {
      found = found ++ character ∷ [];
      characters = λ more end h.
          let rest : drop next.taken string ≡ drop character.code.byte_len (drop extracted.taken string) = ap (λ n. drop n string) taken ∙ sym (drop-drop character.code.byte_len extracted.taken string) in
          rw append_assoc (extracting.characters (character ∷ more) end (made.is_next, subst (λ left. BeginsWithCharacters font left more end) rest h));
      within = omega (arith, length-drop extracted.taken string, made.fits, extracting.within, taken);
      count = simp length-append (omega (arith, extracting.count, made_is));
      used = used ∙ ap (λ n. n + length bytes) extracting.used ∙ sym (ap length (texts-push found character) ∙ length-append (texts_of found) bytes);
      fits = omega (arith, made_is);
      texts_fit = omega (arith, made.text.within, text_room, used);
      written =
          let front : List ExtractedCharacter = characters_seen 0 found in
          let seen : one ≡ character_seen (0 + length (texts_of found)) character = made.seen ∙ ap (λ n. character_seen n character) (extracting.used ∙ sym (zero-add (length (texts_of found)))) in
          ap (λ xs. set xs extracted.made one) extracting.written ∙ room_more front old extracted.made one (length-seen 0 found ∙ sym extracting.count) room
          ∙ (λ i. (front ++ seen i ∷ []) ++ drop (sym made_is i) old) ∙ ap (λ xs. xs ++ drop next.made old) (sym (seen-push 0 found character));
      texts = put;
    }

-- the characters that are made are those that the string begins with
pub extracts_all : (font : Font) (string : List ℕ) (old new : List ExtractedCharacter) (old_text new_text : List ℕ) (extracted : Extracted) (status : ℕ) → IsExtracting font string old new old_text new_text extracted
    → IsEnd font string old old_text extracted status → IsExtracted font string old new old_text new_text extracted status
extracts_all font string old new old_text new_text extracted status extracting end = record {
  found = extracting.found;
  characters = subst (λ found. BeginsWithCharacters font string found (drop extracted.taken string)) (append-nil extracting.found) (extracting.characters [] (drop extracted.taken string) refl);
  within = extracting.within;
  count = extracting.count;
  used = extracting.used;
  written = extracting.written;
  texts = extracting.texts;
  end = end;
}

-- no more characters are made where the next one isn't
pub ends : (font : Font) (string : List ℕ) (old : List ExtractedCharacter) (old_text : List ℕ) (room : ℕ) (extracted : Extracted) (end : Status) → extracted.taken ≤ length string → room ≡ length old_text - extracted.used
    → IsStop font (drop extracted.taken string) room end → IsEnd font string old old_text extracted (number end)
ends font string old old_text room extracted Done within same stop = inl (refl, omega (arith, within, length-drop extracted.taken string, ap length stop))
ends font string old old_text room extracted NoRoom within same stop =
    inr (inl (refl, omega (arith, length-drop extracted.taken string, stop.is_next.code.holds.some), inr (subst (PassesRoom font (drop extracted.taken string)) same stop)))
ends font string old old_text room extracted NoMemory within same stop = inr (inr (refl, stop))
ends font string old old_text room extracted Refused within same stop = absurd stop
ends font string old old_text room extracted OverBudget within same stop = absurd stop
ends font string old old_text room extracted NotABundle within same stop = absurd stop
ends font string old old_text room extracted Absent within same stop = absurd stop

-- what holds of a font holds of that of the same maps
pub of_font : (P : Font → Type 0) (encoding : List Layer) (texts to_unicode texts_of_cids collection : Option (List Layer)) → texts ≡ to_unicode → texts_of_cids ≡ collection → P (font_given encoding texts texts_of_cids) → P (font_given encoding to_unicode collection)
of_font P encoding texts to_unicode texts_of_cids collection same also holds = subst (λ given. P (font_given encoding to_unicode given)) also (subst (λ given. P (font_given encoding given texts_of_cids)) same holds)
