-- The encoding to which ways lead.
use Rattle.std.proofs.Common.{◌≡◌, ℕ, ◌+◌, ◌-◌, ◌≤◌, ◌<◌, List, [], ◌∷◌, ◌++◌, length, drop, get_or, Option, Some, None, refl, sym, ap, ◌∙◌, subst, arith, append_assoc, append-nil, length-drop}
use Rattle.std.specs.Prelude.{IfSome, flat_map, slice_get, take}
use Rattle.std.specs.Char.{encode_utf8}
use Rattle.std.proofs.lemmas.Option.{slice_get-get_or}
use Rattle.std.proofs.lemmas.List.{drop-drop, drop_all}
use Rattle.cmap_encode.specs.ChoicesSeen.{choice_seen}
use Rattle.cmap_encode.specs.Encodings as also
use Rattle.cmap_encode.specs.Encodings.{ArePiecesBy, IsEncodingBy, IsPieceOf}
use Rattle.cmap_encode.specs.Pieces.{AreChoices, Choice, Choices, IsEncodable, next, nothing}
use Rattle.cmap_encode.specs.Ways.{IsWay, last_of}
use Rattle.cmap_encode.specs.declared.pieces.Piece.{Piece}
use Rattle.cmap_encode.specs.declared.ways.Way.{Way}

abbrev bytes_of : List Choice → List ℕ
bytes_of pieces = flat_map (λ (piece : Choice). piece.bytes) pieces

-- these bytes stand for the first pieces of a text, of which so many characters are left
pub record AreFirst (choices : Choices) (text bytes : List ℕ) (left : ℕ) : Type 0 where
  pub within : left ≤ length text
  pub pieces : List Choice
  pub found : (rest : List Choice) → AreChoices choices (last_of left text) rest → AreChoices choices text (pieces ++ rest)
  pub is : bytes ≡ bytes_of pieces
  pub none : (IsEncodable choices (last_of left text) → ⊥) → IsEncodable choices text → ⊥

bytes_more : (pieces : List Choice) (piece : Choice) → bytes_of (pieces ++ piece ∷ []) ≡ bytes_of pieces ++ piece.bytes
bytes_more [] piece = append-nil piece.bytes
bytes_more (first ∷ pieces) piece = ap (λ l. first.bytes ++ l) (bytes_more pieces piece) ∙ sym (append_assoc first.bytes (bytes_of pieces) piece.bytes)

module _ (choices : Choices) (text : List ℕ) where
  all_left : last_of (length text) text ≡ text
  all_left = let skipped : length text - length text ≡ 0 = omega arith in ap (λ n. drop n text) skipped

  pub first_none : AreFirst choices text [] (length text)
  first_none = record {
    within = omega arith;
    pieces = [];
    found = λ rest are. subst (λ t. AreChoices choices t rest) all_left are;
    is = refl;
    none = λ not encodable. not (subst (IsEncodable choices) (sym all_left) encodable);
  }

  rest_left : (left taken : ℕ) → taken ≤ left → left ≤ length text → drop taken (last_of left text) ≡ last_of (left - taken) text
  rest_left left taken fewer within =
      let all : length text - left + taken ≡ length text - (left - taken) = omega arith in
      drop-drop taken (length text - left) text ∙ ap (λ n. drop n text) all

  -- one more piece
  pub first_more : (bytes : List ℕ) (left : ℕ) (way : Way) → AreFirst choices text bytes left → IsWay choices (last_of left text) way → AreFirst choices text (bytes ++ (choice_seen way.choice).bytes) (left - way.taken)
  first_more bytes left way first is =
      let piece = choice_seen way.choice in
      let count : length (last_of left text) ≡ left = omega (arith, length-drop (length text - left) text, first.within) in
      let after = rest_left left way.taken (omega (arith, is.begins.may.within)) first.within in
      record {
        within = omega (arith, first.within);
        pieces = first.pieces ++ piece ∷ [];
        found = λ rest are.
            subst (AreChoices choices text) (sym (append_assoc first.pieces (piece ∷ []) rest))
            (first.found (piece ∷ rest) (next (last_of left text) way.taken piece rest is.begins is.chosen (subst (λ t. AreChoices choices t rest) (sym after) are)));
        is = ap (λ l. l ++ piece.bytes) first.is ∙ sym (bytes_more first.pieces piece);
        none = λ not. absurd (not (subst (IsEncodable choices) after is.begins.may.rest));
      }

  -- all of them
  pub first_all : (bytes : List ℕ) (left : ℕ) → left ≡ 0 → AreFirst choices text bytes left → IsEncodingBy choices text bytes
  first_all bytes left empty first =
      let nothing_left : last_of left text ≡ [] = drop_all (length text - left) text (omega arith) in
      record {
        pieces = first.pieces;
        are = subst (AreChoices choices text) (append-nil first.pieces) (first.found [] (subst (λ t. AreChoices choices t []) (sym nothing_left) nothing));
        is = first.is;
      }

-- these are the first pieces of a text, of which so many characters are left
pub record AreFirstPieces (choices : Choices) (text : List ℕ) (pieces : List Piece) (left : ℕ) : Type 0 where
  pub within : left ≤ length text
  pub found : (rest : List Piece) → ArePiecesBy choices (last_of left text) rest → ArePiecesBy choices text (pieces ++ rest)
  pub none : (IsEncodable choices (last_of left text) → ⊥) → IsEncodable choices text → ⊥

module _ (choices : Choices) (text : List ℕ) where
  pub first_piece : AreFirstPieces choices text [] (length text)
  first_piece = record {
    within = omega arith;
    found = λ rest are. subst (λ t. ArePiecesBy choices t rest) (all_left choices text) are;
    none = λ not encodable. not (subst (IsEncodable choices) (sym (all_left choices text)) encodable);
  }

  -- one more
  pub piece_more : (pieces : List Piece) (left : ℕ) (way : Way) (piece : Piece) → AreFirstPieces choices text pieces left → IsWay choices (last_of left text) way
      → IsPieceOf (length (flat_map encode_utf8 (take way.taken (last_of left text)))) (choice_seen way.choice) piece → AreFirstPieces choices text (pieces ++ piece ∷ []) (left - way.taken)
  piece_more pieces left way piece first is of =
      let count : length (last_of left text) ≡ left = omega (arith, length-drop (length text - left) text, first.within) in
      let after = rest_left choices text left way.taken (omega (arith, is.begins.may.within)) first.within in
      record {
        within = omega (arith, first.within);
        found = λ rest are.
            subst (ArePiecesBy choices text) (sym (append_assoc pieces (piece ∷ []) rest))
            (first.found (piece ∷ rest) (also.next (last_of left text) way.taken (choice_seen way.choice) piece rest is.begins is.chosen of (subst (λ t. ArePiecesBy choices t rest) (sym after) are)));
        none = λ not. absurd (not (subst (IsEncodable choices) after is.begins.may.rest));
      }

  -- all of them
  pub all_pieces : (pieces : List Piece) (left : ℕ) → left ≡ 0 → AreFirstPieces choices text pieces left → ArePiecesBy choices text pieces
  all_pieces pieces left empty first =
      let end : last_of left text ≡ [] = drop_all (length text - left) text (omega arith) in
      subst (ArePiecesBy choices text) (append-nil pieces) (first.found [] (subst (λ t. ArePiecesBy choices t []) (sym end) also.nothing))

-- ---- one of the ways
pub way_at : (ways : List (Option Way)) (k : ℕ) (d o : Option Way) (P : Option Way → Type 0) → k < length ways → get_or ways k d ≡ o → IfSome (slice_get ways k) P → P o
way_at ways k d o P lt is has = subst P is (subst (λ found. IfSome found P) (slice_get-get_or ways k d lt) has)

pub none_left : (o : Option Way) → ((way : Way) → o ≡ Some way → ⊥) → o ≡ None
none_left None other = refl
none_left (Some way) other = absurd (other way refl)
