-- A text behind a comment and before spaces has the same tokens, and means the same file.
use Rattle.std.proofs.Common.{◌≡◌, ℕ, Bool, true, false, refl, sym, ap, ◌∙◌, subst, List, [], ◌∷◌, ◌++◌, get_or, inl, inr, Some, None, append_assoc, arith}
use Rattle.std.specs.Prelude.{IsTrue, Option, codes, is_some, not, ◌==◌}
use Rattle.std.specs.List.{All}
use Rattle.std.proofs.lemmas.Bool.{cases_Bool}
use Rattle.std.proofs.lemmas.List.Elements.{All-head, All-tail}
use Rattle.cmap_values.specs.Files.{File}
use Rattle.cmap_tokens.specs.Bytes.{begins, is_regular, is_white}
use Rattle.cmap_tokens.specs.Gaps.{IsBlank, IsGap, comment_after, ends_comment}
use Rattle.cmap_tokens.specs.Tokens.{Front, Token, Tokens}
use Rattle.cmap_tokens.proofs.Fronts.{has_tokens}
use Rattle.cmap_text.specs.TextFiles.{IsTextFile}
use Rattle.cmap_binary.specs.BinaryFiles.{IsMarkedBinary}
use Rattle.cmap_bundle_maker.specs.Slots.{IsTextBehind}

-- ---- gaps
comments_join : (in_comment after : Bool) (a b : List ℕ) → comment_after in_comment a ≡ Some after → comment_after in_comment (a ++ b) ≡ comment_after after b
comments_join in_comment after [] b e = let same : in_comment ≡ after = cc in rw same refl
comments_join true after (x ∷ a) b e = comments_join (not (ends_comment x)) after a b e
comments_join false after (x ∷ a) b e =
    elim (cases_Bool (x == 37)) [
      | inl percent ↦ let more = rw percent at e in rw percent (comments_join true after a b more)
      | inr other ↦
          elim (cases_Bool (is_white x)) [
            | inl white ↦ let more = rw (other, white) at e in rw (other, white) (comments_join false after a b more)
            | inr solid ↦ let none = rw (other, solid) at e in cc
          ]
    ]

spaces_stay : (in_comment : Bool) (spaces : List ℕ) → All (λ b. b ≡ 32) spaces → comment_after in_comment spaces ≡ Some in_comment
spaces_stay in_comment [] all = refl
spaces_stay true (b ∷ spaces) all = let is : b ≡ 32 = All-head (λ b. b ≡ 32) b spaces all in rw is (spaces_stay true spaces (All-tail (λ b. b ≡ 32) b spaces all))
spaces_stay false (b ∷ spaces) all = let is : b ≡ 32 = All-head (λ b. b ≡ 32) b spaces all in rw is (spaces_stay false spaces (All-tail (λ b. b ≡ 32) b spaces all))

comment_stays : (size : List ℕ) → All (λ b. ends_comment b ≡ false) size → comment_after true size ≡ Some true
comment_stays [] all = refl
comment_stays (b ∷ size) all =
    let is : ends_comment b ≡ false = All-head (λ b. ends_comment b ≡ false) b size all in
    rw is (comment_stays size (All-tail (λ b. ends_comment b ≡ false) b size all))

some_value : (o : Option Bool) → IsTrue (is_some o) → (after : Bool) × (o ≡ Some after)
some_value None some = cc
some_value (Some after) some = (after, refl)

-- ---- tokens
blank_amid : (front text spaces : List ℕ) → IsGap front → All (λ b. b ≡ 32) spaces → IsBlank text → IsBlank (front ++ (text ++ spaces))
blank_amid front text spaces gap white blank =
    let (after, is) = some_value (comment_after false text) blank in
    rw (comments_join false false front (text ++ spaces) gap, comments_join false after text spaces is, spaces_stay after spaces white) refl

regular_amid : (rest spaces : List ℕ) → All (λ b. b ≡ 32) spaces → begins is_regular rest ≡ false → begins is_regular (rest ++ spaces) ≡ false
regular_amid [] [] white e = refl
regular_amid [] (b ∷ spaces) white e = let is : b ≡ 32 = All-head (λ b. b ≡ 32) b spaces white in rw is refl
regular_amid (b ∷ rest) spaces white e = e

tokens_amid : (tokens : List Token) (front text spaces : List ℕ) → IsGap front → All (λ b. b ≡ 32) spaces → Tokens text tokens → Tokens (front ++ (text ++ spaces)) tokens
tokens_amid [] front text spaces gap_is white blank = blank_amid front text spaces gap_is white blank
tokens_amid (token ∷ tokens) front text spaces gap_is white (gap, piece, rest, first, more) =
    let whole : front ++ (text ++ spaces) ≡ ((front ++ gap) ++ piece) ++ (rest ++ spaces) = rw first.whole (simp append_assoc) in
    let here : Front (front ++ (text ++ spaces)) (front ++ gap) piece token (rest ++ spaces) = record {
      whole = whole;
      gap_is = comments_join false false front gap gap_is ∙ first.gap_is;
      piece_is = first.piece_is;
      longest = λ named. regular_amid rest spaces white (first.longest named);
    } in
    (front ++ gap, piece, rest ++ spaces, here, tokens_amid tokens [] rest spaces refl white more)

-- ---- the text behind a comment
front_gap : (size : List ℕ) → All (λ b. ends_comment b ≡ false) size → IsGap ((codes "% text" ++ size) ++ 10 ∷ [])
front_gap size plain = comments_join true true size (10 ∷ []) (comment_stays size plain)

tokens_behind : (text bytes : List ℕ) → IsTextBehind text bytes → (tokens : List Token) → Tokens text tokens → Tokens bytes tokens
tokens_behind text bytes (size, spaces, is, plain, white, framed, four) tokens has =
    subst (λ b. Tokens b tokens) (append_assoc (codes "% text" ++ size) (10 ∷ []) (text ++ spaces) ∙ sym is) (tokens_amid tokens ((codes "% text" ++ size) ++ 10 ∷ []) text spaces (front_gap size plain) white has)

one_list : (bytes : List ℕ) (tokens others : List Token) → Tokens bytes tokens → Tokens bytes others → tokens ≡ others
one_list bytes tokens others has also = sym ((has_tokens bytes tokens).0 has).0 ∙ ((has_tokens bytes others).0 also).0

pub text_behind : (text bytes : List ℕ) → IsTextBehind text bytes → (file : File) → IsTextFile text file → IsTextFile bytes file
unfolding IsTextFile
text_behind text bytes behind file (tokens, items, has, rest, used, metadata, lists) = (tokens, items, tokens_behind text bytes behind tokens has, rest, used, metadata, lists)

-- of a text that is a file, what it means behind the comment it means before it
pub text_before : (text bytes : List ℕ) → IsTextBehind text bytes → (known : File) → IsTextFile text known → (file : File) → IsTextFile bytes file → IsTextFile text file
unfolding IsTextFile
text_before text bytes behind known (its, all, has_its, reads, names, says, declares) file (tokens, items, has, rest, used, metadata, lists) =
    let same : its ≡ tokens = one_list bytes its tokens (tokens_behind text bytes behind its has_its) has in
    (tokens, items, subst (Tokens text) same has_its, rest, used, metadata, lists)

-- it is no binary file
pub behind_unmarked : (text bytes : List ℕ) → IsTextBehind text bytes → IsMarkedBinary bytes → ⊥
behind_unmarked text bytes (size, spaces, is, plain, white, framed, four) (rest, marked) =
    let same : (codes "% text" ++ size) ++ (10 ∷ (text ++ spaces)) ≡ codes "bcmap" ++ rest = sym is ∙ marked in
    let first : 37 ≡ 98 = ap (λ l. get_or l 0 0) same in
    omega (arith, first)
