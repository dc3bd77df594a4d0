-- Sections that are written, in order.
use Rattle.std.proofs.Common.{◌≡◌, ◌∙◌, ℕ, ◌^◌, ◌<◌, ◌≤◌, false, List, [], ◌∷◌, ◌++◌, length, map, refl, sym, ap, subst, arith}
use Rattle.std.specs.Prelude.{All, decimal, flat_map}
use Rattle.std.specs.List.{AllByRecursion}
use Rattle.std.proofs.lemmas.List.{append_assoc, append-nil, length-map}
use Rattle.std.proofs.lemmas.List.Concat.{flat_map-append}
use Rattle.std.proofs.lemmas.List.Elements.{All-cons, All-head, All-nil, All-tail}
use Rattle.cmap_values.specs.Files.{BfEntry, CidEntry, Codespace, Declaration}
use Rattle.cmap_tokens.specs.Numbers.{numeral, integer, radix_integer, is_real}
use Rattle.cmap_tokens.specs.Tokens.{IsToken, Token}
use Rattle.cmap_text.specs.TextFiles.{AreEntries, CidKind, Extent, Item, Section, bf_char, bf_range, cids, codespace_range, declared_by, declares_cid, entries, mapped, notdef, other, range, single}
use Rattle.cmap_text.specs.TextReading.{closer, opener}
use Rattle.cmap_text_writer.specs.Fits.{BeginsFitting, HasUnits, IsOfExtent, IsSmallCid, IsSmallText, IsSpaceFitting}
use Rattle.cmap_text_writer.specs.Layout.{Block, IsSection, IsSingleLine, Serves, block_spelled, char_spelled, chars, declared_in, declares, line_spelled, lines, section_spelled, spaces}
use Rattle.cmap_text_writer.specs.Spelled.{cid_spelled, closer_spelled, opener_spelled, space_spelled}
use Rattle.cmap_text_writer.specs.Told.{Appends, HasLines, IsOfSections, TellsAnyway, TellsEntries, TellsItems, TellsSections}
use Rattle.cmap_text_writer.proofs.ArraysTold.{declared_texts, lines_told, texts_in}
use Rattle.cmap_text_writer.proofs.EntriesTold.{cids_told, spaces_told}
use Rattle.cmap_text_writer.proofs.TextsTold.{HaveRoom, chars_told}
use Rattle.cmap_text_writer.proofs.ItemsTold.{items_both, no_items, one_item, other_item}
use Rattle.cmap_text_writer.proofs.StringsTold.{decimal_is_token, number_token}
use Rattle.cmap_text_writer.proofs.TokensTold.{is_word, lined, spaced, tokens_both}
use Rattle.cmap_text_writer.proofs.Walked.{all_both}

-- ---- the words of a section
opener_is : (section : Section) → IsToken (opener section) (Token.Name false (opener section))
unfolding numeral integer radix_integer is_real
opener_is codespace_range = is_word (opener codespace_range) (omega arith) refl refl
opener_is (cids mapped range) = is_word (opener (cids mapped range)) (omega arith) refl refl
opener_is (cids mapped single) = is_word (opener (cids mapped single)) (omega arith) refl refl
opener_is (cids notdef range) = is_word (opener (cids notdef range)) (omega arith) refl refl
opener_is (cids notdef single) = is_word (opener (cids notdef single)) (omega arith) refl refl
opener_is bf_range = is_word (opener bf_range) (omega arith) refl refl
opener_is bf_char = is_word (opener bf_char) (omega arith) refl refl

closer_is : (section : Section) → IsToken (closer section) (Token.Name false (closer section))
unfolding numeral integer radix_integer is_real
closer_is codespace_range = is_word (closer codespace_range) (omega arith) refl refl
closer_is (cids mapped range) = is_word (closer (cids mapped range)) (omega arith) refl refl
closer_is (cids mapped single) = is_word (closer (cids mapped single)) (omega arith) refl refl
closer_is (cids notdef range) = is_word (closer (cids notdef range)) (omega arith) refl refl
closer_is (cids notdef single) = is_word (closer (cids notdef single)) (omega arith) refl refl
closer_is bf_range = is_word (closer bf_range) (omega arith) refl refl
closer_is bf_char = is_word (closer bf_char) (omega arith) refl refl

-- ---- one section
-- its opener, entries and closer
body_told : (section : Section) (ds : List Declaration) (body : List ℕ) → TellsEntries section ds body → TellsItems (entries ds ∷ []) ((opener section ++ 10 ∷ []) ++ (body ++ closer_spelled section))
body_told section ds body h =
    let ts = h.tokens in
    let begin = Token.Name false (opener section) in
    let close = Token.Name false (closer section) in
    one_item (entries ds) (begin ∷ (ts ++ close ∷ [])) _
    (tokens_both (begin ∷ []) (ts ++ close ∷ []) _ _ (lined (opener section) begin (opener_is section)) (tokens_both ts (close ∷ []) body _ h.told (lined (closer section) close (closer_is section))))
    (λ rest. (
      section,
      (ts ++ close ∷ []) ++ rest,
      h.each,
      refl,
      subst (λ es. AreEntries section ((ts ++ close ∷ []) ++ rest) es rest) (append-nil h.each)
          (subst (λ tokens. AreEntries section tokens (h.each ++ []) rest) (sym (append_assoc ts (close ∷ []) rest)) (h.are (close ∷ rest) rest [] refl)),
      sym h.flat,
    ))

opener_parts : (count word rest : List ℕ) → (count ++ 32 ∷ []) ++ ((word ++ 10 ∷ []) ++ rest) ≡ (count ++ (32 ∷ word ++ 10 ∷ [])) ++ rest
opener_parts count word rest = simp append_assoc

-- with the count before it
section_told : (lengths : ℕ → ℕ) (block : Block) (section : Section) (count : ℕ) (body : List ℕ) → count < 2 ^ 63 → length (declared_in block) ≤ 100 → IsSection block → TellsEntries section (declared_in block) body → opener_spelled count section ++ (body ++ closer_spelled section) ≡ block_spelled lengths block
    → TellsSections lengths (declared_in block) (block_spelled lengths block)
section_told lengths block section count body small few serves told same =
    let t = number_token count in
    let parts : (decimal count ++ 32 ∷ []) ++ ((opener section ++ 10 ∷ []) ++ (body ++ closer_spelled section)) ≡ opener_spelled count section ++ (body ++ closer_spelled section) = opener_parts (decimal count) (opener section) (body ++ closer_spelled section) in
    let items = items_both (other t ∷ []) (entries (declared_in block) ∷ []) _ _ (other_item t _ (spaced (decimal count) t (decimal_is_token count small)) refl refl refl) (body_told section (declared_in block) body told) in record {
      items = other t ∷ entries (declared_in block) ∷ [];
      told = subst (TellsItems (other t ∷ entries (declared_in block) ∷ [])) (parts ∙ same) items;
      all = (tt, (few, tt));
      flat = append-nil (declared_in block);
      blocks = block ∷ [];
      served = All-cons IsSection block [] serves (All-nil IsSection);
      says = append-nil (declared_in block);
      spelled = sym (append-nil (block_spelled lengths block));
    }

pub space_section : (ss : List Codespace) → 0 < length ss → length ss ≤ 100 → All IsSpaceFitting ss → TellsAnyway (map Declaration.codespace ss) (section_spelled codespace_range space_spelled ss)
space_section ss some few fit = record { at = λ lengths. section_told lengths (spaces ss) codespace_range (length ss) (flat_map space_spelled ss) (omega (arith, few)) (omega (arith, length-map ss Declaration.codespace, few)) some (spaces_told ss fit) refl }

of_extent : (extent : Extent) (es : List CidEntry) → Serves extent (λ e. e.start ≡ e.end) es → All (λ e. IsOfExtent extent e.start e.end) es
of_extent single es (some, all) = all
of_extent range es serves = λ k d lt. tt

pub cid_section : (kind : CidKind) (extent : Extent) (len : ℕ) (es : List CidEntry) → length es ≤ 100 → All (BeginsFitting len) es → All IsSmallCid es → Serves extent (λ e. e.start ≡ e.end) es → TellsAnyway (map (declares_cid kind len) es) (section_spelled (Section.cids kind extent) (cid_spelled len extent) es)
cid_section kind extent len es few starts small serves = record {
  at = λ lengths. section_told lengths (declares kind extent len es) (Section.cids kind extent) (length es) (flat_map (cid_spelled len extent) es) (omega (arith, few)) (omega (arith, length-map es (declares_cid kind len), few)) serves (cids_told kind len extent es starts small (of_extent extent es serves)) refl;
}

pub char_section : (lengths : ℕ → ℕ) → HaveRoom lengths → (es : List BfEntry) → 0 < length es → length es ≤ 100 → All HasUnits es → All IsSmallText es → All (λ e. IsOfExtent single e.start e.end) es → TellsSections lengths (map Declaration.bf es) (section_spelled bf_char (char_spelled lengths) es)
char_section lengths room es some few units small singles = section_told lengths (chars es) bf_char (length es) (flat_map (char_spelled lengths) es) (omega (arith, few)) (omega (arith, length-map es Declaration.bf, few)) (some, singles) (chars_told lengths room es units small singles) refl

-- lines for single codes: as many as texts
single_lines : (ls : List (BfEntry × List BfEntry)) → All IsSingleLine ls → (length (texts_in ls) ≡ length ls) × All (λ e. e.start ≡ e.end) (texts_in ls)
single_lines [] all = (refl, All-nil (λ e. e.start ≡ e.end))
single_lines (l ∷ ls) all =
    let (here, alone) = All-head IsSingleLine l ls all in
    let (count, singles) = single_lines ls (All-tail IsSingleLine l ls all) in
    subst (λ more. (length ((l.0 ∷ more) ++ texts_in ls) ≡ length (l ∷ ls)) × All (λ e. e.start ≡ e.end) ((l.0 ∷ more) ++ texts_in ls)) (sym alone)
    (omega (arith, count), All-cons (λ e. e.start ≡ e.end) l.0 (texts_in ls) here singles)

pub line_section : (lengths : ℕ → ℕ) → HaveRoom lengths → (es : List BfEntry) (count : ℕ) (body : List ℕ) → count < 2 ^ 63 → length es ≤ 100 → All HasUnits es → (count ≡ length es → All (λ e. e.start ≡ e.end) es → ⊥) → HasLines lengths es count [] body → TellsSections lengths (map Declaration.bf es) (opener_spelled count bf_range ++ (body ++ closer_spelled bf_range))
line_section lengths room es count body small few units others h =
    let ls = h.each in
    let texts = sym h.flat in
    let same : declared_in (lines ls) ≡ map Declaration.bf es = declared_texts ls ∙ ap (map Declaration.bf) h.flat in
    let spelled : opener_spelled count bf_range ++ (body ++ closer_spelled bf_range) ≡ block_spelled lengths (lines ls) = ap (λ n. opener_spelled n bf_range ++ (body ++ closer_spelled bf_range)) (sym h.counted) ∙ ap (λ bs. opener_spelled (length ls) bf_range ++ (bs ++ closer_spelled bf_range)) h.spelled in
    let told = lines_told lengths room ls h.rows (subst (All HasUnits) texts units) (subst (All IsSmallText) texts h.small) in
    let serves : All IsSingleLine ls → ⊥ = λ all.
    let (count_is, singles) = single_lines ls all in
    others (sym h.counted ∙ sym count_is ∙ ap (λ (xs : List BfEntry). length xs) h.flat) (subst (All (λ e. e.start ≡ e.end)) h.flat singles) in
    let made = section_told lengths (lines ls) bf_range (length ls) (flat_map (λ l. line_spelled lengths (l.0 ∷ l.1)) ls) (omega (arith, h.counted, small)) (omega (arith, ap (λ (ds : List Declaration). length ds) same, length-map es Declaration.bf, few)) serves told refl in
    subst (TellsSections lengths (map Declaration.bf es)) (sym spelled) (subst (λ ds. TellsSections lengths ds (block_spelled lengths (lines ls))) same made)

-- an opener, a body and a closer that are appended
pub appended_section : (section : Section) (count n : ℕ) (old a b new body : List ℕ) → count ≡ n → a ≡ old ++ opener_spelled count section → b ≡ a ++ body → new ≡ b ++ closer_spelled section → new ≡ old ++ (opener_spelled n section ++ (body ++ closer_spelled section))
appended_section section count n old a b new body same first second third =
    third ∙ ap (λ bs. bs ++ closer_spelled section) (second ∙ ap (λ bs. bs ++ body) (first ∙ ap (λ k. old ++ opener_spelled k section) same)) ∙ simp append_assoc

-- ---- sections after others
of_sections_both : (is js : List Item) → AllByRecursion IsOfSections is → AllByRecursion IsOfSections js → AllByRecursion IsOfSections (is ++ js)
of_sections_both [] js all more = more
of_sections_both (i ∷ is) js (first, later) more = (first, of_sections_both is js later more)

pub no_sections : (lengths : ℕ → ℕ) → TellsSections lengths [] []
no_sections lengths = record { items = []; told = no_items; all = tt; flat = refl; blocks = []; served = All-nil IsSection; says = refl; spelled = refl }

pub no_sections_anyway : TellsAnyway [] []
no_sections_anyway = record { at = no_sections }

pub sections_both : (lengths : ℕ → ℕ) (ds es : List Declaration) (a b : List ℕ) → TellsSections lengths ds a → TellsSections lengths es b → TellsSections lengths (ds ++ es) (a ++ b)
sections_both lengths ds es a b first second = let is = first.items in let js = second.items in record {
  items = is ++ js;
  told = items_both is js a b first.told second.told;
  all = of_sections_both is js first.all second.all;
  flat = flat_map-append declared_by is js ∙ ap (λ xs. xs ++ flat_map declared_by js) first.flat ∙ ap (λ xs. ds ++ xs) second.flat;
  blocks = first.blocks ++ second.blocks;
  served = all_both IsSection first.blocks second.blocks first.served second.served;
  says = flat_map-append declared_in first.blocks second.blocks ∙ ap (λ xs. xs ++ flat_map declared_in second.blocks) first.says ∙ ap (λ xs. ds ++ xs) second.says;
  spelled = ap (λ bs. bs ++ b) first.spelled ∙ ap (λ bs. flat_map (block_spelled lengths) first.blocks ++ bs) second.spelled ∙ sym (flat_map-append (block_spelled lengths) first.blocks second.blocks);
}

pub sections_appended_both : (lengths : ℕ → ℕ) (ds es : List Declaration) (old mid new : List ℕ) → Appends old mid (TellsSections lengths ds) → Appends mid new (TellsSections lengths es) → Appends old new (TellsSections lengths (ds ++ es))
sections_appended_both lengths ds es old mid new (a, first, told) (b, second, told_too) = (a ++ b, second ∙ ap (λ bs. bs ++ b) first ∙ append_assoc old a b, sections_both lengths ds es a b told told_too)

pub anyway_appended_both : (ds es : List Declaration) (old mid new : List ℕ) → Appends old mid (TellsAnyway ds) → Appends mid new (TellsAnyway es) → Appends old new (TellsAnyway (ds ++ es))
anyway_appended_both ds es old mid new (a, first, told) (b, second, told_too) = (a ++ b, second ∙ ap (λ bs. bs ++ b) first ∙ append_assoc old a b, record { at = λ lengths. sections_both lengths ds es a b (told.at lengths) (told_too.at lengths) })

pub at_lengths : (lengths : ℕ → ℕ) (ds : List Declaration) (old new : List ℕ) → Appends old new (TellsAnyway ds) → Appends old new (TellsSections lengths ds)
at_lengths lengths ds old new (bytes, is, told) = (bytes, is, told.at lengths)

-- a list of which parts say parts
pub sections_joined : {X : Type 0} (lengths : ℕ → ℕ) (say : List X → List Declaration) → ((a b : List X) → say (a ++ b) ≡ say a ++ say b) → (a b : List X) (x y : List ℕ) → TellsSections lengths (say a) x → TellsSections lengths (say b) y → TellsSections lengths (say (a ++ b)) (x ++ y)
sections_joined lengths say both a b x y first second = subst (λ ds. TellsSections lengths ds (x ++ y)) (sym (both a b)) (sections_both lengths (say a) (say b) x y first second)

pub anyway_joined : {X : Type 0} (say : List X → List Declaration) → ((a b : List X) → say (a ++ b) ≡ say a ++ say b) → (a b : List X) (x y : List ℕ) → TellsAnyway (say a) x → TellsAnyway (say b) y → TellsAnyway (say (a ++ b)) (x ++ y)
anyway_joined say both a b x y first second = record { at = λ lengths. sections_joined lengths say both a b x y (first.at lengths) (second.at lengths) }

-- ---- a list, part by part
module _ {X : Type 0} (Tells : List X → List ℕ → Type 0) where
  -- these are written, and those are left
  pub record DoneTo (all left : List X) (old now : List ℕ) : Type 0 where
    pub done : List X
    pub parts : all ≡ done ++ left
    pub told : Appends old now (Tells done)

  pub done_none : Tells [] [] → (all : List X) (old : List ℕ) → DoneTo all all old old
  done_none none all old = record { done = []; parts = refl; told = ([], sym (append-nil old), none) }

  pub done_more : ((a b : List X) (x y : List ℕ) → Tells a x → Tells b y → Tells (a ++ b) (x ++ y)) → (all left here later : List X) (old now new : List ℕ) → DoneTo all left old now → left ≡ here ++ later → Appends now new (Tells here) → DoneTo all later old new
  done_more both all left here later old now new h cut (last, last_is, at) =
      let (bytes, first_is, told) = h.told in
      record {
        done = h.done ++ here;
        parts = h.parts ∙ ap (λ xs. h.done ++ xs) cut ∙ sym (append_assoc h.done here later);
        told = (bytes ++ last, last_is ∙ ap (λ bs. bs ++ last) first_is ∙ append_assoc old bytes last, both h.done here bytes last told at);
      }

  pub done_all : (all : List X) (old now : List ℕ) → DoneTo all [] old now → Appends old now (Tells all)
  done_all all old now h = subst (λ xs. Appends old now (Tells xs)) (sym (h.parts ∙ append-nil h.done)) h.told
