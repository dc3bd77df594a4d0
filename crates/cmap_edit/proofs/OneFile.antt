-- The answers of one file, by what its lists declare.
use Rattle.std.proofs.Common.{◌≡◌, ℕ, zero, suc, ◌+◌, ◌-◌, ◌<◌, ◌≤◌, ◌^◌, List, [], ◌∷◌, ◌++◌, Option, Some, None, inl, inr, refl, sym, ap, ◌∙◌, subst, arith}
use Rattle.std.specs.Prelude.{◌↔◌, Any, option_and_then, option_map, unwrap_or}
use Rattle.std.specs.List.{Contains}
use Rattle.std.specs.Option.{option_or}
use Rattle.std.proofs.lemmas.Bool.{cond-true}
use Rattle.std.proofs.lemmas.Bool.Decides.{nat_tests}
use Rattle.std.proofs.lemmas.List.Elements.{Contains-append_cases, Contains-append_left, Contains-append_right}
use Rattle.cmap_tokens.specs.Texts.{only_character}
use Rattle.cmap_values.specs.CodeLengths.{IsCodeLength, length_of}
use Rattle.cmap_values.specs.Files.{BfEntry, CidEntry, Codespace, File, FileMetadata, Lists, of_length}
use Rattle.cmap_values.specs.declared.code_length.CodeLength.{CodeLength}
use Rattle.cmap_values.specs.declared.code_length.CodeLength.TheVariants.{One, Two, Three, Four}
use Rattle.cmap_layers.specs.Layers.{Layer, layer_of}
use Rattle.cmap_layers.specs.LayersSeen.{layer_seen, layers_seen}
use Rattle.cmap_layers.specs.Lookups.{bf_at, bf_of, cid_at, cid_of, cid_span, decided_cid, decided_text, last_bf, last_cid}
use Rattle.cmap_layers.specs.StringCodes.{ranges_of}
use Rattle.cmap_layers.specs.declared.layer.Layer as declared
use Rattle.cmap_layers.proofs.LayerStretches.{has_code_length}
use Rattle.cmap_unicode.specs.Cids.{declared_cid}
use Rattle.cmap_edit.specs.Tidy.{AreTidyCids, notdef_at, notdef_said}
use Rattle.cmap_edit.specs.Chosen.{Chosen, ChosenNumber}
use Rattle.cmap_unicode.specs.Given.{as_cid, cid_given, given, given_by, notdef_given}
use Rattle.cmap_edit.specs.Parts.{AreAllKept, AreDeclared, AreLists, HasCidsOfOne, IsFileOf, text_said}
use Rattle.cmap_edit.specs.Subsets.{AnswersOnly, AreAllTidy, IsContradiction, IsFlat, IsSubset, cid_listed}
use Rattle.cmap_edit.specs.declared.flatten.answers.Contradiction.{Contradiction}
use Rattle.cmap_edit.specs.declared.flatten.codes.Codes.{Codes}
use Rattle.cmap_edit.proofs.AnyElements.{Any-nil}
use Rattle.cmap_edit.proofs.ChosenCodes.{found_one}
use Rattle.cmap_unicode.proofs.DeclaredStretches.{declared_is, number}

-- ---- a map of one layer
decided_is : (code : ℕ) (found : Option BfEntry) → decided_text code found None ≡ option_and_then (λ e. bf_at e code) found
decided_is code None = refl
decided_is code (Some e) = refl

pub one_text : (layer : Layer) (code : ℕ) → bf_of (layer ∷ []) code ≡ text_said layer.lists.bfs code
one_text layer code = decided_is code (last_bf layer.lists.bfs code)

-- a CID of a tidy list is a number of 32 bits
fits : (entries : List CidEntry) (code : ℕ) (e : CidEntry) → AreTidyCids entries → last_cid entries code ≡ Some e → cid_at e code ≡ Some (e.cid + (code - e.start))
fits entries code e tidy is =
    let (k, one, lt, at, (same, within)) = found_one cid_span entries code e is in
    let row = subst (λ (e : CidEntry). e.cid + (e.end - e.start) < 2 ^ 32) (at ∙ same) (tidy.rows k one lt).1 in
    let held = subst (λ (e : CidEntry). (e.start ≤ code) × (code ≤ e.end)) same within in
    let small : e.cid + (code - e.start) < 2 ^ 32 = omega (arith, row, held) in
    cond-true _ (Some (e.cid + (code - e.start))) None (grind (arith, nat_tests))

-- what is said of the code by the one declaration or the other
abbrev listed : ℕ → Option CidEntry → Option CidEntry → Option ℕ
listed code cid notdef = option_or (unwrap_or (option_map (λ e. cid_at e code) cid) None) (option_map (λ e. notdef_at e code) notdef)

only : (code : ℕ) (cid notdef : Option CidEntry) (fit : (e : CidEntry) → cid ≡ Some e → cid_at e code ≡ Some (e.cid + (code - e.start))) → number (unwrap_or (given_by code cid notdef) None) ≡ listed code cid notdef
only code (Some e) notdef fit = ap (λ cid. number (option_map as_cid cid)) (fit e refl) ∙ sym (ap (λ cid. option_or cid (option_map (λ e. notdef_at e code) notdef)) (fit e refl))
only code None (Some e) fit = refl
only code None None fit = refl

combined : (code : ℕ) (cid notdef : Option CidEntry) (character : Option ℕ) (fit : (e : CidEntry) → cid ≡ Some e → cid_at e code ≡ Some (e.cid + (code - e.start))) → decided_cid code cid notdef character None ≡ option_or (listed code cid notdef) character
combined code (Some e) notdef character fit = fit e refl ∙ sym (ap (λ cid. option_or (option_or cid (option_map (λ e. notdef_at e code) notdef)) character) (fit e refl))
combined code None (Some e) character fit = refl
combined code None None (Some c) fit = refl
combined code None None None fit = refl

-- the CID that its two lists give
abbrev pub said_by : Lists → ℕ → ℕ → Option ℕ
said_by lists code len = option_or (cid_listed (of_length lists.cids len) code) (notdef_said (of_length lists.notdefs len) code)

module _ (layer : Layer) (code : ℕ) (len : CodeLength) (tidy : AreTidyCids (of_length layer.lists.cids (length_of len))) where
  abbrev cid : Option CidEntry
  cid = last_cid (of_length layer.lists.cids (length_of len)) code

  abbrev notdef : Option CidEntry
  notdef = last_cid (of_length layer.lists.notdefs (length_of len)) code

  pub one_declared : declared_cid (layer ∷ []) code (length_of len) ≡ said_by layer.lists code (length_of len)
  one_declared = declared_is (layer ∷ []) code len ∙ only code cid notdef (λ e is. fits (of_length layer.lists.cids (length_of len)) code e tidy is)

  pub one_cid : cid_of (layer ∷ []) code (length_of len) ≡ option_or (said_by layer.lists code (length_of len)) (only_character (text_said layer.lists.bfs code))
  one_cid = has_code_length (layer ∷ []) code len ∙ combined code cid notdef (only_character (text_said layer.lists.bfs code)) (λ e is. fits (of_length layer.lists.cids (length_of len)) code e tidy is)

-- ---- the lists of one file
pub chosen_number : (chosen : List Codes) (code len : ℕ) → Chosen chosen code len → ChosenNumber chosen code
chosen_number chosen code len (k, one, lt, is, here) = (k, one, lt, is, here.1)

module _ (layers : List Layer) (chosen : List Codes) (lists : Lists) (are : AreLists layers chosen lists) where
  pub of_each : (len : CodeLength) → AreDeclared layers chosen (length_of len) (of_length lists.cids (length_of len)) (of_length lists.notdefs (length_of len))
  of_each One = are.one
  of_each Two = are.two
  of_each Three = are.three
  of_each Four = are.four

  -- a CID or a notdef, and so the CID that is declared
  pub declared_as : (len : CodeLength) (code : ℕ) → code < 2 ^ 32 → AnswersOnly (Chosen chosen code (length_of len)) (declared_cid layers code (length_of len)) (said_by lists code (length_of len))
  declared_as len code small =
      let n = length_of len in let cids = (of_each len).cids code small in let notdefs = (of_each len).notdefs code small in
      subst (λ whole. AnswersOnly (Chosen chosen code n) whole (said_by lists code n)) (sym (declared_is layers code len)) (
        λ is. ap (λ cid. option_or cid (notdef_said (of_length lists.notdefs n) code)) (cids.0 is) ∙ ap (option_or (cid_given (given layers code n))) (notdefs.0 is),
        λ none. ap (λ cid. option_or cid (notdef_said (of_length lists.notdefs n) code)) (cids.1 none) ∙ ap (option_or None) (notdefs.1 none),
      )

  pub cids_of_one : (metadata : FileMetadata) → HasCidsOfOne layers chosen (record { metadata = metadata; lists = lists } ∷ [])
  cids_of_one metadata code len small is =
      let layer : Layer = record { metadata = metadata; lists = lists } in
      one_cid layer code len (of_each len).tidy.0
      ∙ ap (λ cid. option_or cid (only_character (text_said lists.bfs code))) ((declared_as len code small).0 is)
      ∙ ap (λ text. option_or (declared_cid layers code (length_of len)) (only_character text)) ((are.texts.codes code small).0 (chosen_number chosen code (length_of len) is))

-- the codespace ranges of all layers
any_range : (space : Codespace) (layers : List Layer) → Contains (ranges_of layers) space ↔ Any (λ layer. Contains layer.lists.spaces space) layers
any_range space layers = (into layers, back layers) where
  into : (layers : List Layer) → Contains (ranges_of layers) space → Any (λ layer. Contains layer.lists.spaces space) layers
  into [] found = absurd (omega (arith, found.1))
  into (layer ∷ below) found = elim (Contains-append_cases layer.lists.spaces (ranges_of below) space found) [
    | inl here ↦ (0, layer, omega arith, refl, here)
    | inr later ↦ let (k, one, lt, is, holds) = into below later in (suc k, one, omega arith, is, holds)
  ]

  back : (layers : List Layer) → Any (λ layer. Contains layer.lists.spaces space) layers → Contains (ranges_of layers) space
  back [] any = absurd (Any-nil (λ layer. Contains layer.lists.spaces space) any)
  back (layer ∷ below) (zero, one, lt, is, holds) = Contains-append_left layer.lists.spaces (ranges_of below) space (subst (λ (l : Layer). Contains l.lists.spaces space) (sym is) holds)
  back (layer ∷ below) (suc k, one, lt, is, holds) = Contains-append_right layer.lists.spaces (ranges_of below) space (back below (k, one, omega arith, is, holds))

-- ---- one file
-- a length that codes have
of_count : (len : ℕ) → IsCodeLength len → (of : CodeLength) × (length_of of ≡ len)
of_count zero few = absurd (omega (arith, few))
of_count (suc zero) few = (One, refl)
of_count (suc (suc zero)) few = (Two, refl)
of_count (suc (suc (suc zero))) few = (Three, refl)
of_count (suc (suc (suc (suc zero)))) few = (Four, refl)
of_count (suc (suc (suc (suc (suc n))))) few = absurd (omega (arith, few))

pub is_subset : (layers : List Layer) (chosen : List Codes) (file : File) → IsFileOf layers chosen file → AreAllKept layers chosen → IsSubset layers chosen file
is_subset layers chosen file are kept =
    let layer = layer_of file in let lists = are.lists in
    record {
      metadata = are.metadata;
      uses = are.uses;
      spaces = λ space.
          let (into, back) = any_range space layers in let (kept, found) = lists.spaces.same space in
          (λ own. into (found own), λ any. kept (back any));
      spaces_once = lists.spaces.once;
      declared = λ code count small few.
          let (len, is) = of_count count few in
          subst (λ count. AnswersOnly (Chosen chosen code count) (declared_cid layers code count) (declared_cid (layer ∷ []) code count)) is
          (subst (AnswersOnly (Chosen chosen code (length_of len)) (declared_cid layers code (length_of len))) (sym (one_declared layer code len (of_each layers chosen file.lists lists len).tidy.0)) (declared_as layers chosen file.lists lists len code small));
      cids = λ code count small few.
          let (len, is) = of_count count few in
          subst (λ count. AnswersOnly (Chosen chosen code count) (cid_given (given layers code count)) (cid_listed (of_length file.lists.cids count) code)) is ((of_each layers chosen file.lists lists len).cids code small);
      notdefs = λ code count small few.
          let (len, is) = of_count count few in
          subst (λ count. AnswersOnly (Chosen chosen code count) (notdef_given (given layers code count)) (notdef_said (of_length file.lists.notdefs count) code)) is ((of_each layers chosen file.lists lists len).notdefs code small);
      texts = λ code small. subst (AnswersOnly (ChosenNumber chosen code) (bf_of layers code)) (sym (one_text layer code)) (lists.texts.codes code small);
      answers = λ code count small few.
          let (len, is) = of_count count few in
          subst (λ count. Chosen chosen code count → cid_of (layer ∷ []) code count ≡ cid_of layers code count) is
          (λ one. cids_of_one layers chosen file.lists lists file.metadata code len small one ∙ sym (kept len code small one));
      tidy = record { one = lists.one.tidy; two = lists.two.tidy; three = lists.three.tidy; four = lists.four.tidy; texts = lists.texts.tidy };
    }

-- a file for all codes
pub is_flat : (layers : List Layer) (chosen : List Codes) (file : File) → ((code len : ℕ) → code < 2 ^ 32 → IsCodeLength len → Chosen chosen code len) → IsSubset layers chosen file → IsFlat layers file
is_flat layers chosen file all is = record {
  metadata = is.metadata;
  uses = is.uses;
  spaces = is.spaces;
  spaces_once = is.spaces_once;
  declared = λ code len small few. (λ _. (is.declared code len small few).0 (all code len small few), λ none. absurd (none tt));
  cids = λ code len small few. (λ _. (is.cids code len small few).0 (all code len small few), λ none. absurd (none tt));
  notdefs = λ code len small few. (λ _. (is.notdefs code len small few).0 (all code len small few), λ none. absurd (none tt));
  texts = λ code small. (λ _. (is.texts code small).0 (chosen_number chosen code 1 (all code 1 small (omega arith, omega arith))), λ none. absurd (none tt));
  answers = λ code len small few _. is.answers code len small few (all code len small few);
  tidy = is.tidy;
}

-- a map of one layer with such lists
pub flat_of : (layers : List Layer) (chosen : List Codes) (lists : Lists) {metadata : FileMetadata} (flat : List Layer) (none one : List declared.Layer) (layer : declared.Layer) → AreLists layers chosen lists
    → flat ≡ layers_seen one → one ≡ none ++ layer ∷ [] → none ≡ [] → layer_seen layer ≡ record { metadata = metadata; lists = lists } → HasCidsOfOne layers chosen flat
flat_of layers chosen lists {metadata} flat none one layer are seen pushed empty is =
    subst (HasCidsOfOne layers chosen) (sym (seen ∙ ap layers_seen (pushed ∙ ap (λ none. none ++ layer ∷ []) empty) ∙ ap (λ l. l ∷ []) is)) (cids_of_one layers chosen lists are metadata)

-- ---- what is refused
some_bytes : (len : CodeLength) → IsCodeLength (length_of len)
some_bytes One = (omega arith, omega arith)
some_bytes Two = (omega arith, omega arith)
some_bytes Three = (omega arith, omega arith)
some_bytes Four = (omega arith, omega arith)

tidy_cids : (lists : Lists) → AreAllTidy lists → (len : CodeLength) → AreTidyCids (of_length lists.cids (length_of len))
tidy_cids lists tidy One = tidy.one.0
tidy_cids lists tidy Two = tidy.two.0
tidy_cids lists tidy Three = tidy.three.0
tidy_cids lists tidy Four = tidy.four.0

-- where a chosen code has a contradiction, no file has the answers for the chosen codes
pub no_subset : (layers : List Layer) (chosen : List Codes) (at : Contradiction) (file : File) → at.code < 2 ^ 32 → IsContradiction layers chosen at → IsSubset layers chosen file → ⊥
no_subset layers chosen at file small refused is =
    let layer = layer_of file in let code = at.code in let len = length_of at.len in let few = some_bytes at.len in
    let declared = sym (one_declared layer code at.len (tidy_cids file.lists is.tidy at.len)) ∙ (is.declared code len small few).0 refused.0 in
    let text = sym (one_text layer code) ∙ (is.texts code small).0 (chosen_number chosen code len refused.0) in
    refused.1 (sym (is.answers code len small few refused.0) ∙ one_cid layer code at.len (tidy_cids file.lists is.tidy at.len)
    ∙ ap (λ cid. option_or cid (only_character (text_said file.lists.bfs code))) declared ∙ ap (λ text. option_or (declared_cid layers code len) (only_character text)) text)

-- a file with the answers of all codes is one of chosen codes that are all
pub all_subset : (layers : List Layer) (chosen : List Codes) (file : File) → ((code len : ℕ) → code < 2 ^ 32 → IsCodeLength len → Chosen chosen code len) → IsFlat layers file → IsSubset layers chosen file
all_subset layers chosen file all is = record {
  metadata = is.metadata;
  uses = is.uses;
  spaces = is.spaces;
  spaces_once = is.spaces_once;
  declared = λ code len small few. (λ _. (is.declared code len small few).0 tt, λ none. absurd (none (all code len small few)));
  cids = λ code len small few. (λ _. (is.cids code len small few).0 tt, λ none. absurd (none (all code len small few)));
  notdefs = λ code len small few. (λ _. (is.notdefs code len small few).0 tt, λ none. absurd (none (all code len small few)));
  texts = λ code small. (λ _. (is.texts code small).0 tt, λ none. absurd (none (chosen_number chosen code 1 (all code 1 small (omega arith, omega arith)))));
  answers = λ code len small few _. is.answers code len small few tt;
  tidy = is.tidy;
}
