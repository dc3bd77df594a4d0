-- The CIDs of codes in a row, written part by part and table by table.
use Rattle.std.proofs.Common.{◌≡◌, ℕ, Bool, ◌+◌, ◌-◌, ◌<◌, ◌≤◌, ◌^◌, List, ◌∷◌, length, set, get_or-set_same, get_or-set_other, Option, Some, None, refl, sym, ap, ◌∙◌, subst, inl, inr, true, false, arith, rules}
use Rattle.std.specs.Prelude.{◌&&◌, map, nat_le, nat_lt, option_and_then, option_map, slice_index, unwrap_or, IsTrue, if◌then◌else◌}
use Rattle.std.proofs.lemmas.Bool.{and_from, and_parts, cases_eq, cases_lt, le-leb, leb-true, lt-ltb, le-ltb}
use Rattle.std.proofs.lemmas.Bool.Decides.{nat_tests}
use Rattle.std.proofs.lemmas.List.{places}
use borrow.Rule.Slice.PartMut.{mid_of, put_mid}
use Rattle.cmap_tokens.specs.Texts.{only_character}
use Rattle.cmap_values.specs.CodeLengths.{IsCodeLength}
use Rattle.cmap_runs.specs.Ranges.{Span, contains}
use Rattle.cmap_runs.specs.Stretches.{IsStretch}
use Rattle.cmap_values.specs.DeclarationsSeen.{bf_entry_seen, bf_range_span, cid_entry_seen, cid_range_span, entries_seen}
use Rattle.cmap_values.specs.Files.{CidEntry, of_length}
use Rattle.cmap_values.specs.declared.declarations.BfRange.{BfRange}
use Rattle.cmap_values.specs.declared.declarations.CidRange.{CidRange}
use Rattle.cmap_layers.specs.Layers.{Layer}
use Rattle.cmap_layers.specs.Lookups.{bf_at, bf_span, cid_in, cid_span, decided_cid, last_bf, last_cid}
use Rattle.cmap_layers.specs.Rows.{AreCidsOf, cid_or}
use Rattle.cmap_layers.specs.RowsWritten.{IsWritten, character_said, cid_said, given}
use Rattle.cmap_layers.specs.declared.row.Kind.{Kind}
use Rattle.cmap_layers.specs.declared.row.Kind.TheVariants.{Cids, Notdefs}
use Rattle.cmap_layers.proofs.LastFound.{last_of-map}

-- ---- up to an index
pub record IsWrittenTo (said : ℕ → Option ℕ) (first : ℕ) (old new : List ℕ) (end : ℕ) : Type 0 where
  pub codes : (k : ℕ) → k < end → slice_index new k ≡ unwrap_or (said (first + k)) (slice_index old k)
  pub rest : (k : ℕ) → end ≤ k → slice_index new k ≡ slice_index old k

-- of no code so far
pub written_none : (said : ℕ → Option ℕ) (first : ℕ) (old : List ℕ) → IsWrittenTo said first old old 0
written_none said first old = record { codes = λ k lt. absurd (omega arith); rest = λ k le. refl }

-- of all that 32 bits write
pub written_all : (said : ℕ → Option ℕ) (first : ℕ) (old new : List ℕ) (end : ℕ) → IsWrittenTo said first old new end → first + end ≤ 2 ^ 32 → ((k : ℕ) → k < length new → first + k < 2 ^ 32 → k < end) → IsWritten said first old new
written_all said first old new end written fits all = record {
  codes = λ k lt below. written.codes k (all k lt below);
  others = λ k past. written.rest k (omega arith);
}

-- nothing is said of the next codes
pub gap_written : (said : ℕ → Option ℕ) (first : ℕ) (old new : List ℕ) (from end : ℕ) → IsWrittenTo said first old new from
    → ((k : ℕ) → from ≤ k → k < end → said (first + k) ≡ None) → from ≤ end → IsWrittenTo said first old new end
gap_written said first old new from end written none le = record {
  codes = λ k lt.
      elim (cases_lt k from) [
        | inl before ↦ written.codes k before
        | inr after ↦ written.rest k after ∙ sym (ap (λ o. unwrap_or o (slice_index old k)) (none k after lt))
      ];
  rest = λ k within. written.rest k (omega arith);
}

-- something is said of the next codes
pub part_written : (said : ℕ → Option ℕ) (first : ℕ) (old new part : List ℕ) (from end : ℕ) → IsWrittenTo said first old new from
    → length part ≡ end - from → from ≤ end → end ≤ length new
    → ((j : ℕ) → j < length part → slice_index part j ≡ unwrap_or (said (first + (from + j))) (slice_index (mid_of from (end - from) new) j))
    → IsWrittenTo said first old (put_mid from (end - from) new part) end
part_written said first old new part from end written len le within is =
    let front : (k : ℕ) → k < from → slice_index (put_mid from (end - from) new part) k ≡ slice_index new k = λ k lt. search (rules, places) in
    let middle : (j : ℕ) → j < length part → slice_index (put_mid from (end - from) new part) (from + j) ≡ slice_index part j = λ j lt. search (rules, places) in
    let back : (k : ℕ) → end ≤ k → slice_index (put_mid from (end - from) new part) k ≡ slice_index new k = λ k le. search (rules, places) in
    let was : (j : ℕ) → j < length part → slice_index (mid_of from (end - from) new) j ≡ slice_index new (from + j) = λ j lt. search (rules, places) in
    record {
      codes = λ k lt.
          elim (cases_lt k from) [
            | inl before ↦ front k before ∙ written.codes k before
            | inr after ↦ (let j = k - from in let at : k ≡ from + j = omega arith in let few : j < length part = omega arith in
                subst (λ i. slice_index (put_mid from (end - from) new part) i ≡ unwrap_or (said (first + i)) (slice_index old i)) (sym at)
                (middle j few ∙ is j few ∙ ap (unwrap_or (said (first + (from + j)))) (was j few ∙ written.rest (from + j) (omega arith))))
          ];
      rest = λ k past. back k past ∙ written.rest k (omega arith);
    }

-- what is said of the next code, if something is
pub one_written : (said : ℕ → Option ℕ) (first : ℕ) (old now : List ℕ) (at value : ℕ) → IsWrittenTo said first old now at → at < length now → value ≡ unwrap_or (said (first + at)) (slice_index old at) → IsWrittenTo said first old (set now at value) (at + 1)
one_written said first old now at value written within is = record {
  codes = λ k lt.
      elim (cases_eq k at) [
        | inl same ↦ subst (λ i. slice_index (set now at value) i ≡ unwrap_or (said (first + i)) (slice_index old i)) (sym same) (get_or-set_same now at value 0 within ∙ is)
        | inr other ↦ get_or-set_other now at k value 0 other ∙ written.codes k (omega arith)
      ];
  rest = λ k past. get_or-set_other now at k value 0 (λ same. omega arith) ∙ written.rest k (omega arith);
}

-- a declaration that contains a code starts no later
pub starts_before : (span : Span) (code : ℕ) → IsTrue (contains span code) → span.start ≤ code
starts_before span code within = leb-true span.start code (and_parts _ _ within).0

-- ---- what a table says of the codes of a stretch
said_of : (kind : Kind) (code : ℕ) (d : Option CidRange) → option_map (λ e. given kind e code) (option_map cid_entry_seen d) ≡ option_map (λ x. given kind (cid_entry_seen x) code) d
said_of kind code None = refl
said_of kind code (Some x) = refl

pub cid_said_in : (kind : Kind) (table : List CidRange) (next last code : ℕ) (d : Option CidRange) → IsStretch cid_range_span table next last d → next ≤ code → code ≤ last
    → cid_said kind (entries_seen table) code ≡ option_map (λ x. given kind (cid_entry_seen x) code) d
cid_said_in kind table next last code d same le within =
    ap (option_map (λ e. given kind e code)) (last_of-map cid_span cid_entry_seen table code ∙ ap (option_map cid_entry_seen) (same code le within)) ∙ said_of kind code d

character_of : (code : ℕ) (d : Option BfRange) → only_character (option_and_then (λ e. bf_at e code) (option_map bf_entry_seen d)) ≡ only_character (option_and_then (λ x. bf_at (bf_entry_seen x) code) d)
character_of code None = refl
character_of code (Some x) = refl

pub character_said_in : (table : List BfRange) (next last code : ℕ) (d : Option BfRange) → IsStretch bf_range_span table next last d → next ≤ code → code ≤ last
    → character_said (map bf_entry_seen table) code ≡ only_character (option_and_then (λ x. bf_at (bf_entry_seen x) code) d)
character_said_in table next last code d same le within =
    ap (λ o. only_character (option_and_then (λ e. bf_at e code) o)) (last_of-map bf_span bf_entry_seen table code ∙ ap (option_map bf_entry_seen) (same code le within)) ∙ character_of code d

-- ---- layer by layer
abbrev pub cid_in_or : List Layer → ℕ → ℕ → ℕ → ℕ
cid_in_or layers len absent code = if nat_lt code (2 ^ 32) then unwrap_or (cid_in layers code len) absent else absent

abbrev pub AreCidsIn : List Layer → ℕ → ℕ → ℕ → List ℕ → Type 0
AreCidsIn layers len absent first cids = (k : ℕ) → k < length cids → slice_index cids k ≡ cid_in_or layers len absent (first + k)

decided_or : (absent code : ℕ) (cid notdef : Option CidEntry) (character below : Option ℕ)
    → unwrap_or (option_map (λ e. given (Cids absent) e code) cid) (unwrap_or (option_map (λ e. given Notdefs e code) notdef) (unwrap_or character (unwrap_or below absent)))
    ≡ unwrap_or (decided_cid code cid notdef character below) absent
decided_or absent code (Some e) notdef character below = refl
decided_or absent code None (Some e) character below = refl
decided_or absent code None None (Some c) below = refl
decided_or absent code None None None below = refl

pub layer_written : (layer : Layer) (below : List Layer) (len absent first : ℕ) (old texts notdefs new : List ℕ)
    → AreCidsIn below len absent first old → length new ≡ length old → length new ≡ length texts → length new ≡ length notdefs
    → IsWritten (character_said layer.lists.bfs) first old texts → IsWritten (cid_said Notdefs (of_length layer.lists.notdefs len)) first texts notdefs
    → IsWritten (cid_said (Cids absent) (of_length layer.lists.cids len)) first notdefs new → AreCidsIn (layer ∷ below) len absent first new
layer_written layer below len absent first old texts notdefs new are same_old same_texts same_notdefs characters second third = λ k lt.
    let code = first + k in
    elim (cases_lt code (2 ^ 32)) [
      | inl fits ↦
          let was = are k (omega arith) ∙ ap (λ b. if b then unwrap_or (cid_in below code len) absent else absent) (lt-ltb code (2 ^ 32) fits) in
          let written = third.codes k lt fits
          ∙ ap (unwrap_or (cid_said (Cids absent) (of_length layer.lists.cids len) code)) (second.codes k (omega arith) fits
          ∙ ap (unwrap_or (cid_said Notdefs (of_length layer.lists.notdefs len) code)) (characters.codes k (omega arith) fits
          ∙ ap (unwrap_or (character_said layer.lists.bfs code)) was)) in
          written ∙ decided_or absent code (last_cid (of_length layer.lists.cids len) code) (last_cid (of_length layer.lists.notdefs len) code)
          (only_character (option_and_then (λ e. bf_at e code) (last_bf layer.lists.bfs code))) (cid_in below code len) ∙ sym (ap (λ b. if b then unwrap_or (cid_in (layer ∷ below) code len) absent else absent) (lt-ltb code (2 ^ 32) fits))
      | inr past ↦
          third.others k past ∙ second.others k past ∙ characters.others k past ∙ are k (omega arith)
          ∙ ap (λ b. if b then unwrap_or (cid_in below code len) absent else absent) (le-ltb code (2 ^ 32) past)
          ∙ sym (ap (λ b. if b then unwrap_or (cid_in (layer ∷ below) code len) absent else absent) (le-ltb code (2 ^ 32) past))
    ]

-- ---- all layers
pub all_layers_written : (layers : List Layer) (len absent first : ℕ) (cids : List ℕ) → IsCodeLength len → AreCidsIn layers len absent first cids → AreCidsOf layers len absent first cids
unfolding cid_or
all_layers_written layers len absent first cids few are = λ k lt.
    let within : nat_le 1 len && nat_le len 4 ≡ true = and_from _ _ (le-leb 1 len few.0) (le-leb len 4 few.1) in
    are k lt ∙ ap (λ b. if nat_lt (first + k) (2 ^ 32) then unwrap_or (if b then cid_in layers (first + k) len else None) absent else absent) (sym within)

same_either : (b : Bool) (n : ℕ) → (if b then n else n) ≡ n
same_either true n = refl
same_either false n = refl

no_cid : (layers : List Layer) (len absent code : ℕ) → (IsCodeLength len → ⊥) → cid_or layers len absent code ≡ absent
unfolding cid_or
no_cid layers len absent code none =
    let outside : nat_le 1 len && nat_le len 4 ≡ false = grind (arith, nat_tests) in
    ap (λ b. if nat_lt code (2 ^ 32) then unwrap_or (if b then cid_in layers code len else None) absent else absent) outside ∙ same_either (nat_lt code (2 ^ 32)) absent

pub no_length_written : (layers : List Layer) (len absent first : ℕ) (cids : List ℕ) → (IsCodeLength len → ⊥) → ((k : ℕ) → k < length cids → slice_index cids k ≡ absent) → AreCidsOf layers len absent first cids
no_length_written layers len absent first cids none are = λ k lt. are k lt ∙ sym (no_cid layers len absent (first + k) none)
