-- What a search finds in lists of declarations, as clauses see these.
use Rattle.std.proofs.Common.{◌≡◌, ℕ, List, [], ◌∷◌, Option, Some, None, map, refl, sym, ap, ◌∙◌}
use Rattle.cmap_tokens.specs.Texts.{only_character}
use Rattle.std.specs.Prelude.{option_map, option_and_then, slice_get, unwrap_or}
use Rattle.std.proofs.lemmas.Option.{slice_get-map}
use Rattle.cmap_runs.specs.Ranges.{Span, last_index, last_of}
use Rattle.cmap_values.specs.CodeLengths.{length_of}
use Rattle.cmap_values.specs.DeclarationsSeen.{bf_entry_seen, bf_range_span, cid_entry_seen, cid_range_span, entries_seen, slot}
use Rattle.cmap_values.specs.Files.{BfEntry, CidEntry, of_length}
use Rattle.cmap_values.specs.declared.code_length.CodeLength.{CodeLength}
use Rattle.cmap_values.specs.declared.code_length.CodeLength.TheVariants.{One, Two, Three, Four}
use Rattle.cmap_values.specs.declared.declarations.BfRange.{BfRange}
use Rattle.cmap_values.specs.declared.declarations.ByLength.{ByLength}
use Rattle.cmap_values.specs.declared.declarations.CidRange.{CidRange}
use Rattle.cmap_layers.specs.LayersSeen.{by_length_seen}
use Rattle.cmap_layers.specs.Lookups.{bf_at, bf_span, cid_span, decided_cid, last_bf, last_cid}
use Rattle.cmap_layers.specs.LayersDecide.{character_at, decided_in, other_cid}

map-of-map : {A B C : Type 0} (f : B → C) (g : A → B) (xs : List A) → map f (map g xs) ≡ map (λ x. f (g x)) xs
map-of-map f g [] = refl
map-of-map f g (x ∷ xs) = ap (λ l. f (g x) ∷ l) (map-of-map f g xs)

got : {A B : Type 0} (g : A → B) (xs : List A) (o : Option ℕ) → option_and_then (slice_get (map g xs)) o ≡ option_map g (option_and_then (slice_get xs) o)
got g xs None = refl
got g xs (Some i) = slice_get-map g xs i

pub last_of-map : {A B : Type 0} (span : B → Span) (g : A → B) (xs : List A) (code : ℕ) → last_of span (map g xs) code ≡ option_map g (last_of (λ x. span (g x)) xs code)
last_of-map span g xs code = ap (λ spans. option_and_then (slice_get (map g xs)) (last_index spans code)) (map-of-map span g xs) ∙ got g xs (last_index (map (λ x. span (g x)) xs) code)

pub spans-map : {A B : Type 0} (span : B → Span) (g : A → B) (xs : List A) → map span (map g xs) ≡ map (λ x. span (g x)) xs
spans-map span g xs = map-of-map span g xs

-- the table for codes of a length is that of the length
pub searched : (tables : ByLength (List CidRange)) (len : CodeLength) → of_length (by_length_seen tables) (length_of len) ≡ entries_seen (slot tables len)
searched tables One = refl
searched tables Two = refl
searched tables Three = refl
searched tables Four = refl

-- a layer decides, or those below it do
pub decided_cid-decided_in : (code : ℕ) (cid notdef : Option CidEntry) (character below : Option ℕ) → decided_cid code cid notdef character below ≡ unwrap_or (decided_in code cid notdef character) below
decided_cid-decided_in code (Some e) notdef character below = refl
decided_cid-decided_in code None (Some e) character below = refl
decided_cid-decided_in code None None (Some c) below = refl
decided_cid-decided_in code None None None below = refl

decided_without_cid : (code : ℕ) (notdef : Option CidEntry) (character : Option ℕ) → option_map Some (other_cid notdef character) ≡ decided_in code None notdef character
decided_without_cid code (Some e) character = refl
decided_without_cid code None (Some c) = refl
decided_without_cid code None None = refl

-- what decides where no CID declaration does
pub decided_other : (code : ℕ) (cid notdef : Option CidEntry) (character other : Option ℕ) → None ≡ cid → other ≡ other_cid notdef character → option_map Some other ≡ decided_in code cid notdef character
decided_other code cid notdef character other none is = ap (option_map Some) is ∙ decided_without_cid code notdef character ∙ ap (λ o. decided_in code o notdef character) none

-- a character, where no notdef declaration does
pub other_character : (notdef : Option CidEntry) (character : Option ℕ) → notdef ≡ None → character ≡ other_cid notdef character
other_character notdef character none = sym (ap (λ o. other_cid o character) none)

pub no_character : (bfs : List BfEntry) (code : ℕ) → last_bf bfs code ≡ None → character_at bfs code ≡ None
no_character bfs code none = ap (λ o. only_character (option_and_then (λ e. bf_at e code) o)) none

pub no_last_cid : (cids : List CidRange) (code : ℕ) → last_of cid_range_span cids code ≡ None → last_cid (map cid_entry_seen cids) code ≡ None
no_last_cid cids code none = last_of-map cid_span cid_entry_seen cids code ∙ ap (option_map cid_entry_seen) none

pub no_last_bf : (bfs : List BfRange) (code : ℕ) → last_of bf_range_span bfs code ≡ None → last_bf (map bf_entry_seen bfs) code ≡ None
no_last_bf bfs code none = last_of-map bf_span bf_entry_seen bfs code ∙ ap (option_map bf_entry_seen) none
