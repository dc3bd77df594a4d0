-- Private aid: what the tables of a layer write for codes in a row.
use Rattle.std.specs.Prelude.{◌≡◌, ℕ, ◌+◌, ◌<◌, ◌≤◌, ◌^◌, List, length, slice_index, Option, option_and_then, option_map, unwrap_or}
use Rattle.cmap_tokens.specs.Texts.{only_character}
use Rattle.cmap_values.specs.Files.{BfEntry, CidEntry}
use Rattle.cmap_layers.specs.Lookups.{bf_at, cid_at, last_bf, last_cid}
use Rattle.cmap_layers.specs.declared.row.Kind.{Kind}
use Rattle.cmap_layers.specs.declared.row.Kind.TheVariants.{Cids, Notdefs}

-- the CID that a declaration gives to a code that it contains
abbrev pub given : Kind → CidEntry → ℕ → ℕ
given (Cids absent) e code = unwrap_or (cid_at e code) absent
given Notdefs e code = e.cid

-- the CID that a table gives to a code, if there is one
abbrev pub cid_said : Kind → List CidEntry → ℕ → Option ℕ
cid_said kind entries code = option_map (λ e. given kind e code) (last_cid entries code)

abbrev pub character_said : List BfEntry → ℕ → Option ℕ
character_said entries code = only_character (option_and_then (λ e. bf_at e code) (last_bf entries code))

-- codes from the first one on have the CIDs that `said` gives them; codes without such a CID, and numbers past 32 bits, stay as they were
pub record IsWritten (said : ℕ → Option ℕ) (first : ℕ) (old new : List ℕ) : Type 0 where
  pub codes : (k : ℕ) → k < length new → first + k < 2 ^ 32 → slice_index new k ≡ unwrap_or (said (first + k)) (slice_index old k)
  pub others : (k : ℕ) → 2 ^ 32 ≤ first + k → slice_index new k ≡ slice_index old k
