-- The codes of a string, in their C form.
use Rattle.std.specs.Prelude.{◌≡◌, ℕ, ◌<◌, ◌≤◌, ◌⊎◌, List, [], ◌∷◌, ◌++◌, drop, length, map, is_some, unwrap_or}
use Rattle.std.specs.Int.{from_bool}
use Rattle.cmap_values.specs.Only.{IsOnly}
use Rattle.cmap_layers.specs.Layers.{Layer}
use Rattle.cmap_layers.specs.Lookups.{cid_of}
use Rattle.cmap_layers.specs.StringCodes.{IsNextCode}
use Rattle.cmap_layers.specs.declared.string_codes.StringCode.{StringCode}
use Rattle.cmap_handles.specs.Statuses.{number}
use Rattle.cmap_c.specs.declared.decode.Code.{Code}
use Rattle.cmap_handles.specs.declared.status.Status.TheVariants.{Done, NoRoom}

-- the string begins with these codes, one after another, and `left` is the rest of the string
abbrev pub BeginsWith : List Layer → List ℕ → List StringCode → List ℕ → Type 0
BeginsWith layers string [] left = left ≡ string
BeginsWith layers string (code ∷ codes) left = IsOnly (IsNextCode layers string) code × BeginsWith layers (drop code.byte_len string) codes left

-- a code with its CID; a code without a CID has the number 0
abbrev pub code_seen : List Layer → StringCode → Code
code_seen layers found = record {
  code = found.code;
  cid = unwrap_or (cid_of layers found.code found.byte_len) 0;
  byte_len = found.byte_len;
  in_codespace = from_bool found.in_codespace;
  has_cid = from_bool (is_some (cid_of layers found.code found.byte_len));
  cut_short = from_bool found.cut_short;
}

-- the first codes of the string, with their CIDs, stand at the head of the buffer, and the rest of the buffer is unchanged; they are all codes of the string, or the buffer is
-- full
pub record IsDecoded (layers : List Layer) (string : List ℕ) (old new : List Code) (made taken status : ℕ) : Type 0 where
  pub found : List StringCode
  pub codes : BeginsWith layers string found (drop taken string)
  pub within : taken ≤ length string
  pub count : made ≡ length found
  pub written : new ≡ map (code_seen layers) found ++ drop made old
  pub end : ((status ≡ number Done) × (taken ≡ length string)) ⊎ ((status ≡ number NoRoom) × (taken < length string) × (made ≡ length old))
