-- Private aid: the glyphs of consecutive codes.
use Rattle.std.specs.Prelude.{◌≡◌, ◌↔◌, ℕ, ◌+◌, ◌-◌, ◌^◌, ◌<◌, ◌≤◌, List, length, Option, None, Some, IfSome, IsSome, option_map}
use Rattle.cmap_values.specs.BigEndian.{big_endian}
use Rattle.cmap_values.specs.CodeLengths.{length_of}
use Rattle.cmap_unicode.specs.Given.{Given}
use Rattle.cmap_encode.specs.Strings.{IsString}
use Rattle.cmap_encode.specs.Forms.{HaveCodes}
use Rattle.cmap_encode.specs.Maps.{Maps}
use Rattle.cmap_encode.specs.StandsFor.{IsSilent, reads_other}
use Rattle.cmap_encode.specs.declared.by_character.GlyphRow.{GlyphRow}
use Rattle.cmap_encode.specs.declared.code.Code.{Code}
use Rattle.cmap_encode.specs.declared.forms.Form.{Form}
use Rattle.cmap_encode.specs.declared.glyphs.Glyphs.{Glyphs}
use Rattle.cmap_encode.specs.declared.glyphs.Glyphs.TheVariants.{CountOn, Missing, Undeclared}
use Rattle.cmap_encode.specs.declared.glyphs.GlyphStretch.{GlyphStretch}
use Rattle.cmap_encode.specs.declared.silent.SilentStretch.{SilentStretch}

abbrev pub glyph_after : Glyphs → ℕ → Option ℕ
glyph_after (CountOn cid) k = Some (cid + k)
glyph_after Undeclared k = None
glyph_after Missing k = None

-- whether codes without a glyph are declared
abbrev pub IsDeclaredSo : Glyphs → Option Given → Type 0
IsDeclaredSo (CountOn cid) declared = Unit {0}
IsDeclaredSo Undeclared declared = declared ≡ None
IsDeclaredSo Missing declared = IsSome declared

-- glyphs are numbers of 32 bits, up to this many codes after the first
abbrev pub Fit : Glyphs → ℕ → Type 0
Fit (CountOn cid) more = cid + more < 2 ^ 32
Fit Undeclared more = Unit {0}
Fit Missing more = Unit {0}

-- codes from the first to the last one have these glyphs, and what is declared for them
pub record AreGlyphs (glyph : ℕ → Option ℕ) (said : ℕ → Option Given) (first : ℕ) (stretch : GlyphStretch) : Type 0 where
  pub within : first ≤ stretch.last
  pub glyphs : (count : ℕ) → first + count ≤ stretch.last → glyph (first + count) ≡ glyph_after stretch.glyphs count
  pub declared : (count : ℕ) → first + count ≤ stretch.last → IsDeclaredSo stretch.glyphs (said (first + count))
  pub fit : Fit stretch.glyphs (stretch.last - first)

-- the codes from this code to the last are all silent, with consecutive glyphs from the first glyph on, or none of the codes is silent
pub record AreSilent (maps : Maps) (code : Code) (stretch : SilentStretch) : Type 0 where
  pub within : code.number ≤ stretch.last
  pub fits : IfSome stretch.cid (λ cid. stretch.last < 256 ^ length_of code.len)
  pub silent : (count cid : ℕ) (bytes : List ℕ) → code.number + count ≤ stretch.last → IsString bytes → length bytes ≡ length_of code.len → big_endian bytes ≡ code.number + count
      → IsSilent maps cid bytes ↔ (option_map (λ first. first + count) stretch.cid ≡ Some cid)

-- consecutive characters have consecutive codes and consecutive glyphs, or none has
pub record AreOfCharacters (form : Form) (Has : ℕ → ℕ → Type 0) (first : ℕ) (row : GlyphRow) : Type 0 where
  pub within : first + row.more ≤ 0x10FFFF
  pub codes : HaveCodes form first (first + row.more) row.code
  pub fits : IfSome row.code (λ code. code.number + row.more < 256 ^ length_of code.len)
  pub glyphs : (count cid : ℕ) → count ≤ row.more → Has (first + count) cid ↔ (option_map (λ glyph. glyph + count) row.cid ≡ Some cid)

-- the collection's map reads the glyphs of characters in a row as other characters, or none so
abbrev pub AreReadSo : Maps → ℕ → GlyphRow → Type 0
AreReadSo maps first row = (count cid : ℕ) → count ≤ row.more → option_map (λ glyph. glyph + count) row.cid ≡ Some cid → reads_other maps (first + count) cid ≡ row.reads_other
