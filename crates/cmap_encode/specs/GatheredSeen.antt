-- Private aid: the codes that runs give to texts and to glyphs.
use Rattle.std.specs.Prelude.{◌≡◌, ◌↔◌, ℕ, ◌+◌, ◌<◌, ◌≤◌, ◌⊎◌, List, [], ◌∷◌, All, Any, Option, None, Some, MatchOption, option_map}
use Rattle.cmap_tokens.specs.Texts.{Text}
use Rattle.cmap_layers.specs.Layers.{Layer}
use Rattle.cmap_unicode.specs.CountedTexts.{text_after}
use Rattle.cmap_unicode.specs.TextsOfCodes.{text_in}
use Rattle.cmap_encode.specs.Codes.{IsBefore, code_bytes}
use Rattle.cmap_encode.specs.GlyphCodesSeen.{codes_by_place}
use Rattle.cmap_encode.specs.KeyCodesSeen.{Gives, IsCodeRun, code_for}
use Rattle.cmap_encode.specs.Forms.{code_in}
use Rattle.cmap_encode.specs.GlyphsSeen.{glyph_after}
use Rattle.cmap_encode.specs.Maps.{Maps, Unicode, glyph_of}
use Rattle.cmap_encode.specs.Ranks.{Candidate, as_ranked}
use Rattle.cmap_encode.specs.RunsSeen.{AreRunsByPrefix, GivesText}
use Rattle.cmap_encode.specs.StandsFor.{HasGlyph, HasText, IsShown, IsSilent, IsStated, reads_other}
use Rattle.cmap_encode.specs.declared.code.Code.{Code}
use Rattle.cmap_encode.specs.declared.key_codes.CodeRun.{CodeRun}
use Rattle.cmap_encode.specs.declared.glyph_codes.GlyphCodes.{GlyphCodes}
use Rattle.cmap_encode.specs.declared.gathered.Gathered.{Gathered}
use Rattle.cmap_encode.specs.declared.glyphs.Glyphs.{Glyphs}
use Rattle.cmap_encode.specs.declared.rank.Rank.TheVariants.{Canonical, Collection, OwnForm, Stated}
use Rattle.cmap_encode.specs.declared.rank.Ranked.{Ranked}
use Rattle.cmap_encode.specs.declared.runs_by_prefix.RunsByPrefix.{RunsByPrefix}

-- the candidates of a kind before a limit are given, and no others
abbrev pub AreJust : ℕ → ℕ → (Candidate → Type 0) → (Candidate → Type 0) → Type 0
AreJust len limit Kind Given = (candidate : Candidate) → Given candidate ↔ (IsBefore len limit candidate.bytes × Kind candidate)

abbrev pub IsStatedOne : Maps → List ℕ → Candidate → Type 0
IsStatedOne maps text candidate = (candidate.rank ≡ Stated) × IsStated maps text candidate.bytes

-- runs of silent codes by their glyphs all have the same rank
abbrev pub IsSilentOne : Maps → ℕ → Candidate → Type 0
IsSilentOne maps cid candidate = (candidate.rank ≡ Collection) × IsSilent maps cid candidate.bytes

pub record AreGathered (maps : Maps) (len limit : ℕ) (gathered : Gathered) : Type 0 where
  pub texts : AreRunsByPrefix gathered.texts
  pub cids : All IsCodeRun gathered.cids.items
  pub stated : (text : List ℕ) → AreJust len limit (IsStatedOne maps text) (GivesText gathered.texts text)
  pub silent : (cid : ℕ) → AreJust len limit (IsSilentOne maps cid) (λ candidate. Any (Gives cid candidate) gathered.cids.items)

-- the map has texts for codes from the first to the last, and the texts are consecutive from this text on
abbrev pub HasTexts : Option (List Layer) → ℕ → ℕ → Text → Type 0
HasTexts map first last its = (count : ℕ) → first + count ≤ last → text_in map (first + count) ≡ Some (text_after its count)

-- the map has no texts for codes from the first to the last
abbrev pub HasNoTexts : Option (List Layer) → ℕ → ℕ → Type 0
HasNoTexts map first last = (code : ℕ) → first ≤ code → code ≤ last → text_in map code ≡ None

-- codes of len bytes from the first to the last one have a glyph where they are declared
abbrev pub AreShown : Maps → ℕ → ℕ → ℕ → Type 0
AreShown maps len first last = (count : ℕ) → first + count ≤ last → IsShown maps (first + count) len

-- codes of len bytes from the first to the last have these glyphs
abbrev pub HaveGlyphs : Maps → ℕ → ℕ → ℕ → Glyphs → Type 0
HaveGlyphs maps len first last glyphs = (count : ℕ) → first + count ≤ last → glyph_of maps (first + count) len ≡ glyph_after glyphs count

-- the candidate is the first code of a CID that has the text, from a first CID on and below a limit
pub record GivesFirst (collection : Option (List Layer)) (firsts : List CodeRun) (first limit : ℕ) (text : List ℕ) (candidate : Candidate) : Type 0 where
  pub cid : ℕ
  pub from : first ≤ cid
  pub below : cid < limit
  pub given : option_map (as_ranked Collection) (code_for firsts cid) ≡ Some candidate
  pub has : HasText collection cid text

-- the first codes of these CIDs are added
abbrev pub AddsCids : Option (List Layer) → List CodeRun → ℕ → ℕ → RunsByPrefix → RunsByPrefix → Type 0
AddsCids collection firsts first limit old new = (text : List ℕ) (candidate : Candidate) → GivesText new text candidate ↔ (GivesText old text candidate ⊎ GivesFirst collection firsts first limit text candidate)

-- a code for a character, from a first one on and below a limit, by its glyph: the first code of the glyph, or the last one where the collection's map reads it as another character, or the code of the character in the form of the map from Unicode
pub record GivesCharacter (maps : Maps) (unicode : Unicode) (glyphs : GlyphCodes) (first limit : ℕ) (text : List ℕ) (candidate : Candidate) : Type 0 where
  pub character : ℕ
  pub from : first ≤ character
  pub below : character < limit
  pub is_text : text ≡ character ∷ []
  pub cid : ℕ
  pub glyph : HasGlyph maps unicode character cid
  pub chosen : (option_map (as_ranked Canonical) (code_for (codes_by_place glyphs (reads_other maps character cid)) cid) ≡ Some candidate) ⊎ ((candidate.rank ≡ OwnForm) × IsSilent maps cid candidate.bytes × (option_map code_bytes (code_in unicode.form character) ≡ Some candidate.bytes))

-- the codes for these characters are added
abbrev pub AddsGlyphs : Maps → Unicode → GlyphCodes → ℕ → ℕ → RunsByPrefix → RunsByPrefix → Type 0
AddsGlyphs maps unicode glyphs first limit old new = (text : List ℕ) (candidate : Candidate) → GivesText new text candidate ↔ (GivesText old text candidate ⊎ GivesCharacter maps unicode glyphs first limit text candidate)

-- for all characters, if there is a map from Unicode
abbrev pub AddsAllGlyphs : Maps → GlyphCodes → RunsByPrefix → RunsByPrefix → Type 0
AddsAllGlyphs maps glyphs old new = MatchOption maps.unicode (new ≡ old) (λ unicode. AddsGlyphs maps unicode glyphs 0 0x110000 old new)

-- of a code in a form: the code itself, where its glyph is this one
abbrev pub IsOwnFormOf : Code → Option ℕ → ℕ → Option Ranked → Type 0
IsOwnFormOf code silent cid found = MatchOption found (silent ≡ Some cid → ⊥) (λ ranked. (silent ≡ Some cid) × (ranked ≡ record { code = code; rank = OwnForm }))
