-- What contracts see of a token: its kind and its bytes, without their place in memory.
use Rattle.std.specs.Prelude.{ℕ, Bool, List, Result, Ok, Err}
use Rattle.cmap_tokens.specs.declared.token.Name.{Name}
use Rattle.cmap_tokens.specs.declared.token.StringToken.{StringToken}
use Rattle.cmap_tokens.specs.declared.token.Token.{Token}
use Rattle.cmap_tokens.specs.declared.token.Token.TheVariants as token
use Rattle.cmap_tokens.specs.declared.token.Malformed.{Malformed}
use Rattle.cmap_tokens.specs.declared.token.Malformed.TheVariants as seen
use Rattle.cmap_tokens.specs.declared.token.piece_reader.MalformedPiece.{MalformedPiece}
use Rattle.cmap_tokens.specs.declared.token.piece_reader.Piece.{Piece}
use Rattle.cmap_tokens.specs.Malformed as malformed
use Rattle.cmap_tokens.specs.NumberSeen.{number_seen}
use Rattle.cmap_tokens.specs.Pieces as pieces
use Rattle.cmap_tokens.specs.Pieces.{Wrong}
use Rattle.cmap_tokens.specs.Tokens as tokens

abbrev pub name_is_literal : Name → Bool
name_is_literal name = name.literal

-- the bytes of a name, without the slash
abbrev pub bytes_of_name : Name → List ℕ
bytes_of_name name = name.bytes.now

-- the bytes of a string, with its brackets
abbrev pub string_raw : StringToken → List ℕ
string_raw string = string.raw.now

abbrev pub token_seen : Token → tokens.Token
token_seen (token.Name name) = tokens.Name (name_is_literal name) (bytes_of_name name)
token_seen (token.String string) = tokens.String (string_raw string)
token_seen (token.Number number) = tokens.Numeral (number_seen number)

-- why a piece is no token
abbrev pub malformed_seen : Malformed → malformed.Malformed
malformed_seen seen.UnclosedText = malformed.unclosed_text
malformed_seen seen.UnclosedHexadecimal = malformed.unclosed_hexadecimal
malformed_seen seen.WrongDigit = malformed.wrong_digit
malformed_seen seen.Stray = malformed.stray

abbrev pub wrong_seen : MalformedPiece → Wrong
wrong_seen piece = record { kind = malformed_seen piece.kind; offset = piece.offset }

abbrev pub piece_token_seen : Result Token MalformedPiece → Result tokens.Token Wrong
piece_token_seen (Ok token) = Ok (token_seen token)
piece_token_seen (Err piece) = Err (wrong_seen piece)

abbrev pub piece_seen : Piece → pieces.Piece
piece_seen piece = record { token = piece_token_seen piece.token; end = piece.end; begins_line = piece.begins_line }
