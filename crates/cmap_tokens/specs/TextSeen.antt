-- What contracts see of a text: its characters, without their place in memory.
use Rattle.std.specs.String.{string_bytes}
use Rattle.std.specs.Str.{chars}
use Rattle.cmap_tokens.specs.declared.utf16.BfString.{BfString}
use Rattle.cmap_tokens.specs.declared.utf16.BfString.TheVariants.{Char, String}
use Rattle.cmap_tokens.specs.Texts.{Text, one, more}

abbrev pub text_seen : BfString → Text
text_seen (Char c) = one c
text_seen (String s) = more (chars (string_bytes s))
