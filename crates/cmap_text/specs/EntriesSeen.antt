-- Private aid: the contracts of calls that read tokens.
use Rattle.std.specs.Prelude.{Bool, true, false, ◌≡◌, [], ◌++◌, List, Option, Some, None, Result, Ok, Err}
use Rattle.cmap_tokens.specs.TokensLeft.{Left}
use Rattle.cmap_tokens.specs.Tokens.{Token}
use Rattle.cmap_values.specs.Files as files
use Rattle.cmap_values.specs.DeclarationsSeen.{lists_seen}
use Rattle.cmap_values.specs.Outcomes.{Outcome}
use Rattle.cmap_values.specs.declared.declarations.Lists.{Lists}
use Rattle.cmap_values.specs.declared.fault.Fault.{Fault}
use Rattle.cmap_values.specs.declared.fault.Fault.TheVariants.{Refused}
use Rattle.cmap_text.specs.TextFiles.{Section}
use Rattle.cmap_text.specs.TextReading.{Code, code_fault, code_or_closer, entry_after}
use Rattle.cmap_text.specs.TokenParsers.{Parser, head_in, run}
use Rattle.cmap_text.specs.TokenParsers as parsers
use Rattle.cmap_text.specs.declared.wrong_token.WrongToken.{WrongToken}

-- why reading goes no further, if this token is wrong, or no token comes, and this is left
abbrev pub refused_seen : Option Token → WrongToken → Left → parsers.Refused
refused_seen token wrong here = record { token = token; reason = wrong.reason; left = here }

-- `told` states whether a token is wrong; if no token is wrong, no token comes next
abbrev pub IsTold : Bool → Left → Option Token → Type 0
IsTold told here (Some t) = told ≡ true
IsTold told here None = (told ≡ false) × (here.tokens ≡ [])

-- the reading is refused with this wrong token and reason, and `here` is left
abbrev pub RefusesAt : {A : Type 0} → Left → Result A parsers.Refused → WrongToken → Type 0
RefusesAt here found wrong = (token : Option Token) × (found ≡ Err (refused_seen token wrong here)) × IsTold wrong.is_token here token

-- the lists with these texts at their end
abbrev pub with_texts : files.Lists → List files.BfEntry → files.Lists
with_texts lists more = record { cids = lists.cids; notdefs = lists.notdefs; bfs = lists.bfs ++ more; spaces = lists.spaces }

-- the answer, as contracts see it, is the value that is found; the call refuses only if nothing is found
abbrev pub ReadsAs : {A B : Type 0} → Result B parsers.Refused → (A → B) → Left → Result A (Fault WrongToken) → Type 0
ReadsAs found seen here = Outcome (λ x. found ≡ Ok (seen x)) (RefusesAt here found)

-- the parser for the old lists gives the new lists
abbrev pub AddsDeclarations : {A : Type 0} → (files.Lists → Parser files.Lists) → Left → Lists → Lists → Left → Result A (Fault WrongToken) → Type 0
AddsDeclarations read old before after here = ReadsAs (run (read (lists_seen before)) old) (λ done. (lists_seen after, here)) here

-- the parser for the old lists, from the old place, gives the same as the parser for the new lists, from the new place
abbrev pub ReadsOn : {A : Type 0} → (files.Lists → Parser files.Lists) → Left → Lists → Lists → Left → Result A (Fault WrongToken) → Type 0
ReadsOn read old before after here = Outcome (λ done. run (read (lists_seen before)) old ≡ run (read (lists_seen after)) here) (RefusesAt here (run (read (lists_seen before)) old))

-- either an entry is read from its first code on and gives the new lists, or nothing changes
abbrev pub AddsEntryIf : Section → Left → Lists → Lists → Left → Bool → Type 0
AddsEntryIf section old before after here true =
    (start : Code) × (next : Left) × (head_in code_fault (code_or_closer section) old ≡ Ok (Some start, next)) × (run (entry_after section start (lists_seen before)) next ≡ Ok (lists_seen after, here))
AddsEntryIf section old before after here false = (here ≡ old) × (lists_seen after ≡ lists_seen before)

-- this holds if the call refuses
abbrev pub WhereRefused : {A : Type 0} → Type 0 → Result A (Fault WrongToken) → Type 0
WhereRefused holds result = (wrong : WrongToken) → result ≡ Err (Refused wrong) → holds

-- the new lists are the old lists with some texts at their end
abbrev pub AddsTexts : Lists → Lists → Type 0
AddsTexts before after = (more : List files.BfEntry) × (lists_seen after ≡ with_texts (lists_seen before) more)
