-- A text that is read past its faults is read as without: where there is none it says the same, and the first is the one for which it is refused.
use Rattle.std.proofs.Common.{◌≡◌, ◌∙◌, ℕ, zero, suc, ◌+◌, ◌-◌, ◌<◌, Bool, true, false, List, [], ◌∷◌, ◌++◌, length, ap, refl, sym, subst, arith, inl, inr}
use Rattle.std.specs.Prelude.{◌&&◌, ◌||◌, nat_le, not, bytes_eq, codes, Option, Some, None, Ok, Err, option_map, is_some, if◌then◌else◌}
use Rattle.std.specs.List.{list_any}
use Rattle.std.proofs.Math.Bool.{or-false}
use Rattle.std.proofs.lemmas.Bool.{cases_Bool, cond-false, cond-true, false≢true, le-leb, lt-leb}
use Rattle.cmap_tokens.specs.Malformed.{Malformed, stray, unclosed_hexadecimal, unclosed_text, wrong_digit}
use Rattle.cmap_tokens.specs.Pieces.{Piece, Wrong, pieces_left}
use Rattle.cmap_tokens.specs.Tokens.{Token}
use Rattle.cmap_tokens.specs.TokensLeft.{EndedToken, Left, start_of, tokens_of}
use Rattle.cmap_tokens.proofs.PiecesTokens.{Cut, CutSo, IsAt, pieces_cut}
use Rattle.cmap_values.specs.Files.{Declaration, Lists}
use Rattle.cmap_values.specs.declared.fault.Reason.{Reason}
use Rattle.cmap_values.specs.declared.fault.Reason.TheVariants.{BracketExpected, CidExpected, EndWithinSection, TextExpected, UnequalLengths, UseWithoutName}
use Rattle.cmap_values.specs.declared.fault.Stop.{Stop}
use Rattle.cmap_text.specs.TextFiles.{Section, bf_char, bf_range, cids, codespace_range, declares_cid, range, single}
use Rattle.cmap_text.specs.TextReading.{Code, Said, adding, all_said, body_in, cid_in, code_fault, code_in, code_or_closer, codespace, codespace_fault, codespace_to, destination_in, entry_after, filed, is_executable, item_after, item_said, key_in, cids_after, list_in, list_or_destination, next_cid, next_code, next_destination, nothing_said, opened_by, text_of, with_key, with_lists, with_other, with_use, closer, opener, use_word}
use Rattle.cmap_text.specs.TextReading.{texts_from as texts_from_code}
use Rattle.cmap_text.specs.TokenParsers.{Found, Refused, after, chain, followed_by, giving, head, head_in, malformed_reason, missing, next_in, offset_of, or_wrong, round, run}
use Rattle.cmap_text.specs.FirstFaults.{refused_at}
use Rattle.cmap_text.specs.Salvage.{Class, Entry, Filled, Salvaged, State, Texts, alone, at_fault, begin_item, class_of, class_of_malformed, class_of_name, class_of_token, close_bracket, entry_fault, fault_of, fill, fill_high, finished, having_lists, having_value, in_brackets, in_entry, in_line, in_list, is_closer, item, known, known_words, list_begun, lone_brackets, new_entry, no_parts, no_text, nothing_salvaged, one, open_bracket, own_fault, part, past_texts, saying, take_after_texts, take_all, take_in_entry, take_in_list, take_part, take_text, take_use, take_value, text_in, two, value, with_fault, with_parts, with_piece}
use Rattle.cmap_text.specs.Salvage as salvage
use Rattle.cmap_text.proofs.EntriesRead.{body_next}
use Rattle.cmap_text.proofs.ItemsRead.{item-shorter, key_in-found, next-shorter, opened_by-found, said_next}
use Rattle.cmap_text.proofs.TokenParsers.{head-shorter, is_there}
use Rattle.cmap_text.proofs.TokensRead.{is_executable-found}
use Rattle.cmap_text.proofs.FaultsAdded.{Adds, adds_none, adds_on, fault_first, no_text_adds, past_adds, rest_adds}

-- ---- a fault is the one for which a text is refused
module _ (len : ℕ) where
  pub record IsFaultOf (e : Refused) (fault : Stop) : Type 0 where
    pub reason : fault.reason ≡ e.reason
    pub offset : refused_at len fault.reason fault.offset ≡ offset_of e

  -- it is the first
  pub record Stops (e : Refused) (found : Salvaged) : Type 0 where
    pub fault : Stop
    pub more : List Stop
    pub is : found.faults ≡ fault ∷ more
    pub of : IsFaultOf e fault

  stops_by : (e : Refused) (old new : Salvaged) (fault : Stop) → old.faults ≡ [] → Adds (with_fault old fault) new → IsFaultOf e fault → Stops e new
  stops_by e old new fault none adds of = record { fault = fault; more = adds.more; is = adds.is ∙ ap (λ fs. (fs ++ fault ∷ []) ++ adds.more) none; of = of }

  same_stops : {e d : Refused} {found : Salvaged} → Stops e found → e.reason ≡ d.reason → offset_of e ≡ offset_of d → Stops d found
  same_stops stops reason offset = record { fault = stops.fault; more = stops.more; is = stops.is; of = record { reason = stops.of.reason ∙ reason; offset = stops.of.offset ∙ offset } }

  malformed_at : (kind : Malformed) (offset stop : ℕ) → IsAt len kind offset stop → refused_at len (malformed_reason kind) offset ≡ stop
  malformed_at unclosed_text offset stop at = sym at
  malformed_at unclosed_hexadecimal offset stop at = sym at
  malformed_at wrong_digit offset stop at = at
  malformed_at stray offset stop at = at

  malformed_of : (left : Left) (w : Wrong) → left.tokens ≡ [] → w.kind ≡ left.kind → IsAt len left.kind w.offset left.stop → IsFaultOf (missing (malformed_reason left.kind) left) (own_fault w)
  malformed_of left w none same at = record { reason = ap malformed_reason same; offset = rw same (malformed_at left.kind w.offset left.stop at) }

  -- ---- what is read of the same pieces
  abbrev pub Final : State × Salvaged → List Piece → Salvaged
  Final now pieces = finished len (take_all now pieces)

  -- the value of a key that hasn't come is none
  abbrev pub settled : State × Salvaged → State × Salvaged
  settled (value k, old) = (item, having_value old k None)
  settled (item, old) = (item, old)
  settled (in_entry entry, old) = (in_entry entry, old)
  settled (at_fault rest, old) = (at_fault rest, old)
  settled (in_brackets rest, old) = (in_brackets rest, old)
  settled (in_line section, old) = (in_line section, old)
  settled (in_list list, old) = (in_list list, old)

  finished_settled : (now : State × Salvaged) → finished len (settled now) ≡ finished len now
  finished_settled (value k, old) = refl
  finished_settled (item, old) = refl
  finished_settled (in_entry entry, old) = refl
  finished_settled (at_fault rest, old) = refl
  finished_settled (in_brackets rest, old) = refl
  finished_settled (in_line section, old) = refl
  finished_settled (in_list list, old) = refl

  -- both end alike
  abbrev pub EndAlike : State × Salvaged → List Piece → State × Salvaged → List Piece → Type 0
  EndAlike now pieces mid rest = settled (take_all now pieces) ≡ settled (take_all mid rest)

  same_final : (now : State × Salvaged) (pieces : List Piece) (mid : State × Salvaged) (rest : List Piece) → EndAlike now pieces mid rest → Final now pieces ≡ Final mid rest
  same_final now pieces mid rest alike = sym (finished_settled (take_all now pieces)) ∙ ap (finished len) alike ∙ finished_settled (take_all mid rest)

  -- what is found in what is left goes on in the same way; or the first fault is that for which nothing is found
  abbrev pub Sim : {A : Type 0} → Found A → State × Salvaged → List Piece → (A → Bool → State × Salvaged) → Type 0
  Sim (Ok p) now pieces ends = (b : Bool) × (rest : List Piece) × Cut len p.1 rest × EndAlike now pieces (ends p.0 b) rest
  Sim (Err e) now pieces ends = Stops e (Final now pieces)

  sim_from : {A : Type 0} (found : Found A) (now mid : State × Salvaged) (pieces rest : List Piece) (ends : A → Bool → State × Salvaged) → EndAlike now pieces mid rest → Sim found mid rest ends → Sim found now pieces ends
  sim_from (Ok p) now mid pieces rest ends same (b, later, cut, is) = (b, later, cut, same ∙ is)
  sim_from (Err e) now mid pieces rest ends same stops = subst (Stops e) (sym (same_final now pieces mid rest same)) stops

  sim_then : {A B : Type 0} (more : A → Left → Found B) (found : Found A) (now : State × Salvaged) (pieces : List Piece) (ends : A → Bool → State × Salvaged) (after : B → Bool → State × Salvaged) → Sim found now pieces ends
      → ((x : A) (l : Left) (b : Bool) (rest : List Piece) → found ≡ Ok (x, l) → Cut len l rest → Sim (more x l) (ends x b) rest after) → Sim (followed_by more found) now pieces after
  sim_then more (Ok p) now pieces ends after (b, rest, cut, is) each = sim_from (more p.0 p.1) now (ends p.0 b) pieces rest after is (each p.0 p.1 b rest refl cut)
  sim_then more (Err e) now pieces ends after stops each = stops

  sim_giving : {A B : Type 0} (f : A → B) (found : Found A) (now : State × Salvaged) (pieces : List Piece) (ends : B → Bool → State × Salvaged) → Sim found now pieces (λ x. ends (f x)) → Sim (followed_by (λ x next. Ok (f x, next)) found) now pieces ends
  sim_giving f (Ok p) now pieces ends sim = sim
  sim_giving f (Err e) now pieces ends stops = stops

  -- what pieces begin with
  pub data Begins (left : Left) (pieces : List Piece) : Type 0 where
    at_end : left.tokens ≡ [] → left.ends ≡ true → pieces ≡ [] → left.stop ≡ len → Begins left pieces
    at_wrong : (w : Wrong) (past : ℕ) (b : Bool) (more : List Piece) → left.tokens ≡ [] → left.ends ≡ false → pieces ≡ record { token = Err w; end = past; begins_line = b } ∷ more → w.kind ≡ left.kind → IsAt len left.kind w.offset left.stop → Begins left pieces
    at_token : (p : EndedToken) (rest : List EndedToken) (b : Bool) (more : List Piece) → left.tokens ≡ p ∷ rest → pieces ≡ record { token = Ok p.token; end = p.end; begins_line = b } ∷ more → Cut len (after p rest left) more → Begins left pieces

  pub begins_so : (left : Left) (pieces : List Piece) → Cut len left pieces → Begins left pieces
  begins_so left pieces = at left.tokens left.ends refl refl
    where
      at : (tokens : List EndedToken) (ends : Bool) → left.tokens ≡ tokens → left.ends ≡ ends → CutSo len left.tokens left.ends left.kind left.stop pieces → Begins left pieces
      at [] true empty end cut = let (is, stop) = rw (empty, end) at cut in at_end empty end is stop
      at [] false empty end cut = let (w, past, b, more, is, same, place) = rw (empty, end) at cut in at_wrong w past b more empty end is same place
      at (p ∷ rest) ends begins end cut = let (b, more, is, later) = rw begins at cut in at_token p rest b more begins is later

  -- ---- a place of an entry
  abbrev filled_by : {A : Type 0} → Option A → Reason → (A → State × Lists) → Filled
  filled_by (Some x) reason gives = Ok (gives x)
  filled_by None reason gives = Err reason

  with_same : (entry : Entry) (piece : Piece) → no_parts entry.parts ≡ false → with_piece entry piece ≡ entry
  with_same entry piece some = rw (some, or-false entry.begins_line) refl

  in_part : (old : Salvaged) (entry : Entry) (piece : Piece) → no_parts entry.parts ≡ false → take_in_entry old entry piece ≡ take_part old entry piece
  in_part old entry piece some = cond-false _ _ _ (ap (λ b. b && is_closer entry.section piece) some) ∙ ap (λ e. take_part old e piece) (with_same entry piece some)

  module _ {A : Type 0} (fault : Token → Reason) (read : Token → Option A) (plain : (t : Token) (n : ℕ) → refused_at len (fault t) n ≡ n) (entry : Entry) (old : Salvaged) (gives : A → State × Lists) (some : no_parts entry.parts ≡ false) (none : old.faults ≡ [])
      (fills : (t : Token) → fill old.said.lists entry t ≡ filled_by (read t) (fault t) gives) where
    abbrev place_ends : A → Bool → State × Salvaged
    place_ends x b = ((gives x).0, having_lists old (gives x).1)

    wrong_place : (left : Left) (w : Wrong) (past : ℕ) (b : Bool) (more : List Piece) → left.tokens ≡ [] → w.kind ≡ left.kind → IsAt len left.kind w.offset left.stop
        → Stops (missing (malformed_reason left.kind) left) (Final (in_entry entry, old) (record { token = Err w; end = past; begins_line = b } ∷ more))
    unfolding take_all
    wrong_place left w past b more empty same place =
        let piece : Piece = record { token = Err w; end = past; begins_line = b } in
        let goes : take_in_entry old entry piece ≡ entry_fault old entry piece (own_fault w) = in_part old entry piece some in
        let adds : Adds (with_fault old (own_fault w)) (Final (entry_fault old entry piece (own_fault w)) more) = adds_on (fault_first old entry piece (own_fault w)).adds (rest_adds len (entry_fault old entry piece (own_fault w)) more) in
        stops_by (missing (malformed_reason left.kind) left) old (Final (take_in_entry old entry piece) more) (own_fault w) none (subst (λ s. Adds (with_fault old (own_fault w)) (Final s more)) (sym goes) adds) (malformed_of left w empty same place)

    place_sim : (left : Left) (pieces : List Piece) → Cut len left pieces → Sim (head_in fault read left) (in_entry entry, old) pieces place_ends
    unfolding take_all
    place_sim left pieces cut = at (begins_so left pieces cut)
      where
        by : (p : EndedToken) (rest : List EndedToken) (b : Bool) (more : List Piece) → CutSo len rest left.ends left.kind left.stop more → (found : Option A) → read p.token ≡ found
            → Sim (or_wrong (fault p.token) (read p.token) p.token (after p rest left)) (in_entry entry, old) (record { token = Ok p.token; end = p.end; begins_line = b } ∷ more) place_ends
        by p rest b more cut (Some x) is =
            let piece : Piece = record { token = Ok p.token; end = p.end; begins_line = b } in
            let goes : take_in_entry old entry piece ≡ place_ends x b = in_part old entry piece some ∙ rw (fills p.token, is, take_part) refl in
            rw is (b, more, cut, ap (λ s. settled (take_all s more)) goes)
        by p rest b more cut None is =
            let piece : Piece = record { token = Ok p.token; end = p.end; begins_line = b } in
            let stop : Stop = record { offset = p.end; reason = fault p.token } in
            let goes : take_in_entry old entry piece ≡ entry_fault old entry piece stop = in_part old entry piece some ∙ rw (fills p.token, is, take_part) refl in
            rw is (stops_by _ old (Final (in_entry entry, old) (piece ∷ more)) stop none (subst (λ s. Adds (with_fault old stop) (Final s more)) (sym goes) (adds_on (fault_first old entry piece stop).adds (rest_adds len (entry_fault old entry piece stop) more))) (record { reason = refl; offset = plain p.token p.end }))

        at : Begins left pieces → Sim (head_in fault read left) (in_entry entry, old) pieces place_ends
        at (at_end empty end is stop) =
            let last : Stop = record { offset = len; reason = EndWithinSection } in
            rw (empty, end, is) (stops_by _ old (with_fault old last) last none (adds_none refl) (record { reason = refl; offset = sym stop }))
        at (at_wrong w past b more empty end is same place) = rw (empty, end, is) (same_stops (wrong_place left w past b more empty same place) refl refl)
        at (at_token p rest b more begins is later) = rw (begins, is) (by p rest b more later (read p.token) refl)

  -- ---- the first place, or the closer
  abbrev pub start_ends : Section → Salvaged → Option Code → Bool → State × Salvaged
  start_ends section old None b = (item, old)
  start_ends section old (Some code) b = (in_entry (record { section = section; parts = one code; begins_line = b }), old)

  code_plain : (t : Token) (n : ℕ) → refused_at len (code_fault t) n ≡ n
  code_plain (Token.String raw) n = refl
  code_plain (Token.Name literal bytes) n = refl
  code_plain (Token.Numeral number) n = refl

  code_fills : (t : Token) (found : Option Code) (more : Code → Filled) → code_in t ≡ found → salvage.if_code t more ≡ elim found [ Some code ↦ more code | None ↦ Err (code_fault t) ]
  code_fills t found more is = rw (is, salvage.if_code) refl

  first_fills : (entry : Entry) (lists : Lists) (t : Token) (found : Option Code) → entry.parts ≡ salvage.none → code_in t ≡ found → fill lists entry t ≡ filled_by found (code_fault t) (λ code. (in_entry (with_parts entry (one code)), lists))
  first_fills entry lists t (Some code) no_part is = rw (no_part, fill) (code_fills t (Some code) _ is)
  first_fills entry lists t None no_part is = rw (no_part, fill) (code_fills t None _ is)

  module _ (section : Section) (begins : Bool) (old : Salvaged) (none : old.faults ≡ []) where
    abbrev pub entry : Entry
    entry = record { section = section; parts = salvage.none; begins_line = begins }

    wrong_start : (left : Left) (w : Wrong) (past : ℕ) (b : Bool) (more : List Piece) → left.tokens ≡ [] → w.kind ≡ left.kind → IsAt len left.kind w.offset left.stop
        → Stops (missing (malformed_reason left.kind) left) (Final (in_entry entry, old) (record { token = Err w; end = past; begins_line = b } ∷ more))
    unfolding take_all
    wrong_start left w past b more empty same place =
        let piece : Piece = record { token = Err w; end = past; begins_line = b } in
        let now = entry_fault old (with_piece entry piece) piece (own_fault w) in
        stops_by (missing (malformed_reason left.kind) left) old (Final now more) (own_fault w) none (adds_on (fault_first old (with_piece entry piece) piece (own_fault w)).adds (rest_adds len now more)) (malformed_of left w empty same place)

    pub start_sim : (left : Left) (pieces : List Piece) → Cut len left pieces → Sim (head_in code_fault (code_or_closer section) left) (in_entry entry, old) pieces (start_ends section old)
    unfolding take_all
    start_sim left pieces cut = at (begins_so left pieces cut)
      where
        by : (p : EndedToken) (rest : List EndedToken) (b : Bool) (more : List Piece) → CutSo len rest left.ends left.kind left.stop more → (closes : Bool) → is_executable (closer section) p.token ≡ closes → (found : Option Code) → code_in p.token ≡ found
            → Sim (or_wrong (code_fault p.token) (code_or_closer section p.token) p.token (after p rest left)) (in_entry entry, old) (record { token = Ok p.token; end = p.end; begins_line = b } ∷ more) (start_ends section old)
        by p rest b more cut true closes found is =
            let piece : Piece = record { token = Ok p.token; end = p.end; begins_line = b } in
            let goes : take_in_entry old entry piece ≡ (item, old) = rw (closes, take_in_entry) refl in
            rw closes (b, more, cut, ap (λ s. settled (take_all s more)) goes)
        by p rest b more cut false closes (Some code) is =
            let piece : Piece = record { token = Ok p.token; end = p.end; begins_line = b } in
            let goes : take_in_entry old entry piece ≡ start_ends section old (Some code) (begins || b) = cond-false _ _ _ (ap (λ c. true && c) closes) ∙ rw (first_fills (with_piece entry piece) old.said.lists p.token _ refl is, take_part) refl in
            rw (closes, is) (begins || b, more, cut, ap (λ s. settled (take_all s more)) goes)
        by p rest b more cut false closes None is =
            let piece : Piece = record { token = Ok p.token; end = p.end; begins_line = b } in
            let stop : Stop = record { offset = p.end; reason = code_fault p.token } in
            let goes : take_in_entry old entry piece ≡ entry_fault old (with_piece entry piece) piece stop = cond-false _ _ _ (ap (λ c. true && c) closes) ∙ rw (first_fills (with_piece entry piece) old.said.lists p.token _ refl is, take_part) refl in
            rw (closes, is) (stops_by _ old (Final (in_entry entry, old) (piece ∷ more)) stop none (subst (λ s. Adds (with_fault old stop) (Final s more)) (sym goes) (adds_on (fault_first old (with_piece entry piece) piece stop).adds (rest_adds len (entry_fault old (with_piece entry piece) piece stop) more))) (record { reason = refl; offset = code_plain p.token p.end }))

        at : Begins left pieces → Sim (head_in code_fault (code_or_closer section) left) (in_entry entry, old) pieces (start_ends section old)
        at (at_end empty end is stop) =
            let last : Stop = record { offset = len; reason = EndWithinSection } in
            rw (empty, end, is) (stops_by _ old (with_fault old last) last none (adds_none refl) (record { reason = refl; offset = sym stop }))
        at (at_wrong w past b more empty end is same place) = rw (empty, end, is) (same_stops (wrong_start left w past b more empty same place) refl refl)
        at (at_token p rest b more begins is later) = rw (begins, is) (by p rest b more later (is_executable (closer section) p.token) refl (code_in p.token) refl)

  -- ---- lists of texts
  bracket_closes : (t : Token) → is_executable (codes "]") t ≡ true → class_of_token t ≡ close_bracket
  bracket_closes t is = rw (is_executable-found (codes "]") t is) refl

  closing_bracket : (t : Token) → class_of_token t ≡ close_bracket → is_executable (codes "]") t ≡ true
  closing_bracket (Token.String raw) closing = cc
  closing_bracket (Token.Numeral number) closing = cc
  closing_bracket (Token.Name true bytes) closing = cc
  closing_bracket (Token.Name false bytes) closing = by (bytes_eq bytes (codes "[")) refl (bytes_eq bytes (codes "]")) refl (list_any (bytes_eq bytes) lone_brackets) refl (list_any (bytes_eq bytes) known_words) refl
    where
      by : (opens : Bool) → bytes_eq bytes (codes "[") ≡ opens → (closes : Bool) → bytes_eq bytes (codes "]") ≡ closes → (lone : Bool) → list_any (bytes_eq bytes) lone_brackets ≡ lone → (words : Bool) → list_any (bytes_eq bytes) known_words ≡ words → is_executable (codes "]") (Token.Name false bytes) ≡ true
      by true o closes c lone l words w = let clash = rw (o, class_of_name) at closing in cc
      by false o true c lone l words w = c
      by false o false c true l words w = let clash = rw (o, c, l, class_of_name) at closing in cc
      by false o false c false l true w = let clash = rw (o, c, l, w, class_of_name) at closing in cc
      by false o false c false l false w = let clash = rw (o, c, l, w, class_of_name) at closing in cc

  not_malformed : (kind : Malformed) → class_of_malformed kind ≡ close_bracket → ⊥
  not_malformed unclosed_text is = cc
  not_malformed unclosed_hexadecimal is = cc
  not_malformed wrong_digit is = cc
  not_malformed stray is = cc

  lasts : (list : Texts) (count : ℕ) → count ≡ list.last + 1 - list.next → (count ≡ 0 → nat_le list.next list.last ≡ false) × (0 < count → nat_le list.next list.last ≡ true)
  lasts list count is = (λ none. lt-leb _ _ (omega (arith, is, none)), λ some. le-leb _ _ (omega (arith, is, some)))

  -- a text comes, in a list that has places
  module _ (list : Texts) (old : Salvaged) (none : old.faults ≡ []) (open_places : nat_le list.next list.last ≡ true) where
    abbrev text_ends : List ℕ → Bool → State × Salvaged
    text_ends units one_line = (in_list (record { first = list.first; next = list.next + 1; last = list.last; kept = list.kept; begins_line = list.begins_line; one_line = one_line }), having_lists old (adding old.said.lists (text_of list.next list.next units)))

    in_text : (piece : Piece) → take_in_list old list piece ≡ take_text old list piece
    in_text piece = cond-true _ _ _ open_places

    wrong_text : (e : Refused) (piece : Piece) (more : List Piece) → text_in piece ≡ None → IsFaultOf e (fault_of TextExpected piece) → Stops e (Final (in_list list, old) (piece ∷ more))
    unfolding take_all
    wrong_text e piece more without of =
        let fault = fault_of TextExpected piece in
        let passed = no_text (with_fault old fault) list piece in
        let goes : take_in_list old list piece ≡ passed = in_text piece ∙ rw (without, take_text) refl in
        let adds : Adds (with_fault old fault) (Final passed more) = adds_on (no_text_adds (with_fault old fault) list piece).adds (rest_adds len passed more) in
        stops_by e old (Final (take_in_list old list piece) more) fault none (subst (λ s. Adds (with_fault old fault) (Final s more)) (sym goes) adds) of

    text_sim : (left : Left) (pieces : List Piece) → Cut len left pieces → Sim (run next_destination left) (in_list list, old) pieces text_ends
    unfolding take_all
    text_sim left pieces cut = at (begins_so left pieces cut)
      where
        by : (p : EndedToken) (rest : List EndedToken) (b : Bool) (more : List Piece) → CutSo len rest left.ends left.kind left.stop more → (found : Option (List ℕ)) → destination_in p.token ≡ found
            → Sim (or_wrong TextExpected (destination_in p.token) p.token (after p rest left)) (in_list list, old) (record { token = Ok p.token; end = p.end; begins_line = b } ∷ more) text_ends
        by p rest b more cut (Some units) is =
            let piece : Piece = record { token = Ok p.token; end = p.end; begins_line = b } in
            let text : text_in piece ≡ Some units = is in
            let goes : take_in_list old list piece ≡ text_ends units (list.one_line && not b) = in_text piece ∙ rw (text, take_text) refl in
            rw is (list.one_line && not b, more, cut, ap (λ s. settled (take_all s more)) goes)
        by p rest b more cut None is = rw is (wrong_text _ (record { token = Ok p.token; end = p.end; begins_line = b }) more is (record { reason = refl; offset = refl }))

        at : Begins left pieces → Sim (run next_destination left) (in_list list, old) pieces text_ends
        at (at_end empty end is stop) =
            let last : Stop = record { offset = len; reason = EndWithinSection } in
            rw (empty, end, is) (stops_by _ old (with_fault old last) last none (adds_none refl) (record { reason = refl; offset = sym stop }))
        at (at_wrong w past b more empty end is same place) = rw (empty, end, is) (same_stops (wrong_text (missing (malformed_reason left.kind) left) (record { token = Err w; end = past; begins_line = b }) more refl (malformed_of left w empty same place)) refl refl)
        at (at_token p rest b more begins is later) = rw (begins, is) (by p rest b more later (destination_in p.token) refl)

  -- the ] comes, in a list that has all its texts
  module _ (list : Texts) (old : Salvaged) (none : old.faults ≡ []) (full : nat_le list.next list.last ≡ false) where
    abbrev closed_ends : Lists → Bool → State × Salvaged
    closed_ends lists b = (in_entry (new_entry bf_range), having_lists old lists)

    abbrev closes : Token → Option Lists
    closes t = if is_executable (codes "]") t then Some old.said.lists else None

    past_text : (piece : Piece) → take_in_list old list piece ≡ take_after_texts old list piece
    past_text piece = cond-false _ _ _ full

    other_past : (k : Class) (piece : Piece) → (k ≡ close_bracket → ⊥) → elim k [ close_bracket ↦ (in_entry (new_entry bf_range), old) | _ ↦ past_texts (with_fault old (fault_of BracketExpected piece)) list piece ] ≡ past_texts (with_fault old (fault_of BracketExpected piece)) list piece
    other_past known piece not = refl
    other_past alone piece not = refl
    other_past open_bracket piece not = refl
    other_past close_bracket piece not = absurd (not refl)
    other_past part piece not = refl

    wrong_past : (e : Refused) (piece : Piece) (more : List Piece) → (class_of piece ≡ close_bracket → ⊥) → IsFaultOf e (fault_of BracketExpected piece) → Stops e (Final (in_list list, old) (piece ∷ more))
    unfolding take_all
    wrong_past e piece more not of =
        let fault = fault_of BracketExpected piece in
        let passed = past_texts (with_fault old fault) list piece in
        let goes : take_in_list old list piece ≡ passed = past_text piece ∙ other_past (class_of piece) piece not in
        let adds : Adds (with_fault old fault) (Final passed more) = adds_on (past_adds (with_fault old fault) list piece).adds (rest_adds len passed more) in
        stops_by e old (Final (take_in_list old list piece) more) fault none (subst (λ s. Adds (with_fault old fault) (Final s more)) (sym goes) adds) of

    close_sim : (left : Left) (pieces : List Piece) → Cut len left pieces → Sim (head_in (λ t. BracketExpected) closes left) (in_list list, old) pieces closed_ends
    unfolding take_all
    close_sim left pieces cut = at (begins_so left pieces cut)
      where
        by : (p : EndedToken) (rest : List EndedToken) (b : Bool) (more : List Piece) → CutSo len rest left.ends left.kind left.stop more → (found : Bool) → is_executable (codes "]") p.token ≡ found
            → Sim (or_wrong BracketExpected (closes p.token) p.token (after p rest left)) (in_list list, old) (record { token = Ok p.token; end = p.end; begins_line = b } ∷ more) closed_ends
        by p rest b more cut true is =
            let piece : Piece = record { token = Ok p.token; end = p.end; begins_line = b } in
            let goes : take_in_list old list piece ≡ (in_entry (new_entry bf_range), old) = past_text piece ∙ rw (bracket_closes p.token is, take_after_texts) refl in
            rw is (true, more, cut, ap (λ s. settled (take_all s more)) goes)
        by p rest b more cut false is = rw is (wrong_past _ (record { token = Ok p.token; end = p.end; begins_line = b }) more (λ closing. false≢true (sym is ∙ closing_bracket p.token closing)) (record { reason = refl; offset = refl }))

        at : Begins left pieces → Sim (head_in (λ t. BracketExpected) closes left) (in_list list, old) pieces closed_ends
        at (at_end empty end is stop) =
            let last : Stop = record { offset = len; reason = EndWithinSection } in
            rw (empty, end, is) (stops_by _ old (with_fault old last) last none (adds_none refl) (record { reason = refl; offset = sym stop }))
        at (at_wrong w past b more empty end is same place) = rw (empty, end, is) (same_stops (wrong_past (missing (malformed_reason left.kind) left) (record { token = Err w; end = past; begins_line = b }) more (not_malformed w.kind) (malformed_of left w empty same place)) refl refl)
        at (at_token p rest b more begins is later) = rw (begins, is) (by p rest b more later (is_executable (codes "]") p.token) refl)

  texts_from : (count : ℕ) (list : Texts) (old : Salvaged) → old.faults ≡ [] → count ≡ list.last + 1 - list.next → (left : Left) (pieces : List Piece) → Cut len left pieces
      → Sim (run (list_in count list.next old.said.lists) left) (in_list list, old) pieces (λ lists b. (in_entry (new_entry bf_range), having_lists old lists))
  unfolding list_in
  texts_from zero list old none is left pieces cut = close_sim list old none (lt-leb list.next list.last (omega (arith, is))) left pieces cut
  texts_from (suc count) list old none is left pieces cut =
      sim_then (λ units. run (list_in count (list.next + 1) (adding old.said.lists (text_of list.next list.next units)))) (run next_destination left) (in_list list, old) pieces (text_ends list old none (le-leb list.next list.last (omega (arith, is)))) _ (text_sim list old none (le-leb list.next list.last (omega (arith, is))) left pieces cut) (
      λ units l b rest found cut_rest. texts_from count (record { first = list.first; next = list.next + 1; last = list.last; kept = list.kept; begins_line = list.begins_line; one_line = b }) (having_lists old (adding old.said.lists (text_of list.next list.next units))) none (omega (arith, is)) l rest cut_rest
      )

  -- ---- what follows the first code
  two_plain : (t : Token) (n : ℕ) → refused_at len (codespace_fault t) n ≡ n
  two_plain t n = elim (cases_Bool (is_some (code_in t))) [ inl some ↦ rw (some, codespace_fault) refl | inr not ↦ rw (not, codespace_fault) (code_plain t n) ]

  high_fills : (entry : Entry) (lists : Lists) (low : Code) (t : Token) (found : Option Code) → code_in t ≡ found → fill_high lists entry low t ≡ filled_by (codespace_to low t) (codespace_fault t) (λ declared. (in_entry (new_entry entry.section), adding lists declared))
  high_fills entry lists low t None is = code_fills t None _ is ∙ rw (is, codespace_to, codespace_fault) refl
  high_fills entry lists low t (Some high) is = code_fills t (Some high) _ is ∙ rw (is, codespace_to, codespace_fault) (by (codespace low high) refl)
    where
      by : (declared : Option (List Declaration)) → codespace low high ≡ declared → elim (codespace low high) [ Some d ↦ Ok (in_entry (new_entry entry.section), adding lists d) | None ↦ Err UnequalLengths ] ≡ filled_by (codespace low high) UnequalLengths (λ d. (in_entry (new_entry entry.section), adding lists d))
      by None e = rw e refl
      by (Some d) e = rw e refl

  code_filled : (t : Token) (gives : Code → State × Lists) → salvage.if_code t (λ code. Ok (gives code)) ≡ filled_by (code_in t) (code_fault t) gives
  code_filled t gives = by (code_in t) refl
    where
      by : (found : Option Code) → code_in t ≡ found → salvage.if_code t (λ code. Ok (gives code)) ≡ filled_by (code_in t) (code_fault t) gives
      by (Some code) is = rw (is, salvage.if_code) refl
      by None is = rw (is, salvage.if_code) refl

  cid_filled : (t : Token) (gives : ℕ → State × Lists) → salvage.if_cid t (λ cid. Ok (gives cid)) ≡ filled_by (cid_in t) CidExpected gives
  cid_filled t gives = by (cid_in t) refl
    where
      by : (found : Option ℕ) → cid_in t ≡ found → salvage.if_cid t (λ cid. Ok (gives cid)) ≡ filled_by (cid_in t) CidExpected gives
      by (Some cid) is = rw (is, salvage.if_cid) refl
      by None is = rw (is, salvage.if_cid) refl

  text_filled : (t : Token) (gives : List ℕ → State × Lists) → salvage.if_text t (λ units. Ok (gives units)) ≡ filled_by (destination_in t) TextExpected gives
  text_filled t gives = by (destination_in t) refl
    where
      by : (found : Option (List ℕ)) → destination_in t ≡ found → salvage.if_text t (λ units. Ok (gives units)) ≡ filled_by (destination_in t) TextExpected gives
      by (Some units) is = rw (is, salvage.if_text) refl
      by None is = rw (is, salvage.if_text) refl

  -- a text, or a list of them
  abbrev texts_given : Lists → Entry → Code → Code → Option (List ℕ) → State × Lists
  texts_given lists entry start end None = (in_list (list_begun lists entry start end), lists)
  texts_given lists entry start end (Some units) = (in_entry (new_entry entry.section), adding lists (text_of start.number end.number units))

  texts_filled : (lists : Lists) (entry : Entry) (start end : Code) (t : Token) → salvage.fill_texts lists entry start end t ≡ filled_by (list_or_destination t) TextExpected (texts_given lists entry start end)
  texts_filled lists entry start end t = by (is_executable (codes "[") t) refl (destination_in t) refl
    where
      by : (opens : Bool) → is_executable (codes "[") t ≡ opens → (found : Option (List ℕ)) → destination_in t ≡ found → salvage.fill_texts lists entry start end t ≡ filled_by (list_or_destination t) TextExpected (texts_given lists entry start end)
      by true opens found is = rw (opens, list_or_destination) refl
      by false opens (Some units) is = rw (opens, list_or_destination) (rw (is, salvage.fill_text, salvage.if_text) refl)
      by false opens None is = rw (opens, list_or_destination) (rw (is, salvage.fill_text, salvage.if_text) refl)

  abbrev pub entry_of : Section → Code → Bool → Entry
  entry_of section code b = record { section = section; parts = one code; begins_line = b }

  abbrev pub entry_ends : Section → Salvaged → Lists → Bool → State × Salvaged
  entry_ends section old lists b = (in_entry (new_entry section), having_lists old lists)

  module _ (start : Code) (line : Bool) (old : Salvaged) (none : old.faults ≡ []) (left : Left) (pieces : List Piece) (cut : Cut len left pieces) where
    abbrev pub Entered : Section → Type 0
    Entered section = Sim (run (entry_after section start old.said.lists) left) (in_entry (entry_of section start line), old) pieces (entry_ends section old)

    pub entered : (section : Section) → Entered section
    entered codespace_range =
        sim_giving (adding old.said.lists) (head_in codespace_fault (codespace_to start) left) (in_entry (entry_of codespace_range start line), old) pieces (entry_ends codespace_range old) (
        place_sim codespace_fault (codespace_to start) two_plain (entry_of codespace_range start line) old (λ declared. (in_entry (new_entry codespace_range), adding old.said.lists declared)) refl none (λ t. high_fills (entry_of codespace_range start line) old.said.lists start t (code_in t) refl) left pieces cut
        )
    entered bf_char =
        sim_giving (λ units. adding old.said.lists (text_of start.number start.number units)) (run next_destination left) (in_entry (entry_of bf_char start line), old) pieces (entry_ends bf_char old) (
        place_sim (λ t. TextExpected) destination_in (λ t n. refl) (entry_of bf_char start line) old (λ units. (in_entry (new_entry bf_char), adding old.said.lists (text_of start.number start.number units))) refl none (λ t. text_filled t _) left pieces cut
        )
    entered (cids kind single) =
        sim_giving (λ p. adding old.said.lists (declares_cid kind p.0 p.1 ∷ [])) (run (cids_after single start) left) (in_entry (entry_of (cids kind single) start line), old) pieces (entry_ends (cids kind single) old) (
        sim_giving (filed start start.number) (run next_cid left) (in_entry (entry_of (cids kind single) start line), old) pieces (λ p. entry_ends (cids kind single) old (adding old.said.lists (declares_cid kind p.0 p.1 ∷ []))) (
        place_sim (λ t. CidExpected) cid_in (λ t n. refl) (entry_of (cids kind single) start line) old (λ cid. (in_entry (new_entry (cids kind single)), adding old.said.lists (declares_cid kind start.len (filed start start.number cid).1 ∷ []))) refl none (λ t. cid_filled t _) left pieces cut
        ))
    entered (cids kind range) =
        let section = cids kind range in
        sim_giving (λ p. adding old.said.lists (declares_cid kind p.0 p.1 ∷ [])) (run (cids_after range start) left) (in_entry (entry_of section start line), old) pieces (entry_ends section old) (
        sim_then (λ end. run (giving (filed start end.number) next_cid)) (run next_code left) (in_entry (entry_of section start line), old) pieces (λ end b. (in_entry (with_parts (entry_of section start line) (two start end)), having_lists old old.said.lists)) _ (
        place_sim code_fault code_in code_plain (entry_of section start line) old (λ end. (in_entry (with_parts (entry_of section start line) (two start end)), old.said.lists)) refl none (λ t. code_filled t _) left pieces cut
        ) (
        λ end l b rest found cut_rest.
        let second = with_parts (entry_of section start line) (two start end) in
        sim_giving (filed start end.number) (run next_cid l) (in_entry second, old) rest (λ p. entry_ends section old (adding old.said.lists (declares_cid kind p.0 p.1 ∷ []))) (
        place_sim (λ t. CidExpected) cid_in (λ t n. refl) second old (λ cid. (in_entry (new_entry section), adding old.said.lists (declares_cid kind start.len (filed start end.number cid).1 ∷ []))) refl none (λ t. cid_filled t _) l rest cut_rest
        )
        ))
    entered bf_range =
        let first = entry_of bf_range start line in
        sim_then (λ end. run (chain (head (λ t. TextExpected) list_or_destination) (texts_from_code start.number end.number old.said.lists))) (run next_code left) (in_entry first, old) pieces (λ end b. (in_entry (with_parts first (two start end)), having_lists old old.said.lists)) (entry_ends bf_range old) (
        place_sim code_fault code_in code_plain first old (λ end. (in_entry (with_parts first (two start end)), old.said.lists)) refl none (λ t. code_filled t _) left pieces cut
        ) (
        λ end l b rest found cut_rest.
        let second = with_parts first (two start end) in
        sim_then (λ o. run (texts_from_code start.number end.number old.said.lists o)) (head_in (λ t. TextExpected) list_or_destination l) (in_entry second, old) rest (λ o c. let given = texts_given old.said.lists second start end o in (given.0, having_lists old given.1)) (entry_ends bf_range old) (
        place_sim (λ t. TextExpected) list_or_destination (λ t n. refl) second old (texts_given old.said.lists second start end) refl none (texts_filled old.said.lists second start end) l rest cut_rest
        ) (λ o m c later given cut_later. texts_read end o m c later cut_later)
        )
      where
        texts_read : (end : Code) (o : Option (List ℕ)) (m : Left) (c : Bool) (later : List Piece) → Cut len m later
            → Sim (run (texts_from_code start.number end.number old.said.lists o) m) (let given = texts_given old.said.lists (with_parts (entry_of bf_range start line) (two start end)) start end o in (given.0, having_lists old given.1)) later (entry_ends bf_range old)
        texts_read end (Some units) m c later cut_later = (true, later, cut_later, refl)
        texts_read end None m c later cut_later =
            let list = list_begun old.said.lists (with_parts (entry_of bf_range start line) (two start end)) start end in
            texts_from (end.number + 1 - start.number) list old none refl m later cut_later

  -- ---- the entries of a section
  body_sim : (count : ℕ) (section : Section) (line : Bool) (old : Salvaged) → old.faults ≡ [] → (left : Left) (pieces : List Piece) → length left.tokens < count → Cut len left pieces
      → Sim (run (body_in section old.said.lists) left) (in_entry (record { section = section; parts = salvage.none; begins_line = line }), old) pieces (λ lists b. (item, having_lists old lists))
  body_sim zero section line old none left pieces few cut = absurd (omega (arith, few))
  body_sim (suc count) section line old none left pieces few cut =
      rw (body_next section old.said.lists left) (
      sim_then (round (λ now. run (body_in section now)) (λ now code. run (entry_after section code now)) old.said.lists) (head_in code_fault (code_or_closer section) left) (in_entry (record { section = section; parts = salvage.none; begins_line = line }), old) pieces (start_ends section old) (λ lists b. (item, having_lists old lists)) (
      start_sim section line old none left pieces cut
      ) (λ start l b rest found cut_rest. by start l b rest found cut_rest (λ new none_new m after_pieces less cut_after. body_sim count section false new none_new m after_pieces less cut_after))
      )
    where
      by : (start : Option Code) (l : Left) (b : Bool) (rest : List Piece) → head_in code_fault (code_or_closer section) left ≡ Ok (start, l) → Cut len l rest
          → ((new : Salvaged) → new.faults ≡ [] → (m : Left) (after_pieces : List Piece) → length m.tokens < count → Cut len m after_pieces → Sim (run (body_in section new.said.lists) m) (in_entry (new_entry section), new) after_pieces (λ lists c. (item, having_lists new lists)))
          → Sim (round (λ now. run (body_in section now)) (λ now code. run (entry_after section code now)) old.said.lists start l) (start_ends section old start b) rest (λ lists c. (item, having_lists old lists))
      by None l b rest found cut_rest later = (true, rest, cut_rest, refl)
      by (Some code) l b rest found cut_rest later =
          sim_then (λ now. run (body_in section now)) (run (entry_after section code old.said.lists) l) (in_entry (entry_of section code b), old) rest (entry_ends section old) (λ lists c. (item, having_lists old lists)) (entered code b old none l rest cut_rest section) (
          λ lists m c after_pieces goes cut_after.
          later (having_lists old lists) none m after_pieces (omega (arith, few, head-shorter code_fault (code_or_closer section) left (Some code, l) found, (is_there (entry_after section code old.said.lists) l (lists, m) goes).2)) cut_after
          )

  -- ---- items
  abbrev pub item_ends : Salvaged → Said → Bool → State × Salvaged
  item_ends old said b = (item, saying old said)

  -- the value of a key
  module _ (k : List ℕ) (old : Salvaged) (none : old.faults ≡ []) where
    abbrev keyed : Salvaged
    keyed = saying old (with_other old.said (Token.Name true k))

    wrong_value : (left : Left) (w : Wrong) (past : ℕ) (b : Bool) (more : List Piece) → left.tokens ≡ [] → w.kind ≡ left.kind → IsAt len left.kind w.offset left.stop
        → Stops (missing (malformed_reason left.kind) left) (Final (value k, keyed) (record { token = Err w; end = past; begins_line = b } ∷ more))
    unfolding take_all
    wrong_value left w past b more empty same place =
        let piece : Piece = record { token = Err w; end = past; begins_line = b } in
        stops_by (missing (malformed_reason left.kind) left) keyed (Final (take_value keyed k piece) more) (own_fault w) none (rest_adds len (take_value keyed k piece) more) (malformed_of left w empty same place)

    value_sim : (left : Left) (pieces : List Piece) → Cut len left pieces → Sim (followed_by (λ v next. Ok (with_key old.said k v, next)) (next_in left)) (value k, keyed) pieces (item_ends old)
    unfolding take_all
    value_sim left pieces cut = at (begins_so left pieces cut) cut
      where
        at : Begins left pieces → Cut len left pieces → Sim (followed_by (λ v next. Ok (with_key old.said k v, next)) (next_in left)) (value k, keyed) pieces (item_ends old)
        at (at_end empty end is stop) cut =
            let cut_here : CutSo len [] true left.kind left.stop [] = (refl, stop) in
            rw (empty, end, is) (true, [], cut_here, refl)
        at (at_wrong w past b more empty end is same place) cut = rw (empty, end, is) (same_stops (wrong_value left w past b more empty same place) refl refl)
        at (at_token p rest b more begins is later) cut = rw (begins, is) (true, more, later, refl)

  module _ (old : Salvaged) (none : old.faults ≡ []) (p : EndedToken) (rest : List EndedToken) (left : Left) (more : List Piece) (cut : Cut len (after p rest left) more) where
    abbrev next : Left
    next = after p rest left

    abbrev Reads : Token → Type 0
    Reads t = Sim (item_said old.said t next) (begin_item old t p.end) more (item_ends old)

    section_sim : (section : Section) → Sim (followed_by (λ x n. Ok (with_lists old.said x, n)) (run (body_in section old.said.lists) next)) (in_entry (new_entry section), saying old (with_other old.said (Token.Name false (opener section)))) more (item_ends old)
    section_sim section =
        let now : Salvaged = saying old (with_other old.said (Token.Name false (opener section))) in
        sim_giving (with_lists old.said) (run (body_in section old.said.lists) next) (in_entry (new_entry section), now) more (item_ends old) (body_sim (1 + length next.tokens) section false now none next more (omega arith) cut)

    use_sim : (operand : Option (List ℕ)) → old.said.operand ≡ operand
        → Sim (or_wrong UseWithoutName (option_map (with_use old.said) old.said.operand) (Token.Name false use_word) next) (take_use (saying old (with_other old.said (Token.Name false use_word))) old.said.operand p.end) more (item_ends old)
    use_sim (Some name) is = rw is (true, more, cut, refl)
    use_sim None is =
        let now : Salvaged = saying old (with_other old.said (Token.Name false use_word)) in
        let fault : Stop = record { offset = p.end; reason = UseWithoutName } in
        rw is (stops_by _ now (Final (item, with_fault now fault) more) fault none (rest_adds len (item, with_fault now fault) more) (record { reason = refl; offset = refl }))

    pub item_sim : (t : Token) → Reads t
    item_sim t = by (opened_by t) refl (is_executable use_word t) refl (key_in t) refl
      where
        by : (s : Option Section) → opened_by t ≡ s → (u : Bool) → is_executable use_word t ≡ u → (k : Option (List ℕ)) → key_in t ≡ k → Reads t
        by (Some section) opens u uses k is =
            let token = opened_by-found t section opens in
            rw (opens, item_said, item_after, begin_item) (subst (λ v. Sim (followed_by (λ x n. Ok (with_lists old.said x, n)) (run (body_in section old.said.lists) next)) (in_entry (new_entry section), saying old (with_other old.said v)) more (item_ends old)) (sym token) (section_sim section))
        by None opens true uses k is =
            let token = is_executable-found use_word t uses in
            rw (opens, uses, item_said, item_after, begin_item) (subst (λ v. Sim (or_wrong UseWithoutName (option_map (with_use old.said) old.said.operand) v next) (take_use (saying old (with_other old.said v)) old.said.operand p.end) more (item_ends old)) (sym token) (use_sim old.said.operand refl))
        by None opens false uses (Some k) is =
            let token = (key_in-found t k is).1 in
            rw (opens, uses, is, item_said, item_after, begin_item) (subst (λ v. Sim (followed_by (λ x n. Ok (with_key old.said k x, n)) (next_in next)) (value k, saying old (with_other old.said v)) more (item_ends old)) (sym token) (value_sim k old none next more cut))
        by None opens false uses None is = rw (opens, uses, is, item_said, item_after, begin_item) (true, more, cut, refl)

  -- ---- all items
  abbrev pub Whole : Found Said → State × Salvaged → List Piece → Type 0
  Whole (Ok p) now pieces = Final now pieces ≡ record { said = p.0; faults = [] }
  Whole (Err e) now pieces = Stops e (Final now pieces)

  whole_from : (found : Found Said) (now mid : State × Salvaged) (pieces rest : List Piece) → Final now pieces ≡ Final mid rest → Whole found mid rest → Whole found now pieces
  whole_from (Ok p) now mid pieces rest same whole = same ∙ whole
  whole_from (Err e) now mid pieces rest same stops = subst (Stops e) (sym same) stops

  whole_then : (found : Found Said) (now : State × Salvaged) (pieces : List Piece) (old : Salvaged) → Sim found now pieces (item_ends old) → ((said : Said) (l : Left) (rest : List Piece) → found ≡ Ok (said, l) → Cut len l rest → Whole (all_said said l) (item, saying old said) rest) → Whole (followed_by all_said found) now pieces
  whole_then (Ok p) now pieces old (b, rest, cut, is) later = whole_from (all_said p.0 p.1) now (item, saying old p.0) pieces rest (same_final now pieces (item, saying old p.0) rest is) (later p.0 p.1 rest refl cut)
  whole_then (Err e) now pieces old stops later = stops

  wrong_item : (old : Salvaged) → old.faults ≡ [] → (left : Left) (w : Wrong) (past : ℕ) (b : Bool) (more : List Piece) → left.tokens ≡ [] → w.kind ≡ left.kind → IsAt len left.kind w.offset left.stop
      → Stops (missing (malformed_reason left.kind) left) (Final (item, old) (record { token = Err w; end = past; begins_line = b } ∷ more))
  unfolding take_all
  wrong_item old none left w past b more empty same place = stops_by _ old (Final (item, with_fault old (own_fault w)) more) (own_fault w) none (rest_adds len (item, with_fault old (own_fault w)) more) (malformed_of left w empty same place)

  said_whole : (count : ℕ) (old : Salvaged) → old.faults ≡ [] → (left : Left) (pieces : List Piece) → length left.tokens < count → Cut len left pieces → Whole (all_said old.said left) (item, old) pieces
  unfolding take_all
  said_whole zero old none left pieces few cut = absurd (omega (arith, few))
  said_whole (suc count) old none left pieces few cut = rw (said_next old.said left) (at (begins_so left pieces cut) (λ new none_new l rest less cut_rest. said_whole count new none_new l rest less cut_rest))
    where
      at : Begins left pieces → ((new : Salvaged) → new.faults ≡ [] → (l : Left) (rest : List Piece) → length l.tokens < count → Cut len l rest → Whole (all_said new.said l) (item, new) rest) → Whole (followed_by (round all_said item_said old.said) (next_in left)) (item, old) pieces
      at (at_end empty end is stop) later = rw (empty, end, is) (ap (λ fs. let s : Salvaged = record { said = old.said; faults = fs } in s) none)
      at (at_wrong w past b more empty end is same place) later = rw (empty, end, is) (same_stops (wrong_item old none left w past b more empty same place) refl refl)
      at (at_token p rest b more begins is cut_more) later =
          let taken_so : next_in left ≡ Ok (Some p.token, after p rest left) = rw begins refl in
          rw (taken_so, is) (
          whole_from (followed_by all_said (item_said old.said p.token (after p rest left))) (item, old) (begin_item old p.token p.end) (record { token = Ok p.token; end = p.end; begins_line = b } ∷ more) more refl (
          whole_then (item_said old.said p.token (after p rest left)) (begin_item old p.token p.end) more old (item_sim old none p rest left more cut_more p.token) (
          λ said l after_pieces goes cut_after.
          later (saying old said) none l after_pieces (omega (arith, few, next-shorter left p.token (after p rest left) taken_so, item-shorter p.token (item_after old.said p.token) (after p rest left) (said, l) goes)) cut_after
          )
          )
          )

-- of a text
whole_text : (text : List ℕ) → Whole (length text) (all_said nothing_said (tokens_of (start_of text))) (item, nothing_salvaged) (pieces_left (start_of text))
whole_text text = said_whole (length text) (1 + length (tokens_of (start_of text)).tokens) nothing_salvaged refl (tokens_of (start_of text)) (pieces_left (start_of text)) (omega arith) (pieces_cut text)

pub whole_of : (text : List ℕ) (found : Found Said) → all_said nothing_said (tokens_of (start_of text)) ≡ found → Whole (length text) found (item, nothing_salvaged) (pieces_left (start_of text))
whole_of text found is = subst (λ r. Whole (length text) r (item, nothing_salvaged) (pieces_left (start_of text))) is (whole_text text)
