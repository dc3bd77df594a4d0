-- What is passed over: the reading of pieces, one after another, goes on where the relation says.
use Rattle.std.proofs.Common.{◌≡◌, ◌∙◌, ℕ, ◌-◌, Bool, true, false, List, [], ◌∷◌, ap, refl, sym}
use Rattle.std.specs.Prelude.{◌&&◌, not, if◌then◌else◌}
use Rattle.std.proofs.lemmas.Bool.{le-leb, lt-leb}
use Rattle.cmap_tokens.specs.Pieces.{Piece}
use Rattle.cmap_text.specs.TextFiles.{Section}
use Rattle.cmap_text.specs.FaultyTexts.{Cell, Next, PassesList, PassesLine, PassesEntry, AfterFaulty, AfterList, starts_row, next_entry, next_item, list_ends, list_closes, list_left, list_goes_on, line_ends, line_follows, line_left, line_list, line_list_left, line_goes_on, entry_ends, row_follows, entry_left, entry_lone, entry_list, entry_bracket, entry_last, entry_part}
use Rattle.cmap_text.specs.Salvage.{Class, Rest, Salvaged, State, after_entry, after_part, alone, at_fault, begin_line, class_of, close_bracket, finished, in_brackets, in_entry, in_line, in_list, item, known, new_entry, open_bracket, part, pass_in_entry, pass_in_line, rest_in_line, take_in_entry, take_in_row, take_item, take_piece, take_unless_stray, value}

module _ (rows : Bool) (len : ℕ) where
  unfoldable pub step : State × Salvaged → Cell → State × Salvaged
  step now cell = if rows then take_in_row cell.parts now cell.piece else take_piece now cell.piece

  -- what is found at the end of the text
  unfoldable pub run : State × Salvaged → List Cell → Salvaged
  run now [] = finished len now
  run now (cell ∷ cells) = run (step now cell) cells

  unfoldable pub run_at : Section → Next → Salvaged → Salvaged
  run_at section (next_entry cells) old = run (in_entry (new_entry section), old) cells
  run_at section (next_item cells) old = run (item, old) cells

  -- ---- single steps
  pub run_end : (now : State × Salvaged) → run now [] ≡ finished len now
  unfolding run
  run_end now = refl

  pub goes : (now later : State × Salvaged) (cell : Cell) (cells : List Cell) → step now cell ≡ later → run now (cell ∷ cells) ≡ run later cells
  unfolding run
  goes now later cell cells is = ap (λ s. run s cells) is

  pub goes_as : (now other : State × Salvaged) (cell : Cell) (cells : List Cell) → step now cell ≡ step other cell → run now (cell ∷ cells) ≡ run other (cell ∷ cells)
  unfolding run
  goes_as now other cell cells is = ap (λ s. run s cells) is

  -- a state in which a line that begins changes nothing
  abbrev pub IsPlain : State → Type 0
  IsPlain item = Unit {0}
  IsPlain (value k) = Unit {0}
  IsPlain (in_brackets rest) = Unit {0}
  IsPlain (in_list list) = Unit {0}
  IsPlain _ = ⊥

  plain_in_row : (s : State) (old : Salvaged) (parts : ℕ) (piece : Piece) → IsPlain s → take_in_row parts (s, old) piece ≡ take_piece (s, old) piece
  plain_in_row s old parts piece plain = by s piece.begins_line plain
    where
      by : (s : State) (b : Bool) → IsPlain s → take_unless_stray (if b then begin_line parts (s, old) piece else (s, old)) piece ≡ take_piece (s, old) piece
      by item true plain = refl
      by item false plain = refl
      by (value k) true plain = refl
      by (value k) false plain = refl
      by (in_brackets rest) true plain = refl
      by (in_brackets rest) false plain = refl
      by (in_list list) true plain = refl
      by (in_list list) false plain = refl
      by _ b plain = absurd plain

  pub plain_step : (s : State) (old : Salvaged) (cell : Cell) → IsPlain s → step (s, old) cell ≡ take_piece (s, old) cell.piece
  unfolding step
  plain_step s old cell plain = by rows
    where
      by : (r : Bool) → (if r then take_in_row cell.parts (s, old) cell.piece else take_piece (s, old) cell.piece) ≡ take_piece (s, old) cell.piece
      by true = plain_in_row s old cell.parts cell.piece plain
      by false = refl

  pub item_step : (old : Salvaged) (cell : Cell) → step (item, old) cell ≡ take_item old cell.piece
  item_step old cell = plain_step item old cell tt

  -- a piece that is taken as one outside of sections
  pub item_goes : (now : State × Salvaged) (old : Salvaged) (cell : Cell) (cells : List Cell) → step now cell ≡ take_item old cell.piece → run now (cell ∷ cells) ≡ run (item, old) (cell ∷ cells)
  item_goes now old cell cells is = goes_as now (item, old) cell cells (is ∙ sym (item_step old cell))

  pub row_begun : (now : State × Salvaged) (cell : Cell) → cell.piece.begins_line ≡ true → take_in_row cell.parts now cell.piece ≡ take_unless_stray (begin_line cell.parts now cell.piece) cell.piece
  row_begun now cell begins = ap (λ b. take_unless_stray (if b then begin_line cell.parts now cell.piece else now) cell.piece) begins

  pub row_within : (now : State × Salvaged) (cell : Cell) → cell.piece.begins_line ≡ false → take_in_row cell.parts now cell.piece ≡ take_unless_stray now cell.piece
  row_within now cell within = ap (λ b. take_unless_stray (if b then begin_line cell.parts now cell.piece else now) cell.piece) within

  in_line_class : Salvaged → Section → Piece → Class → State × Salvaged
  in_line_class old section piece k = elim k [ known ↦ take_item old piece | open_bracket ↦ (in_brackets (rest_in_line section), old) | _ ↦ (in_line section, old) ]

  line_begins : (section : Section) (old : Salvaged) (piece : Piece) → piece.begins_line ≡ true → pass_in_line old section piece ≡ take_in_entry old (new_entry section) piece
  line_begins section old piece begins = ap (λ b. if b then take_in_entry old (new_entry section) piece else elim (class_of piece) [ known ↦ take_item old piece | open_bracket ↦ (in_brackets (rest_in_line section), old) | _ ↦ (in_line section, old) ]) begins

  line_goes : (section : Section) (old : Salvaged) (piece : Piece) (k : Class) → piece.begins_line ≡ false → class_of piece ≡ k → pass_in_line old section piece ≡ in_line_class old section piece k
  unfolding in_line_class
  line_goes section old piece k within is = ap (λ b. if b then take_in_entry old (new_entry section) piece else elim (class_of piece) [ known ↦ take_item old piece | open_bracket ↦ (in_brackets (rest_in_line section), old) | _ ↦ (in_line section, old) ]) within ∙ ap (λ c. elim c [ known ↦ take_item old piece | open_bracket ↦ (in_brackets (rest_in_line section), old) | _ ↦ (in_line section, old) ]) is

  -- the same piece in the first place of an entry
  first_step : (s : State) (section : Section) (old : Salvaged) (cell : Cell) → cell.piece.begins_line ≡ true → begin_line cell.parts (s, old) cell.piece ≡ (in_entry (new_entry section), old) → take_in_row cell.parts (s, old) cell.piece ≡ take_in_row cell.parts (in_entry (new_entry section), old) cell.piece
  first_step s section old cell begins is = row_begun (s, old) cell begins ∙ ap (λ now. take_unless_stray now cell.piece) is ∙ sym (row_begun (in_entry (new_entry section), old) cell begins)

  pub line_step : (section : Section) (old : Salvaged) (cell : Cell) → cell.piece.begins_line ≡ true → step (in_line section, old) cell ≡ step (in_entry (new_entry section), old) cell
  unfolding step
  line_step section old cell begins = by rows
    where
      by : (r : Bool) → (if r then take_in_row cell.parts (in_line section, old) cell.piece else take_piece (in_line section, old) cell.piece) ≡ (if r then take_in_row cell.parts (in_entry (new_entry section), old) cell.piece else take_piece (in_entry (new_entry section), old) cell.piece)
      by true = first_step (in_line section) section old cell begins refl
      by false = line_begins section old cell.piece begins

  within_step : (section : Section) (old : Salvaged) (cell : Cell) → cell.piece.begins_line ≡ false → step (in_line section, old) cell ≡ pass_in_line old section cell.piece
  unfolding step
  within_step section old cell within = by rows
    where
      by : (r : Bool) → (if r then take_in_row cell.parts (in_line section, old) cell.piece else take_piece (in_line section, old) cell.piece) ≡ pass_in_line old section cell.piece
      by true = row_within (in_line section, old) cell within
      by false = refl

  row_step : (rest : Rest) (old : Salvaged) (cell : Cell) → starts_row rows cell ≡ true → step (at_fault rest, old) cell ≡ step (in_entry (new_entry rest.section), old) cell
  unfolding step
  row_step rest old cell begins = by rows cell.piece.begins_line refl begins
    where
      by : (r b : Bool) → cell.piece.begins_line ≡ b → (r && b) ≡ true → (if r then take_in_row cell.parts (at_fault rest, old) cell.piece else take_piece (at_fault rest, old) cell.piece) ≡ (if r then take_in_row cell.parts (in_entry (new_entry rest.section), old) cell.piece else take_piece (in_entry (new_entry rest.section), old) cell.piece)
      by true true is both = first_step (at_fault rest) rest.section old cell is refl
      by true false is both = absurd (cc)
      by false b is both = absurd (cc)

  faulty_step : (rest : Rest) (old : Salvaged) (cell : Cell) → starts_row rows cell ≡ false → step (at_fault rest, old) cell ≡ pass_in_entry old rest cell.piece
  unfolding step
  faulty_step rest old cell not = by rows cell.piece.begins_line refl not
    where
      by : (r b : Bool) → cell.piece.begins_line ≡ b → (r && b) ≡ false → (if r then take_in_row cell.parts (at_fault rest, old) cell.piece else take_piece (at_fault rest, old) cell.piece) ≡ pass_in_entry old rest cell.piece
      by true true is both = absurd (cc)
      by true false is both = row_within (at_fault rest, old) cell is
      by false b is both = refl

  -- ---- what is passed over
  after_ends : (rest : Rest) (old : Salvaged) → finished len (at_fault rest, old) ≡ finished len (after_entry rest, old)
  after_ends rest old = by rest.begins_line
    where
      by : (b : Bool) → finished len (at_fault rest, old) ≡ finished len ((if b then in_line rest.section else in_entry (new_entry rest.section)), old)
      by true = refl
      by false = refl

  run_after : Rest → Next → Salvaged → Salvaged
  run_after rest (next_entry cells) old = run (after_entry rest, old) cells
  run_after rest (next_item cells) old = run (item, old) cells

  list_class : Salvaged → Rest → Piece → Class → State × Salvaged
  list_class old rest piece k = elim k [ known ↦ take_item old piece | close_bracket ↦ (after_entry rest, old) | _ ↦ (in_brackets rest, old) ]

  list_goes : (rest : Rest) (old : Salvaged) (cell : Cell) (k : Class) → class_of cell.piece ≡ k → step (in_brackets rest, old) cell ≡ list_class old rest cell.piece k
  unfolding list_class
  list_goes rest old cell k is = plain_step (in_brackets rest) old cell tt ∙ ap (λ c. elim c [ known ↦ take_item old cell.piece | close_bracket ↦ (after_entry rest, old) | _ ↦ (in_brackets rest, old) ]) is

  module _ (rest : Rest) (old : Salvaged) where
    list_passed : {cells : List Cell} {next : Next} → PassesList cells next → run (in_brackets rest, old) cells ≡ run_after rest next old
    unfolding run_after list_class
    list_passed list_ends = run_end (in_brackets rest, old) ∙ after_ends rest old ∙ sym (run_end (after_entry rest, old))
    list_passed (list_closes {cells} cell is) = goes _ _ cell cells (list_goes rest old cell close_bracket is)
    list_passed (list_left {cells} cell is) = item_goes _ old cell cells (list_goes rest old cell known is)
    list_passed (list_goes_on {cells} cell not_closed not_known more) = goes _ _ cell cells (by (class_of cell.piece) refl) ∙ list_passed more
      where
        by : (k : Class) → class_of cell.piece ≡ k → step (in_brackets rest, old) cell ≡ (in_brackets rest, old)
        by known is = absurd (not_known is)
        by alone is = list_goes rest old cell alone is
        by open_bracket is = list_goes rest old cell open_bracket is
        by close_bracket is = absurd (not_closed is)
        by part is = list_goes rest old cell part is

  module _ (section : Section) (old : Salvaged) where
    line_passed : {cells : List Cell} {next : Next} → PassesLine cells next → run (in_line section, old) cells ≡ run_at section next old
    unfolding run_at run_after in_line_class
    line_passed line_ends = run_end (in_line section, old) ∙ sym (run_end (in_entry (new_entry section), old))
    line_passed (line_follows {cells} cell begins) = goes_as _ _ cell cells (line_step section old cell begins)
    line_passed (line_left {cells} cell within is) = item_goes _ old cell cells (within_step section old cell within ∙ line_goes section old cell.piece known within is)
    line_passed (line_list {cells} cell within is list more) = goes _ _ cell cells (within_step section old cell within ∙ line_goes section old cell.piece open_bracket within is) ∙ list_passed (rest_in_line section) old list ∙ line_passed more
    line_passed (line_list_left {cells} cell within is list) = goes _ _ cell cells (within_step section old cell within ∙ line_goes section old cell.piece open_bracket within is) ∙ list_passed (rest_in_line section) old list
    line_passed (line_goes_on {cells} cell within not_open not_known more) = goes _ _ cell cells (within_step section old cell within ∙ by (class_of cell.piece) refl) ∙ line_passed more
      where
        by : (k : Class) → class_of cell.piece ≡ k → pass_in_line old section cell.piece ≡ (in_line section, old)
        by known is = absurd (not_known is)
        by alone is = line_goes section old cell.piece alone within is
        by open_bracket is = absurd (not_open is)
        by close_bracket is = line_goes section old cell.piece close_bracket within is
        by part is = line_goes section old cell.piece part within is

    abbrev pub rest_left : ℕ → Bool → Rest
    rest_left places line = record { section = section; places = places; begins_line = line }

    pub faulty_passed : (places : ℕ) (line : Bool) (cells : List Cell) (next : Next) → AfterFaulty line cells next → run (after_entry (rest_left places line), old) cells ≡ run_at section next old
    unfolding run_at
    faulty_passed places true cells next passes = line_passed passes
    faulty_passed places false cells next is = ap (λ n. run_at section n old) (sym is)

    pub faulty_list_passed : (places : ℕ) (line : Bool) {cells : List Cell} (mid next : Next) → PassesList cells mid → AfterList line mid next → run (in_brackets (rest_left places line), old) cells ≡ run_at section next old
    unfolding run_at run_after
    faulty_list_passed places line (next_entry others) next list after = list_passed (rest_left places line) old list ∙ faulty_passed places line others next after
    faulty_list_passed places line (next_item others) next list after = list_passed (rest_left places line) old list ∙ ap (λ n. run_at section n old) (sym after)

    -- an entry at fault, from the piece at fault on, or after it
    unfoldable pub run_faulty : Bool → ℕ → Bool → List Cell → Salvaged
    run_faulty line places true cells = run (at_fault (rest_left places line), old) cells
    run_faulty line places false [] = finished len (at_fault (rest_left places line), old)
    run_faulty line places false (cell ∷ cells) = run (pass_in_entry old (rest_left places line) cell.piece) cells

    run_here : (line : Bool) (places : ℕ) (may_begin : Bool) (cell : Cell) (cells : List Cell) → (may_begin && starts_row rows cell) ≡ false → run_faulty line places may_begin (cell ∷ cells) ≡ run (pass_in_entry old (rest_left places line) cell.piece) cells
    unfolding run_faulty
    run_here line places true cell cells not = goes _ _ cell cells (faulty_step (rest_left places line) old cell not)
    run_here line places false cell cells not = refl

    faulty_class : Rest → Piece → Class → State × Salvaged
    faulty_class rest piece k = elim k [ known ↦ take_item old piece | alone ↦ (at_fault rest, old) | open_bracket ↦ (in_brackets rest, old) | close_bracket ↦ (after_entry rest, old) | part ↦ (after_part rest, old) ]

    faulty_goes : (line : Bool) (places : ℕ) (may_begin : Bool) (cell : Cell) (cells : List Cell) (k : Class) → (may_begin && starts_row rows cell) ≡ false → class_of cell.piece ≡ k
        → run_faulty line places may_begin (cell ∷ cells) ≡ run (faulty_class (rest_left places line) cell.piece k) cells
    unfolding faulty_class
    faulty_goes line places may_begin cell cells k not is = run_here line places may_begin cell cells not ∙ ap (λ c. run (elim c [ known ↦ take_item old cell.piece | alone ↦ (at_fault (rest_left places line), old) | open_bracket ↦ (in_brackets (rest_left places line), old) | close_bracket ↦ (after_entry (rest_left places line), old) | part ↦ (after_part (rest_left places line), old) ]) cells) is

    pub entry_passed : (line : Bool) {places : ℕ} {may_begin : Bool} {cells : List Cell} {next : Next} → PassesEntry rows line places may_begin cells next → run_faulty line places may_begin cells ≡ run_at section next old
    unfolding run_at run_faulty faulty_class
    entry_passed line (entry_ends {places} {may_begin = true}) = run_end (at_fault (rest_left places line), old) ∙ sym (run_end (in_entry (new_entry section), old))
    entry_passed line (entry_ends {may_begin = false}) = sym (run_end (in_entry (new_entry section), old))
    entry_passed line (row_follows {places} {cells} cell begins) = goes_as _ _ cell cells (row_step (rest_left places line) old cell begins)
    entry_passed line (entry_left {places} {may_begin} {cells} cell not is) = faulty_goes line places may_begin cell cells known not is ∙ sym (goes (item, old) (take_item old cell.piece) cell cells (item_step old cell))
    entry_passed line (entry_lone {places} {may_begin} {cells} cell not is more) = faulty_goes line places may_begin cell cells alone not is ∙ entry_passed line more
    entry_passed line (entry_list {places} {may_begin} {cells} {mid} {next} cell not is list after) = faulty_goes line places may_begin cell cells open_bracket not is ∙ faulty_list_passed places line mid next list after
    entry_passed line (entry_bracket {places} {may_begin} {cells} {next} cell not is after) = faulty_goes line places may_begin cell cells close_bracket not is ∙ faulty_passed places line cells next after
    entry_passed line (entry_last {places} {may_begin} {cells} {next} cell not is few after) = faulty_goes line places may_begin cell cells part not is ∙ ap (λ b. run ((if b then after_entry (rest_left places line) else at_fault (rest_left (places - 1) line)), old) cells) (le-leb places 1 few) ∙ faulty_passed places line cells next after
    entry_passed line (entry_part {places} {may_begin} {cells} cell not is more_left more) = faulty_goes line places may_begin cell cells part not is ∙ ap (λ b. run ((if b then after_entry (rest_left places line) else at_fault (rest_left (places - 1) line)), old) cells) (lt-leb places 1 more_left) ∙ entry_passed line more
