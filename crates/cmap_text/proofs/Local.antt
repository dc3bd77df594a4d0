-- Where a text is refused is decided by its bytes up to and including that offset: what is read of two texts that agree so far.
use Rattle.std.proofs.Common.{◌≡◌, ℕ, zero, suc, ◌+◌, ◌<◌, ◌≤◌, Bool, true, false, refl, ap, ◌∙◌, subst, List, [], ◌∷◌, ◌++◌, take, length, arith, inl, inr}
use Rattle.std.proofs.lemmas.Bool.{cases_lt}
use Rattle.std.specs.Prelude.{◌⊎◌, Option, Some, None, Ok, Err, if◌then◌else◌}
use Rattle.cmap_tokens.specs.Tokens.{Token}
use Rattle.cmap_tokens.proofs.Decided.{in_order}
use Rattle.cmap_tokens.proofs.Decided as fronts
use Rattle.cmap_tokens.proofs.Fronts.{has_tokens}
use Rattle.cmap_tokens.specs.TokensLeft.{EndedToken, Left, AreInOrder, EndInOrder, Agree, AgreesTo, start_of, tokens_of}
use Rattle.cmap_values.specs.Only.{HoldsOfNone}
use Rattle.cmap_values.specs.declared.fault.Reason.{Reason}
use Rattle.cmap_values.specs.declared.fault.Reason.TheVariants.{EndWithinSection}
use Rattle.cmap_text.specs.TextFiles.{IsTextFile}
use Rattle.cmap_text.specs.TokenParsers.{Found, Refused, missing, offset_of, after, followed_by, head_in, malformed_reason, next_in, or_wrong, token_in, Parser, done, head, giving, chain, repeat, round, run, ItemParser, reads, takes_value, wanted, run_item}
use Rattle.cmap_text.specs.TextReading.{Said, all_said, item_after, item_said, nothing_said}
use Rattle.cmap_text.proofs.TokenParsers.{having, head-shorter, is_there, repeat_next}
use Rattle.cmap_text.proofs.ItemsRead.{item-shorter, next-shorter, said_next}
use Rattle.cmap_text.proofs.TextRead.{no_file}

module _ (k : ℕ) where
  -- ---- tokens that are left of two texts, which agree up to k; past it nothing has to agree
  abbrev Alike : Left → Left → Type 0
  Alike left other = EndInOrder left × (left.passed ≤ k → AgreesTo k left other)

  agree_after : (p : EndedToken) (r s : List EndedToken) (left other : Left) (tokens others : List EndedToken) → Agree k tokens left others other → Agree k tokens (after p r left) others (after p s other)
  agree_after p r s left other [] others agree = agree
  agree_after p r s left other (t ∷ tokens) others agree = λ within.
      let (rest, same, more) = agree within in
      (rest, same, agree_after p r s left other tokens rest more)

  -- ---- what is found in them
  abbrev Refuses : {A : Type 0} → Found A → Type 0
  Refuses found = (e : Refused) × (found ≡ Err e)

  no_token : (left : Left) → left.tokens ≡ [] → Refuses (token_in left)
  no_token left none = (missing (if left.ends then EndWithinSection else malformed_reason left.kind) left, rw none refl)

  no_next : (left : Left) → left.tokens ≡ [] → left.ends ≡ false → Refuses (next_in left)
  no_next left none not = (missing (malformed_reason left.kind) left, rw (none, not) refl)

  -- what is found in the one and in the other; of what is left after it only if that matters
  abbrev Agrees : {A : Type 0} → Bool → Left → Found A → Found A → Type 0
  Agrees matters left (Err e) other = (left.passed ≤ offset_of e) × (offset_of e ≤ k → Refuses other)
  Agrees true left (Ok p) other = (left.passed ≤ p.1.passed) × EndInOrder p.1 × (p.1.passed ≤ k → (next : Left) × (other ≡ Ok (p.0, next)) × AgreesTo k p.1 next)
  Agrees false left (Ok p) other = Unit {0}

  from_earlier : {A : Type 0} (matters : Bool) (left mid : Left) (found other any : Found A) → left.passed ≤ mid.passed → Agrees matters mid found other → (mid.passed ≤ k → any ≡ other) → Agrees matters left found any
  from_earlier matters left mid (Err e) other any less (from, same) equal = (omega (arith, less, from), λ within. let (d, is) = same within in (d, equal (omega (arith, from, within)) ∙ is))
  from_earlier true left mid (Ok p) other any less (from, order, same) equal = (omega (arith, less, from), order, λ within. let (next, is, agrees) = same within in (next, equal (omega (arith, from, within)) ∙ is, agrees))
  from_earlier false left mid (Ok p) other any less agrees equal = tt

  then_agrees : {A B : Type 0} (matters : Bool) (more : A → Left → Found B) (left : Left) (found other : Found A) → Agrees true left found other → ((x : A) (next mid : Left) → found ≡ Ok (x, next) → Alike next mid → Agrees matters next (more x next) (more x mid))
      → Agrees matters left (followed_by more found) (followed_by more other)
  then_agrees matters more left (Err e) other (less, same) both = (less, λ within. let (d, is) = same within in (d, ap (followed_by more) is))
  then_agrees matters more left (Ok (x, next)) other (less, order, same) both =
      let (mid, is) : (mid : Left) × (next.passed ≤ k → (other ≡ Ok (x, mid)) × AgreesTo k next mid) = elim (cases_lt k next.passed) [
        | inl past ↦ (next, λ within. absurd (omega (arith, past, within)))
        | inr within ↦ let (mid, is, agrees) = same within in (mid, λ w. (is, agrees))
      ] in
      from_earlier matters left next (more x next) (more x mid) (followed_by more other) less (both x next mid refl (order, λ within. (is within).1)) (λ within. ap (followed_by more) (is within).0)

  abbrev IsLocal : {A : Type 0} → (Left → Found A) → Type 0
  IsLocal read = (left other : Left) → Alike left other → Agrees true left (read left) (read other)

  then_local : {A B : Type 0} (more : A → Left → Found B) (read : Left → Found A) → IsLocal read → ((x : A) → IsLocal (more x)) → IsLocal (λ left. followed_by more (read left))
  then_local more read first second left other alike = then_agrees true more left (read left) (read other) (first left other alike) (λ x next mid is. second x next mid)

  done_local : {A : Type 0} (x : A) → IsLocal (λ left. Ok (x, left))
  done_local x left other (order, agrees) = (omega arith, order, λ within. (other, refl, agrees within))

  wrong_local : {A : Type 0} (reason : Reason) (found : Option A) (t : Token) → IsLocal (or_wrong reason found t)
  wrong_local reason None t left other (order, agrees) = (omega arith, λ within. (_, refl))
  wrong_local reason (Some x) t left other alike = done_local x left other alike

  token_local : IsLocal token_in
  token_local left other (order, agrees) = at left.tokens order (λ within. (agrees within).1)
    where
      at : (tokens : List EndedToken) → AreInOrder left.passed tokens left.stop → (left.passed ≤ k → Agree k tokens left other.tokens other) → Agrees true left (token_in (having tokens left)) (token_in other)
      at [] o a = (o, λ within. let (ends, none, also, kind, same) = a (omega (arith, o, within)) within in no_token other none)
      at (p ∷ rest) o a = (o.0, o.1, λ within. let (others, begins, more) = a (omega (arith, o.0, within)) within in (after p others other, rw begins refl, (refl, agree_after p rest others left other rest others more)))

  head_local : {A : Type 0} (fault : Token → Reason) (read : Token → Option A) → IsLocal (head_in fault read)
  head_local fault read = then_local (λ t. or_wrong (fault t) (read t) t) token_in token_local (λ t. wrong_local (fault t) (read t) t)

  module _ {S X : Type 0} (fault : Token → Reason) (begins : Token → Option (Option X)) (more : S → X → Parser S) (each : (now : S) (x : X) → IsLocal (run (more now x))) where
    abbrev again : S → Left → Found S
    again now = run (repeat fault begins more now)

    rounds_local : (n : ℕ) (now : S) (left other : Left) → length left.tokens < n → Alike left other → Agrees true left (again now left) (again now other)
    rounds_local zero now left other long alike = absurd (omega (arith, long))
    rounds_local (suc n) now left other long alike =
        rw (repeat_next fault begins more now left, repeat_next fault begins more now other) (
        then_agrees true (round again (λ s x. run (more s x)) now) left (head_in fault begins left) (head_in fault begins other) (head_local fault begins left other alike) (λ x next mid is. from x next mid is (rounds_local n))
        )
      where
        from : (x : Option X) (next mid : Left) → head_in fault begins left ≡ Ok (x, next) → ((new : S) (here there : Left) → length here.tokens < n → Alike here there → Agrees true here (again new here) (again new there))
            → Alike next mid → Agrees true next (round again (λ s y. run (more s y)) now x next) (round again (λ s y. run (more s y)) now x mid)
        from None next mid is rounds alike = done_local now next mid alike
        from (Some x) next mid is rounds alike =
            then_agrees true again next (run (more now x) next) (run (more now x) mid) (each now x next mid alike) (
            λ new here there goes_on. rounds new here there (omega (arith, long, head-shorter fault begins left (Some x, next) is, (is_there (more now x) next (new, here) goes_on).2))
            )

  run_local : {A : Type 0} (r : Parser A) → IsLocal (run r)
  run_local (done x) = done_local x
  run_local (head fault read) = head_local fault read
  run_local (giving f parser) = then_local (λ x next. Ok (f x, next)) (run parser) (run_local parser) (λ x. done_local (f x))
  run_local (chain first more) = then_local (λ x. run (more x)) (run first) (run_local first) (λ x. run_local (more x))
  run_local (repeat fault begins more start) = λ left other. rounds_local fault begins more (λ now x. run_local (more now x)) (1 + length left.tokens) start left other (omega arith)

  -- ---- items
  -- the next token agrees, or the text ends
  next_local : (left other : Left) → Alike left other → (next_in left ≡ Ok (None, left)) ⊎ Agrees true left (next_in left) (next_in other)
  next_local left other (order, agrees) = at left.tokens left.ends order (λ within. (agrees within).1)
    where
      at : (tokens : List EndedToken) (ends : Bool) → AreInOrder left.passed tokens left.stop → let l : Left = record { passed = left.passed; tokens = tokens; ends = ends; kind = left.kind; stop = left.stop } in (left.passed ≤ k → Agree k tokens l other.tokens other)
          → (next_in l ≡ Ok (None, l)) ⊎ Agrees true left (next_in l) (next_in other)
      at [] true o a = inl refl
      at [] false o a = inr (o, λ within. let (ends, none, also, kind, same) = a (omega (arith, o, within)) within in no_next other none also)
      at (p ∷ rest) ends o a = inr (
        o.0,
        o.1,
        λ within. let (others, begins, more) = a (omega (arith, o.0, within)) within in (after p others other, rw begins refl, (refl, agree_after p rest others (record { passed = left.passed; tokens = p ∷ rest; ends = ends; kind = left.kind; stop = left.stop }) other rest others more)),
      )

  -- at the end all is said
  ended : (now : Said) (here : Left) → next_in here ≡ Ok (None, here) → all_said now here ≡ Ok (now, here)
  ended now here end = said_next now here ∙ ap (followed_by (round all_said item_said now)) end

  abbrev SaidAgrees : Said → Left → Left → Type 0
  SaidAgrees now left other = Alike left other → Agrees false left (all_said now left) (all_said now other)

  -- what is said after an item
  item_local : (t : Token) (i : ItemParser Said) (left other : Left) → ((new : Said) (here there : Left) → run_item t i left ≡ Ok (new, here) → SaidAgrees new here there) → Alike left other → Agrees false left (followed_by all_said (run_item t i left)) (followed_by all_said (run_item t i other))
  item_local t (wanted reason found) left other later_said alike = then_agrees false all_said left (run_item t (wanted reason found) left) (run_item t (wanted reason found) other) (wrong_local reason found t left other alike) later_said
  item_local t (reads parser) left other later_said alike = then_agrees false all_said left (run parser left) (run parser other) (run_local parser left other alike) later_said
  item_local t (takes_value set) left other later_said alike =
      elim (next_local left other alike) [
        | inl end ↦ rw (end, ended (set None) left end) tt
        | inr value ↦ then_agrees false all_said left (run_item t (takes_value set) left) (run_item t (takes_value set) other) (then_agrees true (λ v next. Ok (set v, next)) left (next_in left) (next_in other) value (λ v next mid is. done_local (set v) next mid)) later_said
      ]

  said_local : (n : ℕ) (now : Said) (left other : Left) → length left.tokens < n → SaidAgrees now left other
  said_local zero now left other long alike = absurd (omega (arith, long))
  said_local (suc n) now left other long alike =
      elim (next_local left other alike) [
        | inl end ↦ rw (ended now left end) tt
        | inr first ↦ rw (said_next now left, said_next now other) (
            then_agrees false (round all_said item_said now) left (next_in left) (next_in other) first (λ t next mid is. from t next mid is (said_local n))
            )
      ]
    where
      from : (t : Option Token) (next mid : Left) → next_in left ≡ Ok (t, next) → ((new : Said) (here there : Left) → length here.tokens < n → SaidAgrees new here there)
          → Alike next mid → Agrees false next (round all_said item_said now t next) (round all_said item_said now t mid)
      from None next mid is later_said next_alike = tt
      from (Some t) next mid is later_said next_alike = item_local t (item_after now t) next mid (λ new here there goes_on. later_said new here there (omega (arith, long, next-shorter left t next is, item-shorter t (item_after now t) next (new, here) goes_on))) next_alike

-- ---- texts
-- what is refused at a byte is refused whatever follows it
pub decided : (text : List ℕ) (e : Refused) → all_said nothing_said (tokens_of (start_of text)) ≡ Err e → offset_of e < length text → (more : List ℕ) → HoldsOfNone (IsTextFile (take (1 + offset_of e) text ++ more))
decided text e is within more =
    let left = tokens_of (start_of text) in
    let k = offset_of e in
    let other = tokens_of (start_of (take (1 + k) text ++ more)) in
    let same = said_local k (1 + length left.tokens) nothing_said left other (omega arith) (in_order text, λ low. fronts.decided text k more within) in
    let (d, refuses) = (subst (λ f. Agrees k false left f (all_said nothing_said other)) is same).1 (omega arith) in
    no_file _ other (has_tokens _) d refuses
