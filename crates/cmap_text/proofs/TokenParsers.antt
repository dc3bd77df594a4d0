-- What parsers of tokens find is what the tokens begin with, and they find all that is there.
use Rattle.std.proofs.Common.{◌≡◌, ℕ, zero, suc, ◌+◌, ◌<◌, ◌≤◌, refl, sym, ap, ◌∙◌, subst, List, [], ◌∷◌, length, arith}
use Rattle.std.proofs.lemmas.List.{length-map}
use Rattle.std.specs.Prelude.{map, Option, Some, None, Result, Ok, Err}
use Rattle.cmap_tokens.specs.Tokens.{Token}
use Rattle.cmap_tokens.specs.TokensLeft.{EndedToken, Left}
use Rattle.cmap_values.specs.declared.fault.Reason.{Reason}
use Rattle.cmap_text.specs.TokenParsers.{Found, after, followed_by, head_in, or_wrong, Parser, done, head, giving, chain, repeat, repeated, repeated_within, round, run}

pub err-ok : {A E : Type 0} (e : E) (x : A) → ◌≡◌ {A = Result A E} (Err e) (Ok x) → ⊥
err-ok e x is = cc

pub same_Ok : {A E : Type 0} (x y : A) → ◌≡◌ {A = Result A E} (Ok x) (Ok y) → x ≡ y
same_Ok x y is = cc

pub same_Err : {A E : Type 0} (d e : E) → ◌≡◌ {A = Result A E} (Err d) (Err e) → d ≡ e
same_Err d e is = cc

pub bound : {A B : Type 0} (more : A → Left → Found B) (found : Found A) (y : B × Left) → followed_by more found ≡ Ok y → (p : A × Left) × (found ≡ Ok p) × (more p.0 p.1 ≡ Ok y)
bound more (Err e) y is = absurd (err-ok e y is)
bound more (Ok p) y is = (p, refl, is)

-- the tokens that are left
abbrev pub words : Left → List Token
words left = map (λ p. p.token) left.tokens

pub length-words : (left : Left) → length (words left) ≡ length left.tokens
length-words left = length-map left.tokens (λ (p : EndedToken). p.token)

abbrev pub having : List EndedToken → Left → Left
having tokens left = record { passed = left.passed; tokens = tokens; ends = left.ends; kind = left.kind; stop = left.stop }

-- ---- what tokens begin with, and those after it
abbrev pub Relation : Type 0 → Type 1
Relation A = List Token → A → List Token → Type 0

abbrev pub Implies : {A : Type 0} → Relation A → Relation A → Type 0
Implies P Q = (tokens : List Token) (x : _) (rest : List Token) → P tokens x rest → Q tokens x rest

-- so many rounds, from this on
abbrev pub Rounds : {S X : Type 0} → (Token → Option (Option X)) → (S → X → Relation S) → ℕ → S → Relation S
Rounds begins More zero now tokens new rest = (t : Token) × (tokens ≡ t ∷ rest) × (begins t ≡ Some None) × (now ≡ new)
Rounds begins More (suc n) now tokens new rest = (t : Token) × (x : _) × (later mid : List Token) × (next : _) × (tokens ≡ t ∷ later) × (begins t ≡ Some (Some x)) × More now x later next mid × Rounds begins More n next mid new rest

abbrev pub Means : {A : Type 0} → Parser A → Relation A
Means (done y) tokens x rest = (y ≡ x) × (tokens ≡ rest)
Means (head fault read) tokens x rest = (t : Token) × (tokens ≡ t ∷ rest) × (read t ≡ Some x)
Means (giving f parser) tokens y rest = (x : _) × Means parser tokens x rest × (y ≡ f x)
Means (chain first more) tokens y rest = (x : _) × (mid : List Token) × Means first tokens x mid × Means (more x) mid y rest
Means (repeat fault begins more start) tokens new rest = (n : ℕ) × Rounds begins (λ now x. Means (more now x)) n start tokens new rest

-- ---- what is found is there
-- the tokens begin with what is found, and those after it are left
abbrev pub IsThere : {A : Type 0} → Relation A → Left → A × Left → Type 0
IsThere Is left p = Is (words left) p.0 (words p.1) × (p.1.ends ≡ left.ends) × (length p.1.tokens ≤ length left.tokens)

abbrev pub FindsOnly : {A : Type 0} → (Left → Found A) → Relation A → Type 0
FindsOnly read Is = (left : Left) (p : _ × Left) → read left ≡ Ok p → IsThere Is left p

-- this, if it is there, and all tokens are left
abbrev IsGiven : {A : Type 0} → Option A → Relation A
IsGiven found tokens x rest = (found ≡ Some x) × (tokens ≡ rest)

pub wrong_there : {A : Type 0} (reason : Reason) (found : Option A) (t : Token) → FindsOnly (or_wrong reason found t) (IsGiven found)
wrong_there reason None t left p is = absurd (err-ok _ p is)
wrong_there reason (Some x) t left p is = subst (IsThere (IsGiven (Some x)) left) (same_Ok (x, left) p is) ((refl, refl), refl, omega arith)

head_there : {A : Type 0} (fault : Token → Reason) (read : Token → Option A) → FindsOnly (head_in fault read) (Means (head fault read))
head_there fault read left p is = at left.tokens is
  where
    at : (tokens : List EndedToken) → head_in fault read (having tokens left) ≡ Ok p → IsThere (Means (head fault read)) (having tokens left) p
    at [] e = absurd (err-ok _ p e)
    at (q ∷ rest) e = let ((gives, same), ends, fewer) = wrong_there (fault q.token) (read q.token) q.token (after q rest left) p e in ((q.token, ap (λ ts. q.token ∷ ts) same, gives), ends, omega (arith, fewer))

module _ {S X : Type 0} (fault : Token → Reason) (begins : Token → Option (Option X)) (more : S → X → Left → Found S) (More : S → X → Relation S) (there : (now : S) (x : X) → FindsOnly (more now x) (More now x)) where
  abbrev SomeRounds : S → Relation S
  SomeRounds now tokens new rest = (n : ℕ) × Rounds begins More n now tokens new rest

  rounds_there : (count : ℕ) (now : S) → FindsOnly (repeated_within count (head_in fault begins) more now) (SomeRounds now)
  unfolding repeated_within
  rounds_there zero now left p is = absurd (err-ok _ p is)
  rounds_there (suc count) now left p is =
      let (q, first, later) = bound _ (head_in fault begins left) p is in
      let ((t, whole, begun), ends, fewer) = head_there fault begins left q first in
      from q.0 q.1 begun (whole, ends, fewer) later (rounds_there count)
    where
      from : {t : Token} (begun : Option X) (next : Left) → begins t ≡ Some begun → (words left ≡ t ∷ words next) × (next.ends ≡ left.ends) × (length next.tokens ≤ length left.tokens) → round (repeated_within count (head_in fault begins) more) more now begun next ≡ Ok p
          → ((new : S) → FindsOnly (repeated_within count (head_in fault begins) more new) (SomeRounds new)) → IsThere (SomeRounds now) left p
      from {t} None next begun (whole, ends, fewer) e again = subst (IsThere (SomeRounds now) left) (same_Ok (now, next) p e) ((zero, (t, whole, begun, refl)), ends, fewer)
      from {t} (Some x) next begun (whole, ends, fewer) e again =
          let (q, goes_on, later) = bound _ (more now x next) p e in
          let (is, more_ends, more_fewer) = there now x next q goes_on in
          let ((n, rounds), last_ends, last_fewer) = again q.0 q.1 p later in
          ((suc n, (t, x, words next, words q.1, q.0, whole, begun, is, rounds)), last_ends ∙ more_ends ∙ ends, omega (arith, fewer, more_fewer, last_fewer))

pub is_there : {A : Type 0} (r : Parser A) → FindsOnly (run r) (Means r)
unfolding repeated
is_there (done x) left p is = subst (IsThere (Means (done x)) left) (same_Ok (x, left) p is) ((refl, refl), refl, omega arith)
is_there (head fault read) left p is = head_there fault read left p is
is_there (giving f parser) left p is =
    let (q, goes_on, later) = bound _ (run parser left) p is in
    let (means, ends, fewer) = is_there parser left q goes_on in
    subst (IsThere (Means (giving f parser)) left) (same_Ok (f q.0, q.1) p later) ((q.0, means, refl), ends, fewer)
is_there (chain first more) left p is =
    let (q, goes_on, later) = bound _ (run first left) p is in
    let (first_is, first_ends, first_fewer) = is_there first left q goes_on in
    let (more_is, more_ends, more_fewer) = is_there (more q.0) q.1 p later in
    ((q.0, words q.1, first_is, more_is), more_ends ∙ first_ends, omega (arith, first_fewer, more_fewer))
is_there (repeat fault begins more start) left p is = rounds_there fault begins (λ now x. run (more now x)) (λ now x. Means (more now x)) (λ now x. is_there (more now x)) _ start left p is

pub head-shorter : {A : Type 0} (fault : Token → Reason) (read : Token → Option A) (left : Left) (p : A × Left) → head_in fault read left ≡ Ok p → length p.1.tokens < length left.tokens
head-shorter fault read left p is = let (t, whole, gives) = (head_there fault read left p is).0 in omega (arith, length-words left, length-words p.1, ap length whole)

-- ---- one round after another
module _ {S X : Type 0} (begins : Left → Found (Option X)) (more : S → X → Left → Found S)
    (takes : (left : Left) (x : X) (next : Left) → begins left ≡ Ok (Some x, next) → length next.tokens < length left.tokens)
    (keeps : (now : S) (x : X) (left : Left) (p : S × Left) → more now x left ≡ Ok p → length p.1.tokens ≤ length left.tokens) where
  -- only what begins with fewer tokens counts for the later rounds
  round_same : (f g : S → Left → Found S) (now : S) (left : Left) → ((new : S) (mid : Left) → length mid.tokens < length left.tokens → f new mid ≡ g new mid) → followed_by (round f more now) (begins left) ≡ followed_by (round g more now) (begins left)
  round_same f g now left same = from (begins left) refl
    where
      goes_on : (x : X) (next : Left) → begins left ≡ Ok (Some x, next) → (found : Found S) → more now x next ≡ found → followed_by f found ≡ followed_by g found
      goes_on x next begun (Err e) is = refl
      goes_on x next begun (Ok p) is = same p.0 p.1 (omega (arith, takes left x next begun, keeps now x next p is))

      from : (found : Found (Option X)) → begins left ≡ found → followed_by (round f more now) found ≡ followed_by (round g more now) found
      from (Err e) is = refl
      from (Ok (None, next)) is = refl
      from (Ok (Some x, next)) is = goes_on x next is (more now x next) refl

  same_within : (n m : ℕ) (now : S) (left : Left) → length left.tokens < n → length left.tokens < m → repeated_within n begins more now left ≡ repeated_within m begins more now left
  unfolding repeated_within
  same_within zero m now left long longer = absurd (omega (arith, long))
  same_within (suc n) zero now left long longer = absurd (omega (arith, longer))
  same_within (suc n) (suc m) now left long longer = round_same _ _ now left (λ new mid less. same_within n m new mid (omega (arith, long, less)) (omega (arith, longer, less)))

  pub repeated_next : (now : S) (left : Left) → repeated begins more now left ≡ followed_by (round (repeated begins more) more now) (begins left)
  unfolding repeated repeated_within
  repeated_next now left =
      let n = length left.tokens in
      same_within (1 + n) (suc n) now left (omega arith) (omega arith) ∙ round_same _ _ now left (λ new mid less. same_within n (1 + length mid.tokens) new mid less (omega arith))

pub repeat_next : {S X : Type 0} (fault : Token → Reason) (begins : Token → Option (Option X)) (more : S → X → Parser S) (now : S) (left : Left) → run (repeat fault begins more now) left ≡ followed_by (round (λ s. run (repeat fault begins more s)) (λ s x. run (more s x)) now) (head_in fault begins left)
repeat_next fault begins more = repeated_next (head_in fault begins) (λ s x. run (more s x)) (λ l x next is. head-shorter fault begins l (Some x, next) is) (λ s x l p is. (is_there (more s x) l p is).2)

-- ---- what is there is found
-- this is found, and those tokens are left
pub record IsFound {A : Type 0} (found : Found A) (x : A) (rest : List Token) (left : Left) : Type 0 where
  pub next : Left
  pub is : found ≡ Ok (x, next)
  pub whole : words next ≡ rest
  pub ends : next.ends ≡ left.ends

pub known : {A : Type 0} {x y : A} {rest : List Token} {left : Left} → x ≡ y → words left ≡ rest → IsFound (Ok (x, left)) y rest left
known {left = left} same whole = record { next = left; is = ap (λ z. Ok (z, left)) same; whole = whole; ends = refl }

pub then_found : {A B : Type 0} (more : A → Left → Found B) {found : Found A} {x : A} {y : B} {mid rest : List Token} {left : Left} → IsFound found x mid left → ((next : Left) → words next ≡ mid → IsFound (more x next) y rest next) → IsFound (followed_by more found) y rest left
then_found more first second =
    let later = second first.next first.whole in
    record { next = later.next; is = ap (followed_by more) first.is ∙ later.is; whole = later.whole; ends = later.ends ∙ first.ends }

head_found : {A : Type 0} (fault : Token → Reason) (read : Token → Option A) {x : A} (tokens rest : List Token) (left : Left) → words left ≡ tokens → Means (head fault read) tokens x rest → IsFound (head_in fault read left) x rest left
head_found fault read {x} tokens rest left at_left (t, whole, gives) = at left.tokens (at_left ∙ whole)
  where
    at : (placed : List EndedToken) → words (having placed left) ≡ t ∷ rest → IsFound (head_in fault read (having placed left)) x rest (having placed left)
    at [] e = absurd (cc)
    at (q ∷ others) e =
        let token : q.token ≡ t = cc in
        record { next = after q others left; is = rw (token, gives) refl; whole = cc; ends = refl }

-- what finds all that is there
abbrev FindsAll : {A : Type 0} → Parser A → Type 0
FindsAll r = Implies (Means r) (λ tokens x rest. (left : Left) → words left ≡ tokens → IsFound (run r left) x rest left)

module _ {S X : Type 0} (fault : Token → Reason) (begins : Token → Option (Option X)) (more : S → X → Parser S) (all : (now : S) (x : X) → FindsAll (more now x)) where
  abbrev again : S → Left → Found S
  again now = run (repeat fault begins more now)

  rounds_found : (n : ℕ) (now : S) (tokens : List Token) (new : S) (rest : List Token) (left : Left) → words left ≡ tokens → Rounds begins (λ s x. Means (more s x)) n now tokens new rest → IsFound (again now left) new rest left
  rounds_found zero now tokens new rest left at (t, whole, begun, same) = rw (repeat_next fault begins more now left) (then_found (round again (λ s x. run (more s x)) now) (head_found fault begins tokens rest left at (t, whole, begun)) (λ next. known same))
  rounds_found (suc n) now tokens new rest left at (t, x, later, mid, next, whole, begun, goes_on, rounds) =
      rw (repeat_next fault begins more now left) (then_found (round again (λ s y. run (more s y)) now) (head_found fault begins tokens later left at (t, whole, begun)) (
      λ here after. then_found again (all now x later next mid goes_on here after) (λ there after_round. rounds_found n next mid new rest there after_round rounds)
      ))

pub is_found : {A : Type 0} (r : Parser A) → FindsAll r
is_found (done x) tokens y rest (is, whole) left at = known is (at ∙ whole)
is_found (head fault read) tokens x rest means left at = head_found fault read tokens rest left at means
is_found (giving f parser) tokens y rest (x, is, same) left at = then_found (λ z next. Ok (f z, next)) (is_found parser tokens x rest is left at) (λ next. known (sym same))
is_found (chain first more) tokens y rest (x, mid, first_is, more_is) left at = then_found (λ z. run (more z)) (is_found first tokens x mid first_is left at) (is_found (more x) mid y rest more_is)
is_found (repeat fault begins more start) tokens new rest (n, rounds) left at = rounds_found fault begins more (λ now x. is_found (more now x)) n start tokens new rest left at rounds
