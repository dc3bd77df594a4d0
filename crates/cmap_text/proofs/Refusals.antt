-- What calls that read tokens answer.
use Rattle.std.proofs.Common.{◌≡◌, refl, ◌∙◌, true}
use Rattle.std.specs.Prelude.{Option, Some, None, Result, Ok, Err, IfErr, IfOk, IsErrAnd, IsOkAnd, MatchResult, OnOk, option_map}
use Rattle.std.specs.Option.{ok_or}
use Rattle.std.proofs.lemmas.Iterator.Adapters.{option_map_id}
use Rattle.cmap_tokens.specs.TokensLeft.{Left}
use Rattle.cmap_values.specs.Outcomes.{Outcome, RefusesWith}
use Rattle.cmap_values.specs.declared.fault.Fault.{Fault}
use Rattle.cmap_values.specs.declared.fault.Fault.TheVariants as fault
use Rattle.cmap_values.specs.declared.fault.Reason.{Reason}
use Rattle.cmap_values.proofs.Outcomes as outcomes
use Rattle.cmap_text.specs.EntriesSeen.{ReadsAs, RefusesAt, WhereRefused, refused_seen}
use Rattle.cmap_text.specs.TokenParsers.{Found, Refused, followed_by, or_wrong}
use Rattle.cmap_text.specs.declared.wrong_token.WrongToken.{WrongToken}
use Rattle.cmap_tokens.specs.Tokens.{Token}
use Rattle.cmap_tokens.specs.TokenSeen.{token_seen}
use Rattle.cmap_tokens.specs.declared.token.StringToken.{StringToken}
use Rattle.cmap_tokens.specs.declared.token.Token.TheVariants as declared
use Rattle.cmap_tokens.specs.declared.token.Token as the_token
use Rattle.cmap_values.specs.declared.fault.Reason.TheVariants.{CodeExpected}
use Rattle.cmap_text.specs.TextReading.{code_fault, value_in}

-- what is refused in a part is refused in all, in the same way
pub refused_as : {A B : Type 0} (here : Left) (part : Result A Refused) (all : Result B Refused) → ((e : Refused) → part ≡ Err e → all ≡ Err e) → (wrong : WrongToken) → RefusesAt here part wrong → RefusesAt here all wrong
refused_as here part all same wrong (token, refused, told) = (token, same (refused_seen token wrong here) refused, told)

-- what another call ended with, passed on by `?`
pub passed_on : {T A B : Type 0} (r : Result T (Fault WrongToken)) (fault : Fault WrongToken) (P : T → Type 0) (here : Left) (part : Result A Refused) (all : Result B Refused) → IsErrAnd r (λ e. e ≡ fault) → RefusesWith (RefusesAt here part) fault → ((e : Refused) → part ≡ Err e → all ≡ Err e)
    → Outcome P (RefusesAt here all) r
passed_on r fault P here part all is refused same = outcomes.passed_on P r fault is refused (refused_as here part all same)

-- what is made of a part that is read
pub read_on_as : {R A B : Type 0} (made : A → B) (here : Left) (part : Found A) (all : Found B) (x : A) (y : B) (r : Result R (Fault WrongToken)) → all ≡ followed_by (λ x next. Ok (made x, next)) part → made x ≡ y → Outcome (λ done. part ≡ Ok (x, here)) (RefusesAt here part) r → Outcome (λ done. all ≡ Ok (y, here)) (RefusesAt here all) r
read_on_as made here part all x y (Ok done) is gives (found, refused) = (is ∙ rw (found, gives) refl, tt)
read_on_as made here part all x y (Err (fault.Refused wrong)) is gives (found, (token, refused, told)) = (tt, (token, is ∙ rw refused refl, told))
read_on_as made here part all x y (Err fault.Memory) is gives (found, refused) = (tt, tt)

-- what is read, in an option
pub some_read : {A B : Type 0} (seen : A → B) (here : Left) (part : Found B) (all : Found (Option B)) (r : Result A (Fault WrongToken)) (made : Result (Option A) (Fault WrongToken)) → MatchResult r (λ x. IsOkAnd made (λ o. o ≡ Some x)) (λ e. made ≡ Err e) → all ≡ followed_by (λ x next. Ok (Some x, next)) part → ReadsAs part (λ x. (seen x, here)) here r → ReadsAs all (λ o. (option_map seen o, here)) here made
some_read seen here part all (Ok x) (Ok o) is gives (found, refused) = (gives ∙ rw (is, found) refl, tt)
some_read seen here part all (Ok x) (Err e) is gives read = absurd is
some_read seen here part all (Err (fault.Refused wrong)) made is gives (found, (token, refused, told)) = rw is (tt, (token, gives ∙ rw refused refl, told))
some_read seen here part all (Err fault.Memory) made is gives read = rw is (tt, tt)

-- a want of memory refuses nothing
pub no_memory : {T A : Type 0} (r : Result T (Fault WrongToken)) (P : T → Type 0) (here : Left) (all : Result A Refused) → IsErrAnd r (λ e. e ≡ fault.Memory) → Outcome P (RefusesAt here all) r
no_memory (Ok x) P here all is = absurd is
no_memory (Err e) P here all is = (tt, rw is tt)

-- the fault of another call, handed on as it is
pub handed_on : {A B : Type 0} (fault : Fault WrongToken) (here : Left) (part : Result A Refused) (all : Result B Refused) → RefusesWith (RefusesAt here part) fault → ((e : Refused) → part ≡ Err e → all ≡ Err e) → RefusesWith (RefusesAt here all) fault
handed_on fault here part all refused same = outcomes.refused_as fault refused (refused_as here part all same)

-- what a call makes that fails only where memory is wanted
pub made_so : {T A : Type 0} (r : Result T (Fault WrongToken)) (made gives : Type 0) (here : Left) (all : Result A Refused) → OnOk r made → IfErr r (λ e. e ≡ fault.Memory) → (made → gives) → Outcome (λ done. gives) (RefusesAt here all) r
made_so (Ok x) made gives here all holds fails so = (so holds, tt)
made_so (Err e) made gives here all holds fails so = (tt, rw fails tt)

pub never_refused : {T : Type 0} (r : Result T (Fault WrongToken)) (holds : Type 0) → IfErr r (λ e. e ≡ fault.Memory) → WhereRefused holds r
never_refused (Ok x) holds fails wrong same = absurd (cc)
never_refused (Err e) holds fails wrong same = absurd (cc)

pub only_memory : {T : Type 0} (r : Result T (Fault WrongToken)) → IsErrAnd r (λ e. e ≡ fault.Memory) → IfErr r (λ e. e ≡ fault.Memory)
only_memory (Ok x) is = absurd is
only_memory (Err e) is = is

pub memory_only : {T : Type 0} (r : Result T (Fault WrongToken)) (P : WrongToken → Type 0) → IsErrAnd r (λ e. e ≡ fault.Memory) → IfErr r (RefusesWith P)
memory_only (Ok x) P is = absurd is
memory_only (Err e) P is = rw is tt

pub none_refused : {T : Type 0} (r : Result T (Fault WrongToken)) (holds : Type 0) → IsErrAnd r (λ e. e ≡ fault.Memory) → WhereRefused holds r
none_refused (Ok x) holds is wrong same = absurd is
none_refused (Err e) holds is wrong same = absurd (cc)

-- what is found in an option, or a refusal of the token in its place
pub given : {A B : Type 0} (seen : A → B) (o : Option A) (found : Option B) (old new : Left) (reason : Reason) (token : Token) → option_map seen o ≡ found → old ≡ new
    → Outcome (λ x. or_wrong reason found token old ≡ Ok (seen x, new)) (RefusesAt new (or_wrong reason found token old)) (ok_or o (fault.Refused (record { is_token = true; reason = reason })))
given seen None found old new reason token is same = (tt, (Some token, rw (← is, same) refl, refl))
given seen (Some x) found old new reason token is same = (rw (← is, same) refl, tt)

-- the same, where what is found is seen as it is
pub given_so : {A : Type 0} (o found : Option A) (here : Left) (reason : Reason) (token : Token) → o ≡ found
    → Outcome (λ x. or_wrong reason found token here ≡ Ok (x, here)) (RefusesAt here (or_wrong reason found token here)) (ok_or o (fault.Refused (record { is_token = true; reason = reason })))
given_so o found here reason token is = given (λ x. x) o found here here reason token (option_map_id o ∙ is) refl

-- a token that is no string is no code and no destination
pub no_string : (token : the_token.Token) → ((string : StringToken) → token ≡ declared.String string → ⊥) → (value_in (token_seen token) ≡ None) × (code_fault (token_seen token) ≡ CodeExpected)
no_string (declared.String string) other = absurd (other string refl)
no_string (declared.Name name) other = (refl, refl)
no_string (declared.Number number) other = (refl, refl)

-- what holds where a call refuses, of the one that is refused
pub where_refused : {R : Type 0} (P : WrongToken → Type 0) (holds : Type 0) (e : Fault WrongToken) → RefusesWith P e → WhereRefused {A = R} holds (Err e) → RefusesWith (λ wrong. P wrong × holds) e
where_refused P holds (fault.Refused wrong) refused stays = (refused, stays wrong refl)
where_refused P holds fault.Memory refused stays = tt

pub if_ok : {A E : Type 0} (r : Result A E) (P Q : A → Type 0) → ((x : A) → P x → Q x) → IfOk r P → IfOk r Q
if_ok (Ok x) P Q gives holds = gives x holds
if_ok (Err e) P Q gives holds = tt
