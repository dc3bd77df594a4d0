use Rattle.std.proofs.Common.{◌≡◌, Option, Some, None, Result, Ok, Err, IsErrAnd, ap, sym, ◌∙◌, refl, subst}
use Rattle.std.proofs.lemmas.Bool.{false≢true}
use Rattle.std.proofs.lemmas.List.{take_rest}
use Rattle.cmap_tokens.specs.Gaps.{IsBlank}
use Rattle.cmap_tokens.specs.Malformed.{malformed_kind}
use Rattle.cmap_tokens.specs.TokensLeft.{after_gap}
use Rattle.cmap_tokens.specs.Tokens.{IsMalformed}
use Rattle.cmap_tokens.specs.Scanner.{rest_of}
use Rattle.cmap_tokens.proofs.Fronts.{front_not_blank, read_token, left_after, leaves_blank, leaves_malformed}
use Rattle.cmap_tokens.proofs.token.Scanner.next_token.Goals as goal

some_not_none : {A E : Type 0} (x : A) → ◌≡◌ {A = Result (Option A) E} (Ok (Some x)) (Ok None) → ⊥
some_not_none x e = cc

err_not_none : {A E : Type 0} (x : E) → ◌≡◌ {A = Result (Option A) E} (Err x) (Ok None) → ⊥
err_not_none x e = cc

err_is : {A E : Type 0} (r : Result A E) (x : E) → IsErrAnd r (λ e. e ≡ x) → r ≡ Err x
err_is (Ok y) x is = absurd is
err_is (Err e) x is = ap Err is

pub returns-in_err-token : goal.returns-in_err-token
returns-in_err-token c =
    let rest = take_rest _ c.self.inside.offset ∙ ap rest_of c.self.view_is in
    let malformed = subst IsMalformed rest c.in_err-token.ensures.outcome.0 in
    let kind = c.in_err-token.ensures.outcome.1 ∙ ap (λ t. malformed_kind (after_gap t)) rest in
    rw (err_is c.from_residual.result _ c.from_residual.ensures.1) (record {
      token = tt;
      end = (λ e. absurd (err_not_none _ e), λ blank. absurd (malformed.0 blank));
      malformed = (λ e. malformed, λ h. refl);
      end_stays = λ _. refl;
      err_stays = refl;
      left = let (none, is) = leaves_malformed _ malformed in (none, is ∙ sym kind);
    })

pub returns-in_default : goal.returns-in_default
returns-in_default c =
    let blank = subst IsBlank (take_rest _ c.self.inside.offset ∙ ap rest_of c.self.view_is) (rw c.in_default.is at c.in_ok-token.ensures.outcome) in
    record {
      token = tt;
      end = (λ e. blank, λ h. refl);
      malformed = (λ e. absurd (false≢true e), λ malformed. absurd (malformed.0 blank));
      end_stays = λ _. refl;
      err_stays = tt;
      left = leaves_blank _ blank;
    }

pub returns : goal.returns
returns c =
    let read = read_token _ _ _ c.in-Some.len _ c.self.view_is (take_rest _ c.self.inside.offset) (rw c.in-Some.is at c.in_ok-token.ensures.outcome) in
    record {
      token = read;
      end = (λ e. absurd (some_not_none _ e), λ blank. absurd (front_not_blank read.2.front blank));
      malformed = (λ e. absurd (false≢true e), λ malformed. absurd (malformed.1 _ _ _ _ read.2.front));
      end_stays = λ e. absurd (some_not_none _ e);
      err_stays = tt;
      left = left_after _ _ _ read;
    }
