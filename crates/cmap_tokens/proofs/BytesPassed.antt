-- Loops that pass the bytes of a text one by one, and count them.
use Rattle.std.proofs.Common.{◌≡◌, ℕ, ◌+◌, ◌<◌, ◌≤◌, Bool, true, false, List, [], ◌∷◌, ◌++◌, length, get_or, take, drop, ap, refl, sym, ◌∙◌, arith}
use Rattle.std.specs.List.{list_all, prefix_len}
use Rattle.std.proofs.lemmas.Bool.{and_left, and_right}
use Rattle.std.proofs.lemmas.List.{at_drop_all, at_drop_more, drop_more, take-append-drop, take_more}
use Rattle.cmap_tokens.proofs.ByteTests.{all_append}

-- one more is passed, and g counts the rest
pub passed_more : (f g : List ℕ → ℕ) (text : List ℕ) (i m : ℕ) → i < length text → f (get_or text i 0 ∷ drop (i + 1) text) ≡ 1 + g (drop (i + 1) text) → i + f (drop i text) ≡ m → i + 1 + g (drop (i + 1) text) ≡ m
passed_more f g text i m within step passed = omega (arith, at_drop_more f text i 0 within, step, passed)

-- the rest counts k
pub passed_up_to : (f : List ℕ → ℕ) (text : List ℕ) (i k m n : ℕ) → i < length text → f (get_or text i 0 ∷ drop (i + 1) text) ≡ k → i + k ≡ n → i + f (drop i text) ≡ m → n ≡ m
passed_up_to f text i k m n within stops sum passed = omega (arith, at_drop_more f text i 0 within, stops, sum, passed)

-- all are passed
pub passed_all : (f : List ℕ → ℕ) (text : List ℕ) (i m : ℕ) → f [] ≡ 0 → i ≤ length text → length text ≤ i → i + f (drop i text) ≡ m → length text ≡ m
passed_all f text i m none within past passed = omega (arith, at_drop_all f text i past, none, within, past, passed)

-- the bytes that a test lets pass
pub prefix_more : (p : ℕ → Bool) (text : List ℕ) (i m : ℕ) → i < length text → p (get_or text i 0) ≡ true → i + prefix_len p (drop i text) ≡ m → i + 1 + prefix_len p (drop (i + 1) text) ≡ m
prefix_more p text i m within passes passed = passed_more (prefix_len p) (prefix_len p) text i m within (rw passes refl) passed

pub prefix_here : (p : ℕ → Bool) (text : List ℕ) (i m : ℕ) → i < length text → p (get_or text i 0) ≡ false → i + prefix_len p (drop i text) ≡ m → i ≡ m
prefix_here p text i m within fails passed = passed_up_to (prefix_len p) text i 0 m i within (rw fails refl) (omega arith) passed

pub prefix_all : (p : ℕ → Bool) (text : List ℕ) (i m : ℕ) → i ≤ length text → length text ≤ i → i + prefix_len p (drop i text) ≡ m → length text ≡ m
prefix_all p text i m within past passed = passed_all (prefix_len p) text i m refl within past passed

-- whether all pass
pub all_more : (p : ℕ → Bool) (text : List ℕ) (i : ℕ) → i < length text → p (get_or text i 0) ≡ true → list_all p (take i text) ≡ true → list_all p (take (i + 1) text) ≡ true
all_more p text i within passes all = ap (list_all p) (take_more text i 0 within) ∙ all_append p (take i text) (get_or text i 0 ∷ []) all (rw passes refl)

fails_after : (p : ℕ → Bool) (front rest : List ℕ) → list_all p rest ≡ false → list_all p (front ++ rest) ≡ false
fails_after p [] rest fails = fails
fails_after p (b ∷ front) rest fails = and_right (p b) _ (fails_after p front rest fails)

pub not_all : (p : ℕ → Bool) (text : List ℕ) (i : ℕ) → i < length text → p (get_or text i 0) ≡ false → list_all p text ≡ false
not_all p text i within fails =
    ap (list_all p) (sym (take-append-drop i text) ∙ ap (λ rest. take i text ++ rest) (drop_more text i 0 within)) ∙ fails_after p (take i text) _ (and_left (p (get_or text i 0)) _ fails)
