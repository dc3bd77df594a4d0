-- The lengths of words, from how many there are of each, and the room that these take.
use Rattle.std.proofs.Common.{◌≡◌, ℕ, ◌+◌, ◌-◌, ◌*◌, ◌^◌, ◌<◌, ◌≤◌, List, [], ◌∷◌, ◌++◌, inl, inr, length, get_or, drop, replicate, refl, ap, ◌∙◌, sym, arith}
use Rattle.std.specs.List.{All, sum_by}
use Rattle.std.proofs.lemmas.Bool.{cases_lt}
use Rattle.std.proofs.lemmas.List.{append-nil, append_assoc, drop_all, drop_more, get_or-append-add, get_or-replicate, length-append, length-replicate}
use Rattle.std.proofs.lemmas.List.Elements.{All-append, All-nil}
use Rattle.std.proofs.lemmas.List.Folds.{sum_by-replicate}
use Rattle.std.proofs.lemmas.List.Sorted.{IsNonDecreasingBy-from_default}
use Rattle.std.proofs.lemmas.List.Sums.{sum_by-append}
use Rattle.cmap_binary.specs.PrefixWords.{AreWordLengths, lengths_from}
use Rattle.cmap_binary.proofs.RankedWords.{lengths_from-least, word_here, word_later, words_sized}

rising : (len : ℕ) (counts : List ℕ) (i j : ℕ) → i ≤ j → j < length (lengths_from len counts) → get_or (lengths_from len counts) i 0 ≤ get_or (lengths_from len counts) j 0
rising len [] i j h within = absurd (omega arith)
rising len (count ∷ counts) i j h within =
    let later = lengths_from (len + 1) counts in
    elim (cases_lt i count) [
      | inl below ↦ omega (arith, (word_here count len later i below).0, lengths_from-least len (count ∷ counts) j 0 within)
      | inr past ↦
          let here : count + (i - count) ≡ i = omega arith in
          let there : count + (j - count) ≡ j = omega arith in
          rw (← here, ← there) (omega (arith, (word_later count len later (i - count) 0).0, (word_later count len later (j - count) 0).0, rising (len + 1) counts (i - count) (j - count) (omega arith) (omega (arith, words_sized count len later))))
    ]

abbrev room_of : List ℕ → ℕ
room_of lens = sum_by (λ l. 2 ^ (32 - l)) lens

abbrev AreShort : List ℕ → Type 0
AreShort lens = All (λ l. (1 ≤ l) × (l ≤ 32)) lens

-- the words of the first i lengths are so many, and leave this room
pub record IsCounted (counts : List ℕ) (i total room : ℕ) : Type 0 where
  pub before : List ℕ
  pub whole : lengths_from 1 counts ≡ before ++ lengths_from (i + 1) (drop i counts)
  pub lengths : AreShort before
  pub total_is : total ≡ length before
  pub room_is : room + room_of before ≡ 2 ^ 32
  pub few : total + room ≤ 2 ^ 32

pub IsCounted-none : (counts : List ℕ) → IsCounted counts 0 0 (2 ^ 32)
IsCounted-none counts = record { before = []; whole = refl; lengths = All-nil (λ l. (1 ≤ l) × (l ≤ 32)); total_is = refl; room_is = refl; few = omega arith }

module _ {counts : List ℕ} {i total room : ℕ} (c : IsCounted counts i total room) where
  pub IsCounted-all : length counts ≤ i → (total ≡ length (lengths_from 1 counts)) × AreWordLengths (lengths_from 1 counts)
  IsCounted-all end =
      let whole : c.before ≡ lengths_from 1 counts = sym (c.whole ∙ ap (λ cs. c.before ++ lengths_from (i + 1) cs) (drop_all i counts end) ∙ append-nil c.before) in (
        c.total_is ∙ ap length whole,
        record {
          lengths = rw whole at c.lengths;
          rising = IsNonDecreasingBy-from_default (λ x. x) (lengths_from 1 counts) 0 (rising 1 counts);
          room = omega (arith, ap room_of whole, c.room_is);
        },
      )

  module _ (within : i < length counts) where
    abbrev here : List ℕ
    here = replicate (get_or counts i 0) (i + 1)

    abbrev later : List ℕ
    later = lengths_from (i + 1 + 1) (drop (i + 1) counts)

    opened : lengths_from 1 counts ≡ c.before ++ (here ++ later)
    opened = c.whole ∙ ap (λ cs. c.before ++ lengths_from (i + 1) cs) (drop_more counts i 0 within)

    pub too_long : 0 < get_or counts i 0 → 32 ≤ i → AreWordLengths (lengths_from 1 counts) → ⊥
    too_long some long sound =
        let first = ap (λ ls. get_or ls (length c.before + 0) 0) opened ∙ get_or-append-add c.before (here ++ later) 0 0 ∙ (word_here (get_or counts i 0) (i + 1) later 0 some).0 in
        omega (arith, first, sound.lengths (length c.before + 0) 0 (omega (arith, ap length opened, length-append c.before (here ++ later), words_sized (get_or counts i 0) (i + 1) later)))

    room_here : (ls : List ℕ) → room_of (here ++ ls) ≡ get_or counts i 0 * 2 ^ (32 - (i + 1)) + room_of ls
    room_here ls = let f : ℕ → ℕ = λ l. 2 ^ (32 - l) in omega (arith, sum_by-append f here ls, sum_by-replicate f (get_or counts i 0) (i + 1))

    pub no_room : room < get_or counts i 0 * 2 ^ (32 - (i + 1)) → AreWordLengths (lengths_from 1 counts) → ⊥
    no_room over sound = omega (arith, over, ap room_of opened, sum_by-append (λ l. 2 ^ (32 - l)) c.before (here ++ later), room_here later, c.room_is, sound.room)

    pub IsCounted-more : (left : ℕ) → (0 < get_or counts i 0 → i < 32) → left + get_or counts i 0 * 2 ^ (32 - (i + 1)) ≡ room → get_or counts i 0 ≤ get_or counts i 0 * 2 ^ (32 - (i + 1)) → IsCounted counts (i + 1) (total + get_or counts i 0) left
    IsCounted-more left short takes some =
        let size = length-replicate (get_or counts i 0) (i + 1) in
        record {
          before = c.before ++ here;
          whole = opened ∙ sym (append_assoc c.before here later);
          lengths = All-append (λ l. (1 ≤ l) × (l ≤ 32)) c.before here c.lengths (λ k d inside.
              rw (get_or-replicate (get_or counts i 0) k (i + 1) d (omega (arith, inside, size))) (omega arith, omega (arith, short (omega (arith, inside, size)))));
          total_is = omega (arith, c.total_is, length-append c.before here, size);
          room_is = omega (arith, c.room_is, takes, sum_by-append (λ l. 2 ^ (32 - l)) c.before here, sum_by-replicate (λ l. 2 ^ (32 - l)) (get_or counts i 0) (i + 1));
          few = omega (arith, c.few, takes, some);
        }
