-- The runs that begin in a block of codes.
use Rattle.std.proofs.Common.{◌≡◌, ◌==◌, ℕ, zero, suc, false, ◌+◌, ◌-◌, ◌*◌, ◌/◌, ◌%◌, ◌^◌, ◌<◌, ◌≤◌, List, [], ◌∷◌, ◌++◌, length, get_or, sym, ap, ◌∙◌, subst, inl, inr, bit_or, arith}
use Rattle.std.specs.Prelude.{count_ones}
use Rattle.std.specs.List.{AllWithin}
use Rattle.std.proofs.lemmas.Bool.{cases_lt, ne_eqb}
use Rattle.std.proofs.lemmas.List.{get_or_append_left, get_or_push, length-append}
use Rattle.std.proofs.lemmas.Nat.{one_shl}
use Rattle.cmap_runs.specs.Blocks.{AreMade, AreStarts, HaveBegun, IsOpen, MayHold, begun_by}
use Rattle.cmap_runs.specs.Order.{IsInOrder}
use Rattle.cmap_runs.specs.Ranges.{Holds, Run}
use Rattle.cmap_runs.specs.declared.runs.blocks.Block.{Block}
use Rattle.cmap_runs.proofs.StartBits.{no_starts, no_starts_by, start_added, start_before, start_by, start_later}

low_at_least : (runs : List Run) → IsInOrder runs → (k : ℕ) (d : Run) → k < length runs → k ≤ (get_or runs k d).low
low_at_least runs order zero d lt = omega arith
low_at_least runs order (suc k) d lt = omega (arith, low_at_least runs order k d (omega arith), order.filled k d (omega arith), order.apart k (suc k) d (omega arith) lt)

-- each run begins at a code of its own
pub few_begun : (runs : List Run) (code count : ℕ) → IsInOrder runs → count ≤ length runs → AllWithin (λ run. run.low < code) runs 0 count → count ≤ code
few_begun runs code zero order within begun = omega arith
few_begun runs code (suc k) order within begun =
    let d : Run = record { low = 0; high = 0; index = 0 } in
    omega (arith, low_at_least runs order k d (omega arith), begun k d (omega arith) (omega arith))

-- the runs from one on that doesn't begin before the code
pub none_begun : (runs : List Run) (code index : ℕ) → IsInOrder runs → index < length runs
    → ((d : Run) → code ≤ (get_or runs index d).low) → AllWithin (λ run. code ≤ run.low) runs index (length runs)
none_begun runs code index order lt from = λ k d le within. grind (arith, from d, order.apart index k d, order.filled index d)

pub first_start : (runs : List Run) (first begun : ℕ) → AllWithin (λ run. run.low < first) runs 0 begun → AreStarts runs first begun begun 0
first_start runs first begun before = record {
  counts = λ place lt. subst (HaveBegun runs begun (first + place)) (let e : begun ≡ begun + count_ones (0 / 2 ^ (31 - place)) = omega (arith, no_starts_by (31 - place)) in e) (record {
    within = omega arith;
    before = λ k d le below. omega (arith, before k d le below);
    after = λ k d le below. absurd (omega arith);
  });
  clear = λ place le all. no_starts place;
}

-- one more run, at its place in the block
pub next_start : (runs : List Run) (first begun index starts place : ℕ) → IsInOrder runs → begun ≤ index → index < length runs
    → AllWithin (λ run. run.low < first) runs 0 begun → ((d : Run) → (get_or runs index d).low ≡ first + place) → place < 32
    → AreStarts runs first begun index starts → AreStarts runs first begun (index + 1) (bit_or starts (1 * 2 ^ (31 - place) % 2 ^ 32))
next_start runs first begun index starts place order more inside before low within are =
    let earlier : AllWithin (λ run. run.low < first + place) runs begun index = λ k d le below. omega (arith, order.apart k index d below inside, order.filled k d (omega arith), low d) in
    let clear = are.clear place (omega arith) earlier in
    let added : bit_or starts (1 * 2 ^ (31 - place) % 2 ^ 32) ≡ starts + 2 ^ (31 - place) = ap (bit_or starts) (one_shl (31 - place) 32 (omega arith)) ∙ start_added starts place clear within in
    subst (AreStarts runs first begun (index + 1)) (sym added) (record {
      counts = λ other lt.
          let old = are.counts other lt in
          elim (cases_lt other place) [
            | inl later ↦
                subst (HaveBegun runs (index + 1) (first + other)) (ap (λ n. begun + count_ones n) (sym (start_later starts place other clear later within))) (record {
                  within = omega (arith, old.within);
                  before = old.before;
                  after = λ k d le below.
                      elim (cases_lt k index) [
                        | inl inner ↦ old.after k d le inner
                        | inr last ↦ let same : k ≡ index = omega arith in omega (arith, ap (λ i. (get_or runs i d).low) same, low d)
                      ];
                })
            | inr by ↦
                let d : Run = record { low = 0; high = 0; index = 0 } in
                let count = begun + count_ones (starts / 2 ^ (31 - other)) in
                let all : count ≡ index =
                elim (cases_lt count index) [
                  | inl fewer ↦ absurd (omega (arith, old.after count d (omega arith) fewer, order.apart count index d fewer inside, order.filled count d (omega arith), low d))
                  | inr none ↦ omega (arith, old.within)
                ]
                in
                let more_by : index + 1 ≡ begun + count_ones ((starts + 2 ^ (31 - place)) / 2 ^ (31 - other)) = omega (arith, all, start_by starts place other clear by lt) in
                subst (HaveBegun runs (index + 1) (first + other)) more_by (record {
                  within = omega arith;
                  before = λ k d le below.
                      elim (cases_lt k index) [
                        | inl inner ↦ old.before k d le (omega (arith, all))
                        | inr last ↦ let same : k ≡ index = omega arith in omega (arith, ap (λ i. (get_or runs i d).low) same, low d)
                      ];
                  after = λ k d le below. absurd (omega arith);
                })
          ];
      clear = λ other le all.
          let d : Run = record { low = 0; high = 0; index = 0 } in
          start_before starts place other clear (omega (arith, all index d more (omega arith), low d)) le;
    })

-- all runs of the block
pub last_start : (runs : List Run) (first begun index starts : ℕ) → index ≤ length runs → AllWithin (λ run. first + 32 ≤ run.low) runs index (length runs)
    → AreStarts runs first begun index starts
    → (place : ℕ) → place < 32 → HaveBegun runs (length runs) (first + place) (begun + count_ones (starts / 2 ^ (31 - place)))
last_start runs first begun index starts within later are place lt = let old = are.counts place lt in record {
  within = omega (arith, old.within);
  before = old.before;
  after = λ k d le below.
      elim (cases_lt k index) [
        | inl inner ↦ old.after k d le inner
        | inr last ↦ omega (arith, later k d last below)
      ];
}

-- where all that have begun have ended, none holds a code of the block
pub none_holds : (runs : List Run) (first ended code : ℕ) → AllWithin (λ run. run.high < first) runs 0 ended → AllWithin (λ run. first + 32 ≤ run.low) runs ended (length runs)
    → first ≤ code → code < first + 32 → MayHold runs code 0
none_holds runs first ended code before later low high = record {
  within = omega arith;
  before = λ k d le below. absurd (omega arith);
  after = λ k d le below held.
      elim (cases_lt k ended) [
        | inl past ↦ omega (arith, before k d le past, held.1)
        | inr after ↦ omega (arith, later k d after below, held.0)
      ];
}

pub may_hold : (runs : List Run) (code begun : ℕ) → HaveBegun runs (length runs) code begun → MayHold runs code begun
may_hold runs code begun have = record {
  within = have.within;
  before = have.before;
  after = λ k d le below held. omega (arith, have.after k d le below, held.0);
}

-- the block of the runs that begin before it, and of those that begin in it
pub block_made : (runs : List Run) (code begun starts place : ℕ) → begun < 65536 → HaveBegun runs (length runs) code (begun + count_ones (starts / 2 ^ (31 - place)))
    → MayHold runs code (begun_by (record { begun = begun; starts = starts }) place)
block_made runs code begun starts place few have =
    let some : (begun == 65536) ≡ false = ne_eqb begun 65536 (λ all. omega (arith, all, few)) in
    rw some (may_hold runs code _ have)

-- one more block, whose codes come after those of the others
pub more_blocks : (runs : List Run) (list new : List Block) (block : Block) (code : ℕ) → new ≡ list ++ block ∷ [] → code ≡ 32 * length list
    → ((i place : ℕ) (d : Block) → i < length list → place < 32 → MayHold runs (32 * i + place) (begun_by (get_or list i d) place))
    → ((place : ℕ) → place < 32 → MayHold runs (code + 32 - 32 + place) (begun_by block place))
    → (i place : ℕ) (d : Block) → i < length new → place < 32 → MayHold runs (32 * i + place) (begun_by (get_or new i d) place)
more_blocks runs list new block code is code_is old here i place d lt within =
    elim (cases_lt i (length list)) [
      | inl before ↦
          subst (λ b. MayHold runs (32 * i + place) (begun_by b place)) (sym (ap (λ l. get_or l i d) is ∙ get_or_append_left list (block ∷ []) d i before)) (old i place d before within)
      | inr from ↦
          let last : length list ≡ i = omega (arith, from, lt, ap length is, length-append list (block ∷ [])) in
          let first : code + 32 - 32 + place ≡ 32 * i + place = omega (arith, code_is, ap (λ n. 32 * n) last) in
          subst (λ n. MayHold runs n (begun_by (get_or new i d) place)) first (subst (λ b. MayHold runs (code + 32 - 32 + place) (begun_by b place)) (sym (ap (λ l. get_or l i d) is ∙ get_or_push list block d i last)) (here place within))
    ]

-- ---- blocks that are made while runs come
pub none_made : (runs : List Run) (most : ℕ) → AreMade runs 0 [] most 0 0
none_made runs most = record {
  each = λ i place d lt within. absurd (omega (arith, lt));
  within = (omega arith, omega arith);
  before = λ k d le lt. absurd (omega (arith, lt));
  later = λ k d le lt. omega arith;
  unfinished = λ more. record {
    starts_are = first_start runs (32 * 0) 0 (λ k d le lt. absurd (omega (arith, lt)));
    last = λ k d le lt. absurd (omega (arith, lt));
  };
}

-- all runs that have begun end before the block, and the others begin after it
pub made_of_none : (runs : List Run) (code count next : ℕ) → next ≤ code → AllWithin (λ run. run.high < next) runs 0 count
    → AllWithin (λ run. code + 32 ≤ run.low) runs count (length runs) → (place : ℕ) → place < 32 → MayHold runs (code + place) 0
made_of_none runs code count next past ended later place lt =
    none_holds runs code count (code + place) (λ k d le below. omega (arith, ended k d le below, past)) later (omega arith) (omega (arith, lt))

pub made_of_open : (runs : List Run) (code count begun starts : ℕ) → IsInOrder runs → begun ≤ count → count ≤ length runs → AllWithin (λ run. run.low < code) runs 0 begun → code < 65536
    → AllWithin (λ run. code + 32 ≤ run.low) runs count (length runs) → IsOpen runs count code begun starts
    → (place : ℕ) → place < 32 → MayHold runs (code + place) (begun_by (record { begun = begun; starts = starts }) place)
made_of_open runs code count begun starts order some within before few later block place lt =
    block_made runs (code + place) begun starts place (omega (arith, few_begun runs code begun order (omega (arith, some, within)) before, few))
    (last_start runs code begun count starts within later block.starts_are place lt)

pub made_more : (runs : List Run) (count most begun starts : ℕ) (list new : List Block) (block : Block) → new ≡ list ++ block ∷ []
    → AllWithin (λ run. 32 * length list + 32 ≤ run.low) runs count (length runs) → length list < most
    → ((place : ℕ) → place < 32 → MayHold runs (32 * length list + place) (begun_by block place))
    → AreMade runs count list most begun starts → AreMade runs count new most count 0
made_more runs count most begun starts list new block is later more here old =
    let len : length new ≡ length list + 1 = omega (arith, ap length is, length-append list (block ∷ [])) in
    let last = (old.unfinished more).last in
    let before : AllWithin (λ run. run.low < 32 * length new) runs 0 count = λ k d le lt. omega (arith, last k d le lt, len) in
    record {
      each = λ i place d lt within.
          elim (cases_lt i (length list)) [
            | inl inner ↦
                subst (λ b. MayHold runs (32 * i + place) (begun_by b place)) (sym (ap (λ l. get_or l i d) is ∙ get_or_append_left list (block ∷ []) d i inner)) (old.each i place d inner within)
            | inr from ↦
                let at : length list ≡ i = omega (arith, from, lt, len) in
                subst (λ n. MayHold runs (32 * n + place) (begun_by (get_or new i d) place)) at
                (subst (λ b. MayHold runs (32 * length list + place) (begun_by b place)) (sym (ap (λ l. get_or l i d) is ∙ get_or_push list block d i at)) (here place within))
          ];
      within = (omega arith, old.within.1);
      before = before;
      later = λ k d le lt. omega (arith, later k d le lt, len);
      unfinished = λ _. record {
        starts_are = first_start runs (32 * length new) count before;
        last = λ k d le lt. omega (arith, before k d le lt);
      };
    }

-- ---- one more run, which begins after all blocks that are made
within_longer : (P : Run → Type 0) (runs more : List Run) (from to : ℕ) → to ≤ length runs → AllWithin P runs from to → AllWithin P (runs ++ more) from to
within_longer P runs more from to inside all = λ k d le lt. subst P (sym (get_or_append_left runs more d k (omega arith))) (all k d le lt)

within_shorter : (P : Run → Type 0) (runs more : List Run) (from to : ℕ) → to ≤ length runs → AllWithin P (runs ++ more) from to → AllWithin P runs from to
within_shorter P runs more from to inside all = λ k d le lt. subst P (get_or_append_left runs more d k (omega arith)) (all k d le lt)

last_one : (P : Run → Type 0) (runs : List Run) (run : Run) (k : ℕ) (d : Run) → P run → length runs ≤ k → k < length (runs ++ run ∷ []) → P (get_or (runs ++ run ∷ []) k d)
last_one P runs run k d holds le lt = subst P (sym (get_or_push runs run d k (omega (arith, le, lt, length-append runs (run ∷ []))))) holds

may_hold_longer : (runs : List Run) (run : Run) (code begun : ℕ) → code < run.low → MayHold runs code begun → MayHold (runs ++ run ∷ []) code begun
may_hold_longer runs run code begun below may = record {
  within = omega (arith, may.within, length-append runs (run ∷ []));
  before = within_longer (λ run. run.low ≤ code) runs (run ∷ []) 0 begun may.within may.before;
  after = λ k d le lt.
      elim (cases_lt k (length runs)) [
        | inl old ↦ within_longer (λ run. ¬ (Holds code run)) runs (run ∷ []) begun (length runs) (omega arith) may.after k d le old
        | inr new ↦ last_one (λ run. ¬ (Holds code run)) runs run k d (λ holds. omega (arith, below, holds.0)) new lt
      ];
}

starts_longer : (runs : List Run) (run : Run) (first begun starts : ℕ) → AreStarts runs first begun (length runs) starts → AreStarts (runs ++ run ∷ []) first begun (length runs) starts
starts_longer runs run first begun starts are = record {
  counts = λ place lt.
      let old = are.counts place lt in record {
        within = old.within;
        before = within_longer (λ run. run.low ≤ first + place) runs (run ∷ []) 0 _ old.within old.before;
        after = within_longer (λ run. first + place < run.low) runs (run ∷ []) _ (length runs) (omega arith) old.after;
      };
  clear = λ place le all. are.clear place le (within_shorter (λ run. run.low < first + place) runs (run ∷ []) begun (length runs) (omega arith) all);
}

pub made_longer : (runs : List Run) (run : Run) (list : List Block) (most begun starts : ℕ) → 32 * length list ≤ run.low
    → AreMade runs (length runs) list most begun starts → AreMade (runs ++ run ∷ []) (length runs) list most begun starts
made_longer runs run list most begun starts after old = record {
  each = λ i place d lt within. may_hold_longer runs run (32 * i + place) _ (omega (arith, after, lt, within)) (old.each i place d lt within);
  within = (old.within.0, omega (arith, length-append runs (run ∷ [])));
  before = within_longer (λ run. run.low < 32 * length list) runs (run ∷ []) 0 begun old.within.0 old.before;
  later = λ k d le lt. last_one (λ run. 32 * length list ≤ run.low) runs run k d after le lt;
  unfinished = λ more.
      let block = old.unfinished more in record {
        starts_are = starts_longer runs run (32 * length list) begun starts block.starts_are;
        last = within_longer (λ run. run.low < 32 * length list + 32) runs (run ∷ []) 0 (length runs) (omega arith) block.last;
      };
}

-- the next run is seen, and its start is marked in the block
pub made_next : (runs : List Run) (list : List Block) (count most begun starts low : ℕ) → IsInOrder runs → count < length runs → ((d : Run) → (get_or runs count d).low ≡ low)
    → (length list < most → low < 32 * length list + 32) → AreMade runs count list most begun starts
    → AreMade runs (count + 1) list most begun (bit_or starts (1 * 2 ^ (31 - low % 32) % 2 ^ 32))
made_next runs list count most begun starts low order inside is below old =
    let d : Run = record { low = 0; high = 0; index = 0 } in
    let from : 32 * length list ≤ low = omega (arith, is d, old.later count d (omega arith) inside) in
    record {
      each = old.each;
      within = (omega (arith, old.within), omega (arith, inside));
      before = old.before;
      later = λ k d le lt. old.later k d (omega (arith, le)) lt;
      unfinished = λ more.
          let block = old.unfinished more in record {
            starts_are = next_start runs (32 * length list) begun count starts (low % 32) order old.within.0 inside old.before
                (λ d. omega (arith, is d, from, below more)) (omega arith) block.starts_are;
            last = λ k d le lt.
                elim (cases_lt k count) [
                  | inl before ↦ block.last k d le before
                  | inr last ↦ let same : k ≡ count = omega arith in omega (arith, ap (λ i. (get_or runs i d).low) same, is d, below more)
                ];
          };
    }

-- where no more blocks may be made, the other runs change none
pub made_full : (runs : List Run) (list : List Block) (count most begun starts : ℕ) → most ≤ length list → AreMade runs count list most begun starts → AreMade runs (length runs) list most begun starts
made_full runs list count most begun starts full old = record {
  each = old.each;
  within = (omega (arith, old.within), omega arith);
  before = old.before;
  later = λ k d le lt. absurd (omega (arith, le, lt));
  unfinished = λ more. absurd (omega (arith, more, full));
}
