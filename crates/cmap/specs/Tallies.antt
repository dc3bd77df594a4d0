-- The counts of a run over many files.
use Rattle.std.specs.Prelude.{◌≡◌, ◌⊎◌, Bool, true, false, ℕ, ◌<◌}
use Rattle.cmap_io.specs.Counts.{counted, number_seen}
use Rattle.cmap_io.specs.Statuses as statuses
use Rattle.cmap.specs.declared.check.tally.Tally.{Tally}

pub record Counts : Type 0 where
  pub checked : ℕ
  pub refused : ℕ
  -- files with a warning that is denied
  pub denied : ℕ
  -- paths that can't be read
  pub unreadable : ℕ

abbrev pub tally_seen : Tally → Counts
tally_seen tally = record { checked = number_seen tally.checked; refused = number_seen tally.refused; denied = number_seen tally.denied; unreadable = number_seen tally.unreadable }

abbrev pub none_but : ℕ → Counts
none_but unreadable = record { checked = 0; refused = 0; denied = 0; unreadable = unreadable }

abbrev pub one_more : Bool → ℕ → ℕ
one_more true number = counted number 1
one_more false number = number

-- the counts after a file that is refused or not, and that has a denied warning or not
abbrev pub with_file : Bool → Bool → Counts → Counts
with_file is_refused is_denied counts = record { checked = counted counts.checked 1; refused = one_more is_refused counts.refused; denied = one_more is_denied counts.denied; unreadable = counts.unreadable }

abbrev pub with_unreadable : Counts → Counts
with_unreadable counts = record { checked = counts.checked; refused = counts.refused; denied = counts.denied; unreadable = counted counts.unreadable 1 }

-- the status is failed if a path can't be read, else refused if a file is refused or a warning is denied, else accepted
abbrev pub IsStatus : Counts → ℕ → Type 0
IsStatus counts status = ((0 < counts.unreadable) × (status ≡ statuses.failed))
    ⊎ ((counts.unreadable ≡ 0) × ((0 < counts.refused) ⊎ (0 < counts.denied)) × (status ≡ statuses.refused))
    ⊎ ((counts.unreadable ≡ 0) × (counts.refused ≡ 0) × (counts.denied ≡ 0) × (status ≡ statuses.accepted))
