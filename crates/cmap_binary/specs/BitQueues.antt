-- Queues of bits. The next bits are held in one number.
use Rattle.std.specs.Prelude.{◌≡◌, ◌⊎◌, ℕ, ◌-◌, ◌≤◌, List, [], ◌++◌}
use Rattle.cmap_binary.specs.PrefixWords.{bits, bits_of}

-- the last `held` bits of the number `ahead`, and then the bits of the bytes in `rest`
pub record Queue : Type 0 where
  pub ahead : ℕ
  pub held : ℕ
  pub rest : List ℕ

abbrev pub bits_ahead : Queue → List ℕ
bits_ahead q = bits_of q.held q.ahead ++ bits q.rest

-- the queue without its next `count` bits
abbrev pub after_held : Queue → ℕ → Queue
after_held q count = record { ahead = q.ahead; held = q.held - count; rest = q.rest }

-- the queue holds at least as many bits as the longest word has, or all bits
abbrev pub IsFilled : Queue → Type 0
IsFilled q = (32 ≤ q.held) ⊎ (q.rest ≡ [])
