-- Precedence as one number of 104 bits, and the key of a clock's frame.
use Rattle.std.specs.Prelude.{ℕ, ◌+◌, ◌-◌, ◌*◌, ◌^◌}
use Rattle.choice.specs.declared.Precedence.{Precedence}

-- priority1, timeSource, variance and priority2: the 40 bits above clockID
abbrev pub high_of : Precedence → ℕ
high_of p = p.priority1 * 2 ^ 32 + p.source * 2 ^ 24 + p.variance * 2 ^ 8 + p.priority2

-- all 104 bits; less is better
unfoldable pub precedence_of : Precedence → ℕ
precedence_of p = high_of p * 2 ^ 64 + p.clock

-- the worst there is: thirteen bytes FF
abbrev pub worst_precedence : Precedence
worst_precedence = record { priority1 = 2 ^ 8 - 1; source = 2 ^ 8 - 1; variance = 2 ^ 16 - 1; priority2 = 2 ^ 8 - 1; clock = 2 ^ 64 - 1 }

-- precedence, then hop
unfoldable pub key_of : Precedence → ℕ → ℕ
key_of p hop = precedence_of p * 256 + hop
