-- When no clock is after what is heard.
use Rattle.std.specs.Prelude.{◌≡◌, ◌-◌, ◌^◌}
use Rattle.run_words.specs.declared.logs.Origin.{Origin}

-- the origin is a replica, and its time the last value of 64 bits
abbrev pub IsLastTime : Origin → Type 0
IsLastTime (Origin.Client k) = ⊥
IsLastTime (Origin.Replica from time) = time ≡ 2 ^ 64 - 1
