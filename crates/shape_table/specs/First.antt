-- The first place that passes a test, and whether every place does.
use Rattle.std.specs.Prelude.{ℕ, Bool, Option, find}
use Rattle.std.specs.List.{list_all, range_with_len}

-- The first number below a limit that passes a test, if one does.
abbrev pub first_that : (ℕ → Bool) → ℕ → Option ℕ
first_that test limit = find test (range_with_len 0 limit)

-- Whether every number below a limit passes a test.
abbrev pub each_below : (ℕ → Bool) → ℕ → Bool
each_below test limit = list_all test (range_with_len 0 limit)
