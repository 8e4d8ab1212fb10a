-- What comes of the numbers of one midnight, after those of earlier ones.
use Rattle.std.specs.Prelude.{ℕ, Some, None, Ok, Err, Option, Result}
use Rattle.std.specs.Option.{option_map}
use Rattle.registers.specs.Meaning.{Meaning}
use Rattle.registers.specs.declared.fault.RegisterFault.{RegisterFault}
use Rattle.month.specs.declared.progress.Advance.{Advance}
use Rattle.month.specs.declared.progress.DatedReading.{DatedReading}

-- The first reading has none before it; a later one tells the energy since the last.
abbrev pub since_last : {K : Type 0} → Meaning K → Option (DatedReading K) → K → Option Advance
since_last m last kept = option_map (λ before. record { since = before.day; energy = m.advance before.kept kept }) last

-- What comes of the register's answer.
abbrev pub outcome : {K : Type 0} → Meaning K → Option (DatedReading K) → Result K RegisterFault → Result (Option Advance) RegisterFault
outcome m last (Ok kept) = Ok (since_last m last kept)
outcome m last (Err fault) = Err fault

-- The energy that an outcome adds.
abbrev pub energy_of : Result (Option Advance) RegisterFault → ℕ
energy_of (Ok (Some advance)) = advance.energy
energy_of (Ok None) = 0
energy_of (Err fault) = 0

-- The last reading after the register's answer to the numbers of a day.
abbrev pub last_after : {K : Type 0} → Option (DatedReading K) → ℕ → Result K RegisterFault → Option (DatedReading K)
last_after last day (Ok kept) = Some (record { day = day; kept = kept })
last_after last day (Err fault) = last
