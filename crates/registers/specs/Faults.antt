-- The faults of a register, by number, layer and place, and what each call answers.
use Rattle.std.specs.Prelude.{ℕ, ◌+◌, List, Ok, Err, codes, Result}
use Rattle.faults.specs.declared.Listing.{Listing}
use Rattle.faults.specs.Listings.{listing}
use Rattle.registers.specs.declared.fault.RegisterFault.{RegisterFault}
use Rattle.registers.specs.declared.fault.RegisterFault.TheVariants.{Digits, Weight, PairBeyondLimits, WrongCount, NumberTooLarge}
use Rattle.registers.specs.Meaning.{Taken, reading, wrong_length, too_large}

-- Number and place of every fault. Dials count from 0.
abbrev pub listed : RegisterFault → Listing
listed Digits = listing 1 0
listed Weight = listing 2 0
listed PairBeyondLimits = listing 3 0
listed WrongCount = listing 4 0
listed (NumberTooLarge dial) = listing 5 dial

-- The answer to a list of numbers: the kept reading, or fault 4, or fault 5 with the dial.
abbrev pub told : {K : Type 0} → Taken K → Result K RegisterFault
told (reading k) = Ok k
told wrong_length = Err WrongCount
told (too_large dial) = Err (NumberTooLarge dial)

-- A fault of a register whose dials stand after so many others.
abbrev pub counted_on : ℕ → RegisterFault → RegisterFault
counted_on dials Digits = Digits
counted_on dials Weight = Weight
counted_on dials PairBeyondLimits = PairBeyondLimits
counted_on dials WrongCount = WrongCount
counted_on dials (NumberTooLarge dial) = NumberTooLarge (dials + dial)

-- What is wrong, in words.
abbrev pub reason : RegisterFault → List ℕ
reason Digits = codes "digits not 1 to 8"
reason Weight = codes "weight not 1 to 1,000,000 Wh"
reason PairBeyondLimits = codes "pair beyond 64 dials or 10^15 Wh"
reason WrongCount = codes "wrong count of numbers"
reason (NumberTooLarge dial) = codes "number too large for its dial"
