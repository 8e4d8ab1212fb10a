-- The faults of a source, by number, layer and place.
use Rattle.std.specs.Prelude.{ℕ, List, codes}
use Rattle.faults.specs.declared.Listing.{Listing}
use Rattle.faults.specs.Listings.{listing}
use Rattle.load_shapes.specs.declared.fault.SourceFault.{SourceFault}
use Rattle.load_shapes.specs.declared.fault.SourceFault.TheVariants.{TooShort, Periods, ZeroField, Misplaced, Entry, Row, PeriodsDiffer}

-- Number and place of every fault. Entries and rows count from 0.
abbrev pub listed : SourceFault → Listing
listed TooShort = listing 6 0
listed Periods = listing 7 0
listed ZeroField = listing 7 0
listed Misplaced = listing 8 0
listed (Entry entry) = listing 9 entry
listed (Row row) = listing 10 row
listed PeriodsDiffer = listing 11 0

-- What is wrong, in words.
abbrev pub reason : SourceFault → List ℕ
reason TooShort = codes "table under 16 bytes"
reason Periods = codes "periods of a day not 48 or 96"
reason ZeroField = codes "zero field of the header not 0"
reason Misplaced = codes "index or rows misplaced"
reason (Entry entry) = codes "entry out of range or order"
reason (Row row) = codes "weight above 10,000"
reason PeriodsDiffer = codes "sources with different periods of a day"
