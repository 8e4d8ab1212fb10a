-- What two registers mean that are read as one.
use Rattle.std.specs.Prelude.{ℕ, ◌+◌, ◌^◌, Bool, false, if◌then◌else◌, ◌&&◌, length, take, drop, Some, None, Option, ◌==◌, nat_le}
use Rattle.faults.specs.declared.Listing.{Listing}
use Rattle.registers.specs.declared.fault.RegisterFault.TheVariants.{PairBeyondLimits}
use Rattle.registers.specs.Faults.{listed}
use Rattle.registers.specs.declared.register.Extent.{Extent}
use Rattle.registers.specs.Meaning.{Taken, Meaning, reading, wrong_length, too_large}

-- Whether two registers may be read as one: at most 10^15 Wh and 64 dials together.
abbrev pub may_pair : {K L : Type 0} → Meaning K → Meaning L → Bool
may_pair m n = nat_le (m.full_scale + n.full_scale) (10 ^ 15) && nat_le (m.dials + n.dials) 64

-- Dials and full scale of two registers as one, if they may be.
abbrev pub joint_extent : {K L : Type 0} → Meaning K → Meaning L → Option Extent
joint_extent m n =
    if may_pair m n then Some (record { dials = m.dials + n.dials; full_scale = m.full_scale + n.full_scale }) else None

-- Why two registers make no pair.
abbrev pub pair_refusal : {K L : Type 0} → Meaning K → Meaning L → Option Listing
pair_refusal m n = if may_pair m n then None else Some (listed PairBeyondLimits)

-- What a pair makes of the numbers of its first register, which has so many dials, and of those of its second: both
-- readings, or the first's fault, or else the second's, whose dials count on from the first's.
abbrev pub both_taken : {K L : Type 0} → ℕ → Taken K → Taken L → Taken (K × L)
both_taken dials (reading k) (reading l) = reading (k, l)
both_taken dials (reading k) wrong_length = wrong_length
both_taken dials (reading k) (too_large dial) = too_large (dials + dial)
both_taken dials wrong_length second = wrong_length
both_taken dials (too_large dial) second = too_large dial

-- Two registers side by side: the first takes its numbers from the front of the list, the second the part after them.
abbrev pub side_by_side : {K L : Type 0} → Meaning K → Meaning L → Meaning (K × L)
side_by_side m n = record {
  dials = m.dials + n.dials;
  taken = λ xs.
      if length xs == m.dials + n.dials then both_taken m.dials (m.taken (take m.dials xs)) (n.taken (drop m.dials xs))
      else wrong_length;
  given = λ k. m.given k.0 && n.given k.1;
  full_scale = m.full_scale + n.full_scale;
  advance = λ a b.
      if (m.given a.0 && n.given a.1) && (m.given b.0 && n.given b.1) then m.advance a.0 b.0 + n.advance a.1 b.1
      else 0;
}

-- Two registers that may not be read as one: one dial that is always at fault, and no energy.
abbrev pub beyond_limits : {K L : Type 0} → Meaning (K × L)
beyond_limits = record {
  dials = 1;
  taken = λ xs. if length xs == 1 then too_large 0 else wrong_length;
  given = λ k. false;
  full_scale = 0;
  advance = λ a b. 0;
}

-- A pair of any two registers.
abbrev pub pair_meaning : {K L : Type 0} → Meaning K → Meaning L → Meaning (K × L)
pair_meaning m n = if may_pair m n then side_by_side m n else beyond_limits
