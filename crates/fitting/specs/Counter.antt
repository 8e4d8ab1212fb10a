-- A counter of single Wh that shows 0 to its last number, and then 0 again: a dial of another size.
use Rattle.std.specs.Prelude.{ℕ, ◌+◌, ◌-◌, ◌*◌, ◌^◌, ◌≤◌, refl}
use Rattle.std.proofs.Common.{arith}
use Rattle.registers.specs.Meaning.{Meaning, Laws}
use Rattle.registers.specs.Dials.{one_number, turning}
use Rattle.registers.specs.DialLaws.{turning_lawful}

abbrev pub counter_meaning : ℕ → Meaning ℕ
counter_meaning last = turning (last + 1) 1 (one_number (last + 1) (λ x. x))

-- It shows the laws where its last number is at most 10^15.
pub counter_lawful : (last : ℕ) → last ≤ 10 ^ 15 → Laws (counter_meaning last)
counter_lawful last most =
    let full_scale : (last + 1 - 1) * 1 ≤ 10 ^ 15 = omega arith in
    turning_lawful (last + 1) 1 (last + 1) (λ x. x) full_scale (λ x h. h) (λ k h. (h, refl))
