-- What a register is: its meaning, and the laws that every register shows.
use Rattle.std.specs.Prelude.{◌≡◌, ℕ, ◌+◌, ◌^◌, ◌<◌, ◌≤◌, Bool, true, false, ◌&&◌, List, length, ◌≢◌, ◌↔◌}

-- What a register makes of a list of whole numbers: a reading, in the form in which it is kept; or a list of
-- another length than the register has dials; or a list with a number too large, and on which dial.
pub data Taken (K : Type 0) : Type 0 where
  reading : K → Taken K
  wrong_length : Taken K
  too_large : ℕ → Taken K

-- The meaning of a register that keeps its readings as values of K. Energy is in Wh.
pub record Meaning (K : Type 0) : Type 0 where
  -- how many dials are read, each for one number
  pub dials : ℕ
  -- what becomes of any list of numbers
  pub taken : List ℕ → Taken K
  -- whether some list gives this kept reading
  pub given : K → Bool
  -- the most energy that an advance can tell
  pub full_scale : ℕ
  -- the energy from one kept reading to another
  pub advance : K → K → ℕ

-- The laws of a register. Whatever is built on registers is proved for every register that shows these.
pub record Laws {K : Type 0} (m : Meaning K) : Type 0 where
  -- there are 1 to 64 dials
  pub some_dial : 1 ≤ m.dials
  pub few_dials : m.dials ≤ 64
  -- a list is of wrong length exactly when it has not one number for each dial
  pub length_told : (xs : List ℕ) → (m.taken xs ≡ wrong_length) ↔ (length xs ≢ m.dials)
  -- a dial at fault is one of the dials
  pub dial_told : (xs : List ℕ) (dial : ℕ) → m.taken xs ≡ too_large dial → dial < m.dials
  -- a kept reading is given exactly when some list gives it
  pub given_told : (k : K) → (m.given k ≡ true) ↔ ((xs : List ℕ) × (m.taken xs ≡ reading k))
  -- the full scale is at most 10^15 Wh, and an advance at most the full scale
  pub full_scale_most : m.full_scale ≤ 10 ^ 15
  pub advance_most : (a b : K) → m.advance a b ≤ m.full_scale
  -- there is no advance from or to what no list gives
  pub no_advance : (a b : K) → (m.given a && m.given b) ≡ false → m.advance a b ≡ 0
  -- a reading between two others loses no energy
  pub triangle : (a b c : K) → m.given a ≡ true → m.given b ≡ true → m.given c ≡ true
      → m.advance a c ≤ m.advance a b + m.advance b c
