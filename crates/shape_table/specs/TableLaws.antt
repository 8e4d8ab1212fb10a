-- Bytes without a fault show the laws of a source.
use Rattle.std.specs.Prelude.{◌≡◌, ℕ, ◌+◌, ◌^◌, ◌<◌, ◌≤◌, true, false, not, List, length, is_some, Some, None, Option, nat_le, refl}
use Rattle.std.specs.Option.{option_map}
use Rattle.std.proofs.Common.{arith}
use Rattle.std.proofs.lemmas.Bool.{not-false, leb-true}
use Rattle.std.proofs.lemmas.Bool.Decides.{nat_tests}
use Rattle.load_shapes.specs.declared.day.CategoryDay.{CategoryDay}
use Rattle.load_shapes.specs.Weights.{by_rule_each, by_rule_most}
use Rattle.load_shapes.specs.EvenLaws.{either_periods}
use Rattle.load_shapes.specs.Meaning.{Shape, WellFormed, Laws, is_within_bounds, may_have_periods}
use Rattle.shape_table.specs.declared.fields.Header.{Header}
use Rattle.shape_table.specs.FirstLaws.{none_that, first_that_none, first_that_is, each_below_is}
use Rattle.shape_table.specs.Layout.{Bytes, u16_at, header_of, entry_at, areas_placed, Placed, entry_right, row_weight, row_right, first_wrong_entry, first_wrong_row, header_fault, areas_fault, table_fault, same_day, of_day, entry_of, entry_shape, table_meaning}

-- What bytes without a fault show.
pub record Sound (bytes : List ℕ) : Type 0 where
  pub placed : Placed bytes
  pub periods : may_have_periods (header_of bytes).periods ≡ true
  pub entries : (entry : ℕ) → entry < (header_of bytes).entries → entry_right bytes entry ≡ true
  pub rows : (row : ℕ) → row < (header_of bytes).rows → row_right bytes row ≡ true

-- Bytes that have a header have the faults of the header.
pub areas_fault_is : (bytes : List ℕ) → 16 ≤ length bytes → areas_fault bytes ≡ header_fault (header_of bytes) (length bytes)
areas_fault_is bytes h = grind (arith, nat_tests)

-- A header without a fault places its areas.
pub areas_placed_is : (h : Header) (len : ℕ) → header_fault h len ≡ None → areas_placed h len ≡ true
areas_placed_is h len e = grind (arith, nat_tests)

entries_right : (bytes : List ℕ) → first_wrong_entry bytes ≡ None → (k : ℕ) → k < (header_of bytes).entries → entry_right bytes k ≡ true
unfolding first_wrong_entry
entries_right bytes e k l = not-false (entry_right bytes k) (none_that (λ i. not (entry_right bytes i)) (header_of bytes).entries e k l)

rows_right : (bytes : List ℕ) → first_wrong_row bytes ≡ None → (k : ℕ) → k < (header_of bytes).rows → row_right bytes k ≡ true
unfolding first_wrong_row
rows_right bytes e k l = not-false (row_right bytes k) (none_that (λ i. not (row_right bytes i)) (header_of bytes).rows e k l)

pub sound : (bytes : List ℕ) → is_some (table_fault bytes) ≡ false → Sound bytes
sound bytes h = record {
  placed = record { has_header = grind (arith, nat_tests); has_areas = grind (arith, nat_tests) };
  periods = grind (arith, nat_tests);
  entries = entries_right bytes (grind (arith, nat_tests));
  rows = rows_right bytes (grind (arith, nat_tests));
}

-- What an entry that is right shows.
pub record InRange (bytes : List ℕ) (entry : ℕ) : Type 0 where
  pub category : (entry_at bytes entry).at.category < 64
  pub day : (entry_at bytes entry).at.day < 400
  pub row : (entry_at bytes entry).row < (header_of bytes).rows

pub in_range : (bytes : List ℕ) (entry : ℕ) → entry_right bytes entry ≡ true → InRange bytes entry
in_range bytes entry h = record { category = grind (arith, nat_tests); day = grind (arith, nat_tests); row = grind (arith, nat_tests) }

-- Two bytes hold at most 65,535.
pub u16_most : (bytes : List ℕ) → Bytes bytes → (at : ℕ) → u16_at bytes at < 2 ^ 16
unfolding u16_at
u16_most bytes b at = omega (arith, b at, b (at + 1))

row_most : (bytes : List ℕ) (row : ℕ) → row_right bytes row ≡ true → (j : ℕ) → j < (header_of bytes).periods → row_weight bytes row j ≤ 10000
unfolding row_right
row_most bytes row h j l = leb-true (row_weight bytes row j) 10000 (each_below_is (λ i. nat_le (row_weight bytes row i) 10000) (header_of bytes).periods h j l)

entry_well_formed : (bytes : List ℕ) → Bytes bytes → (entry : ℕ) → row_right bytes (entry_at bytes entry).row ≡ true → WellFormed (header_of bytes).periods (entry_shape bytes entry)
entry_well_formed bytes b entry h = record {
  count_most = u16_most bytes b _;
  one_weight_each = by_rule_each (row_weight bytes (entry_at bytes entry).row) (header_of bytes).periods;
  weight_most = by_rule_most (row_weight bytes (entry_at bytes entry).row) (header_of bytes).periods (row_most bytes (entry_at bytes entry).row h);
}

pub entry_of_below : (bytes : List ℕ) (at : CategoryDay) (entry : ℕ) → entry_of bytes at ≡ Some entry → entry < (header_of bytes).entries
unfolding entry_of
entry_of_below bytes at entry e = (first_that_is (of_day bytes at) (header_of bytes).entries entry e).0

beyond_category : (at : CategoryDay) → 64 ≤ at.category → is_within_bounds at ≡ false
beyond_category at l = grind (arith, nat_tests)

beyond_day : (at : CategoryDay) → 400 ≤ at.day → is_within_bounds at ≡ false
beyond_day at l = grind (arith, nat_tests)

-- A day within the bounds is none of those beyond them.
other_beyond : (own at : CategoryDay) → own.category < 64 → own.day < 400 → is_within_bounds at ≡ false → same_day own at ≡ false
other_beyond own at c d h = grind (arith, nat_tests)

-- No entry is of a day beyond the bounds.
none_beyond : (bytes : List ℕ) → Sound bytes → (at : CategoryDay) → is_within_bounds at ≡ false → entry_of bytes at ≡ None
unfolding entry_of
none_beyond bytes s at h =
    first_that_none (of_day bytes at) (header_of bytes).entries (λ k l. let own = in_range bytes k (s.entries k l) in other_beyond (entry_at bytes k).at at own.category own.day h)

found_well_formed : (bytes : List ℕ) → Bytes bytes → Sound bytes → (place : Option ℕ) → ((entry : ℕ) → place ≡ Some entry → entry < (header_of bytes).entries)
    → (t : Shape) → option_map (entry_shape bytes) place ≡ Some t → WellFormed (header_of bytes).periods t
found_well_formed bytes b s None below t e = absurd (cc)
found_well_formed bytes b s (Some entry) below t e =
    let same : entry_shape bytes entry ≡ t = cc in
    let own = in_range bytes entry (s.entries entry (below entry refl)) in
    rw (← same) (entry_well_formed bytes b entry (s.rows (entry_at bytes entry).row own.row))

pub table_lawful : (bytes : List ℕ) → Bytes bytes → is_some (table_fault bytes) ≡ false → Laws (table_meaning bytes)
table_lawful bytes b h =
    let s = sound bytes h in
    record {
      day_periods = either_periods (header_of bytes).periods s.periods;
      well_formed = λ at t e. found_well_formed bytes b s (entry_of bytes at) (entry_of_below bytes at) t e;
      no_category = λ at l. rw (none_beyond bytes s at (beyond_category at l));
      no_day = λ at l. rw (none_beyond bytes s at (beyond_day at l));
    }
