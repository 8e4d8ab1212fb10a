-- What a load shape source is: its meaning, and the laws that every source shows.
use Rattle.std.specs.Prelude.{◌≡◌, ℕ, ◌^◌, ◌<◌, ◌≤◌, Bool, ◌&&◌, ◌||◌, ◌⊎◌, List, length, Some, None, Option, option_and_then, ◌==◌, nat_lt, slice_get, slice_index}
use Rattle.std.specs.Option.{option_map}
use Rattle.load_shapes.specs.declared.day.CategoryDay.{CategoryDay}

-- How the energy of one day is spread over its periods.
pub record Shape : Type 0 where
  -- how much data the weights rest on
  pub count : ℕ
  -- the weight of each period, in time order
  pub weights : List ℕ

-- The meaning of a source.
pub record Meaning : Type 0 where
  -- the periods of a day
  pub periods : ℕ
  -- the shape of a category's day, or none
  pub shape : CategoryDay → Option Shape

-- What a shape is, of a day of so many periods.
pub record WellFormed (periods : ℕ) (s : Shape) : Type 0 where
  -- the data count has 16 bits
  pub count_most : s.count < 2 ^ 16
  -- there is one weight for each period
  pub one_weight_each : length s.weights ≡ periods
  -- each is at most 10,000
  pub weight_most : (period : ℕ) → slice_index s.weights period ≤ 10000

-- The laws of a source. Whatever is built on sources is proved for every source that shows these.
pub record Laws (m : Meaning) : Type 0 where
  -- a day has 48 or 96 periods
  pub day_periods : (m.periods ≡ 48) ⊎ (m.periods ≡ 96)
  -- whatever shape there is is well-formed
  pub well_formed : (at : CategoryDay) (s : Shape) → m.shape at ≡ Some s → WellFormed m.periods s
  -- there is none beyond category 63 or day 399
  pub no_category : (at : CategoryDay) → 64 ≤ at.category → m.shape at ≡ None
  pub no_day : (at : CategoryDay) → 400 ≤ at.day → m.shape at ≡ None

-- Whether a source may have a shape for a category's day.
abbrev pub is_within_bounds : CategoryDay → Bool
is_within_bounds at = nat_lt at.category 64 && nat_lt at.day 400

-- Whether a day may have so many periods.
abbrev pub may_have_periods : ℕ → Bool
may_have_periods periods = periods == 48 || periods == 96

-- The answer to the question for a day's data count.
abbrev pub count_of : Option Shape → Option ℕ
count_of shape = option_map (λ s. s.count) shape

-- The answer to the question for one period's weight: none where the day has no shape or not so many periods.
abbrev pub weight_of : Option Shape → ℕ → Option ℕ
weight_of shape period = option_and_then (λ s. slice_get s.weights period) shape
