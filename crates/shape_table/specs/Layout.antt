-- What bytes mean as a shape table, by where they lie. Numbers have their low byte first.
use Rattle.std.specs.Prelude.{◌≡◌, ℕ, ◌+◌, ◌-◌, ◌*◌, ◌<◌, ◌≤◌, Bool, true, if◌then◌else◌, not, ◌&&◌, ◌||◌, List, map, length, Some, None, Option, ◌==◌, nat_le, nat_lt, slice_index}
use Rattle.std.specs.List.{range_with_len}
use Rattle.std.specs.Option.{option_map, option_or}
use Rattle.load_shapes.specs.declared.day.CategoryDay.{CategoryDay}
use Rattle.load_shapes.specs.declared.fault.SourceFault.{SourceFault}
use Rattle.load_shapes.specs.declared.fault.SourceFault.TheVariants.{TooShort, Periods, ZeroField, Misplaced, Entry, Row}
use Rattle.load_shapes.specs.Meaning.{Shape, Meaning, is_within_bounds, may_have_periods}
use Rattle.load_shapes.specs.Weights.{by_rule}
use Rattle.shape_table.specs.declared.fields.Header.{Header}
use Rattle.shape_table.specs.declared.fields.IndexEntry.{IndexEntry}
use Rattle.shape_table.specs.First.{first_that, each_below}

-- The byte at a place.
abbrev pub byte_at : List ℕ → ℕ → ℕ
byte_at bytes at = slice_index bytes at

-- Bytes are numbers below 256.
abbrev pub Bytes : List ℕ → Type 0
Bytes bytes = (at : ℕ) → byte_at bytes at < 256

-- The number in two bytes.
unfoldable pub u16_at : List ℕ → ℕ → ℕ
u16_at bytes at = byte_at bytes at + byte_at bytes (at + 1) * 256

-- The number in four bytes.
unfoldable pub u32_at : List ℕ → ℕ → ℕ
u32_at bytes at = u16_at bytes at + u16_at bytes (at + 2) * 65536

-- The header has 16 bytes: the periods of a day, how many entries the index has, how many rows of weights there are, a
-- field that is always 0, where the index starts, and where the rows start.
abbrev pub header_of : List ℕ → Header
header_of bytes = record {
  periods = u16_at bytes 0;
  entries = u16_at bytes 2;
  rows = u16_at bytes 4;
  zero = u16_at bytes 6;
  index_offset = u32_at bytes 8;
  row_offset = u32_at bytes 12;
}

-- An entry has 8 bytes, here those from an offset on: the category and the day that it is for, between the two a byte
-- that is always 0, its data count, and its row. Rows count from 0.
abbrev pub entry_in : List ℕ → ℕ → IndexEntry
entry_in bytes offset = record {
  at = record { category = byte_at bytes offset; day = u16_at bytes (offset + 2) };
  zero = byte_at bytes (offset + 1);
  count = u16_at bytes (offset + 4);
  row = u16_at bytes (offset + 6);
}

-- An entry of the index. Entries count from 0.
abbrev pub entry_at : List ℕ → ℕ → IndexEntry
entry_at bytes entry = entry_in bytes ((header_of bytes).index_offset + 8 * entry)

-- All entries of the index, in order.
abbrev pub index : List ℕ → List IndexEntry
index bytes = map (entry_at bytes) (range_with_len 0 (header_of bytes).entries)

-- A row has a weight of 2 bytes for each period of the day, and row follows on row.
abbrev pub row_weight : List ℕ → ℕ → ℕ → ℕ
row_weight bytes row period = u16_at bytes ((header_of bytes).row_offset + 2 * (row * (header_of bytes).periods + period))

-- All weights of a row, in order.
abbrev pub row_weights : List ℕ → ℕ → List ℕ
row_weights bytes row = by_rule (row_weight bytes row) (header_of bytes).periods

-- The index starts at 16 or later, the rows at its end or later, and the rows end within so many bytes.
abbrev pub areas_placed : Header → ℕ → Bool
areas_placed h len =
    nat_le 16 h.index_offset
    && (nat_le (h.index_offset + 8 * h.entries) h.row_offset
    && nat_le (h.row_offset + 2 * (h.rows * h.periods)) len)

-- The header is there, and index and rows lie where they must, so that entries and weights can be read.
pub record Placed (bytes : List ℕ) : Type 0 where
  pub has_header : 16 ≤ length bytes
  pub has_areas : areas_placed (header_of bytes) (length bytes) ≡ true

-- An entry is of a category below 64 and a day below 400, has its zero, and names one of so many rows.
abbrev pub entry_in_range : ℕ → IndexEntry → Bool
entry_in_range rows entry = is_within_bounds entry.at && (entry.zero == 0 && nat_lt entry.row rows)

-- Whether two are the same category's day.
abbrev pub same_day : CategoryDay → CategoryDay → Bool
same_day at other = at.category == other.category && at.day == other.day

-- Whether one category's day comes before another: by category, and then by day.
abbrev pub comes_before : CategoryDay → CategoryDay → Bool
comes_before at other = nat_lt at.category other.category || (at.category == other.category && nat_lt at.day other.day)

-- An entry is above the one before it. The first has none before it.
abbrev pub entry_above_last : List ℕ → ℕ → Bool
entry_above_last bytes entry = (entry == 0) || comes_before (entry_at bytes (entry - 1)).at (entry_at bytes entry).at

-- An entry is right where it is in range and above the one before.
abbrev pub entry_right : List ℕ → ℕ → Bool
entry_right bytes entry = entry_in_range (header_of bytes).rows (entry_at bytes entry) && entry_above_last bytes entry

-- A row is right where it has no weight above 10,000.
unfoldable pub row_right : List ℕ → ℕ → Bool
row_right bytes row = each_below (λ period. nat_le (row_weight bytes row period) 10000) (header_of bytes).periods

-- The first entry that is not right, if there is one.
unfoldable pub first_wrong_entry : List ℕ → Option ℕ
first_wrong_entry bytes = first_that (λ entry. not (entry_right bytes entry)) (header_of bytes).entries

-- The first row that is not right, if there is one.
unfoldable pub first_wrong_row : List ℕ → Option ℕ
first_wrong_row bytes = first_that (λ row. not (row_right bytes row)) (header_of bytes).rows

-- A fault where something is not as it must be.
abbrev pub unless : Bool → SourceFault → Option SourceFault
unless right fault = if right then None else Some fault

-- Why a header is none of a table of so many bytes: the first that fits, in this order.
abbrev pub header_fault : Header → ℕ → Option SourceFault
header_fault h len =
    option_or (unless (may_have_periods h.periods) Periods)
    (option_or (unless (h.zero == 0) ZeroField)
    (unless (areas_placed h len) Misplaced))

-- Why bytes have no areas: too few for a header, or a fault of the header.
abbrev pub areas_fault : List ℕ → Option SourceFault
areas_fault bytes = option_or (unless (nat_le 16 (length bytes)) TooShort) (header_fault (header_of bytes) (length bytes))

-- Why the contents of the areas are no table's: the first entry that is not right, or else the first such row.
abbrev pub contents_fault : List ℕ → Option SourceFault
contents_fault bytes = option_or (option_map Entry (first_wrong_entry bytes)) (option_map Row (first_wrong_row bytes))

-- Why bytes are no table: they have no areas, or else a fault in these.
abbrev pub table_fault : List ℕ → Option SourceFault
table_fault bytes = option_or (areas_fault bytes) (contents_fault bytes)

-- Whether an entry is that of a category's day.
abbrev pub of_day : List ℕ → CategoryDay → ℕ → Bool
of_day bytes at entry = same_day (entry_at bytes entry).at at

-- The entry of a category's day, if there is one.
unfoldable pub entry_of : List ℕ → CategoryDay → Option ℕ
entry_of bytes at = first_that (of_day bytes at) (header_of bytes).entries

-- The shape that an entry gives: its count, and the weights of its row.
abbrev pub entry_shape : List ℕ → ℕ → Shape
entry_shape bytes entry = record { count = (entry_at bytes entry).count; weights = row_weights bytes (entry_at bytes entry).row }

-- The meaning of bytes as a source: a category's day has the shape of its entry.
abbrev pub table_meaning : List ℕ → Meaning
table_meaning bytes = record {
  periods = (header_of bytes).periods;
  shape = λ at. option_map (entry_shape bytes) (entry_of bytes at);
}
