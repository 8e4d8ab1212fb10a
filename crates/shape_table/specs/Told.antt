-- What a table tells, in plain words.
use Rattle.std.specs.Prelude.{◌≡◌, ℕ, ◌<◌, List, Some, None, ◌≢◌}
use Rattle.load_shapes.specs.declared.day.CategoryDay.{CategoryDay}
use Rattle.shape_table.specs.Layout.{header_of, entry_at, entry_shape, table_meaning}

-- Every entry is told, and nothing else: a category's day has the shape of its entry, whichever entry that is, and a day
-- without an entry has none.
pub record TellsItsEntries (bytes : List ℕ) : Type 0 where
  pub every_entry : (entry : ℕ) → entry < (header_of bytes).entries
      → (table_meaning bytes).shape (entry_at bytes entry).at ≡ Some (entry_shape bytes entry)
  pub nothing_else : (at : CategoryDay)
      → ((entry : ℕ) → entry < (header_of bytes).entries → (entry_at bytes entry).at ≢ at)
      → (table_meaning bytes).shape at ≡ None
