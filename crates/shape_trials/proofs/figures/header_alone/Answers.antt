-- The bytes are a table.
use Rattle.std.proofs.Common.{is_some, ap}
use Rattle.std.proofs.lemmas.Bool.{true≢false}
use Rattle.shape_table.specs.Layout.{u16_at, u32_at, first_wrong_entry, first_wrong_row}
use Rattle.shape_trials.proofs.figures.header_alone.Goals as goal

pub returns-in_err-open : goal.returns-in_err-open
unfolding u16_at u32_at first_wrong_entry first_wrong_row
returns-in_err-open c = absurd (true≢false (ap is_some c.in_err-open.ensures.fault))
