-- The place is one of the index, and the entry there was found in range.
use Rattle.std.proofs.Common.{sym}
use Rattle.shape_table.specs.TableLaws.{sound, in_range, entry_of_below}
use Rattle.shape_table.proofs.table.ShapeTable.find.Goals as goal

pub entry-count-requires : goal.entry-count-requires
entry-count-requires c = entry_of_below c.args.self.now.areas.bytes.now c.args.at c.in_ok-place.place (sym c.in_ok-place.ensures)

pub row-row-requires : goal.row-row-requires
row-row-requires c =
    let table = c.args.self.now in
    let bytes = table.areas.bytes.now in
    let below = entry_of_below bytes c.args.at c.in_ok-place.place (sym c.in_ok-place.ensures) in
    rw c.entry-count.ensures (in_range bytes c.in_ok-place.place ((sound bytes table.checked).entries c.in_ok-place.place below)).row
