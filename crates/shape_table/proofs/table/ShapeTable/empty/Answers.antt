use Rattle.std.proofs.Common.{[], ◌∷◌, refl, arith}
use Rattle.shape_table.specs.Layout.{u16_at, u32_at, first_wrong_entry, first_wrong_row, entry_of}
use Rattle.shape_table.proofs.Octets.{octets}
use Rattle.shape_table.proofs.table.ShapeTable.empty.Goals as goal

pub invariant_of-result : goal.invariant_of-result
unfolding u16_at u32_at
invariant_of-result c = record { own_header = c.from.ensures; placed = record { has_header = omega arith; has_areas = refl } }

pub invariant_of-result-2 : goal.invariant_of-result-2
unfolding u16_at u32_at first_wrong_entry first_wrong_row
invariant_of-result-2 c = record {
  octets = octets (48 ∷ 0 ∷ 0 ∷ 0 ∷ 0 ∷ 0 ∷ 0 ∷ 0 ∷ 16 ∷ 0 ∷ 0 ∷ 0 ∷ 16 ∷ 0 ∷ 0 ∷ 0 ∷ []) refl;
  checked = refl;
}

pub returns : goal.returns
unfolding u16_at u32_at entry_of
returns c = record { periods = refl; shapes = λ at. refl }
