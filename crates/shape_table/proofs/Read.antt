-- What is read of the index and of a row, place by place.
use Rattle.std.proofs.Common.{◌≡◌, ℕ, ◌<◌, ◌≤◌, false, nat_le, List, map, length, get_or, is_some, Some, sym, ap, ◌∙◌, ⊎_elim, zero-add, arith}
use Rattle.std.specs.List.{list_all, range_with_len}
use Rattle.std.proofs.lemmas.List.{get_or-map, length-map}
use Rattle.std.proofs.lemmas.List.FromFn.{get_or-map-range_with_len}
use Rattle.std.proofs.lemmas.List.Folds.{list_all-map}
use Rattle.load_shapes.specs.declared.day.CategoryDay.{CategoryDay}
use Rattle.shape_table.specs.declared.shape.ShapeInPlace.{ShapeInPlace}
use Rattle.shape_table.specs.InPlace.{shape_in}
use Rattle.shape_table.specs.Layout.{Bytes, u16_at, header_of, entry_in, entry_at, index, row_weight, row_weights, row_right, table_fault, table_meaning}
use Rattle.shape_table.specs.TableLaws.{table_lawful}

pub entry_read : (bytes : List ℕ) (entries : List (List ℕ)) (place : ℕ) (d : List ℕ) → map (λ entry. entry_in entry 0) entries ≡ index bytes
    → length entries ≡ (header_of bytes).entries → place < (header_of bytes).entries → entry_in (get_or entries place d) 0 ≡ entry_at bytes place
entry_read bytes entries place d e n l =
    sym (get_or-map (λ entry. entry_in entry 0) entries place d (entry_in d 0) (omega arith))
    ∙ ap (λ all. get_or all place (entry_in d 0)) e
    ∙ get_or-map-range_with_len (entry_at bytes) 0 (header_of bytes).entries place place (entry_in d 0) l (zero-add place)

pub row_light : (bytes : List ℕ) (row : ℕ) (weights : List (List ℕ)) → map (λ weight. u16_at weight 0) weights ≡ row_weights bytes row
    → list_all (λ weight. nat_le (u16_at weight 0) 10000) weights ≡ row_right bytes row
unfolding row_right
row_light bytes row weights e =
    sym (list_all-map (λ w. nat_le w 10000) (λ weight. u16_at weight 0) weights)
    ∙ ap (list_all (λ w. nat_le w 10000)) e
    ∙ list_all-map (λ w. nat_le w 10000) (row_weight bytes row) (range_with_len 0 (header_of bytes).periods)

-- A row that was found has at most 96 weights.
pub row_within_day : (bytes : List ℕ) → Bytes bytes → is_some (table_fault bytes) ≡ false → (at : CategoryDay) (found : ShapeInPlace) → Some (shape_in found) ≡ (table_meaning bytes).shape at → length found.row.now ≤ 96
row_within_day bytes b h at found e =
    let laws = table_lawful bytes b h in
    let each = (laws.well_formed at (shape_in found) (sym e)).one_weight_each in
    let size = length-map found.row.now (λ weight. u16_at weight 0) in
    let most : (table_meaning bytes).periods ≤ 96 = ⊎_elim (λ p. omega arith) (λ p. omega arith) laws.day_periods in
    omega arith
