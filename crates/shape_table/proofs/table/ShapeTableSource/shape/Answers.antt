-- The weights of the day's row are written into their places.
use Rattle.std.proofs.Common.{◌≡◌, Some, List, ℕ, map, length, slice_get, unwrap_or, sym, ap, ◌∙◌, arith}
use Rattle.std.proofs.lemmas.List.{get_or-map, length-map}
use Rattle.load_shapes.specs.Meaning.{count_of, weight_of}
use Rattle.load_shapes.proofs.Asked.{asked_each}
use Rattle.shape_table.specs.Layout.{u16_at, table_meaning}
use Rattle.shape_table.proofs.Filled.{filled_none, filled_more, filled_all}
use Rattle.shape_table.proofs.Read.{row_within_day}
use Rattle.shape_table.proofs.table.ShapeTableSource.shape.Goals as goal

abbrev read : List ℕ → ℕ
read weight = u16_at weight 0

pub loop-period-init : goal.loop-period-init
loop-period-init c = filled_none _

pub loop-period-preserved : goal.loop-period-preserved
loop-period-preserved c =
    let table = c.args.self.now in
    let found = c.in_ok-count.field-0 in
    let most = row_within_day table.areas.bytes.now table.octets table.checked c.args.at found c.in_ok-count.ensures in
    filled_more (map read found.row.now) c.loop-period.period c.loop-period.weights c.weight_in.result (omega arith)
    (c.weight_in.ensures ∙ sym (get_or-map read found.row.now c.loop-period.period _ 0 c.loop-period-test.true)) c.loop-period.invariant

pub returns : goal.returns
returns c =
    let o = (table_meaning c.args.self.now.areas.bytes.now).shape c.args.at in
    let found = c.in_ok-count.field-0 in
    let told : Some found.count ≡ count_of o = ap count_of c.in_ok-count.ensures in
    let weight : (k : ℕ) → slice_get (map read found.row.now) k ≡ weight_of o k = λ k. ap (λ s. weight_of s k) c.in_ok-count.ensures in
    let all : c.loop-period.period ≡ length (map read found.row.now) = simp length-map (omega arith) in
    asked_each o found.count c.loop-period.weights told c.loop-period.invariant.size
    (λ k l. filled_all (map read found.row.now) c.loop-period.weights c.loop-period.period all c.loop-period.invariant k ∙ ap (λ w. unwrap_or w 0) (weight k))
