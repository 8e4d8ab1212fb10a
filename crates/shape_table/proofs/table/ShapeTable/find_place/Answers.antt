use Rattle.std.proofs.Common.{List, ℕ, ◌∙◌, rules}
use Rattle.std.proofs.lemmas.List.Sorted.{answers_always}
use Rattle.shape_table.specs.Layout.{entry_in}
use Rattle.shape_table.specs.TableLaws.{sound}
use Rattle.shape_table.proofs.Search.{by_halves}
use Rattle.shape_table.proofs.table.ShapeTable.find_place.Goals as goal

pub returns : goal.returns
returns c =
    let table = c.args.self.now in
    let bytes = table.areas.bytes.now in
    c.ok.ensures.value
    ∙ by_halves bytes (sound bytes table.checked) c.args.at c.index.result.now c.index.ensures.entries c.index.ensures.count c.binary_search_by_key.result c.binary_search_by_key.ensures.bound
    (c.binary_search_by_key.ensures.position (λ (e : List ℕ). (entry_in e 0).at) (answers_always _ _ _ (λ f a r g called. search rules)))
