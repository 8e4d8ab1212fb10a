-- The header that was read is that of all the bytes.
use Rattle.std.proofs.Common.{◌≡◌, length, None, sym, ap, ◌∙◌, rules}
use Rattle.std.specs.Result.{result_err}
use Rattle.shape_table.specs.Layout.{header_of, header_fault}
use Rattle.shape_table.specs.TableLaws.{areas_fault_is, areas_placed_is}
use Rattle.shape_table.proofs.Copies.{first_read}
use Rattle.shape_table.proofs.areas.AreasTryFromRefSliceU8.try_from.Goals as goal

pub returns-in_err-check : goal.returns-in_err-check
returns-in_err-check c =
    let bytes = c.args.bytes.now in
    let own = first_read bytes c.first_chunk.result c.in_ok-first.first c.in_ok-first.ensures.ok_part c.first_chunk.ensures.cases in
    let same : c.from-header.result ≡ header_of bytes = c.from-header.ensures ∙ own.1 in
    let passed : result_err c.from_residual-in_err-check.result ≡ result_err c.check.result = search rules in
    (passed ∙ c.check.ensures ∙ ap (λ h. header_fault h (length bytes)) same ∙ sym (areas_fault_is bytes own.0), search rules)

pub invariant_of-result : goal.invariant_of-result
invariant_of-result c =
    let bytes = c.args.bytes.now in
    let own = first_read bytes c.first_chunk.result c.in_ok-first.first c.in_ok-first.ensures.ok_part c.first_chunk.ensures.cases in
    let same : c.from-header.result ≡ header_of bytes = c.from-header.ensures ∙ own.1 in
    let none : result_err c.check.result ≡ None = search rules in
    record {
      own_header = same;
      placed = record { has_header = own.0; has_areas = areas_placed_is (header_of bytes) (length bytes) (ap (λ h. header_fault h (length bytes)) (sym same) ∙ sym c.check.ensures ∙ none) };
    }
