-- 96 weights of 16 bits.
use Rattle.std.proofs.Common.{rules, arith, ◌^◌}
use Rattle.std.proofs.lemmas.Iterator.{YieldsList-from_slice}
use Rattle.std.proofs.lemmas.Iterator.Adapters.{fits_from_length, at_most_from_yields_List}
use Rattle.shape_trials.proofs.answers.sum_of_day.Goals as goal

pub sum-requires-clause-fits : goal.sum-requires-clause-fits
sum-requires-clause-fits g c =
    fits_from_length _ _ 96 (2 ^ 64) (at_most_from_yields_List (YieldsList-from_slice c.in_ok-shape.shape.weights cc) (omega arith)) c.map.ensures.closure (omega arith) (λ x r q k. search rules)
