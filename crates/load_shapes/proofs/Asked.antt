-- A day's shape that was asked for period by period is the shape laid out.
use Rattle.std.proofs.Common.{◌≡◌, ℕ, ◌<◌, List, length, get_or, Some, None, Option, unwrap_or, ◌∙◌}
use Rattle.std.proofs.lemmas.List.FromFn.{fill_by_all}
use Rattle.std.proofs.lemmas.Option.{unwrap_or-slice_get}
use Rattle.load_shapes.specs.Meaning.{Shape, count_of, weight_of}
use Rattle.load_shapes.specs.Days.{laid_out, day_shape_of}

pub asked_each : (o : Option Shape) (count : ℕ) (places : List ℕ) → Some count ≡ count_of o → length places ≡ 96
    → ((k : ℕ) → k < 96 → get_or places k 0 ≡ unwrap_or (weight_of o k) 0) → Some (record { count = count; weights = places }) ≡ day_shape_of o
asked_each None count places e l h = absurd (cc)
asked_each (Some s) count places e l h =
    let all : places ≡ (laid_out s).weights = fill_by_all (λ k. get_or s.weights k 0) places 96 0 l (λ k m. h k m ∙ unwrap_or-slice_get s.weights k 0) in
    cc
