-- Weights that follow a rule for each period.
use Rattle.std.specs.Prelude.{◌≡◌, ℕ, ◌<◌, ◌≤◌, List, map, length, Some, None, nat_lt, slice_index}
use Rattle.std.proofs.Common.{sym, ap, ◌∙◌, ⊎_elim, zero-add, arith}
use Rattle.std.proofs.lemmas.List.FromFn.{length-map-range_with_len, get_or-map-range_with_len}
use Rattle.std.proofs.lemmas.List.{get_or_past}
use Rattle.std.proofs.lemmas.Option.{slice_get-get_or, slice_get_past}
use Rattle.std.proofs.lemmas.Bool.{cases_lt, lt-ltb, le-ltb}
use Rattle.std.specs.Bool.{then_some}
use Rattle.std.specs.List.{range_with_len}
use Rattle.load_shapes.specs.Meaning.{weight_of}

-- The weights of so many periods, each by the rule.
abbrev pub by_rule : (ℕ → ℕ) → ℕ → List ℕ
by_rule weigh periods = map weigh (range_with_len 0 periods)

-- There is one for each period, and it is the rule's.
pub by_rule_each : (weigh : ℕ → ℕ) (periods : ℕ) → length (by_rule weigh periods) ≡ periods
by_rule_each weigh periods = length-map-range_with_len weigh 0 periods

pub by_rule_at : (weigh : ℕ → ℕ) (periods period : ℕ) → period < periods → slice_index (by_rule weigh periods) period ≡ weigh period
by_rule_at weigh periods period l = get_or-map-range_with_len weigh 0 periods period period 0 l (zero-add period)

-- None is above 10,000 where the rule keeps to that.
pub by_rule_most : (weigh : ℕ → ℕ) (periods : ℕ) → ((period : ℕ) → period < periods → weigh period ≤ 10000) → (period : ℕ) → slice_index (by_rule weigh periods) period ≤ 10000
by_rule_most weigh periods h period =
    ⊎_elim
    (λ lt. let e = by_rule_at weigh periods period lt in let most = h period lt in omega arith)
    (λ ge. let n = by_rule_each weigh periods in let e = get_or_past (by_rule weigh periods) period 0 (omega arith) in omega arith)
    (cases_lt period periods)

-- The question for one period's weight is answered by the rule, and past the periods by none.
pub rule_told : (count : ℕ) (weigh : ℕ → ℕ) (periods period : ℕ) → period < periods
    → weight_of (Some (record { count = count; weights = by_rule weigh periods })) period ≡ Some (weigh period)
rule_told count weigh periods period l =
    let n = by_rule_each weigh periods in
    slice_get-get_or (by_rule weigh periods) period 0 (omega arith) ∙ ap Some (by_rule_at weigh periods period l)

pub past_told : (count : ℕ) (weigh : ℕ → ℕ) (periods period : ℕ) → periods ≤ period
    → weight_of (Some (record { count = count; weights = by_rule weigh periods })) period ≡ None
past_told count weigh periods period l = let n = by_rule_each weigh periods in slice_get_past (by_rule weigh periods) period (omega arith)

-- Both at once.
pub by_rule_told : (count : ℕ) (weigh : ℕ → ℕ) (periods period : ℕ)
    → weight_of (Some (record { count = count; weights = by_rule weigh periods })) period ≡ then_some (nat_lt period periods) (weigh period)
by_rule_told count weigh periods period =
    ⊎_elim
    (λ lt. rule_told count weigh periods period lt ∙ sym (ap (λ b. then_some b (weigh period)) (lt-ltb period periods lt)))
    (λ ge. past_told count weigh periods period ge ∙ sym (ap (λ b. then_some b (weigh period)) (le-ltb period periods ge)))
    (cases_lt period periods)
