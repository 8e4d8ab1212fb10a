-- The entries of a sound table rise, so that a search by halves finds the one that is sought, and each entry is told.
use Rattle.std.proofs.Common.{◌≡◌, ℕ, zero, suc, ◌-◌, ◌<◌, ◌≤◌, Bool, true, false, eqb, List, [], map, length, get_or, is_some, Some, None, Ok, Err, Result, Ordering, Less, Equal, Greater, sym, ap, ◌∙◌, ⊎_elim, arith}
use Rattle.std.specs.Ordering.{nat_cmp, ordering_then, ordering_index}
use Rattle.std.specs.List.Sorted.{IsBinarySearchResult, IsSearchInRange, IsNonDecreasingBy}
use Rattle.std.specs.Result.{result_ok}
use Rattle.std.specs.Option.{option_map}
use Rattle.std.proofs.lemmas.Bool.{cases_lt, cases_Bool, and_parts, or_cases, eqb-true}
use Rattle.std.proofs.lemmas.Bool.Decides.{nat_tests}
use Rattle.load_shapes.specs.declared.day.CategoryDay.{CategoryDay}
use Rattle.shape_table.specs.declared.fields.IndexEntry.{IndexEntry}
use Rattle.shape_table.specs.FirstLaws.{is_first_that, first_that_none}
use Rattle.shape_table.specs.Layout.{same_day, comes_before, of_day, header_of, entry_in, entry_at, index, entry_right, entry_in_range, entry_above_last, entry_of, entry_shape, table_fault}
use Rattle.shape_table.specs.TableLaws.{Sound, sound}
use Rattle.shape_table.specs.Told.{TellsItsEntries}
use Rattle.shape_table.proofs.Read.{entry_read}

-- The order of the days of categories.
abbrev pub order : CategoryDay → CategoryDay → Ordering
order a b = ordering_then (nat_cmp a.category b.category) (nat_cmp a.day b.day)

before_trans : (a b c : CategoryDay) → comes_before a b ≡ true → comes_before b c ≡ true → comes_before a c ≡ true
before_trans a b c h k = grind (arith, nat_tests)

-- Whether two days are the same, by how they compare.
equal_same : (a b : CategoryDay) → order a b ≡ Equal → same_day a b ≡ true
equal_same a b e = grind (arith, nat_tests)

less_other : (a b : CategoryDay) → order a b ≡ Less → same_day a b ≡ false
less_other a b e = grind (arith, nat_tests)

greater_other : (a b : CategoryDay) → order a b ≡ Greater → same_day a b ≡ false
greater_other a b e = grind (arith, nat_tests)

own_day : (a : CategoryDay) → same_day a a ≡ true
own_day a = grind (arith, nat_tests)

abbrev at_of : ℕ → ℕ → CategoryDay
at_of category day = record { category = category; day = day }

other_day : (a b : CategoryDay) → (a ≡ b → ⊥) → same_day a b ≡ false
other_day a b h =
    ⊎_elim
    (λ t.
    let p = and_parts (eqb a.category b.category) (eqb a.day b.day) t in
    let c : a.category ≡ b.category = eqb-true a.category b.category p.0 in
    let d : a.day ≡ b.day = eqb-true a.day b.day p.1 in
    let same : a ≡ b = ap (λ (x : ℕ). at_of x a.day) c ∙ ap (at_of b.category) d in
    absurd (h same))
    (λ f. f)
    (cases_Bool (same_day a b))

only_one : (a b c : CategoryDay) → comes_before a b ≡ true → same_day b c ≡ true → same_day a c ≡ false
only_one a b c h e = grind (arith, nat_tests)

order_rises : (a b c : CategoryDay) → comes_before a b ≡ true → ordering_index (order a c) ≤ ordering_index (order b c)
order_rises a b c h = grind (arith, nat_tests)

-- Whether one entry comes before another.
ranks : List ℕ → ℕ → ℕ → Bool
ranks bs i j = comes_before (entry_at bs i).at (entry_at bs j).at

rise : (bytes : List ℕ) (k : ℕ) → entry_right bytes (suc k) ≡ true → ranks bytes k (suc k) ≡ true
unfolding ranks
rise bs k h =
    let p = (and_parts (entry_in_range (header_of bs).rows (entry_at bs (suc k))) (entry_above_last bs (suc k)) h).1 in
    let q : suc k - 1 ≡ k = omega arith in
    ⊎_elim
    (λ e. let z : suc k ≡ 0 = eqb-true (suc k) 0 e in absurd (let w : ⊥ = omega arith in w))
    (λ e. sym (ap (λ i. comes_before (entry_at bs i).at (entry_at bs (suc k)).at) q) ∙ e)
    (or_cases (eqb (suc k) 0) (comes_before (entry_at bs (suc k - 1)).at (entry_at bs (suc k)).at) p)

rising : (bytes : List ℕ) → Sound bytes → (i j : ℕ) → i < j → j < (header_of bytes).entries → ranks bytes i j ≡ true
unfolding ranks
rising bs s i zero l m = absurd (let z : ⊥ = omega arith in z)
rising bs s i (suc j) l m =
    let r = rise bs j (s.entries (suc j) m) in
    ⊎_elim
    (λ lt. before_trans (entry_at bs i).at (entry_at bs j).at (entry_at bs (suc j)).at (rising bs s i j lt (omega arith)) r)
    (λ ge. let q : i ≡ j = omega arith in ap (λ x. ranks bs x (suc j)) q ∙ r)
    (cases_lt i j)

-- An entry of a category's day is the only one.
found_at : (bytes : List ℕ) → Sound bytes → (at : CategoryDay) (place : ℕ) → place < (header_of bytes).entries → of_day bytes at place ≡ true → entry_of bytes at ≡ Some place
unfolding entry_of ranks
found_at bs s at place l e =
    is_first_that (of_day bs at) (header_of bs).entries place l e
    (λ k p. only_one (entry_at bs k).at (entry_at bs place).at at (rising bs s k place p l) e)

-- What a search by halves answers is the place of the entry.
module _ (bytes : List ℕ) (s : Sound bytes) (at : CategoryDay) (entries : List (List ℕ)) (read : map (λ entry. entry_in entry 0) entries ≡ index bytes) (count : length entries ≡ (header_of bytes).entries) where
  entry_is : (k : ℕ) (d : List ℕ) → k < length entries → entry_in (get_or entries k d) 0 ≡ entry_at bytes k
  entry_is k d l = entry_read bytes entries k d read count (omega arith)

  order_is : (k : ℕ) (d : List ℕ) → k < length entries → order (entry_in (get_or entries k d) 0).at at ≡ order (entry_at bytes k).at at
  order_is k d l = ap (λ (e : IndexEntry). order e.at at) (entry_is k d l)

  rises : IsNonDecreasingBy (λ e. ordering_index (order (entry_in e 0).at at)) entries
  unfolding ranks
  rises i j d l m =
      let a = ap ordering_index (order_is i d (omega arith)) in
      let b = ap ordering_index (order_is j d m) in
      ⊎_elim
      (λ lt. let r = order_rises (entry_at bytes i).at (entry_at bytes j).at at (rising bytes s i j lt (omega arith)) in omega arith)
      (λ ge. let same : i ≡ j = omega arith in let r = ap (λ k. ordering_index (order (entry_at bytes k).at at)) same in omega arith)
      (cases_lt i j)

  pub by_halves : (r : Result ℕ ℕ) → IsSearchInRange r (length entries) → IsBinarySearchResult (λ e. order (entry_in e 0).at at) entries r → result_ok r ≡ entry_of bytes at
  unfolding entry_of
  by_halves (Ok place) bound found =
      sym (found_at bytes s at place (omega arith) (equal_same (entry_at bytes place).at at (sym (order_is place [] bound) ∙ found [])))
  by_halves (Err place) bound parts =
      let p = parts rises in
      sym (first_that_none (of_day bytes at) (header_of bytes).entries (λ k l.
      let within : k < length entries = omega arith in
      ⊎_elim
      (λ lt. less_other (entry_at bytes k).at at (sym (order_is k [] within) ∙ p.0 k [] (omega arith) lt))
      (λ ge. greater_other (entry_at bytes k).at at (sym (order_is k [] within) ∙ p.1 k [] ge within))
      (cases_lt k place)))

-- No two entries are of one category's day, so each is the entry of its own.
each_its_own : (bytes : List ℕ) → Sound bytes → (k : ℕ) → k < (header_of bytes).entries → entry_of bytes (entry_at bytes k).at ≡ Some k
each_its_own bs s k l = found_at bs s (entry_at bs k).at k l (own_day (entry_at bs k).at)

no_entry : (bytes : List ℕ) (at : CategoryDay) → ((k : ℕ) → k < (header_of bytes).entries → (entry_at bytes k).at ≡ at → ⊥) → entry_of bytes at ≡ None
unfolding entry_of
no_entry bs at h = first_that_none (of_day bs at) (header_of bs).entries (λ k l. other_day (entry_at bs k).at at (h k l))

pub tells_its_entries : (bytes : List ℕ) → is_some (table_fault bytes) ≡ false → TellsItsEntries bytes
tells_its_entries bs h = record {
  every_entry = λ k l. ap (option_map (entry_shape bs)) (each_its_own bs (sound bs h) k l);
  nothing_else = λ at n. ap (option_map (entry_shape bs)) (no_entry bs at n);
}
