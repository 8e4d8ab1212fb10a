-- A pair of two registers shows the laws where both registers do.
use Rattle.std.specs.Prelude.{◌≡◌, ℕ, true, List, ◌++◌, length, take, drop, refl}
use Rattle.std.proofs.Common.{arith, length-append, length-drop, length-take-le}
use Rattle.std.proofs.Math.Seq.{take-append_seam, drop-append_seam}
use Rattle.std.proofs.lemmas.Bool.{cases_eq, cond_both}
use Rattle.std.proofs.lemmas.Bool.Decides.{nat_tests}
use Rattle.registers.specs.Meaning.{Meaning, Laws, reading}
use Rattle.registers.specs.Pairs.{may_pair, side_by_side, beyond_limits, pair_meaning}

-- Two registers side by side show the laws where they may be read as one.
module _ {K L : Type 0} (m : Meaning K) (n : Meaning L) (hm : Laws m) (hn : Laws n) where
  given_by : (k : K × L) → (side_by_side m n).given k ≡ true → (xs : List ℕ) × ((side_by_side m n).taken xs ≡ reading k)
  given_by k h =
      let u = (hm.given_told k.0).0 (grind (arith, nat_tests)) in
      let v = (hn.given_told k.1).0 (grind (arith, nat_tests)) in
      (u.0 ++ v.0, grind (arith, nat_tests, hm.length_told u.0, hn.length_told v.0, cases_eq (length u.0) m.dials, cases_eq (length v.0) n.dials, length-append u.0 v.0, take-append_seam u.0 v.0, drop-append_seam u.0 v.0))

  side_by_side_lawful : may_pair m n ≡ true → Laws (side_by_side m n)
  side_by_side_lawful f = record {
    some_dial = omega (arith, hm.some_dial);
    few_dials = grind (arith, nat_tests);
    length_told = λ xs. grind (arith, nat_tests, hm.length_told (take m.dials xs), hn.length_told (drop m.dials xs), length-take-le m.dials xs, length-drop m.dials xs);
    dial_told = λ xs dial e. grind (arith, nat_tests, hm.dial_told (take m.dials xs), hn.dial_told (drop m.dials xs));
    given_told = λ k. (given_by k, λ s. grind (arith, nat_tests, hm.given_told k.0, hn.given_told k.1));
    full_scale_most = grind (arith, nat_tests);
    advance_most = λ a b. grind (arith, nat_tests, hm.advance_most a.0 b.0, hn.advance_most a.1 b.1);
    no_advance = λ a b h. grind (arith, nat_tests);
    triangle = λ a b c ha hb hc. grind (arith, nat_tests, hm.triangle a.0 b.0 c.0, hn.triangle a.1 b.1 c.1);
  }

-- The one dial that is always at fault.
beyond_limits_lawful : {K L : Type 0} → Laws (beyond_limits {K = K} {L = L})
beyond_limits_lawful = record {
  some_dial = omega arith;
  few_dials = omega arith;
  length_told = λ xs. grind (arith, nat_tests);
  dial_told = λ xs dial e. grind (arith, nat_tests);
  given_told = λ k. grind (arith, nat_tests);
  full_scale_most = omega arith;
  advance_most = λ a b. omega arith;
  no_advance = λ a b h. refl;
  triangle = λ a b c ha hb hc. omega arith;
}

pub pair_lawful : {K L : Type 0} (m : Meaning K) (n : Meaning L) → Laws m → Laws n → Laws (pair_meaning m n)
pair_lawful m n hm hn =
    cond_both (may_pair m n) (side_by_side m n) beyond_limits Laws (side_by_side_lawful m n hm hn) (λ _. beyond_limits_lawful)
