use mathlib.Core.Path.{◌≡◌, ◌∙◌, ap, refl}
use Prim.Native.Nat.{◌*◌, ◌+◌, ◌-◌, suc, ℕ}
use native.Mathlib.Numerals.{add-one}
use native.Mathlib.Omega.{arith}
use lib.ListN.{get_or, get_or-replicate, length, take}
use Rattle.cnf.proofs.Appending.{written_none}
use Rattle.netlist.specs.Node.{chain, netlist_clauses}
use Rattle.division.proofs.Division.{chosen_up, lifted_bits, lifted_length, one_more, steps-written}
use Rattle.arithmetic.proofs.Laws.{sized-bits, table_length, table_place}
use Rattle.arithmetic.specs.Bits.{lit_at, places}
use Rattle.division.specs.Division.{remainder_bit, shifted, division_steps}
use Rattle.arithmetic.specs.Extend.{rising_bit}
use Rattle.division.proofs.write_division.Goals as goal

pub loop-j-init : goal.loop-j-init
unfolding division_steps chain netlist_clauses
loop-j-init c =
    let z : length c.args.s.now - length c.args.s.now ≡ 0 = omega arith in
    rw z (written_none _ _ _ _, omega arith, omega arith, omega arith, refl, λ m n h. get_or-replicate places m 3 0 h)

pub loop-j-preserved : goal.loop-j-preserved
loop-j-preserved c =
    let w = length c.args.s.now in
    let t = w - c.loop-j.j in
    let turns : w - (c.loop-j.j - 1) ≡ t + 1 = omega (arith, c.loop-j.auto.j) in
    let y : ℕ = get_or c.args.s.now (c.loop-j.j - 1) 0 in
    let x = lifted_length c.loop-j.up y w (omega (arith, c.loop-j.invariant.4, c.requires.s_len_bound)) in
    let e = rw c.requires.d_len at c.extended-divisor.ensures in
    let bit : y ≡ lit_at c.args.s.now (w - suc t) = ap (lit_at c.args.s.now) (omega (arith, c.loop-j.auto.j)) in
    rw turns (
      steps-written c.args.first c.loop-j.g (lit_at c.args.s.now) (lit_at c.args.d.now) _ (lit_at (take (w + 1) c.extended-divisor.result)) w t c.loop-j.invariant.0
          (rw x at c.write_step.ensures) c.loop-j.invariant.1 c.loop-j.invariant.2 c.loop-j.invariant.3
          (λ m k. lifted_bits c.loop-j.up y w (omega (arith, c.loop-j.invariant.4, c.requires.s_len_bound)) _ (λ n z q. c.loop-j.invariant.5 n z (omega (arith, c.requires.s_len_bound))) m k ∙ ap (λ (b : ℕ). shifted b (remainder_bit c.args.first (suc w) t) m) bit)
          (λ m k. sized-bits _ e (w + 1) (omega (arith, c.requires.s_len_bound)) m (omega arith)),
      omega (arith, c.loop-j.invariant.1, one_more (72 * suc w) t),
      omega (arith, c.loop-j.invariant.2, one_more (18 * suc w) t),
      omega (arith, c.loop-j.invariant.3, one_more (4 * suc w) t),
      table_length _ c.rising-up.ensures,
      λ m z k. table_place _ c.rising-up.ensures m k ∙ ap (λ (b : ℕ). rising_bit (2 * (b + 3 * (w + 1))) 2 1 m) c.loop-j.invariant.3 ∙ rw (add-one w) (chosen_up c.args.first (suc w) t m z),
    )
