use mathlib.Core.Bool.{cond}
use mathlib.Core.Logic.{inl, inr}
use mathlib.Core.Path.{◌∙◌, ◌≡◌, ap, refl}
use Prim.Native.Nat.{◌*◌, ℕ}
use native.Mathlib.Omega.{arith}
use borrow.Author.Rules.{rules}
use lib.ListN.{length}
use Rattle.cnf.proofs.Appending.{written_threes}
use Rattle.netlist.specs.Literal.{opp}
use Rattle.netlist.specs.Node.{chain, netlist_clauses}
use Rattle.arithmetic.specs.Bits.{lit_at}
use Rattle.arithmetic.proofs.Adder.{adder-sized, adder_threes, adder_worded, carry_written, top_taken, top-told}
use Rattle.arithmetic.specs.Adder.{adder}
use Rattle.arithmetic.specs.Inner.Turned.{top_turned, turned_bits}
use Rattle.arithmetic.proofs.sums.write_sum.Goals as goal

pub loop-j-init : goal.loop-j-init
unfolding adder chain netlist_clauses
loop-j-init c = (record { words = refl }, search rules, search rules, refl)

pub loop-j-preserved : goal.loop-j-preserved
loop-j-preserved c =
    let w = length c.args.a.now in
    let top = top-told c.args.f c.if-f.top w c.loop-j.j (omega arith) (elim c.if-f.branch [ goal.then-f p ↦ inl (p.if-f.true, p.top-is) | goal.else-f p ↦ inr (p.if-f.false, p.top-is) ]) in (
      adder_worded c.args.first c.loop-j.g (top_turned c.args.f w (lit_at c.args.a.now)) (turned_bits c.args.t (top_turned c.args.f w (lit_at c.args.b.now))) c.args.c _ _ c.loop-j.carry c.loop-j.j c.loop-j.invariant.0 c.place_words.ensures c.loop-j.invariant.1 c.loop-j.invariant.2
          (c.turned_by-x.ensures ∙ top_taken c.args.f w (lit_at c.args.a.now) c.loop-j.j top)
          (c.turned_by-l.ensures ∙ ap (λ (y : ℕ). cond c.args.t (opp y) y) (c.turned_by-y.ensures ∙ top_taken c.args.f w (lit_at c.args.b.now) c.loop-j.j top))
          c.loop-j.invariant.3,
      omega (arith, c.loop-j.invariant.1),
      omega (arith, c.loop-j.invariant.2),
      carry_written c.args.first c.loop-j.g c.args.c c.loop-j.j c.loop-j.invariant.2,
    )

pub returns : goal.returns
returns c =
    let e : c.loop-j.j ≡ length c.args.a.now = omega arith in
    written_threes (14 * length c.args.a.now) (rw e at c.loop-j.invariant.0) c.write_starts.ensures
    (adder_threes c.args.first _ _ c.args.c _) ((adder-sized c.args.first _ _ c.args.c _).clauses c.args.first)
