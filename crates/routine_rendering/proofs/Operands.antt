-- The operands of a command in the bytes and in the syntax. Assumes nothing.
use mathlib.Core.Path.{◌≡◌, refl, sym, ◌∙◌}
use mathlib.Core.List.{List}
use mathlib.Core.Logic.{inl, inr}
use mathlib.Core.Bool.{true}
use Prim.Native.Nat.{ℕ, ◌^◌, ◌≤◌, ◌<◌}
use native.Mathlib.Omega.{arith}
use native.Mathlib.Nat.{lt_of_lt_of_le}
use lib.Pow.{pow_mono}
use lib.ListN.{length}
use lib.Dec.{ltb, eqb}
use borrow.Author.Tests.{lt-ltb, eq-eqb, ltb-true, eqb-true}
use Rattle.routine_header.specs.Header.{width}
use Rattle.routine_faults.specs.Step.{in_range, converts, widths_fit}
use Rattle.routine_faults.specs.Inner.Sound.{Sound, SoundIf}
use Rattle.routine_rendering.specs.Syntax.{Syntax}
use Rattle.routine_rendering.specs.WellFormed.{Variable, width_of, Converts, Computes, Good, GoodIf}
use Rattle.routine_header.specs.declared.Header.{Header}
use Rattle.routine_command.specs.declared.Conversion.{Conversion}
use Rattle.routine_command.specs.declared.Operation.{Operation}
use Rattle.routine_command.specs.declared.Simple.{Simple}
use Rattle.routine_command.specs.declared.Condition.{Condition}
use Rattle.routine_faults.proofs.Fine.{set_fine, convert_fine, compute_fine, read_fine, write_fine, condition_fine}
use Rattle.routine_rendering.proofs.Commands.{Kind}

-- the header and the bytes have the variables, widths and arrays of the syntax
pub record Same (bs : List ℕ) (h : Header) (p : Syntax) : Type 0 where
  pub variables : h.variables ≡ length p.widths
  pub arrays : h.arrays ≡ length p.sizes
  pub widths : (v : ℕ) → Variable p v → width bs v ≡ width_of p v

-- the test of a conversion's widths
pub converts_says : (op : Conversion) (w x : ℕ) → converts op w x ≡ true → Converts op w x
converts_says Conversion.Copy w x t = eqb-true w x t
converts_says Conversion.Cut w x t = ltb-true w x t
converts_says Conversion.ZeroExtend w x t = ltb-true x w t
converts_says Conversion.SignExtend w x t = ltb-true x w t

pub converts-holds : (op : Conversion) (w x : ℕ) → Converts op w x → converts op w x ≡ true
converts-holds Conversion.Copy w x e = eq-eqb w x e
converts-holds Conversion.Cut w x l = lt-ltb w x l
converts-holds Conversion.ZeroExtend w x l = lt-ltb x w l
converts-holds Conversion.SignExtend w x l = lt-ltb x w l

-- a computation's byte is one of theirs
pub computes : (op : Operation) → Computes op
computes Operation.Add = inl (record { low = omega arith; high = omega arith })
computes Operation.Subtract = inl (record { low = omega arith; high = omega arith })
computes Operation.Multiply = inl (record { low = omega arith; high = omega arith })
computes Operation.Quotient = inr (record { low = omega arith; high = omega arith })
computes Operation.Remainder = inr (record { low = omega arith; high = omega arith })

-- the constant of a good command has four bytes
pub good_kind : (p : Syntax) → ((v : ℕ) → Variable p v → width_of p v ≤ 32) → (c : Simple Conversion Operation) → Good p c → Kind c
good_kind p f (Simple.Set d c) g = lt_of_lt_of_le g.1 (pow_mono (f d g.0))
good_kind p f (Simple.Convert op d s) g = tt
good_kind p f (Simple.Compute op d s t) g = tt
good_kind p f (Simple.Read d array i) g = tt
good_kind p f (Simple.Write array i s) g = tt

module _ (bs : List ℕ) (h : Header) (p : Syntax) (same : Same bs h p) where
  variable : (v : ℕ) → v < h.variables → Variable p v
  variable v l = let e = same.variables in omega arith

  array : (a : ℕ) → a < h.arrays → a < length p.sizes
  array a l = let e = same.arrays in omega arith

  width_is : (v : ℕ) → v < h.variables → width bs v ≡ width_of p v
  width_is v l = same.widths v (variable v l)

  -- a command whose operands passed is good
  pub good : (c : Simple Conversion Operation) → Sound bs h c → Good p c
  unfolding widths_fit
  good (Simple.Set d c) s =
      let f = set_fine bs h d c s in
      (variable d f.0, rw (width_is d f.0) at f.1)
  good (Simple.Convert op d s) x =
      let f = convert_fine bs h op d s x in
      (variable d f.0, variable s f.1, converts_says op _ _ (rw (width_is d f.0, width_is s f.1) at x.widths))
  good (Simple.Compute op d s t) x =
      let f = compute_fine bs h op d s t x in
      (computes op, variable d f.0, variable s f.1, variable t f.2, sym (width_is d f.0) ∙ f.3 ∙ width_is s f.1, sym (width_is d f.0) ∙ f.4 ∙ width_is t f.2)
  good (Simple.Read d a i) x = let f = read_fine bs h d a i x in (variable d f.0, array a f.1, variable i f.2)
  good (Simple.Write a i s) x = let f = write_fine bs h a i s x in (array a f.0, variable i f.1, variable s f.2)

  pub good_if : (c : Condition) → SoundIf bs h c → GoodIf p c
  good_if c x =
      let f = condition_fine bs h c x in
      (omega (arith, f.0), variable c.s f.1, variable c.t f.2, sym (width_is c.s f.1) ∙ f.3 ∙ width_is c.t f.2)

  below : (v : ℕ) → Variable p v → ltb v h.variables ≡ true
  below v l = let e = same.variables in lt-ltb v h.variables (omega arith)

  below-arrays : (a : ℕ) → a < length p.sizes → ltb a h.arrays ≡ true
  below-arrays a l = let e = same.arrays in lt-ltb a h.arrays (omega arith)

  same_width : (v w : ℕ) → Variable p v → Variable p w → width_of p v ≡ width_of p w → eqb (width bs v) (width bs w) ≡ true
  same_width v w l m e = eq-eqb _ _ (same.widths v l ∙ e ∙ sym (same.widths w m))

  -- a good command's operands pass
  pub sound : (c : Simple Conversion Operation) → Good p c → Sound bs h c
  unfolding in_range widths_fit
  sound (Simple.Set d c) g = record { ranges = simp (below d g.0, same.widths d g.0, lt-ltb c (2 ^ width_of p d) g.1); widths = refl }
  sound (Simple.Convert op d s) g = record {
    ranges = simp (below d g.0, below s g.1);
    widths = rw (same.widths d g.0, same.widths s g.1) (converts-holds op _ _ g.2);
  }
  sound (Simple.Compute op d s t) g = record {
    ranges = simp (below d g.1, below s g.2, below t g.3);
    widths = simp (same_width d s g.1 g.2 g.4, same_width d t g.1 g.3 g.5);
  }
  sound (Simple.Read d a i) g = record { ranges = simp (below d g.0, below-arrays a g.1, below i g.2); widths = refl }
  sound (Simple.Write a i s) g = record { ranges = simp (below-arrays a g.0, below i g.1, below s g.2); widths = refl }

  pub sound_if : (c : Condition) → GoodIf p c → SoundIf bs h c
  sound_if c g = record {
    ranges = simp (lt-ltb c.relation 10 (omega (arith, g.0)), below c.s g.1, below c.t g.2);
    widths = same_width c.s c.t g.1 g.2 g.3;
  }
