-- What is not come to is not left: where arrival is false before an encoding, it is false after it, the claim's arrival included. Assumes nothing.
use mathlib.Core.Path.{◌≡◌, refl, ap, ap₂, ◌∙◌}
use mathlib.Core.List.{List, ◌++◌}
use mathlib.Core.Bool.{Bool, true, false, cond, ◌&&◌, ◌||◌}
use Prim.Native.Nat.{ℕ, ◌+◌}
use lib.ListN.{length}
use lib.Dec.{eqb}
use Rattle.slices.specs.Bytes.{entry}
use Rattle.routine_header.specs.Header.{width, array_size}
use Rattle.routine.specs.Routine.{Arm, done, plain, if_else}
use Rattle.routine_header.specs.declared.Header.{Header}
use Rattle.routine_command.specs.declared.Condition.{Condition}
use Rattle.routine_faults.specs.declared.Counts.{Counts}
use Rattle.routine_command.specs.declared.Conversion.{Conversion}
use Rattle.routine_command.specs.declared.Operation.{Operation}
use Rattle.routine_command.specs.declared.Simple.{Simple}
use Rattle.cnf.specs.Meaning.{Assign, lit}
use Rattle.netlist.specs.Meaning.{Inputs}
use Rattle.netlist.proofs.Truth.{Models, models_append}
use Rattle.translation_state.specs.Wires.{Wires, bits_of}
use Rattle.translation_command.specs.Command.{Encoding, still, passed, read_into, simple}
use Rattle.translation_meaning.specs.Walk.{encode_if, encode_arm}
use Rattle.translation_if.specs.If.{condition_of, arrivals}
use Rattle.lead.specs.declared.Target.{Target}
use Rattle.translation_meaning.proofs.Gates.{models_three, access-lit, first-lit, else-lit, joined_lit}
use Rattle.translation_meaning.proofs.Stretches.{then_by, access_by_lem, fork_by, first_from, first_wires, first_of, second_from, second_wires, second_of, join_from, join_of}

-- an arm that was not decided, or whose if is not come to
pub not_come : (b x y : Bool) → x ≡ false → cond b false (x && y) ≡ false
not_come true x y e = refl
not_come false x y e = ap (λ (z : Bool). z && y) e

module _ (ins : Inputs) (ρ : Assign) (o : ρ 1 ≡ true) (bs : List ℕ) (h : Header) (t : Target) (ds : List ℕ) where
  -- from the wires s and the variable g on
  abbrev pub Deadens : ℕ → Wires → Encoding → Type 0
  Deadens g s x = Models ins ρ g x.nodes → lit ρ s.arrival ≡ false → lit ρ x.wires.arrival ≡ false

  access_dead : (g i array : ℕ) (s : Wires) (m : Models ins ρ g (passed bs h g array i s).nodes)
      → lit ρ s.arrival ≡ false → lit ρ (passed bs h g array i s).wires.arrival ≡ false
  access_dead g i array s m f = rw f at (access-lit ins ρ g (bits_of bs s i) (array_size bs h array) (width bs i) s.arrival m)

  pub simple_dead : (g : ℕ) (c : Simple Conversion Operation) (k : Counts) (s : Wires) → Deadens g s (simple bs h t g c k s)
  unfolding simple
  simple_dead g (Simple.Set d c) k s = λ m f. f
  simple_dead g (Simple.Convert op d a) k s = λ m f. f
  simple_dead g (Simple.Compute op d a b) k s = λ m f. f
  simple_dead g (Simple.Read d array i) k s =
      access_by_lem (Deadens g s) bs h t g array i k s (read_into bs h d k) (λ e m f. f)
      (λ e m f. access_dead g i array s (models_append ins ρ g (passed bs h g array i s).nodes _ m).0 f)
  simple_dead g (Simple.Write array i a) k s =
      access_by_lem (Deadens g s) bs h t g array i k s (λ g₁. still) (λ e m f. f)
      (λ e m f. access_dead g i array s (models_append ins ρ g (passed bs h g array i s).nodes _ m).0 f)

  -- both ways out of an if
  both_dead : (a b : Bool) → a ≡ false → b ≡ false → (a || b) ≡ false
  both_dead a b e f = ap₂ (λ (x y : Bool). x || y) e f

  module _ (first second : ℕ → Wires → Encoding) (one : (g : ℕ) (s : Wires) → Deadens g s (first g s)) (two : (g : ℕ) (s : Wires) → Deadens g s (second g s)) where
    pub fork_dead : (d g : ℕ) (c : Condition) (s : Wires) → Deadens g s (encode_if bs h d g c s first second)
    fork_dead d g c s =
        let x = first_of bs h d g c s first second in
        let y = second_of bs h d g c s first second in
        let g₂ = first_from bs h d g c s first second in
        let g₃ = second_from bs h d g c s first second in
        let g₄ = join_from bs h d g c s first second in
        let j = join_of bs h d g c s first second in
        let cn = (condition_of bs g c s).nodes in
        let l = (condition_of bs g c s).lit in
        let bn = (arrivals d (g + length cn) s.arrival l).nodes in
        fork_by bs h d g c s first second (Deadens g s)
        (λ e m f.
        let p = models_three ins ρ g cn bn x.nodes m in
        one g₂ (first_wires bs h d g c s first second) p.2 (first-lit ins ρ o d (g + length cn) s.arrival l p.1 ∙ not_come (eqb d 1) _ _ f))
        (λ e e₁ m f.
        let p = models_three ins ρ g cn bn (x.nodes ++ y.nodes) m in
        let q = models_append ins ρ g₂ x.nodes y.nodes p.2 in
        two g₃ (second_wires bs h d g c s first second) q.1 (else-lit ins ρ o d (g + length cn) s.arrival l p.1 ∙ not_come (eqb d 0) _ _ f))
        (λ e e₁ m f.
        let p = models_three ins ρ g cn bn (x.nodes ++ (y.nodes ++ j.nodes)) m in
        let q = models_append ins ρ g₂ x.nodes (y.nodes ++ j.nodes) p.2 in
        let r = models_append ins ρ g₃ y.nodes j.nodes q.1 in
        joined_lit ins ρ bs h g₄ l x.wires y.wires r.1
        ∙ both_dead _ _
        (one g₂ (first_wires bs h d g c s first second) q.0 (first-lit ins ρ o d (g + length cn) s.arrival l p.1 ∙ not_come (eqb d 1) _ _ f))
        (two g₃ (second_wires bs h d g c s first second) r.0 (else-lit ins ρ o d (g + length cn) s.arrival l p.1 ∙ not_come (eqb d 0) _ _ f)))

  pub arm_dead : (a : Arm) (g : ℕ) (s : Wires) → Deadens g s (encode_arm bs h t ds a g s)
  unfolding encode_arm
  arm_dead done g s = λ m f. f
  arm_dead (plain at c k rest) g s =
      let x = simple bs h t g c k s in
      then_by (Deadens g s) g x (encode_arm bs h t ds rest) (λ e. simple_dead g c k s)
      (λ e m f.
      let p = models_append ins ρ g x.nodes _ m in
      arm_dead rest (g + length x.nodes) x.wires p.1 (simple_dead g c k s p.0 f))
  arm_dead (if_else at c k first second rest) g s =
      let x = encode_if bs h (entry ds k.ifs) g c s (encode_arm bs h t ds first) (encode_arm bs h t ds second) in
      let l = fork_dead (encode_arm bs h t ds first) (encode_arm bs h t ds second) (arm_dead first) (arm_dead second) (entry ds k.ifs) g c s in
      then_by (Deadens g s) g x (encode_arm bs h t ds rest) (λ e. l)
      (λ e m f. let p = models_append ins ρ g x.nodes _ m in arm_dead rest (g + length x.nodes) x.wires p.1 (l p.0 f))
