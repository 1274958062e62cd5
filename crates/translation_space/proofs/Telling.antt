-- What is told of the space, from what the parts answered. Assumes nothing.
use Rattle.std.specs.Prelude.{Result, Ok, Err}
use mathlib.Core.Path.{◌≡◌, refl, ap}
use mathlib.Core.List.{List}
use Prim.Native.Nat.{ℕ}
use native.Mathlib.Omega.{arith}
use Rattle.routine.specs.Decode.{IsRoutine}
use Rattle.routine_header.specs.declared.Header.{Header}
use Rattle.lead.specs.Lead.{ClaimAdmission, refused, translates, claim_admission}
use Rattle.lead.specs.Inner.Admitted.{claim_admitted}
use Rattle.lead.specs.declared.Target.{Target}
use Rattle.lead.specs.declared.Refusal.{Refusal}
use Rattle.lead.proofs.Leads.{admits, admitted_range, is_routine_by, refused_with}
use Rattle.translation_meaning.specs.Translation.{translation_of, translation_size}
use Rattle.translation_meaning.specs.Bound.{Bounded}
use Rattle.translation_meaning.specs.declared.Size.{Size}
use Rattle.translation_meaning.proofs.Bound.{bounded}
use Rattle.translation_space.specs.Space.{space_answer_by, space_answer, SpaceBounded}
use Rattle.translation_space.specs.Inner.Counted.{ClaimCounted}

module _ (bs : List ℕ) (t : Target) (ds : List ℕ) where
  bounded_by : (x : ClaimAdmission) → claim_admission bs t ds ≡ x → (s : Size) → space_answer_by bs t ds x ≡ Ok s → Bounded bs s
  bounded_by (refused refusal) e s q = let z : ◌≡◌ {A = ℕ} 0 1 = cc in absurd (omega arith)
  bounded_by (translates h a k) e s q =
      let z : translation_size (translation_of bs t ds h a) ≡ s = cc in
      rw (← z) (bounded bs t ds h a k (admitted_range bs t ds h a k e).0)

  -- whatever is told is within the bound
  pub space_bounded : (r : Result Size Refusal) → r ≡ space_answer bs t ds → SpaceBounded bs r
  unfolding space_answer
  space_bounded r is = record { holds = λ s e. bounded_by (claim_admission bs t ds) refl s cc }

  -- a refusal is that of the claim
  pub space_refused : (refusal : Refusal) → claim_admitted bs t ds ≡ Err refusal → Err refusal ≡ space_answer bs t ds
  unfolding space_answer
  space_refused refusal e = rw (refused_with bs t ds _ refl refusal e)

  module _ (h : Header) (e : claim_admitted bs t ds ≡ Ok h) where
    -- what is admitted is a routine
    pub is_routine : IsRoutine bs h
    is_routine = is_routine_by bs t ds _ refl h e

    -- what was counted is told
    pub space_told : (s : Size) → ClaimCounted bs h t ds s → Ok s ≡ space_answer bs t ds
    unfolding space_answer
    space_told s c =
        let a = admits bs t ds _ refl h e in
        rw a.admits (ap Ok (c.size _ _ a.decodes))
