-- The two walks meet their contracts.
use Rattle.std.proofs.Common.{refl, sym, ◌∙◌, arith, rules}
use Rattle.routine_faults.specs.Step.{same_mark, faulty, closing, simple_then, if_then}
use denote.Enum.Bare.{sameb}
use Rattle.std.proofs.lemmas.Result.{err_from_is_err_and}
use Rattle.std.proofs.Common.{◌≡◌, Bool, true, false, true≢false, not, ap, Result, Ok, Err}
use Rattle.std.specs.Result.{is_ok, MatchResult, IsErrAnd}
use Rattle.routine_faults.specs.declared.Fault.{Fault}
use Rattle.routine.specs.declared.Refusal.{Refusal}
use Rattle.routine_command.specs.declared.Mark.{Mark}
use Rattle.routine_command.specs.contracts.Mark.{the_type}
use Rattle.routine_command.proofs.Sizes.{simple-size}
use Rattle.routine.proofs.Arms.{is_missing, is_misplaced, is_closing, faulty-simple, is_simple, few-accesses, faulty_if, is_if, few-ifs}
use Rattle.routine.proofs.Arms.{fits_by, over, then_by, ended_arm, ended_if, walk_if_lem}
use Rattle.routine.proofs.walks.+walk_marked_walk_if.Goals as goal

-- marks that are told as the same, and that are not
told : (m n : Mark) → sameb the_type m n ≡ same_mark m n
told Mark.End Mark.End = refl
told Mark.End Mark.Else = refl
told Mark.End Mark.EndIf = refl
told Mark.Else Mark.End = refl
told Mark.Else Mark.Else = refl
told Mark.Else Mark.EndIf = refl
told Mark.EndIf Mark.End = refl
told Mark.EndIf Mark.Else = refl
told Mark.EndIf Mark.EndIf = refl

differ : (m n : Mark) → true ≡ not (sameb the_type m n) → same_mark m n ≡ false
differ m n e = go (same_mark m n) (rw (told m n) at e)
  where
    go : (b : Bool) → true ≡ not b → b ≡ false
    go true e = e
    go false e = refl

agree : (m n : Mark) → false ≡ not (sameb the_type m n) → same_mark m n ≡ true
agree m n e = go (same_mark m n) (rw (told m n) at e)
  where
    go : (b : Bool) → false ≡ not b → b ≡ true
    go true e = refl
    go false e = e

-- what `map_err` and `?` leave: nothing was wrong
fine : (r : Result (Unit {0}) Fault) (s : Result (Unit {0}) Refusal) (u : Unit {0}) → is_ok s ≡ is_ok r → s ≡ Ok u → r ≡ Ok tt
fine (Ok x) s u v e = refl
fine (Err f) s u v e = absurd (true≢false (sym (ap is_ok e) ∙ v))

-- or a fault, and what was made of it
wrong : (P : Fault → Refusal → Type 0) (r : Result (Unit {0}) Fault) (s : Result (Unit {0}) Refusal) (q : Refusal)
    → MatchResult r (λ x. s ≡ Ok x) (λ f. IsErrAnd s (P f)) → s ≡ Err q → (f : Fault) × (r ≡ Err f) × P f q
wrong P (Ok x) s q m e = absurd (true≢false (sym (ap is_ok m) ∙ ap is_ok e))
wrong P (Err f) s q m e = (f, refl, rw e at m)

pub walk_marked-returns-in-Missing : goal.walk_marked-returns-in-Missing
walk_marked-returns-in-Missing t c =
    over _ _ _ _ _ _ (faulty _) (is_missing _ _ c.args.depth c.args.close _ _ _ c.command_at.ensures c.in-Missing.is) _ c.loop-mark.invariant.1

pub walk_marked-returns-then-ne : goal.walk_marked-returns-then-ne
walk_marked-returns-then-ne t c =
    over _ _ _ _ _ _ (faulty _) (is_misplaced _ _ c.args.depth c.args.close _ _ _ c.command_at.ensures _ c.in-Close.is (differ _ _ (sym c.if-ne.true ∙ c.ne.ensures))) _ c.loop-mark.invariant.1

pub walk_marked-overflow_add-result : goal.walk_marked-overflow_add-result
walk_marked-overflow_add-result t c =
    let a = c.args in
    omega (arith, fits_by _ a.h a.depth a.close _ a.before closing (is_closing _ a.h a.depth a.close _ a.before _ c.command_at.ensures _ c.in-Close.is (agree _ _ (sym c.if-ne.false ∙ c.ne.ensures))))

pub walk_marked-returns-in-Close : goal.walk_marked-returns-in-Close
walk_marked-returns-in-Close t c =
    over _ _ _ _ _ _ closing (is_closing _ _ c.args.depth c.args.close _ _ _ c.command_at.ensures _ c.in-Close.is (agree _ _ (sym c.if-ne.false ∙ c.ne.ensures))) _ c.loop-mark.invariant.1

pub walk_marked-returns-in_err-map_err-in-If : goal.walk_marked-returns-in_err-map_err-in-If
walk_marked-returns-in_err-map_err-in-If t c =
    let r = err_from_is_err_and c.from_residual.result c.from_residual.ensures.1 in
    let p = wrong _ _ _ _ c.map_err.ensures.cases c.in_err-map_err-in-If.was in
    let q : c.in_err-map_err-in-If.field-0.0 ≡ Refusal.Command p.0 c.loop-mark.at = search rules in
    rw (r.1, r.2, q) (over _ _ _ _ _ _ (faulty _) (faulty_if _ _ c.args.depth c.args.close _ _ _ c.command_at.ensures _ c.in-If.is _ c.if_fault.ensures _ p.1) _ c.loop-mark.invariant.1)

pub walk_marked-counts_after_if-requires : goal.walk_marked-counts_after_if-requires
walk_marked-counts_after_if-requires t c =
    few-ifs _ _ c.args.depth c.args.close _ _ _ c.command_at.ensures _ c.in-If.is _ c.if_fault.ensures (fine _ _ _ c.map_err.ensures.variant c.in_ok-map_err-in-If.was)

pub walk_marked-walk_if-requires : goal.walk_marked-walk_if-requires
walk_marked-walk_if-requires t c =
    let f = fits_by _ _ c.args.depth c.args.close _ _ (if_then _ _) (is_if _ _ c.args.depth c.args.close _ _ _ c.command_at.ensures _ c.in-If.is _ c.if_fault.ensures (fine _ _ _ c.map_err.ensures.variant c.in_ok-map_err-in-If.was)) in
    (omega arith, f)

pub walk_marked-returns-in_err-passed-in-If : goal.walk_marked-returns-in_err-passed-in-If
walk_marked-returns-in_err-passed-in-If t c =
    let p = err_from_is_err_and c.from_residual-in_err-passed-in-If.result c.from_residual-in_err-passed-in-If.ensures.1 in
    rw (p.1, p.2)
    (then_by _ _ (Err _) _ _ (rw c.counts_after_if.ensures at c.walk_if.ensures) c.in_err-passed-in-If.was
    (over _ _ _ _ _ _ (if_then _ _) (is_if _ _ c.args.depth c.args.close _ _ _ c.command_at.ensures _ c.in-If.is _ c.if_fault.ensures (fine _ _ _ c.map_err.ensures.variant c.in_ok-map_err-in-If.was)) _ c.loop-mark.invariant.1))

pub walk_marked-loop-mark-smaller-in-If : goal.walk_marked-loop-mark-smaller-in-If
walk_marked-loop-mark-smaller-in-If t c =
    let l = ended_if _ _ _ _ _ _ _ c.in_ok-passed-in-If.was c.walk_if.ensures in
    omega arith

pub walk_marked-loop-mark-preserved-in-If : goal.walk_marked-loop-mark-preserved-in-If
walk_marked-loop-mark-preserved-in-If t c =
    let l = ended_if _ _ _ _ _ _ _ c.in_ok-passed-in-If.was c.walk_if.ensures in (
      omega arith,
      then_by _ _ (Ok _) _ _ (rw c.counts_after_if.ensures at c.walk_if.ensures) c.in_ok-passed-in-If.was
          (over _ _ _ _ _ _ (if_then _ _) (is_if _ _ c.args.depth c.args.close _ _ _ c.command_at.ensures _ c.in-If.is _ c.if_fault.ensures (fine _ _ _ c.map_err.ensures.variant c.in_ok-map_err-in-If.was)) _ c.loop-mark.invariant.1),
    )

pub walk_marked-returns-in_err-map_err-in-Simple : goal.walk_marked-returns-in_err-map_err-in-Simple
walk_marked-returns-in_err-map_err-in-Simple t c =
    let r = err_from_is_err_and c.from_residual-in_err-map_err-in-Simple.result c.from_residual-in_err-map_err-in-Simple.ensures.1 in
    let p = wrong _ _ _ _ c.map_err-in-Simple.ensures.cases c.in_err-map_err-in-Simple.was in
    let q : c.in_err-map_err-in-Simple.field-0.0 ≡ Refusal.Command p.0 c.loop-mark.at = search rules in
    rw (r.1, r.2, q) (over _ _ _ _ _ _ (faulty _) (faulty-simple _ _ c.args.depth c.args.close _ _ _ c.command_at.ensures _ c.in-Simple.is _ c.simple_fault.ensures _ p.1) _ c.loop-mark.invariant.1)

pub walk_marked-overflow_add-at : goal.walk_marked-overflow_add-at
walk_marked-overflow_add-at t c =
    omega (arith, fits_by _ _ c.args.depth c.args.close _ _ (simple_then _ _) (is_simple _ _ c.args.depth c.args.close _ _ _ c.command_at.ensures _ c.in-Simple.is _ c.simple_fault.ensures (fine _ _ _ c.map_err-in-Simple.ensures.variant c.in_ok-map_err-in-Simple.was)), c.simple_size.ensures)

pub walk_marked-counts_after-k-requires : goal.walk_marked-counts_after-k-requires
walk_marked-counts_after-k-requires t c =
    few-accesses _ _ c.args.depth c.args.close _ _ _ c.command_at.ensures _ c.in-Simple.is _ c.simple_fault.ensures (fine _ _ _ c.map_err-in-Simple.ensures.variant c.in_ok-map_err-in-Simple.was)

pub walk_marked-loop-mark-smaller : goal.walk_marked-loop-mark-smaller
walk_marked-loop-mark-smaller t c =
    omega (arith, fits_by _ _ c.args.depth c.args.close _ _ (simple_then _ _) (is_simple _ _ c.args.depth c.args.close _ _ _ c.command_at.ensures _ c.in-Simple.is _ c.simple_fault.ensures (fine _ _ _ c.map_err-in-Simple.ensures.variant c.in_ok-map_err-in-Simple.was)), c.simple_size.ensures, simple-size c.in-Simple.c)

pub walk_marked-loop-mark-preserved : goal.walk_marked-loop-mark-preserved
walk_marked-loop-mark-preserved t c = (
  omega (arith, c.loop-mark.invariant.0),
  rw (c.simple_size.ensures, c.counts_after-k.ensures) (over _ _ _ _ _ _ (simple_then _ _) (is_simple _ _ c.args.depth c.args.close _ _ _ c.command_at.ensures _ c.in-Simple.is _ c.simple_fault.ensures (fine _ _ _ c.map_err-in-Simple.ensures.variant c.in_ok-map_err-in-Simple.was)) _ c.loop-mark.invariant.1),
)

pub walk_if-returns-in_err-first : goal.walk_if-returns-in_err-first
walk_if-returns-in_err-first t c =
    let p = err_from_is_err_and c.from_residual.result c.from_residual.ensures.1 in
    rw (p.1, p.2) (then_by _ _ (Err _) _ _ c.walk_marked.ensures c.in_err-first.was (sym (walk_if_lem _ _ _ _ _)))

pub walk_if-walk_marked-requires-2 : goal.walk_if-walk_marked-requires-2
walk_if-walk_marked-requires-2 t c =
    let l = ended_arm _ _ _ _ _ _ _ c.in_ok-first.was _ c.walk_marked.ensures in
    (omega arith, tt)

pub walk_if-returns : goal.walk_if-returns
walk_if-returns t c =
    c.walk_marked-2.ensures ∙ then_by _ _ (Ok _) _ _ c.walk_marked.ensures c.in_ok-first.was (sym (walk_if_lem _ _ _ _ _))
