-- Translating an arm and translating an if: the bytes left fall, and what was made and what is left make what the whole arm makes. Assumes nothing.
use native.Mathlib.Omega.{arith}
use Rattle.routine.proofs.Standing.{else-room}
use Rattle.translation_walk.proofs.Looping.{begins, no_missing, close_fits, at_close, if_asks, if_over, if_less, if_again, simple_asks, simple-over, simple-less, simple_again}
use Rattle.translation_walk.proofs.Branching.{first_asks, first-over, second_asks, second-over, join_asks, both_made}
use Rattle.translation_walk.proofs.walks.+encode_arm_encode_arms_encode_if.Goals as goal

pub encode_arm-loop-p-init : goal.encode_arm-loop-p-init
encode_arm-loop-p-init t c = begins c.requires.0 c.requires.2

pub encode_arm-returns-in-Missing : goal.encode_arm-returns-in-Missing
encode_arm-returns-in-Missing t c =
    absurd (no_missing c.requires.0 c.loop-p.invariant c.command_at.ensures c.in-Missing.is)

pub encode_arm-overflow_add-p : goal.encode_arm-overflow_add-p
encode_arm-overflow_add-p t c =
    let l = close_fits c.requires.0 c.loop-p.invariant c.command_at.ensures c.in-Close.is in
    omega arith

pub encode_arm-returns-in-Close : goal.encode_arm-returns-in-Close
encode_arm-returns-in-Close t c = at_close c.requires.0 c.loop-p.invariant c.command_at.ensures c.in-Close.is

pub encode_arm-encode_if-p-requires : goal.encode_arm-encode_if-p-requires
encode_arm-encode_if-p-requires t c =
    if_asks c.requires.0 c.loop-p.invariant c.command_at.ensures c.in-If.is c.decreases c.requires.1

pub encode_arm-returns-then-is_over : goal.encode_arm-returns-then-is_over
encode_arm-returns-then-is_over t c =
    if_over c.requires.0 c.loop-p.invariant c.command_at.ensures c.in-If.is c.encode_if-p.ensures c.is_over.ensures c.if-is_over.true

pub encode_arm-loop-p-smaller-else-is_over : goal.encode_arm-loop-p-smaller-else-is_over
encode_arm-loop-p-smaller-else-is_over t c =
    if_less c.requires.0 c.loop-p.invariant c.command_at.ensures c.in-If.is c.encode_if-p.ensures c.is_over.ensures c.if-is_over.false

pub encode_arm-loop-p-preserved-else-is_over : goal.encode_arm-loop-p-preserved-else-is_over
encode_arm-loop-p-preserved-else-is_over t c =
    if_again c.requires.0 c.loop-p.invariant c.command_at.ensures c.in-If.is c.encode_if-p.ensures c.is_over.ensures c.if-is_over.false c.encode_if-p.auto.lits

pub encode_arm-walk_simple-p-requires-clause-ready : goal.encode_arm-walk_simple-p-requires-clause-ready
encode_arm-walk_simple-p-requires-clause-ready t c =
    (simple_asks c.requires.0 c.loop-p.invariant c.command_at.ensures c.in-Simple.is c.requires.1).0

pub encode_arm-walk_simple-p-requires-clause-sound : goal.encode_arm-walk_simple-p-requires-clause-sound
encode_arm-walk_simple-p-requires-clause-sound t c =
    (simple_asks c.requires.0 c.loop-p.invariant c.command_at.ensures c.in-Simple.is c.requires.1).1.0

pub encode_arm-walk_simple-p-requires-clause-fine : goal.encode_arm-walk_simple-p-requires-clause-fine
encode_arm-walk_simple-p-requires-clause-fine t c =
    (simple_asks c.requires.0 c.loop-p.invariant c.command_at.ensures c.in-Simple.is c.requires.1).1.1

pub encode_arm-returns-then-is_over-2 : goal.encode_arm-returns-then-is_over-2
encode_arm-returns-then-is_over-2 t c =
    simple-over c.requires.0 c.loop-p.invariant c.command_at.ensures c.in-Simple.is c.walk_simple-p.ensures c.is_over-in-Simple.ensures c.if-is_over-2.true

pub encode_arm-loop-p-smaller : goal.encode_arm-loop-p-smaller
encode_arm-loop-p-smaller t c =
    simple-less c.requires.0 c.loop-p.invariant c.command_at.ensures c.in-Simple.is c.walk_simple-p.ensures c.is_over-in-Simple.ensures c.if-is_over-2.false

pub encode_arm-loop-p-preserved : goal.encode_arm-loop-p-preserved
encode_arm-loop-p-preserved t c =
    simple_again c.requires.0 c.loop-p.invariant c.command_at.ensures c.in-Simple.is c.walk_simple-p.ensures c.is_over-in-Simple.ensures c.if-is_over-2.false c.walk_simple-p.auto.lits

pub encode_arms-overflow_add-here : goal.encode_arms-overflow_add-here
encode_arms-overflow_add-here t c =
    let l = else-room _ _ _ _ _ c.requires.if_ready.0.some in
    omega arith

pub encode_arms-encode_arm-x-requires : goal.encode_arms-encode_arm-x-requires
encode_arms-encode_arm-x-requires t c =
    first_asks c.requires.if_ready.0 c.byte_at-d.ensures c.from.ensures c.begin_if-b.ensures c.in_first-p.ensures c.decreases c.requires.if_ready.3 c.requires.if_ready.4

pub encode_arms-returns-then-is_over : goal.encode_arms-returns-then-is_over
encode_arms-returns-then-is_over t c =
    first-over c.requires.if_ready.0 c.byte_at-d.ensures c.from.ensures c.begin_if-b.ensures c.in_first-p.ensures c.encode_arm-x.ensures c.is_over.ensures c.if-is_over.true

pub encode_arms-encode_arm-y-requires : goal.encode_arms-encode_arm-y-requires
encode_arms-encode_arm-y-requires t c =
    second_asks c.requires.if_ready.0 c.byte_at-d.ensures c.from.ensures c.begin_if-b.ensures c.in_first-p.ensures c.encode_arm-x.ensures c.is_over.ensures c.if-is_over.false c.copy_bits.ensures c.in_else-q.ensures c.decreases c.requires.if_ready.3 c.requires.if_ready.4

pub encode_arms-returns-then-is_over-2 : goal.encode_arms-returns-then-is_over-2
encode_arms-returns-then-is_over-2 t c =
    second-over c.requires.if_ready.0 c.byte_at-d.ensures c.from.ensures c.begin_if-b.ensures c.in_first-p.ensures c.encode_arm-x.ensures c.is_over.ensures c.if-is_over.false c.copy_bits.ensures c.in_else-q.ensures c.encode_arm-y.ensures c.is_over-2.ensures c.if-is_over-2.true

pub encode_arms-walk_join-requires : goal.encode_arms-walk_join-requires
encode_arms-walk_join-requires t c =
    join_asks c.requires.if_ready.0 c.byte_at-d.ensures c.from.ensures c.begin_if-b.ensures c.in_first-p.ensures c.encode_arm-x.ensures c.is_over.ensures c.if-is_over.false c.copy_bits.ensures c.in_else-q.ensures c.encode_arm-y.ensures c.is_over-2.ensures c.if-is_over-2.false c.requires.if_ready.3 c.encode_arm-x.auto.lits c.encode_arm-y.auto.lits

pub encode_arms-returns : goal.encode_arms-returns
encode_arms-returns t c =
    both_made c.requires.if_ready.0 c.byte_at-d.ensures c.from.ensures c.begin_if-b.ensures c.in_first-p.ensures c.encode_arm-x.ensures c.is_over.ensures c.if-is_over.false c.copy_bits.ensures c.in_else-q.ensures c.encode_arm-y.ensures c.is_over-2.ensures c.if-is_over-2.false c.walk_join.ensures
