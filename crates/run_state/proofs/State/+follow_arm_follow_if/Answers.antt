-- Following an arm and following an if meet their contracts.
use Rattle.std.specs.Prelude.{is_some}
use Rattle.std.proofs.Common.{refl, sym, ◌∙◌, arith}
use Rattle.routine_command.proofs.Sizes.{simple-size}
use Rattle.routine.proofs.Standing.{not_missing, close_room, some_if, else-room, second_falls, first-arm, passed_to, second-passed}
use Rattle.run_state.proofs.InRange.{operands_below}
use Rattle.run_state.specs.Inner.Walker.{way_at}
use Rattle.run_state.specs.declared.Course.{Course}
use Rattle.run_state.proofs.Following.{sound_here, few_here, room_here, onwards, going, here, closed, forked, fork_done, if_room}
use Rattle.run_state.proofs.Reaching.{goes_on, stops}
use Rattle.run_state.proofs.Parting.{first_falls, arm_is, second-after, astray, first-passed, second_followed}
use Rattle.run_state.proofs.State.+follow_arm_follow_if.Goals as goal

pub follow_arm-returns-in-Missing : goal.follow_arm-returns-in-Missing
follow_arm-returns-in-Missing t c =
    let w = here _ _ _ _ _ _ _ _ _ c.loop-self.invariant.1 c.requires.0 in
    absurd (not_missing _ _ _ _ _ _ w _ c.command_at.ensures c.in-Missing.is)

pub follow_arm-overflow_add-at : goal.follow_arm-overflow_add-at
follow_arm-overflow_add-at t c =
    let w = here _ _ _ _ _ _ _ _ _ c.loop-self.invariant.1 c.requires.0 in
    let l = close_room _ _ _ _ _ _ w _ c.command_at.ensures _ c.in-Close.is in
    omega arith

pub follow_arm-returns-in-Close : goal.follow_arm-returns-in-Close
follow_arm-returns-in-Close t c =
    rw c.way-in-Close.ensures (closed _ _ _ _ _ _ _ _ _ c.loop-self.invariant.1 _ c.command_at.ensures _ c.in-Close.is)

pub follow_arm-follow_if-r-requires : goal.follow_arm-follow_if-r-requires
follow_arm-follow_if-r-requires t c =
    let w = here _ _ _ _ _ _ _ _ _ c.loop-self.invariant.1 c.requires.0 in
    let i = some_if _ _ _ _ _ _ w _ c.command_at.ensures _ c.in-If.is in
    (omega arith, (i.0, i.1, i.2, c.requires.1, c.loop-self.invariant.2))

pub follow_arm-returns-then-is_done : goal.follow_arm-returns-then-is_done
follow_arm-returns-then-is_done t c =
    fork_done _ _ _ _ _ _ _ _ _ c.loop-self.invariant.1 _ c.command_at.ensures _ c.in-If.is _ c.follow_if-r.ensures
    (sym c.is_done.ensures ∙ c.if-is_done.true)

pub follow_arm-loop-self-smaller-in-If : goal.follow_arm-loop-self-smaller-in-If
follow_arm-loop-self-smaller-in-If t c =
    let w = here _ _ _ _ _ _ _ _ _ c.loop-self.invariant.1 c.requires.0 in
    let e = sym c.is_done.ensures ∙ c.if-is_done.false in
    let l = if_room _ _ _ _ (way_at _ _ _ Course.Passing) w _ c.command_at.ensures _ _ _ _ c.in-If.is _ c.follow_if-r.ensures e in
    omega arith

pub follow_arm-loop-self-preserved-in-If : goal.follow_arm-loop-self-preserved-in-If
follow_arm-loop-self-preserved-in-If t c =
    let w = here _ _ _ _ _ _ _ _ _ c.loop-self.invariant.1 c.requires.0 in
    let e = sym c.is_done.ensures ∙ c.if-is_done.false in
    let l = if_room _ _ _ _ (way_at _ _ _ Course.Passing) w _ c.command_at.ensures _ _ _ _ c.in-If.is _ c.follow_if-r.ensures e in (
      omega arith,
      onwards _ _ _ _ _ _ _ _ _ (forked _ _ _ _ _ _ _ _ _ c.loop-self.invariant.1 _ c.command_at.ensures _ c.in-If.is _ c.follow_if-r.ensures e),
      (going c.follow_if-r.result.course (is_some c.follow_if-r.result.state.stop) e).1,
    )

pub follow_arm-bounds-self-i : goal.follow_arm-bounds-self-i
follow_arm-bounds-self-i t c =
    rw c.operands_of-o.ensures (operands_below _ _ c.requires.1 _ (sound_here _ _ _ _ _ _ _ _ _ c.loop-self.invariant.1 c.requires.0 _ c.command_at.ensures _ c.in-Simple.is)).3

pub follow_arm-reached-requires : goal.follow_arm-reached-requires
follow_arm-reached-requires t c = (sound_here _ _ _ _ _ _ _ _ _ c.loop-self.invariant.1 c.requires.0 _ c.command_at.ensures _ c.in-Simple.is, c.requires.1)

pub follow_arm-bounds-self-a : goal.follow_arm-bounds-self-a
follow_arm-bounds-self-a t c =
    rw c.operands_of-o.ensures (operands_below _ _ c.requires.1 _ (sound_here _ _ _ _ _ _ _ _ _ c.loop-self.invariant.1 c.requires.0 _ c.command_at.ensures _ c.in-Simple.is)).1

pub follow_arm-bounds-self-b : goal.follow_arm-bounds-self-b
follow_arm-bounds-self-b t c =
    rw c.operands_of-o.ensures (operands_below _ _ c.requires.1 _ (sound_here _ _ _ _ _ _ _ _ _ c.loop-self.invariant.1 c.requires.0 _ c.command_at.ensures _ c.in-Simple.is)).2

pub follow_arm-value_after-requires : goal.follow_arm-value_after-requires
follow_arm-value_after-requires t c = (sound_here _ _ _ _ _ _ _ _ _ c.loop-self.invariant.1 c.requires.0 _ c.command_at.ensures _ c.in-Simple.is, c.requires.1)

pub follow_arm-bounds-self-d : goal.follow_arm-bounds-self-d
follow_arm-bounds-self-d t c =
    rw c.operands_of-o.ensures (operands_below _ _ c.requires.1 _ (sound_here _ _ _ _ _ _ _ _ _ c.loop-self.invariant.1 c.requires.0 _ c.command_at.ensures _ c.in-Simple.is)).0

pub follow_arm-counts_after-k-requires : goal.follow_arm-counts_after-k-requires
follow_arm-counts_after-k-requires t c = few_here _ _ _ _ _ _ _ _ _ c.loop-self.invariant.1 c.requires.0 _ c.command_at.ensures _ c.in-Simple.is

pub follow_arm-loop-self-smaller : goal.follow_arm-loop-self-smaller
follow_arm-loop-self-smaller t c =
    let l = room_here _ _ _ _ _ _ _ _ _ c.loop-self.invariant.1 c.requires.0 _ c.command_at.ensures _ c.in-Simple.is in
    omega (arith, l, c.simple_size-at.ensures, simple-size c.in-Simple.c)

pub follow_arm-loop-self-preserved : goal.follow_arm-loop-self-preserved
follow_arm-loop-self-preserved t c = (
  omega (arith, c.loop-self.invariant.0),
  goes_on _ _ _ _ _ _ _ _ _ _ _ c.loop-self.invariant.1 _ c.command_at.ensures _ c.in-Simple.is _ c.operands_of-o.ensures _ c.reached.ensures c.in-Goes.is c.loop-self.invariant.2 _ _ _ c.simple_size-at.ensures c.counts_after-k.ensures c.value_after.ensures,
  c.loop-self.invariant.2,
)

pub follow_arm-returns-in-Stops : goal.follow_arm-returns-in-Stops
follow_arm-returns-in-Stops t c =
    rw c.way-in-Stops.ensures
    (stops _ _ _ _ _ _ _ _ _ _ _ c.loop-self.invariant.1 _ c.command_at.ensures _ c.in-Simple.is _ c.operands_of-o.ensures _ c.reached.ensures _ _ c.in-Stops.is _ c.accesses_of.ensures _ c.stopped-stop.ensures)

pub follow_if-returns-then-not-keeps_to : goal.follow_if-returns-then-not-keeps_to
follow_if-returns-then-not-keeps_to t c =
    rw c.way.ensures
    (astray _ _ _ _ _ _ _ _ _ (arm_is _ _ _ _ c.arm_at-arm.ensures) _ c.keeps_to.ensures c.if-not-keeps_to.true)

pub follow_if-overflow_add-at : goal.follow_if-overflow_add-at
follow_if-overflow_add-at t c = omega (arith, else-room _ _ _ _ _ c.requires.0)

pub follow_if-follow_arm-r-requires : goal.follow_if-follow_arm-r-requires
follow_if-follow_arm-r-requires t c =
    let i = c.requires.0 in
    let l = else-room _ _ _ _ _ i in (
      first_falls _ _ _ _ _ c.decreases l.0 l.1 refl,
      (first-arm _ _ _ _ _ i _ c.counts_after_if-inside.ensures, c.requires.3, rw c.with_arm-first.ensures c.requires.4),
    )

pub follow_if-pass_arm-past-requires : goal.follow_if-pass_arm-past-requires
follow_if-pass_arm-past-requires t c =
    second-after _ _ _ _ _ c.requires.0 _ c.counts_after_if-inside.ensures _ _ _ _ _ c.follow_arm-r.ensures
    (sym c.is_done.ensures ∙ c.if-is_done.false)

pub follow_if-overflow_add-at-else-arm-eq0 : goal.follow_if-overflow_add-at-else-arm-eq0
follow_if-overflow_add-at-else-arm-eq0 t c = omega (arith, else-room _ _ _ _ _ c.requires.0)

pub follow_if-follow_arm-requires : goal.follow_if-follow_arm-requires
follow_if-follow_arm-requires t c =
    let i = c.requires.0 in
    let k = c.counts_after_if-inside.ensures in
    let l = else-room _ _ _ _ _ i in
    let p = c.pass_arm-past-else-arm-eq0.ensures in (
      second_falls _ _ _ _ _ c.decreases l.0 l.1 (passed_to _ _ _ _ _ i _ k _ p).0,
      (second-passed _ _ _ _ _ i _ k _ p, c.requires.3, rw c.with_arm-second.ensures c.requires.4),
    )

pub follow_if-returns-else-is_done : goal.follow_if-returns-else-is_done
follow_if-returns-else-is_done t c =
    rw c.way-then-arm-eq0.ensures
    (first-passed _ _ _ _ _ _ _ _ _ (arm_is _ _ _ _ c.arm_at-arm.ensures) _ c.keeps_to.ensures c.if-not-keeps_to.false _ c.counts_after_if-inside.ensures _
    c.if-arm-eq0.true c.with_arm-first.ensures _ c.follow_arm-r.ensures
    (sym c.is_done.ensures ∙ c.if-is_done.false) _ c.pass_arm-past.ensures)

pub follow_if-returns-else-arm-eq0 : goal.follow_if-returns-else-arm-eq0
follow_if-returns-else-arm-eq0 t c =
    second_followed _ _ _ _ _ _ _ _ _ (arm_is _ _ _ _ c.arm_at-arm.ensures) _ c.keeps_to.ensures c.if-not-keeps_to.false _ c.counts_after_if-inside.ensures _
    c.if-arm-eq0.false c.with_arm-second.ensures _ c.pass_arm-past-else-arm-eq0.ensures _ c.follow_arm.ensures
