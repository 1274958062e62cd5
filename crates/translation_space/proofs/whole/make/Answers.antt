use mathlib.Core.Path.{sym, ◌∙◌}
use Prim.Native.Nat.{◌≤◌}
use native.Mathlib.Omega.{arith}
use lib.Seq.{length-take-le}
use Rattle.translation_space.proofs.Making.{fine_here, places_hold, begin_ready, whole_roomy, claim_room, some_variables, whole_made}
use Rattle.translation_space.proofs.whole.make.Goals as goal

pub slice_bounds-lits-end : goal.slice_bounds-lits-end
slice_bounds-lits-end c = omega (arith, (fine_here _ _ c.requires).few, c.places_in.ensures)

pub slice_bounds-own-end : goal.slice_bounds-own-end
slice_bounds-own-end c = sym (length-take-le _ _ (omega (arith, (fine_here _ _ c.requires).few, c.places_in.ensures)))

pub begin_variables-net-requires : goal.begin_variables-net-requires
begin_variables-net-requires c =
    let l : c.places_in.result ≤ 1024 = omega (arith, (fine_here _ _ c.requires).few, c.places_in.ensures) in
    record { lits_len = (length-take-le _ _ l ∙ c.places_in.ensures, places_hold _ _ _ l); ready = (begin_ready c.requires c.emit-n.ensures, c.emit-n.ensures.next); fine = fine_here _ _ c.requires }

pub encode_arm-r-requires : goal.encode_arm-r-requires
encode_arm-r-requires c =
    whole_roomy c.requires c.emit-n.ensures c.begin_variables-net.ensures c.first_command.ensures c.first_walk-p.ensures

pub append_claim-all-requires : goal.append_claim-all-requires
append_claim-all-requires c =
    claim_room c.requires c.emit-n.ensures c.begin_variables-net.ensures c.first_command.ensures c.first_walk-p.ensures c.encode_arm-r.ensures

pub overflow_sub-result : goal.overflow_sub-result
overflow_sub-result c =
    omega (arith, some_variables c.requires c.emit-n.ensures c.begin_variables-net.ensures c.first_command.ensures c.first_walk-p.ensures c.encode_arm-r.ensures)

pub returns : goal.returns
returns c =
    whole_made c.requires c.emit-n.ensures c.begin_variables-net.ensures c.first_command.ensures c.first_walk-p.ensures c.encode_arm-r.ensures c.append_claim-all.ensures
