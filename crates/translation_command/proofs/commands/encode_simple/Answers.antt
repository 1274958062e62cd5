use mathlib.Core.Path.{ap}
use mathlib.Core.List.{List}
use Prim.Native.Nat.{ℕ}
use Rattle.routine_faults.proofs.Fine.{write_fine}
use Rattle.netlist.proofs.Emitting.{emitted-none}
use Rattle.translation_command.proofs.Commanding.{write_is, makes_as}
use Rattle.translation_state.specs.Inner.Reach.{wires_of}
use Rattle.translation_command.specs.Command.{simple}
use Rattle.translation_command.proofs.commands.encode_simple.Goals as goal

pub encode_set-requires : goal.encode_set-requires
encode_set-requires c =
    record { lits_len = c.requires.lits_len; sound = (rw c.in-Set.is at c.requires.sound.0, c.requires.sound.1) }

pub encode_convert-requires : goal.encode_convert-requires
encode_convert-requires c =
    record { lits_len = c.requires.lits_len; sound = (rw c.in-Convert.is at c.requires.sound.0, c.requires.sound.1) }

pub encode_compute-net-requires : goal.encode_compute-net-requires
encode_compute-net-requires c = record { ready = c.requires.ready; lits_len = c.requires.lits_len; sound = (rw c.in-Compute.is at c.requires.sound.0, c.requires.sound.1) }

pub encode_read-requires : goal.encode_read-requires
encode_read-requires c = record { ready = c.requires.ready; lits_len = c.requires.lits_len; sound = rw c.in-Read.is at c.requires.sound }

pub encode_access-requires : goal.encode_access-requires
encode_access-requires c = record { ready = c.requires.ready; lits_len = c.requires.lits_len; i_lt_variables = ((write_fine c.args.bytes.now c.args.h _ _ _ (rw c.in-Write.is at c.requires.sound.0)).1, c.requires.sound.1) }

pub returns-in-Set : goal.returns-in-Set
unfolding simple
returns-in-Set c =
    rw c.in-Set.is (record { emitted = emitted-none _ _ _; wires = ap (λ (l : List ℕ). wires_of l c.args.s) c.encode_set.ensures })

pub returns-in-Convert : goal.returns-in-Convert
unfolding simple
returns-in-Convert c =
    rw c.in-Convert.is (record { emitted = emitted-none _ _ _; wires = ap (λ (l : List ℕ). wires_of l c.args.s) c.encode_convert.ensures })

pub returns-in-Compute : goal.returns-in-Compute
unfolding simple
returns-in-Compute c =
    rw c.in-Compute.is (record { emitted = c.encode_compute-net.ensures.emitted; wires = ap (λ (l : List ℕ). wires_of l c.args.s) c.encode_compute-net.ensures.lits_after })

pub returns-in-Read : goal.returns-in-Read
returns-in-Read c = rw c.in-Read.is c.encode_read.ensures

pub returns-in-Write : goal.returns-in-Write
returns-in-Write c =
    rw c.in-Write.is (makes_as (write_is c.args.bytes.now c.args.h c.args.t c.args.n.next _ _ c.args.k (wires_of c.args.lits.now c.args.s) _) c.encode_access.ensures)
