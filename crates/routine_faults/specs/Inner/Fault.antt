-- What is found of a command, without the counts after it.
use Rattle.std.specs.Prelude.{Result, Ok, Err}
use Rattle.routine_faults.specs.Step.{Step, faulty, closing, simple_then, if_then}
use Rattle.routine_faults.specs.declared.Fault.{Fault}

-- nothing, or a fault
abbrev pub fault_of : Step → Result (Unit {0}) Fault
fault_of (faulty fault) = Err fault
fault_of closing = Ok tt
fault_of (simple_then c k) = Ok tt
fault_of (if_then c k) = Ok tt
