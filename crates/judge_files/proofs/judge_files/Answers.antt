use native.Mathlib.Omega.{arith}
use Rattle.judge_files.specs.Inner.Read.{file_of}
use Rattle.judge_files.proofs.Printing.{few}
use Rattle.judge_files.proofs.judge_files.Goals as goal

-- The files are what reading them gave. Assumes nothing.
pub returns : goal.returns
returns g c =
    record {
      says = record {
        routine = file_of c.read_file-routine.result c.read_file-routine.new.buffer;
        routine-few = few c.read_file-routine.result 4097 c.read_file-routine.new.buffer (omega (arith, c.read_file-routine.auto.buffer)) c.read_file-routine.ensures;
        report = file_of c.read_file-report.result c.read_file-report.new.buffer;
        report-few = few c.read_file-report.result 65537 c.read_file-report.new.buffer (omega (arith, c.read_file-report.auto.buffer)) c.read_file-report.ensures;
        writes = c.answer.ensures.writes;
      };
      prefix_len = c.answer.ensures.prefix_len;
    }
