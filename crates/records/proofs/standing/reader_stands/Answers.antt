use Rattle.records.proofs.Layouts.{reads_its_bytes}
use Rattle.records.proofs.Refusing.{refuses_the_first}
use Rattle.records.proofs.Running.{runs_one_script}
use Rattle.records.proofs.standing.reader_stands.Goals as goal

pub returns : goal.returns
returns c = record { bytes = reads_its_bytes; refusals = refuses_the_first; runs = runs_one_script }
