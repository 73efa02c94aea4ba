-- What stands of the reader as a whole.
use Rattle.records.specs.Layout.{ReadsItsBytes}
use Rattle.records.specs.Refusals.{RefusesTheFirst}
use Rattle.records.specs.Script.{RunsOneScript}

-- a record that is read lies in the file with exactly its bytes; a refusal is that of the first check that fails; and
-- every file has one script
pub record ReaderStands : Type 0 where
  pub bytes : ReadsItsBytes
  pub refusals : RefusesTheFirst
  pub runs : RunsOneScript
