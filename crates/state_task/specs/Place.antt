-- Positions in a process: the branch of an if, whether a mark is in it, and where stands what follows a thread ("Steps").
use Rattle.std.specs.Prelude.{◌≡◌, Bool, true, false, List, ℕ}
use Rattle.meaning.specs.Bytes.Process.{Prefix, Process}
use Rattle.meaning.specs.Bytes.Encoding.{encode_process}
use Rattle.meaning.specs.Bytes.Standing.{Stands}
use Rattle.index_process.specs.Index.{InModel, Ends}
use Rattle.state_record.specs.Place.{rest_at}
use Rattle.state_task.specs.Machine.{contains}

-- The first process that stands at the position, or the one after it; whether it has the position of a mark in it; where the process that
-- follows a thread stands.
pub record Chosen (s : List ℕ) (at : ℕ) (b : Bool) (r : ℕ) : Type 0 where
  pub first : b ≡ true → r ≡ at
  pub second : b ≡ false → Ends s at r

pub record Contains (s : List ℕ) (at mark : ℕ) (r : Bool) : Type 0 where
  pub exact : (P : Process) {next : ℕ} → InModel s at P next → r ≡ contains mark at P

pub record Rests (s : List ℕ) (at r : ℕ) : Type 0 where
  pub exact : (p : Prefix) (P : Process) {next : ℕ} → Stands s at (encode_process (Process.act p P)) next → r ≡ rest_at at p
