-- The private names that a process takes when it is settled ("Steps"; "Judging and its count").
use Rattle.std.specs.Prelude.{◌≡◌, Bool, true, false, List, Option, Some, None, ℕ, get_or}
use Rattle.meaning.specs.Bytes.Process.{Process}
use Rattle.meaning.specs.Steps.State.{Bound, names}
use Rattle.meaning.specs.Judging.Limits.{over_settling}
use Rattle.index_process.specs.Index.{InModel}
use Rattle.state_head.specs.Head.{CanSettle}

-- The private name after those of a process that is settled at n; or it meets a limit.
abbrev pub counted_of : (large : Bool) → (next : ℕ) → Option ℕ
counted_of true next = None
counted_of false next = Some next

abbrev pub count_of : Process → Bound → ℕ → Option ℕ
count_of P ρ n = counted_of (over_settling P ρ n) (names P ρ n)

-- Where there is an answer, whatever process stands there takes names up to that one, under whatever messages.
pub record Fixed (s : List ℕ) (at n : ℕ) (r : Option ℕ) : Type 0 where
  pub exact : {next : ℕ} → r ≡ Some next → (P : Process) (ρ : Bound) {end : ℕ} → InModel s at P end → Some next ≡ count_of P ρ n

-- Whatever process stands there, that is the answer; and the same, if that process is of a kind.
pub record Counts (s : List ℕ) (at left : ℕ) (m : List ℕ) (end n : ℕ) (r : Option ℕ) : Type 0 where
  pub exact : (P : Process) (ρ : Bound) → CanSettle s at left m end n P ρ → r ≡ count_of P ρ n

pub record CountsIf (kind : ℕ) (s : List ℕ) (at left : ℕ) (m : List ℕ) (end n : ℕ) (r : Option ℕ) : Type 0 where
  pub exact : get_or s at 0 ≡ kind → Counts s at left m end n r
