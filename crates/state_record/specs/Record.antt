-- A thread as bytes: where its process stands in the model, and its bound messages ("Steps").
use Rattle.std.specs.Prelude.{◌≡◌, List, [], ◌∷◌, ◌++◌, ℕ, ◌+◌, ◌<◌, length}
use Rattle.meaning.specs.Messages.Equation.{Normal}
use Rattle.meaning.specs.Bytes.Process.{Process}
use Rattle.meaning.specs.Bytes.Standing.{Stands}
use Rattle.meaning.specs.Places.{Every}
use Rattle.meaning.specs.Steps.State.{Bound, Thread, act, repl}
use Rattle.meaning.specs.Judging.Limits.{bound_nodes}
use Rattle.buffer.specs.Word.{encode_word}
use Rattle.message_term.specs.Bound.{encode_bound}
use Rattle.state_record.specs.Place.{ProcessAt}

-- The process that a thread came from, and its bound messages.
abbrev pub process_of : Thread → Process
process_of (act ρ p P) = Process.act p P
process_of (repl ρ P) = Process.repl P

abbrev pub bound_of : Thread → Bound
bound_of (act ρ p P) = ρ
bound_of (repl ρ P) = ρ

-- A thread with the position of its process in the model.
pub record Placed : Type 0 where
  pub place : ℕ
  pub thread : Thread

-- The position, how many bytes the bound messages take, and these messages.
abbrev pub encode_record : Placed → List ℕ
encode_record t =
    let bound = encode_bound (bound_of t.thread) in
    encode_word t.place ++ encode_word (length bound) ++ bound

unfoldable pub encode_records : List Placed → List ℕ
encode_records [] = []
encode_records (t ∷ ts) = encode_record t ++ encode_records ts

-- The process of a thread stands at its position, and the bound messages are in normal form.
pub record Standing (s : List ℕ) (t : Placed) : Type 0 where
  pub next : ℕ
  pub process : ProcessAt s t.place 64 (length (bound_of t.thread)) (process_of t.thread) next
  pub normal : Every Normal (bound_of t.thread)
  pub fits : t.place < 65536

-- If the slice is the bytes of bound messages, they have so many nodes.
pub record NodesOf (b : List ℕ) (r : ℕ) : Type 0 where
  pub same : (ρ : Bound) → b ≡ encode_bound ρ → r ≡ bound_nodes ρ

-- The two numbers of a record stand at a position, and then the bytes of its messages.
pub record HeadStands (at place size : ℕ) (out : List ℕ) : Type 0 where
  pub there : Stands out at (encode_word place ++ encode_word size) (at + 4)

pub record Written (b : List ℕ) (place at : ℕ) (out : List ℕ) : Type 0 where
  pub there : Stands out at (encode_word place ++ encode_word (length b) ++ b) (at + 4 + length b)
