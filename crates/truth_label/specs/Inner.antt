-- The parts of the head of a step formula: one recipe told by a head, an input, a silent step ("Steps").
use Rattle.std.specs.Prelude.{◌≡◌, false, Option, List, ℕ, length, take}
use Rattle.meaning.specs.Messages.Term.{Term}
use Rattle.meaning.specs.Bytes.Formula.{input, silent}
use Rattle.meaning.specs.Steps.State.{Bound, worked}
use Rattle.meaning.specs.Judging.Limits.{over}
use Rattle.message_bytes.specs.Encoding.{encode_message}
use Rattle.message_term.specs.Bound.{BoundAt}
use Rattle.message_term.specs.Work.{TermAt}
use Rattle.state_layout.specs.Loaded.{IsRunOf}
use Rattle.step_label.specs.declared.step.Label.TheVariants.{Output, Input}
use Rattle.truth_label.specs.Head.{headed_of, HeadTo}
use Rattle.truth_label.specs.declared.head.Head as code

-- The head of an output, and of an input whose channel's message takes so many bytes, by where the last recipe ends and how many bytes its
-- message takes.
abbrev pub output_head : (body size : ℕ) → code.Head
output_head body size = record { label = Output; body = body; channel = size; taken = 0 }

abbrev pub input_head : (channel : ℕ) → (body size : ℕ) → code.Head
input_head channel body size = record { label = Input; body = body; channel = channel; taken = size }

-- The answer r is the head h, or says that the recipe t is too large; and the message of t stands at the front of a slice.
pub record TellsTo (ρ : Bound) (t : Term) (h : code.Head) (r : Option code.Head) (message : List ℕ) : Type 0 where
  pub answer : r ≡ headed_of (over ρ t) h
  pub run : over ρ t ≡ false → IsRunOf (take (length (encode_message (worked ρ t))) message) (worked ρ t)

-- That holds for whatever recipe stands there and whatever messages are bound at base.
pub record Tells (f : List ℕ) (at base start : ℕ) (out : List ℕ) (head : (body size : ℕ) → code.Head) (r : Option code.Head)
    (message : List ℕ) : Type 0 where
  pub exact : (t : Term) {next : ℕ} (ρ : Bound) → TermAt f at 8 (length ρ) t next → BoundAt out base ρ start
      → TellsTo ρ t (head next (length (encode_message (worked ρ t)))) r message

-- The answer and the two slices are those of an input, for whatever channel and message stand there one after the other.
pub record Inputs (f : List ℕ) (at base start : ℕ) (out : List ℕ) (r : Option code.Head) (channel taken : List ℕ) : Type 0 where
  pub exact : (C M : Term) {mid body : ℕ} (ρ : Bound) → TermAt f at 8 (length ρ) C mid → TermAt f mid 8 (length ρ) M body
      → BoundAt out base ρ start → HeadTo ρ (input C M) body r channel taken

-- They are those of a silent step, whatever messages are bound.
pub record Silences (at : ℕ) (r : Option code.Head) (channel : List ℕ) : Type 0 where
  pub exact : (ρ : Bound) {taken : List ℕ} → HeadTo ρ silent at r channel taken
