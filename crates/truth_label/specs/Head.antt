-- The head of a step formula at a state: its label with the messages of its recipes ("Steps"; "Judging and its count").
use Rattle.std.specs.Prelude.{◌≡◌, Bool, true, false, Option, Some, None, List, ℕ, ◌≤◌, length, take}
use Rattle.meaning.specs.Messages.Term.{Message, leaf, public}
use Rattle.meaning.specs.Bytes.Formula.{Label, output, input, silent}
use Rattle.meaning.specs.Steps.State.{Bound, worked}
use Rattle.meaning.specs.Judging.Limits.{over_label}
use Rattle.message_bytes.specs.Encoding.{encode_message}
use Rattle.message_term.specs.Bound.{BoundAt}
use Rattle.state_layout.specs.Loaded.{IsRunOf}
use Rattle.step_label.specs.declared.step.Label as step
use Rattle.step_label.specs.declared.step.Label.TheVariants.{Output, Input, Silent}
use Rattle.truth_label.specs.Place.{kind_of, LabelAt}
use Rattle.truth_label.specs.declared.head.Head as code

-- What the steps of a label do.
abbrev pub label_of_step : Label → step.Label
label_of_step (output C) = Output
label_of_step (input C M) = Input
label_of_step silent = Silent

-- The message of its channel, and the message that an input takes; public name 0 where there is none.
abbrev pub channel_of : Bound → Label → Message
channel_of ρ (output C) = worked ρ C
channel_of ρ (input C M) = worked ρ C
channel_of ρ silent = leaf (public 0)

abbrev pub taken_of : Bound → Label → Message
taken_of ρ (output C) = leaf (public 0)
taken_of ρ (input C M) = worked ρ M
taken_of ρ silent = leaf (public 0)

-- How many bytes the message takes that an input takes.
abbrev pub taken_size : Bound → Label → ℕ
taken_size ρ (output C) = 0
taken_size ρ (input C M) = length (encode_message (worked ρ M))
taken_size ρ silent = 0

unfoldable pub head_of : Bound → Label → (body : ℕ) → code.Head
head_of ρ a body =
    record { label = label_of_step a; body = body; channel = length (encode_message (channel_of ρ a)); taken = taken_size ρ a }

-- The answer: the head, or that a recipe or a part of it is too large.
unfoldable pub headed_of : Bool → code.Head → Option code.Head
headed_of true h = None
headed_of false h = Some h

-- The answer r and the two slices are those for the label a under ρ.
pub record HeadTo (ρ : Bound) (a : Label) (body : ℕ) (r : Option code.Head) (channel taken : List ℕ) : Type 0 where
  pub answer : r ≡ headed_of (over_label ρ a) (head_of ρ a body)
  pub channelled : over_label ρ a ≡ false → IsRunOf (take (head_of ρ a body).channel channel) (channel_of ρ a)
  pub taking : over_label ρ a ≡ false → label_of_step a ≡ Input → IsRunOf (take (head_of ρ a body).taken taken) (taken_of ρ a)

-- That holds for whatever label of the kind stands there and whatever messages are bound at base.
pub record Heads (f : List ℕ) (kind at base start : ℕ) (out : List ℕ) (r : Option code.Head) (channel taken : List ℕ) : Type 0 where
  pub exact : (a : Label) {body : ℕ} (ρ : Bound) → kind ≡ kind_of a → LabelAt f at (length ρ) a body → BoundAt out base ρ start
      → HeadTo ρ a body r channel taken

-- In any case the messages are within 510 bytes.
pub record Short (r : Option code.Head) : Type 0 where
  pub there : (h : code.Head) → r ≡ Some h → (h.channel ≤ 510) × (h.taken ≤ 510)
