-- A step as numbers: the threads that act by the positions of their records, the processes that act by their marks ("Steps").
use Rattle.std.specs.Prelude.{◌≡◌, true, false, Option, Some, None, List, [], ◌∷◌, ℕ, ◌+◌, length}
use Rattle.meaning.specs.Bytes.Process.{Prefix, output, input}
use Rattle.meaning.specs.Steps.State.{worked}
use Rattle.message_bytes.specs.Encoding.{encode_message}
use Rattle.step_located.specs.Located.{LocatedOffer}
use Rattle.step_located.specs.CopyStep.{CopyStep}
use Rattle.step_transition.specs.Focus.{Focus, record_at}
use Rattle.step_transition.specs.Moves.{Move, alone, inside, between}
use Rattle.step_transition.specs.Outcome.{sent_by}
use Rattle.meaning.specs.Bytes.Standing.{Stands}
use Rattle.step_label.specs.declared.step.Step as code
use Rattle.step_label.specs.declared.step.Actor.{Actor}
use Rattle.step_label.specs.declared.step.Label.TheVariants.{Output, Input, Silent}

-- A thread that acts, and none.
abbrev pub actor : (start : ℕ) → Focus → LocatedOffer → Actor
actor start p a = record { at = record_at start p; mark = a.place + 1; next = a.next }

abbrev pub nobody : Focus → (start : ℕ) → Actor
nobody p start = record { at = record_at start p; mark = 0; next = 0 }

-- One copy, or two.
abbrev pub arity_of : CopyStep → ℕ
arity_of w = elim w.two [ true ↦ 2 | false ↦ 1 ]

-- The step that a move is, the records of the state standing from start on.
unfoldable pub step_of : (start : ℕ) → Move → code.Step
step_of start (alone p a) = of a.prefix
  where
    of : Prefix → code.Step
    of (output C M) = record {
      label = Output;
      arity = 0;
      copy = 0;
      sender = actor start p a;
      taker = nobody p start;
      size = length (encode_message (worked a.bound M));
    }
    of (input C) = record {
      label = Input;
      arity = 0;
      copy = 0;
      sender = nobody p start;
      taker = actor start p a;
      size = 0;
    }
step_of start (inside p w) = record {
  label = Silent;
  arity = arity_of w;
  copy = w.place + 1;
  sender = actor start p w.pair.sender;
  taker = actor start p w.pair.taker;
  size = length (encode_message (sent_by w.pair));
}
step_of start (between p q w) = record {
  label = Silent;
  arity = 0;
  copy = 0;
  sender = actor start p w.sender;
  taker = actor start q w.taker;
  size = length (encode_message (sent_by w));
}

-- The run of the message that is sent, if one is.
unfoldable pub run_of : Move → List ℕ
run_of (alone p a) = of a.prefix
  where
    of : Prefix → List ℕ
    of (output C M) = encode_message (worked a.bound M)
    of (input C) = []
run_of (inside p w) = encode_message (sent_by w.pair)
run_of (between p q w) = encode_message (sent_by w)

-- The answer is the first of these moves, whose message stands at the front of a slice; or none.
abbrev pub Shown : (start : ℕ) → (said : List ℕ) → Option code.Step → List Move → Type 0
Shown start said r [] = r ≡ None
Shown start said r (v ∷ others) = (r ≡ Some (step_of start v)) × Stands said 0 (run_of v) (length (run_of v))
