-- What a step sends, and on what, in two slices that stay from one step to the next ("Steps").
use Rattle.std.specs.Prelude.{◌≡◌, Option, Some, None, List, [], ◌∷◌, ℕ, length}
use Rattle.meaning.specs.Bytes.Standing.{Stands}
use Rattle.message_bytes.specs.Encoding.{encode_message}
use Rattle.step_transition.specs.Moves.{Move, alone, inside, between}
use Rattle.step_transition.specs.CopyOffers.{channel_of}
use Rattle.step_transition.specs.Step.{step_of, run_of}
use Rattle.step_transition.specs.Behind.{Behind, all, later}
use Rattle.step_label.specs.declared.step.Step as step
use Rattle.step_label.specs.declared.step.Label.{Label}

-- The run of the channel of a step of two threads. For other steps none is kept.
unfoldable pub channel_run : Move → List ℕ
channel_run (alone p a) = []
channel_run (inside p w) = []
channel_run (between p q w) = encode_message (channel_of w.sender)

-- The channel and what is sent stand at the fronts of two slices.
pub record Buffered (channel message : List ℕ) (w : Move) : Type 0 where
  pub on : Stands channel 0 (channel_run w) (length (channel_run w))
  pub sent : Stands message 0 (run_of w) (length (run_of w))

-- The answer is the first of these moves, with what it sends and on what; or none.
abbrev pub Answered : (start : ℕ) → (channel message : List ℕ) → Option step.Step → List Move → Type 0
Answered start channel message r [] = r ≡ None
Answered start channel message r (v ∷ others) = (r ≡ Some (step_of start v)) × Buffered channel message v

-- Before the first step nothing is kept.
abbrev pub BufferedBefore : {l : Label} {start : ℕ} {ws others : List Move} {v : step.Step} → (channel message : List ℕ) → Behind l start ws v others → Type 0
BufferedBefore channel message all = Unit {0}
BufferedBefore channel message (later earlier w e) = Buffered channel message w

-- The moves that come behind a step, with what it sends and on what.
pub record Resuming (l : Label) (start : ℕ) (ws : List Move) (channel message : List ℕ) (v : step.Step) (others : List Move) : Type 0 where
  pub behind : Behind l start ws v others
  pub keeping : BufferedBefore channel message behind
