-- The limits of a state that a step leads to: of its threads only the settled rests of those that act are judged anew ("Judging and its
-- count").
use Rattle.std.specs.Prelude.{◌≡◌, Bool, false, ◌||◌, List, ◌++◌, ℕ, ◌+◌, ◌≤◌, ltb, length}
use Rattle.meaning.specs.Messages.Term.{Message, nodes}
use Rattle.meaning.specs.Places.{Every}
use Rattle.meaning.specs.Steps.State.{◌▸◌, State}
use Rattle.meaning.specs.Steps.Invariant.{Stored, BoundStored}
use Rattle.meaning.specs.Judging.Limits.{bound_nodes, thread_nodes}
use Rattle.state_record.specs.Record.{Placed}
use Rattle.state_head.specs.Settled.{threads_of}
use Rattle.state_layout.specs.Layout.{over_arrival}
use Rattle.step_located.specs.CopyStep.{Pair}
use Rattle.step_located.specs.Rebuilt.{over_rest}
use Rattle.step_transition.specs.Moves.{Move, alone, inside, between, labelled_moves, silent_moves}
use Rattle.step_transition.specs.Outcome.{Outcome, bound_after, sent_by, last_of, outcome, arrival_of}
use Rattle.state_layout.specs.Loaded.{BoundSmall}
use Rattle.step_transition.specs.Threads.{Judged}

-- Whether the rests of a pair, or those of a step, meet a limit of their own; x is the message of an input.
abbrev pub pair_over : Pair → Bool
pair_over w =
    over_rest w.sender w.sender.bound w.taker.next || over_rest w.taker (w.taker.bound ▸ sent_by w) (last_of w)

unfoldable pub rest_over : Message → Move → Bool
rest_over x (alone p a) = over_rest a (bound_after x a) a.next
rest_over x (inside p w) = pair_over w.pair
rest_over x (between p q w) = pair_over w

-- Too many threads, or too many nodes.
abbrev pub full : State → Outcome → Bool
full S o = ltb 32 (length o.threads) || ltb 1024 (thread_nodes (threads_of o.threads) + bound_nodes (S.aliases ++ o.alias))

-- What holds of every step of the threads ps, k being the next private name.
abbrev pub EveryMove : (Move → Type 0) → (k : ℕ) → List Placed → Type 0
EveryMove Q k ps = ((output : Bool) (c : Message) → Every Q (labelled_moves output c k ps)) × Every Q (silent_moves k ps)

-- From a state whose threads meet no limit a step leads to one that is over a limit exactly if its rests are, or if it has too many
-- threads, nodes or private names.
abbrev pub LimitsJudged : Type 0
LimitsJudged =
    (ps : List Placed) (S : State) (x : Message) → Every (Judged S.next) ps → Stored S.next x
    → EveryMove (λ v. let o = outcome ps S.next x v in
    over_arrival (arrival_of S o) ≡ (rest_over x v || full S o || ltb 128 o.next)) S.next ps

-- And if it is over none, its threads meet none again, and its messages are normal forms of at most 255 nodes without private names from
-- its next one on.
pub record Goes (S : State) (o : Outcome) : Type 0 where
  pub later : S.next ≤ o.next
  pub judged : over_arrival (arrival_of S o) ≡ false → Every (Judged o.next) o.threads
  pub aliases : BoundStored S.next S.aliases → BoundStored o.next (S.aliases ++ o.alias)
  pub small : BoundSmall S.aliases → BoundSmall (S.aliases ++ o.alias)

abbrev pub JudgedOn : Type 0
JudgedOn =
    (ps : List Placed) (S : State) (x : Message) → Every (Judged S.next) ps → Stored S.next x → nodes x ≤ 255
    → EveryMove (λ v. Goes S (outcome ps S.next x v)) S.next ps
