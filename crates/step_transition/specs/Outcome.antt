-- What a step leads to: the threads with their positions, the new alias, the next private name, and whether settling meets a limit
-- ("Steps"; "Judging and its count").
use Rattle.std.specs.Prelude.{Bool, true, false, ◌||◌, ℕ, eqb, length}
use mathlib.Core.List.{List, [], ◌∷◌, ◌++◌, flat_map}
use Rattle.meaning.specs.Messages.Term.{Message}
use Rattle.meaning.specs.Bytes.Process.{Prefix, output, input}
use Rattle.meaning.specs.Steps.State.{Bound, ◌▸◌, worked, repl, names, State}
use Rattle.meaning.specs.Judging.Limits.{over_settling}
use Rattle.meaning.specs.Judging.Visits.{Arrival, arrived}
use Rattle.state_record.specs.Record.{Placed, process_of, bound_of}
use Rattle.state_head.specs.Settled.{threads_of}
use Rattle.step_located.specs.Located.{LocatedOffer}
use Rattle.step_located.specs.CopyStep.{Pair, message_of}
use Rattle.step_located.specs.Rebuilt.{alone, replaced_at, left_at, rest_of}
use Rattle.step_transition.specs.Focus.{Focus, focuses}
use Rattle.step_transition.specs.Moves.{Move, inside, between}

pub record Outcome : Type 0 where
  pub threads : List Placed
  pub alias : List Message
  pub next : ℕ
  pub large : Bool

-- A thread of the list is the one at a focus.
abbrev pub same : Focus → Focus → Bool
same p q = eqb (length q.before) (length p.before)

-- The threads of a state, the list z standing in the place of one.
unfoldable pub exchanged : Focus → List Placed → List Focus → List Placed
exchanged p z qs = flat_map (λ q. elim (same p q) [ true ↦ z | false ↦ q.thread ∷ [] ]) qs

-- The same for two threads.
unfoldable pub both_exchanged : Focus → List Placed → Focus → List Placed → List Focus → List Placed
both_exchanged p z q y rs =
    flat_map (λ r. elim (same p r) [ true ↦ z | false ↦ elim (same q r) [ true ↦ y | false ↦ r.thread ∷ [] ] ]) rs

-- A thread, with the list z in the place of what acts in it, at the position x.
abbrev pub replaced_in : Placed → (x k : ℕ) → List Placed → List Placed
replaced_in t x k z = replaced_at x z (process_of t.thread) t.place (bound_of t.thread) 0 k

-- The messages that the rest of a thread is settled under, if x is what it takes; and the new alias.
abbrev pub bound_after : Message → LocatedOffer → Bound
bound_after x a = of a.prefix
  where
    of : Prefix → Bound
    of (output C M) = a.bound
    of (input C) = a.bound ▸ x

abbrev pub alias_of : LocatedOffer → List Message
alias_of a = of a.prefix
  where
    of : Prefix → List Message
    of (output C M) = worked a.bound M ∷ []
    of (input C) = []

-- What a pair sends; where its rests are settled: the sender's at the next private name of the taker, the taker's after the sender's.
abbrev pub sent_by : Pair → Message
sent_by w = worked w.sender.bound (message_of w.sender.prefix)

abbrev pub last_of : Pair → ℕ
last_of w = names w.sender.rest w.sender.bound w.taker.next

abbrev pub sender_rest : Pair → List Placed
sender_rest w = rest_of w.sender w.sender.bound w.taker.next

abbrev pub taker_rest : Pair → List Placed
taker_rest w = rest_of w.taker (w.taker.bound ▸ sent_by w) (last_of w)

abbrev pub met_outcome : Pair → List Placed → Outcome
met_outcome w ts =
    let τ = w.taker.bound ▸ sent_by w in
    record {
      threads = ts;
      alias = [];
      next = names w.taker.rest τ (last_of w);
      large = over_settling w.sender.rest w.sender.bound w.taker.next || over_settling w.taker.rest τ (last_of w);
    }

-- What a step of the threads ps leads to, k being the next private name; x is the message of an input.
unfoldable pub outcome : List Placed → (k : ℕ) → Message → Move → Outcome
outcome ps k x (Move.alone p a) =
    let σ = bound_after x a in
    record {
      threads = exchanged p (replaced_in p.thread a.place k (rest_of a σ a.next)) (focuses ps);
      alias = alias_of a;
      next = names a.rest σ a.next;
      large = over_settling a.rest σ a.next;
    }
outcome ps k x (inside p w) =
    let z = left_at w (sender_rest w.pair) (taker_rest w.pair) ++ alone w.place (repl w.bound w.copied) in
    met_outcome w.pair (exchanged p (replaced_in p.thread w.place k z) (focuses ps))
outcome ps k x (between p q w) =
    let z = replaced_in p.thread w.sender.place k (sender_rest w) in
    let y = replaced_in q.thread w.taker.place w.sender.next (taker_rest w) in
    met_outcome w (both_exchanged p z q y (focuses ps))

-- The state that is reached.
abbrev pub arrival_of : State → Outcome → Arrival
arrival_of S o = arrived o.large (record { threads = threads_of o.threads; aliases = S.aliases ++ o.alias; next = o.next })
