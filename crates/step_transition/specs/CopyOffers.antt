-- The offers of copies of a repl thread, and the pairs of a sender and a taker in them ("Steps").
use Rattle.std.specs.Prelude.{true, false, List, [], ◌∷◌, ◌++◌, map, ℕ, ◌+◌, ◌≤◌, eqb, length}
use Rattle.meaning.specs.Messages.Term.{leaf, public, Message}
use Rattle.meaning.specs.Bytes.Process.{Prefix, output, input}
use Rattle.meaning.specs.Steps.State.{worked, names}
use Rattle.state_record.specs.Record.{Placed}
use Rattle.state_task.specs.declared.task.Quest.{Quest}
use Rattle.state_task.specs.declared.task.CopyAt.{CopyAt}
use Rattle.step_located.specs.Located.{LocatedOffer}
use Rattle.step_located.specs.CopyStep.{Pair, CopyStep}
use Rattle.step_located.specs.Sought.{wanted, offers_except, Opened}
use Rattle.step_transition.specs.Focus.{Focus, filter}
use Rattle.step_transition.specs.Threads.{Judged}
use Rattle.state_layout.specs.Loaded.{RecordAt}
use Rattle.step_transition.specs.Moves.{Move, inside}
use Rattle.index_process.specs.Index.{ShortModel}

-- A thread whose record stands at a position, none of whose offers meets a limit, and room for a traversal of it that writes from the position
-- to on.
pub record ThreadAt (s out m : List ℕ) (at k to : ℕ) (t : Placed) : Type 0 where
  pub next : ℕ
  pub recorded : RecordAt s out at t next
  pub below : next ≤ to
  pub judged : Judged k t
  pub short : ShortModel s
  pub wide : 10750 ≤ length m
  pub room : to + 3964 ≤ length out
  pub few : k ≤ 128

-- The offers of a copy of a repl thread: of its first one, of the same one once more, copies inside it opening at the second name, or of a
-- second one, which opens there.
unfoldable pub copy_offers : (excluded : ℕ) → CopyAt → Opened → List LocatedOffer
copy_offers excluded c w =
    let own = names w.copied w.bound w.opens in
    elim (eqb c.arity 0) [
      | true ↦ offers_except excluded w.copied (w.place + 1) w.bound w.opens own
      | false ↦ elim (eqb c.arity 1) [
        | true ↦ offers_except excluded w.copied (w.place + 1) w.bound w.opens c.second
        | false ↦ offers_except excluded w.copied (w.place + 1) w.bound c.second (names w.copied w.bound c.second)
      ]
    ]

-- The second name comes after those of the first copy, and two bytes hold what follows it.
pub record Later (c : CopyAt) (w : Opened) : Type 0 where
  pub arity : c.arity ≤ 2
  pub after : 1 ≤ c.arity → names w.copied w.bound w.opens ≤ c.second
  pub small : c.second ≤ 28664

-- Outputs from a position on, and inputs on a channel, in no thread that has the position of a mark in it.
abbrev pub outputs : ℕ → Quest
outputs from = record { output = true; any = true; from = from; excluded = 0 }

abbrev pub inputs : (from excluded : ℕ) → Quest
inputs from excluded = record { output = false; any = false; from = from; excluded = excluded }

-- What an output is on. An input has a channel too; nothing asks.
abbrev pub channel_of : LocatedOffer → Message
channel_of a = of a.prefix
  where
    of : Prefix → Message
    of (output C M) = worked a.bound C
    of (input C) = worked a.bound C

-- The copies in which a taker is sought: the sender's own, in other threads than the sender's, or a second one.
abbrev pub takers_at : (arity : ℕ) → Opened → LocatedOffer → CopyAt
takers_at arity w a = record { place = w.place + 1; arity = arity; second = a.next }

abbrev pub left_out : (arity mark : ℕ) → ℕ
left_out arity mark = elim (eqb arity 1) [ true ↦ mark | false ↦ 0 ]

abbrev pub excluded_by : (arity : ℕ) → LocatedOffer → ℕ
excluded_by arity a = left_out arity (a.place + 1)

-- The pairs of one sender with those takers that stand at the position y or after it; and of all these senders, the first with its takers
-- from y on.
unfoldable pub pairs_of : (arity : ℕ) → Opened → (y : ℕ) → LocatedOffer → List Pair
pairs_of arity w y a =
    map (λ b. record { sender = a; taker = b })
    (filter (wanted (inputs y (excluded_by arity a)) (channel_of a)) (copy_offers (excluded_by arity a) (takers_at arity w a) w))

unfoldable pub pairs_from : (arity : ℕ) → Opened → (y : ℕ) → List LocatedOffer → List Pair
pairs_from arity w y [] = []
pairs_from arity w y (a ∷ others) = pairs_of arity w y a ++ pairs_from arity w 0 others

-- The senders of a copy from a position on. The message of the label does not matter.
unfoldable pub senders : Opened → (x : ℕ) → List LocatedOffer
senders w x = filter (wanted (outputs x) (leaf (public 0))) (copy_offers 0 (record { place = w.place + 1; arity = 0; second = 0 }) w)

-- A pair as a silent step of the repl thread.
abbrev pub copy_step_with : (arity : ℕ) → Opened → Pair → CopyStep
copy_step_with arity w v =
    record { place = w.place; bound = w.bound; copied = w.copied; opens = w.opens; two = eqb arity 2; pair = v }

abbrev pub moved : Focus → (arity : ℕ) → Opened → List Pair → List Move
moved p arity w vs = map (λ v. inside p (copy_step_with arity w v)) vs
