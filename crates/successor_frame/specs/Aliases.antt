-- The aliases of a state that is reached: those from before, and the message of an output ("Steps").
use Rattle.std.specs.Prelude.{◌≡◌, Bool, true, false, List, [], ℕ, ◌+◌, ◌-◌, ◌≤◌, ◌<◌, length}
use Rattle.meaning.specs.Messages.Term.{Message}
use Rattle.meaning.specs.Steps.State.{Bound, ◌▸◌}
use Rattle.meaning.specs.Judging.Limits.{bound_nodes}
use Rattle.message_term.specs.Bound.{BoundTo}
use Rattle.state_progress.specs.Represented.{Represents}
use Rattle.state_record.specs.Room.{fresh_state}
use Rattle.state_record.specs.declared.state.State.{State}
use Rattle.state_progress.specs.declared.progress.Progress.{Progress}
use Rattle.state_layout.specs.Loaded.{IsRunOf}

-- An output appends its message.
abbrev pub appended : (sends : Bool) → Bound → Message → Bound
appended true ρ x = ρ ▸ x
appended false ρ x = ρ

-- A state has been begun at a position: its aliases stand there, and no thread yet.
pub record Begun (s : List ℕ) (begin : ℕ) (σ : Bound) (n : ℕ) (r : Progress) (out : List ℕ) : Type 0 where
  pub aliases : r.state.aliases ≡ begin
  pub bound : BoundTo out begin σ r.state.start
  pub shows : Represents s out r (record { names = n; nodes = bound_nodes σ; threads = [] })
  pub above : begin ≤ r.state.start

-- The aliases are copied behind the state.
pub record Copied (st : State) (out : List ℕ) (r : ℕ) (after : List ℕ) : Type 0 where
  pub exact : (ρ : Bound) → BoundTo out st.aliases ρ st.start → st.start ≤ st.end → st.end + (st.start - st.aliases) ≤ length out
      → BoundTo after st.end ρ r × (r ≡ st.end + (st.start - st.aliases))

-- A message is appended to those that stand from whatever position on.
pub record Appended (sends : Bool) (message out : List ℕ) (end r : ℕ) (after : List ℕ) : Type 0 where
  pub exact : (begin : ℕ) (ρ : Bound) (x : Message) → BoundTo out begin ρ end → length ρ < 16384 → IsRunOf message x
      → end + 512 ≤ length out → BoundTo after begin (appended sends ρ x) r × (r ≤ end + 512)

-- Nothing of a state has been written but its aliases, which have so many nodes; the traversal goes on, or a limit was met.
pub record StartsAt (on : Bool) (begin start nodes n : ℕ) (r : Progress) : Type 0 where
  pub goes : r.going ≡ on
  pub next : r.names ≡ n
  pub fresh : r.state ≡ fresh_state begin start nodes

-- A state begins with the messages that stand from a position to another, unless they have too many nodes.
pub record CountsNodes (begin start n : ℕ) (out : List ℕ) (r : Progress) : Type 0 where
  pub exact : (s : List ℕ) (σ : Bound) → BoundTo out begin σ start → start + 3964 ≤ length out
      → (1024 < bound_nodes σ → r.going ≡ false) × (bound_nodes σ ≤ 1024 → Begun s begin σ n r out)

-- Whatever aliases the state has: the next one is begun behind it, unless they have too many nodes.
pub record Carries (st : State) (message : List ℕ) (sends : Bool) (n : ℕ) (out : List ℕ) (r : Progress) (after : List ℕ) : Type 0 where
  pub exact : (s : List ℕ) (ρ : Bound) (x : Message) → BoundTo out st.aliases ρ st.start → st.start ≤ st.end → length ρ < 16384
      → IsRunOf message x → st.end + (st.start - st.aliases) + 4476 ≤ length out
      → (1024 < bound_nodes (appended sends ρ x) → r.going ≡ false)
      × (bound_nodes (appended sends ρ x) ≤ 1024 → Begun s st.end (appended sends ρ x) n r after)
