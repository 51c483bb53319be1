-- Room in a state for one thread more ("Judging and its count").
use Rattle.std.specs.Prelude.{Option, Some, None}
use mathlib.Core.Path.{◌≡◌, sym}
use Prim.Native.Nat.{ℕ, ◌+◌, ◌-◌, ◌≤◌, ◌<◌}
use native.Mathlib.Omega.{arith}
use lib.ListN.{length, take, length-take}
use mathlib.Core.List.{List}
use Rattle.state_record.specs.Room.{RoomForThread, Grows}
use Rattle.state_record.specs.declared.state.State.{State}

-- A state is one thing, none another.
some_or_none : {f : State} → Some f ≡ None → ⊥
some_or_none e = let z : ◌≡◌ {A = ℕ} 0 1 = cc in omega arith

module _ {st : State} {nodes size long : ℕ} where
  no_room : (RoomForThread st nodes size long → ⊥) → Grows st nodes size long None
  no_room f = record { room = λ g e. absurd (some_or_none (sym e)); state = λ g e. absurd (some_or_none (sym e)); none = λ e. f }

  pub threads_full : 32 ≤ st.threads → Grows st nodes size long None
  threads_full h = no_room (λ p. omega (arith, p.threads))

  pub nodes_over : 1024 < st.nodes → Grows st nodes size long None
  nodes_over h = no_room (λ p. omega (arith, p.total))

  pub nodes_full : 1024 - st.nodes < nodes → st.nodes ≤ 1024 → Grows st nodes size long None
  nodes_full h l = no_room (λ p. omega (arith, p.total))

  pub too_long : 2072 < size → Grows st nodes size long None
  too_long h = no_room (λ p. omega (arith, p.short))

  pub no_bytes : long < st.end → Grows st nodes size long None
  no_bytes h = no_room (λ p. omega (arith, p.bytes))

  pub few_bytes : long - st.end < 4 + size → Grows st nodes size long None
  few_bytes h = no_room (λ p. omega (arith, p.bytes))

  pub some_room : st.threads < 32 → st.nodes ≤ 1024 → nodes ≤ 1024 - st.nodes → size ≤ 2072 → st.end ≤ long
      → 4 + size ≤ long - st.end → Grows st nodes size long
      (Some (record {
        aliases = st.aliases;
        start = st.start;
        end = st.end + 4 + size;
        threads = st.threads + 1;
        nodes = st.nodes + nodes;
        names = st.names;
      }))
  some_room t o n z e b = record {
    room = λ f g. record { threads = t; total = omega arith; short = z; bytes = omega arith };
    state = λ f g. cc;
    none = λ g. absurd (some_or_none g);
  }

pub ruleset grows = (threads_full, nodes_over, nodes_full, too_long, no_bytes, few_bytes, some_room)

-- What the record of the thread takes.
module _ {st f : State} {nodes long : ℕ} (end : ℕ) {r : Option State} (m : List ℕ) (w : Grows st nodes end long r) (y : r ≡ Some f) where
  longest : length (take (end - 0) m) ≤ end
  longest = omega (arith, length-take (end - 0) m)

  pub record_room : st.end + 4 + length (take (end - 0) m) ≤ long
  record_room = omega (arith, longest, (w.room f y).bytes)

  pub record_short : length (take (end - 0) m) < 65536
  record_short = omega (arith, longest, (w.room f y).short)

pub ruleset record_rooms = (record_room, record_short)
