-- How many bytes a state that is over no limit takes ("Steps"; "Judging and its count").
use Prim.Native.Nat.{ℕ, ◌+◌, ◌*◌, ◌≤◌}
use native.Mathlib.Omega.{arith}
use mathlib.Core.Path.{ap}
use mathlib.Core.List.{List}
use lib.ListN.{length, length-append, length-map}
use Rattle.meaning.specs.Places.{Every, none, ◌also◌}
use Rattle.meaning.specs.Steps.State.{State}
use Rattle.meaning.specs.Judging.Limits.{bound_nodes, thread_nodes}
use Rattle.buffer.specs.Word.{encode_word}
use Rattle.message_term.proofs.Theorems.{bound_length}
use Rattle.state_record.specs.Record.{Placed, bound_of, encode_record, encode_records, Standing}
use Rattle.state_head.specs.Settled.{threads_of}
use Rattle.state_record.specs.declared.state.State as code
use Rattle.step_transition.specs.WithinLimits.{WithinLimits}
use Rattle.step_transition.proofs.Laws.LimitsOutcome.{first_nodes}

-- A thread takes four bytes, two for each of at most twelve messages, and two for each node.
pub record_size : {s : List ℕ} (t : Placed) → Standing s t → length (encode_record t) ≤ 28 + 2 * bound_nodes (bound_of t.thread)
unfolding encode_word
record_size t h = omega (arith, bound_length (bound_of t.thread), h.process.few)

pub records_size : {s : List ℕ} {ps : List Placed} → Every (Standing s) ps
    → length (encode_records ps) ≤ 28 * length ps + 2 * thread_nodes (threads_of ps)
unfolding encode_records thread_nodes
records_size none = omega arith
records_size (◌also◌ {x = t} {xs = ps} h hs) =
    omega (
      arith,
      record_size t h,
      records_size hs,
      first_nodes t.thread (threads_of ps),
      length-append (encode_record t) (encode_records ps),
    )

-- The aliases, two bytes for each, at most 32 threads, and at most 1,024 nodes in all of them.
pub state_size : {s out : List ℕ} {st : code.State} {S : State} → WithinLimits s out st S
    → st.end ≤ st.aliases + 2 * length S.aliases + 28 * 32 + 2 * 1024
state_size {st = st} {S = S} h =
    let a = h.at in
    omega (
      arith,
      a.aliases.stands.size,
      a.records.size,
      bound_length S.aliases,
      records_size a.standing,
      ap thread_nodes a.threads,
      ap length a.threads,
      length-map a.placed (λ t. t.thread),
      a.nodes,
      h.few,
      h.light,
    )
