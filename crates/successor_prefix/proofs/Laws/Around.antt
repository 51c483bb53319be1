-- The blocks around the thread of a state that acts itself ("Steps"; "Judging and its count").
use mathlib.Core.Path.{◌≡◌, refl, sym, ap, ◌∙◌}
use mathlib.Core.Bool.{Bool, true, false}
use mathlib.Core.List.{List, ◌∷◌, ◌++◌}
use Prim.Native.Nat.{ℕ, ◌+◌, ◌-◌, ◌/◌, ◌≤◌}
use native.Mathlib.Omega.{arith}
use lib.ListN.{length, take, drop, length-append}
use Rattle.meaning.specs.Messages.Term.{Message}
use Rattle.meaning.specs.Steps.State.{Bound}
use Rattle.meaning.specs.Judging.Limits.{bound_nodes}
use Rattle.buffer.proofs.Laws.Buffer.{part}
use Rattle.message_bytes.proofs.Theorems.{run_length}
use Rattle.state_record.specs.Record.{NodesOf, bound_of, encode_record}
use Rattle.state_record.specs.declared.state.State as code
use Rattle.state_progress.specs.declared.progress.Progress.{Progress}
use Rattle.state_record.proofs.Laws.Stored.{record_parts}
use Rattle.state_layout.specs.Loaded.{IsRunOf}
use Rattle.state_head.specs.Settled.{threads_of}
use Rattle.step_located.specs.Rebuilt.{nodes_of}
use Rattle.step_located.proofs.Laws.Growth.{more_nodes}
use Rattle.step_located.proofs.Laws.SpreadRoom.{nodes_joined}
use Rattle.step_transition.specs.Focus.{record_at}
use Rattle.step_transition.proofs.Laws.Threads.{first_thread, threads_from}
use Rattle.successor_frame.specs.Aliases.{appended}
use Rattle.successor_prefix.specs.Alone.{sent_nodes, Others, Around}
use Rattle.successor_prefix.specs.Halves.{Halve}
use Rattle.successor_prefix.specs.declared.halves.Halves.{Halves}
use Rattle.successor_rebuild.proofs.Laws.Block.{nodes_first}
use Rattle.successor_prefix.proofs.Laws.Alone.{threads_before}

-- The aliases of the next state have the nodes of the message more that is sent.
pub appended_sum : (q : Bool) (ρ : Bound) (y : Message) {message : List ℕ} → IsRunOf message y
    → bound_nodes (appended q ρ y) ≡ bound_nodes ρ + sent_nodes q (length message)
appended_sum true ρ y l = omega (arith, more_nodes ρ y, run_length y, ap length l.same)
appended_sum false ρ y l = omega arith

pub sent_so : (q : Bool) (size : ℕ) → q ≡ true → size / 2 ≡ sent_nodes q size
sent_so q size e = rw e refl

pub sent_not : (q : Bool) (size : ℕ) → q ≡ false → 0 ≡ sent_nodes q size
sent_not q size e = rw e refl

pub around_so : {out : List ℕ} {st : code.State} {at next size own nodes threads : ℕ} {q : Bool} {begun : Progress} {b : Halves}
    → at + 4 ≤ next → NodesOf (take (next - (at + 4)) (drop (at + 4) out)) own → Others st q size begun own nodes → threads ≡ st.threads - 1
    → Halve out st.start at next st.end threads nodes b → Around out st at next q size begun b
around_so {st = st} {next = next} {own = own} {nodes} {threads} low counts others less halve = record {
  exact = λ s p aliases h here there many total light begun.
      let (a, j, rest) = first_thread p.thread p.behind (threads_from p.before (p.thread ∷ p.behind) h) in
      let (place, long, bound) = record_parts p.thread a.stands in
      let end : next ≡ record_at st.start p + length (encode_record p.thread) = there ∙ ap (λ n. n + length (encode_record p.thread)) here in
      let mine : own ≡ bound_nodes (bound_of p.thread.thread) = counts.same (bound_of p.thread.thread) (rw (sym here, sym there) at (part bound)) in
      let sum : nodes_of (p.before ++ (p.thread ∷ p.behind)) ≡ nodes_of p.before + (own + nodes_of p.behind) =
      omega (arith, nodes_joined p.before (p.thread ∷ p.behind), nodes_first p.thread.thread (threads_of p.behind), mine) in
      let left : nodes ≡ nodes_of p.before + nodes_of p.behind = others.exact aliases (nodes_of p.before + nodes_of p.behind) (omega (arith, sum, total)) begun in
      halve.exact s p.before p.behind (rw (sym here) at (threads_before p.before (p.thread ∷ p.behind) h)) (rw (sym end) at rest)
      (omega (arith, less, many, length-append p.before (p.thread ∷ p.behind))) left (omega (arith, left, sum, total, light));
}
