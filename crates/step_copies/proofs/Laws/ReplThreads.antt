-- How many repl threads a thread of a state has ("Steps").
use mathlib.Core.Bool.{Bool, true, false}
use mathlib.Core.List.{List, [], ◌∷◌, ◌++◌}
use Prim.Native.Nat.{ℕ, suc, ◌+◌, ◌≤◌}
use native.Mathlib.Omega.{arith}
use lib.ListN.{length, length-append}
use Rattle.meaning.specs.Messages.Term.{leaf, private}
use Rattle.meaning.specs.Messages.Normal.{equal}
use Rattle.meaning.specs.Bytes.Process.{Process}
use Rattle.meaning.specs.Bytes.Encoding.{encode_term, encode_process}
use Rattle.meaning.specs.Steps.State.{Bound, ◌▸◌, written, worked, names}
use Rattle.state_record.specs.Place.{then_at, else_at, body_at, right_at}
use Rattle.state_record.specs.Record.{Placed, process_of, bound_of}
use Rattle.step_located.specs.Sought.{Opened, copies}
use Rattle.step_transition.specs.Focus.{copies_of}
use Rattle.step_transition.specs.CopyOffers.{ThreadAt}

-- Every repl thread of a process has a byte of it.
pub copies_few : (P : Process) (at : ℕ) (ρ : Bound) (n k : ℕ) → length (copies P at ρ n k) ≤ length (encode_process P)
unfolding copies encode_process
copies_few Process.nil at ρ n k = omega arith
copies_few (Process.new P) at ρ n k = omega (arith, copies_few P (at + 1) (ρ ▸ leaf (private n)) (suc n) k)
copies_few (Process.act p P) at ρ n k = omega arith
copies_few (Process.if M N P Q) at ρ n k =
    let here : length (copies (Process.if M N P Q) at ρ n k) ≤ length (encode_process P) + length (encode_process Q) =
    of (equal (written ρ M) (written ρ N)) (copies P (then_at at M N) ρ n k) (copies Q (else_at at M N P) ρ n k)
    (copies_few P (then_at at M N) ρ n k) (copies_few Q (else_at at M N P) ρ n k) in
    omega (
      arith,
      here,
      length-append (encode_term M ++ encode_term N ++ encode_process P) (encode_process Q),
      length-append (encode_term M ++ encode_term N) (encode_process P),
    )
  where
    of : (b : Bool) (xs ys : List Opened) {i j : ℕ} → length xs ≤ i → length ys ≤ j → length {A = Opened} (elim b [ true ↦ xs | false ↦ ys ]) ≤ i + j
    of true xs ys f g = omega arith
    of false xs ys f g = omega arith
copies_few (Process.let_in M P) at ρ n k =
    omega (arith, copies_few P (body_at at M) (ρ ▸ worked ρ M) n k, length-append (encode_term M) (encode_process P))
copies_few (Process.par P Q) at ρ n k =
    omega (
      arith,
      copies_few P (at + 1) ρ n k,
      copies_few Q (right_at at P) ρ (names P ρ n) k,
      length-append (copies P (at + 1) ρ n k) (copies Q (right_at at P) ρ (names P ρ n) k),
      length-append (encode_process P) (encode_process Q),
    )
copies_few (Process.repl P) at ρ n k =
    let last : Opened = record { place = at; bound = ρ; copied = P; opens = k } in
    omega (arith, copies_few P (at + 1) ρ k (names P ρ k), length-append (copies P (at + 1) ρ k (names P ρ k)) (last ∷ []))

-- The processes of a model have no more bytes than the model.
pub few_groups : {s out m : List ℕ} {at k to : ℕ} (t : Placed) → ThreadAt s out m at k to t → length (copies_of t k) ≤ 4096
few_groups {k = k} t h =
    omega (
      arith,
      copies_few (process_of t.thread) t.place (bound_of t.thread) 0 k,
      h.recorded.standing.process.stands.size,
      h.recorded.standing.process.inside,
    )
