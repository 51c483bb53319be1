-- The offers of a list of threads with the positions of the processes that act, and the list that a step leaves ("Steps"). No two
-- threads of a process settled once, copies inside it included, have their process at one position, so a position tells which one acts.
use Rattle.std.specs.Prelude.{ℕ, suc, ◌+◌, Bool, true, false, not, ◌&&◌, List, [], ◌∷◌, ◌++◌, ltb, eqb, length}
use Rattle.meaning.specs.Messages.Term.{leaf, private}
use Rattle.meaning.specs.Messages.Normal.{equal}
use Rattle.meaning.specs.Bytes.Process.{Prefix, Process}
use Rattle.meaning.specs.Bytes.Encoding.{encode_process}
use Rattle.meaning.specs.Steps.State.{Bound, ◌▸◌, written, worked, Thread, act, repl, names}
use Rattle.state_record.specs.Place.{then_at, else_at, body_at, right_at}

-- An offer: the position of its process, its bound messages, what it does and what follows, and the next private name, all
-- copies on the way being opened.
pub record LocatedOffer : Type 0 where
  pub place : ℕ
  pub bound : Bound
  pub prefix : Prefix
  pub rest : Process
  pub next : ℕ

-- An offer with another prefix.
abbrev pub prefixed : LocatedOffer → Prefix → LocatedOffer
prefixed a p = record { place = a.place; bound = a.bound; prefix = p; rest = a.rest; next = a.next }

-- The offers of the threads of a process that stands at a position and is settled at the private name n, their copies being opened at k.
unfoldable pub located_offers : Process → (at : ℕ) → Bound → (n k : ℕ) → List LocatedOffer
located_offers Process.nil at ρ n k = []
located_offers (Process.new P) at ρ n k = located_offers P (at + 1) (ρ ▸ leaf (private n)) (suc n) k
located_offers (Process.act p P) at ρ n k = record { place = at; bound = ρ; prefix = p; rest = P; next = k } ∷ []
located_offers (Process.if M N P Q) at ρ n k =
    elim (equal (written ρ M) (written ρ N)) [ true ↦ located_offers P (then_at at M N) ρ n k | false ↦ located_offers Q (else_at at M N P) ρ n k ]
located_offers (Process.let_in M P) at ρ n k = located_offers P (body_at at M) (ρ ▸ worked ρ M) n k
located_offers (Process.par P Q) at ρ n k = located_offers P (at + 1) ρ n k ++ located_offers Q (right_at at P) ρ (names P ρ n) k
located_offers (Process.repl P) at ρ n k = located_offers P (at + 1) ρ k (names P ρ k)

-- The position x is one of the process P, which stands at a position.
unfoldable pub inside : (x at : ℕ) → Process → Bool
inside x at P = not (ltb x at) && ltb x (at + length (encode_process P))

-- Those threads, each as `note` has it with its position, and the list z in the place of the thread at the position x. If that one is in
-- a copy, the copy is opened at k, and what is left of it stands before its repl thread.
unfoldable pub replaced_as : {A : Type 0} → (note : ℕ → Thread → A) → (x : ℕ) → (z : List A) → Process → (at : ℕ) → Bound → (n k : ℕ) → List A
replaced_as note x z Process.nil at ρ n k = []
replaced_as note x z (Process.new P) at ρ n k = replaced_as note x z P (at + 1) (ρ ▸ leaf (private n)) (suc n) k
replaced_as note x z (Process.act p P) at ρ n k = elim (eqb at x) [ true ↦ z | false ↦ note at (act ρ p P) ∷ [] ]
replaced_as note x z (Process.if M N P Q) at ρ n k =
    elim (equal (written ρ M) (written ρ N)) [
      | true ↦ replaced_as note x z P (then_at at M N) ρ n k
      | false ↦ replaced_as note x z Q (else_at at M N P) ρ n k
    ]
replaced_as note x z (Process.let_in M P) at ρ n k = replaced_as note x z P (body_at at M) (ρ ▸ worked ρ M) n k
replaced_as note x z (Process.par P Q) at ρ n k =
    replaced_as note x z P (at + 1) ρ n k ++ replaced_as note x z Q (right_at at P) ρ (names P ρ n) k
replaced_as note x z (Process.repl P) at ρ n k =
    elim (eqb at x) [
      | true ↦ z
      | false ↦ elim (inside x (at + 1) P) [
        | true ↦ replaced_as note x z P (at + 1) ρ k (names P ρ k) ++ (note at (repl ρ P) ∷ [])
        | false ↦ note at (repl ρ P) ∷ []
      ]
    ]

-- The threads by themselves.
abbrev pub without_place : ℕ → Thread → Thread
without_place at t = t

abbrev pub replaced : (x : ℕ) → (z : List Thread) → Process → (at : ℕ) → Bound → (n k : ℕ) → List Thread
replaced x z P at ρ n k = replaced_as without_place x z P at ρ n k
