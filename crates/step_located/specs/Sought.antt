-- What a traversal that seeks an offer finds, and the repl threads with all copies opened ("Steps").
use Rattle.std.specs.Prelude.{ℕ, suc, ◌+◌, ◌-◌, Bool, true, false, not, ◌&&◌, ◌||◌, List, [], ◌∷◌, ◌++◌, ltb, eqb}
use Rattle.meaning.specs.Messages.Term.{leaf, private, Message}
use Rattle.meaning.specs.Messages.Normal.{equal, same}
use Rattle.meaning.specs.Bytes.Process.{Prefix, output, input, Process}
use Rattle.meaning.specs.Steps.State.{Bound, ◌▸◌, written, worked, names}
use Rattle.state_record.specs.Place.{then_at, else_at, body_at, right_at}
use Rattle.step_located.specs.Located.{LocatedOffer, located_offers}
use Rattle.step_located.specs.CopyStep.{located_offers_except}
use Rattle.state_progress.specs.TraversalResult.{TraversalResult, found}
use Rattle.state_task.specs.declared.task.Quest.{Quest}

-- Whether an offer is one that is looked for, x being the message of the label.
unfoldable pub wanted : Quest → Message → LocatedOffer → Bool
wanted q x a = of a.prefix
  where
    of : Prefix → Bool
    of (output C M) = q.output && not (ltb a.place q.from) && (q.any || same (worked a.bound C) x)
    of (input C) = not q.output && not (ltb a.place q.from) && (q.any || same (worked a.bound C) x)

-- The messages that it hands over.
unfoldable pub sent_by : LocatedOffer → List Message
sent_by a = of a.prefix
  where
    of : Prefix → List Message
    of (output C M) = worked a.bound C ∷ worked a.bound M ∷ []
    of (input C) = []

-- The first of these offers, or the course c.
unfoldable pub first : Quest → Message → List LocatedOffer → TraversalResult → TraversalResult
first q x [] c = c
first q x (a ∷ others) c = elim (wanted q x a) [ true ↦ found a.place a.next (sent_by a) | false ↦ first q x others c ]

-- The offers of all threads, or of those that do not have the position of a mark in them.
unfoldable pub offers_except : (excluded : ℕ) → Process → (at : ℕ) → Bound → (n k : ℕ) → List LocatedOffer
offers_except excluded P at ρ n k = elim (eqb excluded 0) [ true ↦ located_offers P at ρ n k | false ↦ located_offers_except (excluded - 1) P at ρ n k ]

-- A repl thread: its position, its bound messages and its process, and the private name at which its copy opens.
pub record Opened : Type 0 where
  pub place : ℕ
  pub bound : Bound
  pub copied : Process
  pub opens : ℕ

-- The repl threads of a process that is settled at n, their copies being opened at k, those of a copy before the repl thread itself.
unfoldable pub copies : Process → (at : ℕ) → Bound → (n k : ℕ) → List Opened
copies Process.nil at ρ n k = []
copies (Process.new P) at ρ n k = copies P (at + 1) (ρ ▸ leaf (private n)) (suc n) k
copies (Process.act p P) at ρ n k = []
copies (Process.if M N P Q) at ρ n k =
    elim (equal (written ρ M) (written ρ N)) [ true ↦ copies P (then_at at M N) ρ n k | false ↦ copies Q (else_at at M N P) ρ n k ]
copies (Process.let_in M P) at ρ n k = copies P (body_at at M) (ρ ▸ worked ρ M) n k
copies (Process.par P Q) at ρ n k = copies P (at + 1) ρ n k ++ copies Q (right_at at P) ρ (names P ρ n) k
copies (Process.repl P) at ρ n k =
    copies P (at + 1) ρ k (names P ρ k) ++ (record { place = at; bound = ρ; copied = P; opens = k } ∷ [])

-- The first of these, or the course c.
unfoldable pub first_copy : List Opened → TraversalResult → TraversalResult
first_copy [] c = c
first_copy (w ∷ ws) c = found w.place w.opens []
