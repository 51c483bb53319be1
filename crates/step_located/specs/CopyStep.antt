-- Silent steps with the positions of the processes that take part, and the list that such a step leaves ("Steps").
use Rattle.std.specs.Prelude.{ℕ, suc, ◌+◌, Bool, true, false, eqb}
use mathlib.Core.List.{List, [], ◌∷◌, ◌++◌, map, flat_map}
use Rattle.meaning.specs.Messages.Term.{leaf, private, Term, name}
use Rattle.meaning.specs.Messages.Normal.{equal}
use Rattle.meaning.specs.Bytes.Process.{Prefix, output, input, Process}
use Rattle.meaning.specs.Steps.State.{Bound, ◌▸◌, written, worked, Thread, names}
use Rattle.meaning.specs.Steps.Silent.{Meeting, meeting}
use Rattle.state_record.specs.Place.{then_at, else_at, body_at, right_at}
use Rattle.step_located.specs.Located.{LocatedOffer, located_offers, inside, without_place, replaced_as}

-- A sender and a taker.
pub record Pair : Type 0 where
  pub sender : LocatedOffer
  pub taker : LocatedOffer

abbrev pub pair_of : LocatedOffer → LocatedOffer → Pair
pair_of a b = record { sender = a; taker = b }

-- One pair if the first can send to the second, none otherwise.
unfoldable pub matching : LocatedOffer → LocatedOffer → List Pair
matching a b = by_prefixes a.prefix b.prefix
  where
    by_prefixes : Prefix → Prefix → List Pair
    by_prefixes (output C M) (input D) =
        elim (equal (written a.bound C) (written b.bound D)) [ true ↦ record { sender = a; taker = b } ∷ [] | false ↦ [] ]
    by_prefixes (output C M) (output D N) = []
    by_prefixes (input C) (input D) = []
    by_prefixes (input C) (output D N) = []

-- The offers of those threads that do not have the position x in them.
unfoldable pub located_offers_except : (x : ℕ) → Process → (at : ℕ) → Bound → (n k : ℕ) → List LocatedOffer
located_offers_except x Process.nil at ρ n k = []
located_offers_except x (Process.new P) at ρ n k = located_offers_except x P (at + 1) (ρ ▸ leaf (private n)) (suc n) k
located_offers_except x (Process.act p P) at ρ n k =
    elim (eqb at x) [ true ↦ [] | false ↦ record { place = at; bound = ρ; prefix = p; rest = P; next = k } ∷ [] ]
located_offers_except x (Process.if M N P Q) at ρ n k =
    elim (equal (written ρ M) (written ρ N)) [ true ↦ located_offers_except x P (then_at at M N) ρ n k | false ↦ located_offers_except x Q (else_at at M N P) ρ n k ]
located_offers_except x (Process.let_in M P) at ρ n k = located_offers_except x P (body_at at M) (ρ ▸ worked ρ M) n k
located_offers_except x (Process.par P Q) at ρ n k = located_offers_except x P (at + 1) ρ n k ++ located_offers_except x Q (right_at at P) ρ (names P ρ n) k
located_offers_except x (Process.repl P) at ρ n k =
    elim (inside x (at + 1) P) [ true ↦ [] | false ↦ located_offers P (at + 1) ρ k (names P ρ k) ]

-- The pairs of different threads of a process that is settled once: the sender's copies open at k, the taker's after them.
unfoldable pub pairs : Process → (at : ℕ) → Bound → (n k : ℕ) → List Pair
pairs P at ρ n k = flat_map (λ a. flat_map (matching a) (located_offers_except a.place P at ρ n a.next)) (located_offers P at ρ n k)

-- The pairs of two copies, of which the sender's opens at k.
unfoldable pub copy_pairs : Process → (at : ℕ) → Bound → (k : ℕ) → List Pair
copy_pairs P at ρ k =
    flat_map (λ a. flat_map (matching a) (located_offers P at ρ a.next (names P ρ a.next))) (located_offers P at ρ k (names P ρ k))

-- A silent step of a repl thread: its position, its bound messages and its process, the private name at which its copy opens, whether
-- a second copy takes part, and the pair.
pub record CopyStep : Type 0 where
  pub place : ℕ
  pub bound : Bound
  pub copied : Process
  pub opens : ℕ
  pub two : Bool
  pub pair : Pair

-- The silent steps of the repl threads of a process that is settled at n, their copies being opened at k: copies inside a copy
-- come first, then the pairs within it, then those of two copies.
unfoldable pub copy_steps : Process → (at : ℕ) → Bound → (n k : ℕ) → List CopyStep
copy_steps Process.nil at ρ n k = []
copy_steps (Process.new P) at ρ n k = copy_steps P (at + 1) (ρ ▸ leaf (private n)) (suc n) k
copy_steps (Process.act p P) at ρ n k = []
copy_steps (Process.if M N P Q) at ρ n k =
    elim (equal (written ρ M) (written ρ N)) [ true ↦ copy_steps P (then_at at M N) ρ n k | false ↦ copy_steps Q (else_at at M N P) ρ n k ]
copy_steps (Process.let_in M P) at ρ n k = copy_steps P (body_at at M) (ρ ▸ worked ρ M) n k
copy_steps (Process.par P Q) at ρ n k = copy_steps P (at + 1) ρ n k ++ copy_steps Q (right_at at P) ρ (names P ρ n) k
copy_steps (Process.repl P) at ρ n k =
    let joint : Bool → Pair → CopyStep = λ two w. record { place = at; bound = ρ; copied = P; opens = k; two = two; pair = w } in
    copy_steps P (at + 1) ρ k (names P ρ k) ++ map (joint false) (pairs P (at + 1) ρ k (names P ρ k)) ++ map (joint true) (copy_pairs P (at + 1) ρ k)

-- The threads of a process with the list zx in the place of the thread at x, and zy in that of the one at y, a different thread. A copy
-- with x in it is opened at k, one with y in it at j.
unfoldable pub both_replaced_as : {A : Type 0} → (note : ℕ → Thread → A) → (x : ℕ) → (zx : List A) → (y : ℕ) → (zy : List A) → Process
    → (at : ℕ) → Bound → (n k j : ℕ) → List A
both_replaced_as note x zx y zy Process.nil at ρ n k j = []
both_replaced_as note x zx y zy (Process.new P) at ρ n k j = both_replaced_as note x zx y zy P (at + 1) (ρ ▸ leaf (private n)) (suc n) k j
both_replaced_as note x zx y zy (Process.act p P) at ρ n k j =
    elim (eqb at x) [ true ↦ zx | false ↦ replaced_as note y zy (Process.act p P) at ρ n j ]
both_replaced_as note x zx y zy (Process.if M N P Q) at ρ n k j =
    elim (equal (written ρ M) (written ρ N)) [
      | true ↦ both_replaced_as note x zx y zy P (then_at at M N) ρ n k j
      | false ↦ both_replaced_as note x zx y zy Q (else_at at M N P) ρ n k j
    ]
both_replaced_as note x zx y zy (Process.let_in M P) at ρ n k j = both_replaced_as note x zx y zy P (body_at at M) (ρ ▸ worked ρ M) n k j
both_replaced_as note x zx y zy (Process.par P Q) at ρ n k j =
    both_replaced_as note x zx y zy P (at + 1) ρ n k j ++ both_replaced_as note x zx y zy Q (right_at at P) ρ (names P ρ n) k j
both_replaced_as note x zx y zy (Process.repl P) at ρ n k j =
    elim (inside x (at + 1) P) [
      | true ↦ replaced_as note x zx (Process.repl P) at ρ n k
      | false ↦ replaced_as note y zy (Process.repl P) at ρ n j
    ]

abbrev pub both_replaced : (x : ℕ) → (zx : List Thread) → (y : ℕ) → (zy : List Thread) → Process → (at : ℕ) → Bound → (n k j : ℕ)
    → List Thread
both_replaced x zx y zy P at ρ n k j = both_replaced_as without_place x zx y zy P at ρ n k j

-- What is left of the copies that take part, before the repl thread.
unfoldable pub left_as : {A : Type 0} → (note : ℕ → Thread → A) → CopyStep → List A → List A → List A
left_as note w zx zy =
    let x = w.pair.sender.place in
    let y = w.pair.taker.place in
    let j = w.pair.sender.next in
    elim w.two [
      | true ↦
          replaced_as note x zx w.copied (w.place + 1) w.bound w.opens (names w.copied w.bound w.opens)
          ++ replaced_as note y zy w.copied (w.place + 1) w.bound j (names w.copied w.bound j)
      | false ↦
          both_replaced_as note x zx y zy w.copied (w.place + 1) w.bound w.opens (names w.copied w.bound w.opens) j
    ]

abbrev pub left : CopyStep → List Thread → List Thread → List Thread
left w zx zy = left_as without_place w zx zy

-- The message that is sent. A taker sends none; no pair asks.
abbrev pub message_of : Prefix → Term
message_of (output C M) = M
message_of (input C) = leaf (name 0)

-- A pair, with the place that the rests of the two go to, as a meeting of the definitions.
unfoldable pub met : Pair → (List Thread → List Thread → List Thread) → Meeting
met w f =
    meeting w.sender.bound (message_of w.sender.prefix) w.sender.rest w.taker.bound w.taker.rest f w.taker.next
