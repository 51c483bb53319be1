-- The threads of a list one by one: they are its cuts, and a list takes the place of one, or two take the places of two ("Steps").
use Prim.Native.Nat.{ℕ, ◌+◌}
use native.Mathlib.Omega.{arith}
use mathlib.Core.Path.{◌≡◌, refl, sym, ◌∙◌, ap, ap₂}
use mathlib.Core.Bool.{true, false}
use mathlib.Core.List.{List, [], ◌∷◌, ◌++◌, map-append, append-nil, append_assoc, flat_map}
use lib.Dec.{eqb}
use lib.ListN.{length, length-append}
use borrow.Author.Tests.{eq-eqb, ne_eqb}
use Rattle.meaning.specs.Places.{Every, none, ◌also◌}
use Rattle.meaning.specs.Steps.State.{Thread}
use Rattle.meaning.specs.Steps.Enumeration.{Cut, cut, cuts}
use Rattle.state_record.specs.Record.{Placed}
use Rattle.state_head.specs.Settled.{threads_of}
use Rattle.step_located.proofs.Laws.Block.{over_cuts, cuts_over}
use Rattle.step_transition.specs.Focus.{Focus, focuses, focuses_from}
use Rattle.step_transition.specs.Outcome.{exchanged, both_exchanged}
use Rattle.step_transition.proofs.Laws.MovesLists.{numbered, numbered_cut, numbered_still}

-- A focus as a cut of the definitions.
abbrev pub cut_of : Focus → Cut Thread
cut_of p = cut (threads_of p.before) p.thread.thread (threads_of p.behind)

over_spots : {B : Type 0} (f : Cut Thread → List B) (ls ts : List Placed)
    → over_cuts f (threads_of ls) (threads_of ts) [] ≡ flat_map (λ p. f (cut_of p)) (focuses_from ls ts)
unfolding over_cuts focuses_from flat_map
over_spots f ls [] = refl
over_spots f ls (t ∷ ts) =
    ap₂ (λ r u. f (cut (threads_of ls) t.thread r) ++ u) (append-nil (threads_of ts))
    (ap (λ l. over_cuts f l (threads_of ts) []) (sym (map-append _ ls (t ∷ []))) ∙ over_spots f (ls ++ (t ∷ [])) ts)

pub cuts_spots : {B : Type 0} (f : Cut Thread → List B) (ps : List Placed)
    → flat_map f (cuts (threads_of ps)) ≡ flat_map (λ p. f (cut_of p)) (focuses ps)
cuts_spots f ps = cuts_over f (threads_of ps) ∙ over_spots f [] ps

-- What holds of every thread.
pub every_spot : {Q : Placed → Type 0} (ls : List Placed) {ts : List Placed} → Every Q ts → Every (λ p. Q p.thread) (focuses_from ls ts)
unfolding focuses_from
every_spot ls none = none
every_spot ls (q also qs) = q also every_spot _ qs

-- Each is a part of the list.
pub record Stands (ps : List Placed) (p : Focus) : Type 0 where
  pub parts : ps ≡ p.before ++ (p.thread ∷ p.behind)

stands_from : (ls ts : List Placed) → Every (Stands (ls ++ ts)) (focuses_from ls ts)
unfolding focuses_from
stands_from ls [] = none
stands_from ls (t ∷ ts) =
    record { parts = refl } also rw (append_assoc ls (t ∷ []) ts) at (stands_from (ls ++ (t ∷ [])) ts)

pub spots_stand : (ps : List Placed) → Every (Stands ps) (focuses ps)
spots_stand ps = stands_from [] ps

-- A function that asks only how many threads stand before one.
spots_numbered : {B : Type 0} (g : ℕ → Placed → List B) (ls ts : List Placed)
    → flat_map (λ q. g (length q.before) q.thread) (focuses_from ls ts) ≡ numbered g (length ls) ts
unfolding focuses_from flat_map numbered
spots_numbered g ls [] = refl
spots_numbered g ls (t ∷ ts) =
    ap (λ r. g (length ls) t ++ r)
    (spots_numbered g (ls ++ (t ∷ [])) ts ∙ ap (λ n. numbered g n ts) (length-append ls (t ∷ [])))

-- A list in the place of one thread.
abbrev one_at : ℕ → List Placed → ℕ → Placed → List Placed
one_at n z i u = elim (eqb i n) [ true ↦ z | false ↦ u ∷ [] ]

one_here : (n : ℕ) (z : List Placed) (i : ℕ) (u : Placed) → i ≡ n → one_at n z i u ≡ z
one_here n z i u e = rw (eq-eqb i n e, one_at)

one_off : (n : ℕ) (z : List Placed) (i : ℕ) (u : Placed) → ¬ (i ≡ n) → one_at n z i u ≡ u ∷ []
one_off n z i u e = rw (ne_eqb i n e, one_at)

pub exchanged_is : (ps : List Placed) (p : Focus) (z : List Placed) → Stands ps p
    → exchanged p z (focuses ps) ≡ p.before ++ (z ++ p.behind)
unfolding exchanged
exchanged_is ps p z h =
    let n = length p.before in
    let g = one_at n z in
    spots_numbered g [] ps ∙ ap (numbered g 0) h.parts ∙ numbered_cut g 0 p.before p.thread p.behind
    ∙ ap₂ ◌++◌ (numbered_still g 0 p.before (λ i t low high. one_off n z i t (omega arith)))
    (ap₂ ◌++◌ (one_here n z (0 + n) p.thread (omega arith))
    (numbered_still g (0 + n + 1) p.behind (λ i t low high. one_off n z i t (omega arith))))

-- Two lists in the places of two.
abbrev two_at : ℕ → List Placed → ℕ → List Placed → ℕ → Placed → List Placed
two_at n z m y i u = elim (eqb i n) [ true ↦ z | false ↦ one_at m y i u ]

module _ (n : ℕ) (z : List Placed) (m : ℕ) (y : List Placed) (i : ℕ) (u : Placed) where
  two_first : i ≡ n → two_at n z m y i u ≡ z
  two_first e = rw (eq-eqb i n e, two_at)

  not_first : ¬ (i ≡ n) → two_at n z m y i u ≡ one_at m y i u
  not_first e = rw (ne_eqb i n e, two_at)

  two_second : ¬ (i ≡ n) → i ≡ m → two_at n z m y i u ≡ y
  two_second e f = not_first e ∙ one_here m y i u f

  two_off : ¬ (i ≡ n) → ¬ (i ≡ m) → two_at n z m y i u ≡ u ∷ []
  two_off e f = not_first e ∙ one_off m y i u f

-- A focus of what stands before another, and of what stands behind it, as one of the whole list.
abbrev pub left_of : Focus → Focus → Focus
left_of p q = record { before = q.before; thread = q.thread; behind = q.behind ++ (p.thread ∷ p.behind) }

abbrev pub right_of : Focus → Focus → Focus
right_of p q = record { before = p.before ++ (p.thread ∷ []) ++ q.before; thread = q.thread; behind = q.behind }

module _ (ps : List Placed) (p : Focus) (h : Stands ps p) (z : List Placed) (q : Focus) (y : List Placed) where
  pub exchanged_left : Stands p.before q
      → both_exchanged p z (left_of p q) y (focuses ps) ≡ (q.before ++ (y ++ q.behind)) ++ (z ++ p.behind)
  unfolding both_exchanged
  exchanged_left s =
      let n = length p.before in
      let m = length q.before in
      let g = two_at n z m y in
      let size : n ≡ m + length (q.thread ∷ q.behind) = ap length s.parts ∙ length-append q.before (q.thread ∷ q.behind) in
      spots_numbered g [] ps ∙ ap (numbered g 0) h.parts ∙ numbered_cut g 0 p.before p.thread p.behind
      ∙ ap₂ ◌++◌
      (ap (numbered g 0) s.parts ∙ numbered_cut g 0 q.before q.thread q.behind
      ∙ ap₂ ◌++◌ (numbered_still g 0 q.before (λ i t low high. two_off n z m y i t (omega arith) (omega arith)))
      (ap₂ ◌++◌ (two_second n z m y (0 + m) q.thread (omega arith) (omega arith))
      (numbered_still g (0 + m + 1) q.behind (λ i t low high. two_off n z m y i t (omega arith) (omega arith)))))
      (ap₂ ◌++◌ (two_first n z m y (0 + n) p.thread (omega arith))
      (numbered_still g (0 + n + 1) p.behind (λ i t low high. two_off n z m y i t (omega arith) (omega arith))))

  pub exchanged_right : Stands p.behind q
      → both_exchanged p z (right_of p q) y (focuses ps) ≡ p.before ++ (z ++ (q.before ++ (y ++ q.behind)))
  unfolding both_exchanged
  exchanged_right s =
      let n = length p.before in
      let m = length (p.before ++ (p.thread ∷ []) ++ q.before) in
      let k = length q.before in
      let g = two_at n z m y in
      let size : m ≡ n + 1 + k =
      length-append (p.before ++ (p.thread ∷ [])) q.before ∙ ap (λ r. r + k) (length-append p.before (p.thread ∷ [])) in
      spots_numbered g [] ps ∙ ap (numbered g 0) h.parts ∙ numbered_cut g 0 p.before p.thread p.behind
      ∙ ap₂ ◌++◌ (numbered_still g 0 p.before (λ i t low high. two_off n z m y i t (omega arith) (omega arith)))
      (ap₂ ◌++◌ (two_first n z m y (0 + n) p.thread (omega arith))
      (ap (numbered g (0 + n + 1)) s.parts ∙ numbered_cut g (0 + n + 1) q.before q.thread q.behind
      ∙ ap₂ ◌++◌ (numbered_still g (0 + n + 1) q.before (λ i t low high. two_off n z m y i t (omega arith) (omega arith)))
      (ap₂ ◌++◌ (two_second n z m y (0 + n + 1 + k) q.thread (omega arith) (omega arith))
      (numbered_still g (0 + n + 1 + k + 1) q.behind (λ i t low high. two_off n z m y i t (omega arith) (omega arith))))))
