-- What a silent step of a repl thread leaves: the two rests, among threads that meet no limit ("Judging and its count").
use Prim.Native.Nat.{ℕ, ◌+◌, ◌≤◌}
use native.Mathlib.Omega.{arith}
use mathlib.Core.Path.{◌≡◌, ap}
use mathlib.Core.Bool.{Bool, true, false}
use mathlib.Core.List.{List, [], ◌∷◌, ◌++◌}
use Rattle.meaning.specs.Bytes.Process.{Process}
use Rattle.meaning.specs.Places.{Every, none, ◌also◌}
use Rattle.meaning.specs.Steps.State.{Bound, Thread, repl, names, settle}
use Rattle.meaning.proofs.Every.{every_map, every_joined, every_parts}
use Rattle.state_record.specs.Place.{right_at}
use Rattle.state_record.specs.Record.{Placed}
use Rattle.step_located.specs.Located.{inside, replaced_as}
use Rattle.step_located.specs.CopyStep.{Pair, copy_pairs, CopyStep, copy_steps, left_as}
use Rattle.step_located.specs.Rebuilt.{alone, replaced_at, left_at, placed_at}
use Rattle.step_located.proofs.Laws.Located.{left_only, right_only, replaced_repl, replaced_copy}
use Rattle.step_located.proofs.Laws.Everywhere.{every_and, every_mapped, every_flat_map, every_matching}
use Rattle.step_located.proofs.Laws.Leads.{Said, said, Cases, by_cases}
use Rattle.step_located.proofs.Laws.Rebuilt.{replaced_at_outside}
use Rattle.step_located.proofs.Laws.Copies.{joints_inside}
use Rattle.step_transition.proofs.Laws.LimitsLeft.{Clear, all_later, clear_later, clear_copy}
use Rattle.step_transition.proofs.Laws.LimitsLeft.{Left, left_joined, left_behind, left_before, settled_clear}
use Rattle.step_transition.proofs.Laws.LimitsReplaced.{opens_before, replaces}
use Rattle.step_transition.proofs.Laws.LimitsPairs.{PairOpens, pair_opens, Meets, meets}

-- The lists zx and zy in the place of the two threads that take part, and the repl thread.
abbrev pub stepped : CopyStep → (zx zy : List Placed) → List Placed
stepped w zx zy = left_at w zx zy ++ alone w.place (repl w.bound w.copied)

pub record CopyStepOpens (P : Process) (at : ℕ) (ρ : Bound) (n k : ℕ) (w : CopyStep) : Type 0 where
  pub opens : PairOpens k w.pair
  pub left : (zx zy : List Placed) (j : ℕ) → w.pair.taker.next ≤ j
      → Left j (zx ++ zy) (replaced_at w.place (stepped w zx zy) P at ρ n k)

pair_before : {k m : ℕ} → k ≤ m → (w : Pair) → PairOpens m w → PairOpens k w
pair_before le w o = record {
  later = omega (arith, o.later);
  sender = o.sender;
  taker = o.taker;
  sender_small = o.sender_small;
  taker_small = o.taker_small;
}

-- A repl thread that meets no limit: the steps inside its copy, those of two threads of the copy, and those of two copies.
module _ (P : Process) (at : ℕ) (ρ : Bound) (n k : ℕ) (c : Clear k (repl ρ P)) where
  abbrev own : Bool → Pair → CopyStep
  own two w = record { place = at; bound = ρ; copied = P; opens = k; two = two; pair = w }

  in_copy : k ≤ names P ρ k → (w : CopyStep) → inside w.place (at + 1) P ≡ true → CopyStepOpens P (at + 1) ρ k (names P ρ k) w
      → CopyStepOpens (Process.repl P) at ρ n k w
  in_copy later w i h = record {
    opens = pair_before later w.pair h.opens;
    left = λ zx zy j le.
        rw (replaced_copy placed_at (stepped w zx zy) at ρ n k w.place P i)
        (left_behind (clear_later (omega (arith, h.opens.later)) (repl ρ P) c also none) (h.left zx zy j le));
  }

  in_one : k ≤ names P ρ k → (w : Pair) → Meets P (at + 1) ρ k (names P ρ k) w → CopyStepOpens (Process.repl P) at ρ n k (own false w)
  unfolding left_as
  in_one later w h = record {
    opens = pair_before later w h.opens;
    left = λ zx zy j le.
        rw (replaced_repl placed_at (stepped (own false w) zx zy) at ρ n k P)
        (left_behind (clear_later (omega (arith, h.opens.later)) (repl ρ P) c also none) (h.left zx zy j le));
  }

  abbrev Two : Pair → Type 0
  Two w =
      (zx zy : List Placed) (j : ℕ) → w.taker.next ≤ j
      → Left j (zx ++ zy) (replaced_at w.sender.place zx P (at + 1) ρ k (names P ρ k)
      ++ replaced_at w.taker.place zy P (at + 1) ρ w.sender.next (names P ρ w.sender.next))

  two_pairs : Every (λ w. PairOpens k w × Two w) (copy_pairs P (at + 1) ρ k)
  unfolding copy_pairs
  two_pairs =
      let (later, copy) = clear_copy P c in
      every_flat_map _ (every_map (λ a r.
      let le : k ≤ a.next = omega (arith, r.opens.later) in
      let (later', copy') = clear_copy P (clear_later le (repl ρ P) c) in
      every_flat_map _ (every_map (λ b s. every_matching a b (
        pair_opens a b (opens_before later a r.opens) (opens_before later' b s.opens),
        λ zx zy j l. left_joined (r.left zx j (omega (arith, s.opens.later))) (s.left zy j l),
      )) (replaces P (at + 1) ρ a.next (names P ρ a.next) copy')))
      (replaces P (at + 1) ρ k (names P ρ k) copy))

  in_two : (w : Pair) → PairOpens k w → Two w → CopyStepOpens (Process.repl P) at ρ n k (own true w)
  unfolding left_as
  in_two w o h = record {
    opens = o;
    left = λ zx zy j le.
        rw (replaced_repl placed_at (stepped (own true w) zx zy) at ρ n k P)
        (left_behind (clear_later (omega (arith, o.later)) (repl ρ P) c also none) (h zx zy j le));
  }

  in-repl : (Every (Clear (names P ρ k)) (settle P ρ k) → Every (CopyStepOpens P (at + 1) ρ k (names P ρ k)) (copy_steps P (at + 1) ρ k (names P ρ k)))
      → Every (CopyStepOpens (Process.repl P) at ρ n k) (copy_steps (Process.repl P) at ρ n k)
  unfolding copy_steps
  in-repl h =
      let (later, copy) = clear_copy P c in
      every_joined
      (every_joined
      (every_map (λ w (i, e). in_copy later w i e) (every_and (joints_inside P (at + 1) ρ k (names P ρ k)) (h copy)))
      (every_mapped (own false) (every_map (in_one later) (meets P (at + 1) ρ k (names P ρ k) copy))))
      (every_mapped (own true) (every_map (λ w (o, t). in_two w o t) two_pairs))

joins_cases : Cases (λ P at ρ n. (k : ℕ) → Every (Clear k) (settle P ρ n) → Every (CopyStepOpens P at ρ n k) (copy_steps P at ρ n k))
unfolding said copy_steps settle replaced_as
joins_cases = record {
  lead = λ l h k c.
      rw (ap (λ s. s.jointly k) l.same)
      (every_map (λ w r. record {
        opens = r.opens;
        left = λ zx zy j le. rw (ap (λ (s : Said). s.put w.place (stepped w zx zy) k) l.same) (r.left zx zy j le);
      }) (h k (rw (ap (λ s. s.threads) l.same) at c)));
  nothing = λ at ρ n k c. none;
  action = λ p P at ρ n k c. none;
  beside = λ P Q at ρ n p q k c.
      let (c₁, c₂) = every_parts (settle P ρ n) c in
      let at' = right_at at P in
      let n' = names P ρ n in
      every_joined
      (every_map (λ w (r, i). record {
        opens = r.opens;
        left = λ zx zy j le.
            rw (replaced_at_outside w.place (stepped w zx zy) Q at' ρ n' k (left_only w.place at P Q i))
            (left_behind (settled_clear Q at' ρ n' (all_later (omega (arith, r.opens.later)) c₂)) (r.left zx zy j le));
      }) (every_and (p k c₁) (joints_inside P (at + 1) ρ n k)))
      (every_map (λ w (r, i). record {
        opens = r.opens;
        left = λ zx zy j le.
            rw (replaced_at_outside w.place (stepped w zx zy) P (at + 1) ρ n k (right_only w.place at P Q i))
            (left_before (settled_clear P (at + 1) ρ n (all_later (omega (arith, r.opens.later)) c₁)) (r.left zx zy j le));
      }) (every_and (q k c₂) (joints_inside Q at' ρ n' k)));
  copied = λ P at ρ n h k c. in-repl P at ρ n k (alone_clear c) (h k (names P ρ k));
}
  where
    alone_clear : {k : ℕ} {t : Thread} → Every (Clear k) (t ∷ []) → Clear k t
    alone_clear (c also cs) = c

pub joins : (P : Process) (at : ℕ) (ρ : Bound) (n k : ℕ) → Every (Clear k) (settle P ρ n) → Every (CopyStepOpens P at ρ n k) (copy_steps P at ρ n k)
joins = by_cases joins_cases
