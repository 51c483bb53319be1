-- What comes behind a cursor among the moves with a label ("Steps").
use mathlib.Core.Path.{◌≡◌, refl, subst}
use mathlib.Core.Bool.{Bool, true, false}
use mathlib.Core.List.{List, [], ◌∷◌, ◌++◌}
use Prim.Native.Nat.{ℕ, ◌+◌, ◌≤◌}
use native.Mathlib.Omega.{arith}
use lib.ListN.{length}
use Rattle.meaning.specs.Messages.Term.{Message}
use Rattle.meaning.specs.Places.{Every, none, ◌also◌}
use Rattle.meaning.specs.Judging.Limits.{over_prefix}
use Rattle.meaning.proofs.Every.{every_map, every_parts}
use Rattle.state_record.specs.Record.{Placed, encode_records}
use Rattle.step_located.specs.Located.{LocatedOffer}
use Rattle.step_located.specs.Sought.{wanted}
use Rattle.step_located.proofs.Laws.Everywhere.{every_mapped, every_flat_map, every_rest}
use Rattle.step_transition.specs.Focus.{Focus}
use Rattle.step_transition.specs.Moves.{Move, alone, inside, between, labelled, offered, labelled_moves}
use Rattle.step_transition.specs.Threads.{Judged, Threads}
use Rattle.step_offer.specs.Seek.{unseen, first_among}
use Rattle.step_visible.specs.Labelled.{labelled_from, Upcoming, all, behind}
use Rattle.step_transition.proofs.Laws.Threads.{threads_from}
use Rattle.step_transition.proofs.Laws.MovesFocuses.{every_spot}
use Rattle.step_transition.proofs.Laws.MovesLists.{every_filter}
use Rattle.step_transition.proofs.Laws.Allowed.{acting_allowed}
use Rattle.step_transition.proofs.Laws.Opened.{judged_clear}
use Rattle.step_visible.proofs.Laws.SeekMoves.{sight_of, Continues, spots_sought, spots_later}

-- An offer that meets no limit.
abbrev pub Small : LocatedOffer → Type 0
Small a = over_prefix a.bound a.prefix a.rest a.next ≡ false

-- A move of an offer that is wanted.
abbrev pub Offered : (sending : Bool) → Message → Move → Type 0
Offered sending x (alone p a) = (wanted (labelled sending) x a ≡ true) × Small a
Offered sending x (inside p w) = ⊥
Offered sending x (between p q w) = ⊥

pub moves_offered : (sending : Bool) (x : Message) {k : ℕ} {ps : List Placed} → Every (Judged k) ps
    → Every (Offered sending x) (labelled_moves sending x k ps)
unfolding labelled_moves offered
moves_offered sending x {k} js = every_flat_map (offered sending x k) (every_map each (every_spot [] js))
  where
    each : (p : Focus) → Judged k p.thread → Every (Offered sending x) (offered sending x k p)
    each p j =
        every_mapped (alone p) (every_filter (wanted (labelled sending) x) (every_map (λ a small e. (e, small))
        (acting_allowed _ p.thread.place _ 0 k (judged_clear p.thread 0 j))))

-- Nothing is seen exactly where there is no move.
pub unseen_none : (sending : Bool) (x : Message) (start : ℕ) {ws : List Move} → Every (Offered sending x) ws → sight_of start ws ≡ unseen → ws ≡ []
unseen_none sending x start none e = refl
unseen_none sending x start (◌also◌ {x = w} {xs = ws} o os) e = of w o e
  where
    of : (w : Move) → Offered sending x w → sight_of start (w ∷ ws) ≡ unseen → w ∷ ws ≡ []
    of (alone p a) o e = absurd (let z : ◌≡◌ {A = ℕ} 0 1 = cc in omega arith)
    of (inside p j) o e = absurd o
    of (between p t j) o e = absurd o

-- The first offer from the start on is the first of the moves; from the position after a move on, it is that of those that come later.
module _ (start skip k : ℕ) (sending : Bool) (x : Message) (ps : List Placed) (far : start + length (encode_records ps) ≤ skip) where
  far_enough : start + length (encode_records []) + length (encode_records ps) ≤ skip
  unfolding encode_records
  far_enough = omega arith

  pub first_labelled : first_among (labelled sending) x k skip start ps ≡ sight_of start (labelled_moves sending x k ps)
  unfolding labelled_moves encode_records
  first_labelled =
      let here : start + 0 ≡ start = omega arith in
      subst (λ (n : ℕ). first_among (labelled sending) x k skip n ps ≡ sight_of start (labelled_moves sending x k ps)) here
      (spots_sought start skip k sending x [] ps far_enough)

  pub next_labelled : (before : List Move) (p : Focus) (a : LocatedOffer) (after : List Move)
      → labelled_moves sending x k ps ≡ before ++ (alone p a ∷ after) → Continues start skip k sending x ps p a after
  unfolding labelled_moves
  next_labelled before p a after e = spots_later start skip k sending x [] ps far_enough before p a after e

-- Threads from a cursor on, among which the first offer is that of the first move behind the cursor.
pub record Ahead (s out : List ℕ) (start at from to k : ℕ) (sending : Bool) (x : Message) (ws : List Move) : Type 0 where
  pub threads : List Placed
  pub there : Threads s out at k threads to
  pub first : first_among (labelled_from sending from) x k to at threads ≡ sight_of start ws
  pub offered : Every (Offered sending x) ws

pub ahead : {s out : List ℕ} {start at from to k : ℕ} (sending : Bool) (x : Message) (ps : List Placed) {ws : List Move}
    → Threads s out start k ps to → Upcoming start at from (labelled_moves sending x k ps) ws → Ahead s out start at from to k sending x ws
ahead {start} {at} {from} {to} {k} sending x ps h (all e f) =
    rw (e, f) (record {
      threads = ps;
      there = h;
      first = first_labelled start to k sending x ps (omega (arith, h.stands.size));
      offered = moves_offered sending x h.judged;
    })
ahead {start} {at} {from} {to} {k} sending x ps h (behind before p a {later} e f g) =
    let c = next_labelled start to k sending x ps (omega (arith, h.stands.size)) before p a later e in
    let every = (every_parts before (rw e at (moves_offered sending x h.judged))).1 in
    rw (f, g) (record {
      threads = p.thread ∷ p.behind;
      there = threads_from p.before (p.thread ∷ p.behind) (rw c.splits at h);
      first = c.later;
      offered = every_rest every;
    })
