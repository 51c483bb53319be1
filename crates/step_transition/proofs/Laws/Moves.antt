-- Outputs and inputs of a list of threads are those of the definitions ("Steps"; "Judging and its count").
use Prim.Native.Nat.{ℕ}
use native.Mathlib.Omega.{arith}
use mathlib.Core.Path.{◌≡◌, refl, sym, ◌∙◌, ap, ap₂}
use mathlib.Core.Bool.{Bool, true, false}
use mathlib.Core.List.{List, [], ◌∷◌, ◌++◌, map, map-append, map-map, append-nil, append_assoc, flat_map}
use borrow.Author.Tests.{le-ltb}
use Rattle.meaning.specs.Messages.Term.{Term, Recipe, Message}
use Rattle.meaning.specs.Messages.Normal.{same, equal}
use Rattle.meaning.specs.Bytes.Process.{Prefix, output, input}
use Rattle.meaning.specs.Steps.State.{Bound, ◌▸◌, worked, Thread, settle, State}
use Rattle.meaning.specs.Steps.Offer.{Offer}
use Rattle.meaning.specs.Steps.Enumeration.{offers, sent, taken}
use Rattle.meaning.specs.Judging.Limits.{over_settling}
use Rattle.meaning.specs.Judging.Visits.{Arrival, arrived, sent_arrivals, taken_arrivals, arrivals}
use Rattle.meaning.proofs.Test.{chosen as tested}
use Rattle.meaning.proofs.Every.{every_map}
use Rattle.state_record.specs.Place.{rest_at}
use Rattle.state_record.specs.Record.{Placed, process_of, bound_of}
use Rattle.state_head.specs.Settled.{threads_of}
use Rattle.state_head.proofs.Laws.Settling.{settled_threads}
use Rattle.step_located.specs.Located.{LocatedOffer, prefixed}
use Rattle.step_located.specs.Rebuilt.{rest_of}
use Rattle.step_located.specs.Sought.{wanted}
use Rattle.step_located.proofs.Laws.Located.{located}
use Rattle.step_located.proofs.Laws.Block.{flat_map_map, map_flat_map, flat_map_every}
use Rattle.step_located.proofs.Laws.Rebuilt.{replaced_threads}
use Rattle.step_transition.specs.Focus.{Focus, focuses, offers_of, filter}
use Rattle.step_transition.specs.Moves.{Move, alone, labelled, offered, labelled_moves}
use Rattle.step_transition.specs.Outcome.{exchanged, replaced_in, outcome, arrival_of}
use Rattle.step_transition.specs.Theorems.{OutputsMoved, InputsMoved}
use Rattle.step_transition.proofs.Laws.MovesLists.{flat_map_flat_map, flat_map_filter}
use Rattle.step_transition.proofs.Laws.MovesFocuses.{Stands, spots_stand, exchanged_is}
use Rattle.step_transition.proofs.Laws.MovesThread.{leaves, leaves_at, offers_spots}

-- Without positions: three lists, a thread in which something is replaced, and a list in which a thread is.
pub threads_around : (l z r : List Placed) → threads_of (l ++ (z ++ r)) ≡ threads_of l ++ threads_of z ++ threads_of r
threads_around l z r =
    map-append _ l (z ++ r) ∙ ap (λ u. threads_of l ++ u) (map-append _ z r) ∙ sym (append_assoc (threads_of l) (threads_of z) (threads_of r))

pub leaves_threads : (k : ℕ) (t : Placed) (x : ℕ) (z : List Placed) → threads_of (replaced_in t x k z) ≡ leaves k t x (threads_of z)
leaves_threads k t x z = replaced_threads x z (process_of t.thread) t.place (bound_of t.thread) 0 k

pub exchanged_threads : (ps : List Placed) (p : Focus) → Stands ps p → (k x : ℕ) (z : List Placed)
    → threads_of (exchanged p (replaced_in p.thread x k z) (focuses ps)) ≡ leaves_at k p x (threads_of z)
exchanged_threads ps p h k x z =
    ap threads_of (exchanged_is ps p (replaced_in p.thread x k z) h) ∙ threads_around p.before (replaced_in p.thread x k z) p.behind
    ∙ ap (λ u. threads_of p.before ++ u ++ threads_of p.behind) (leaves_threads k p.thread x z)

-- Two arrivals whose threads and aliases are the same.
pub arrival_same : (large : Bool) {ts us : List Thread} {A B : Bound} (n : ℕ) → ts ≡ us → A ≡ B
    → arrived large (record { threads = ts; aliases = A; next = n }) ≡ arrived large (record { threads = us; aliases = B; next = n })
arrival_same large n e f = ap₂ (λ ts A. arrived large (record { threads = ts; aliases = A; next = n })) e f

-- Those offers that answer a label are the ones wanted.
module _ (ps : List Placed) (k : ℕ) (b : Bool) (y : Message) (f : Offer → List Arrival) (g : Move → Arrival) where
  labels_moved : ((p : Focus) → Stands ps p → (a : LocatedOffer)
      → f (located (leaves_at k p) a) ≡ elim (wanted (labelled b) y a) [ true ↦ g (alone p a) ∷ [] | false ↦ [] ])
      → flat_map f (offers k (threads_of ps)) ≡ map g (labelled_moves b y k ps)
  unfolding labelled_moves offered
  labels_moved e =
      ap (flat_map f) (offers_spots k ps) ∙ flat_map_flat_map f _ (focuses ps)
      ∙ flat_map_every (every_map (λ p h.
      flat_map_map f (located (leaves_at k p)) (offers_of p.thread k)
      ∙ flat_map_filter (wanted (labelled b) y) _ (λ a. g (alone p a)) (e p h) (offers_of p.thread k)
      ∙ sym (map-map g (alone p) (filter (wanted (labelled b) y) (offers_of p.thread k)))) (spots_stand ps))
      ∙ sym (map_flat_map g _ (focuses ps))

-- An offer on the channel of the label.
module _ (y : Message) (a : LocatedOffer) where
  wanted_output : (C M : Term) → wanted (labelled true) y (prefixed a (output C M)) ≡ same (worked a.bound C) y
  unfolding wanted
  wanted_output C M = rw (le-ltb a.place 0 (omega arith))

  wanted_input : (C : Term) → wanted (labelled false) y (prefixed a (input C)) ≡ same (worked a.bound C) y
  unfolding wanted
  wanted_input C = rw (le-ltb a.place 0 (omega arith))

module _ (ps : List Placed) (S : State) (p : Focus) (h : Stands ps p) (a : LocatedOffer) where
  -- What is left, the rest being settled under σ.
  left_threads : (σ : Bound) → leaves_at S.next p a.place (settle a.rest σ a.next)
      ≡ threads_of (exchanged p (replaced_in p.thread a.place S.next (rest_of a σ a.next)) (focuses ps))
  left_threads σ =
      sym (exchanged_threads ps p h S.next a.place (rest_of a σ a.next)
      ∙ ap (leaves_at S.next p a.place) (settled_threads a.rest (rest_at a.place a.prefix) σ a.next))

module _ (ps : List Placed) (S : State) (R : Recipe) (p : Focus) (h : Stands ps p) (a : LocatedOffer) where
  abbrev channel : Message
  channel = worked S.aliases R

  sent_is : (x : Message) → sent_arrivals S R (located (leaves_at S.next p) a)
      ≡ elim (wanted (labelled true) channel a) [ true ↦ arrival_of S (outcome ps S.next x (alone p a)) ∷ [] | false ↦ [] ]
  unfolding sent outcome wanted equal
  sent_is x = of a.prefix
    where
      of : (q : Prefix) → sent_arrivals S R (located (leaves_at S.next p) (prefixed a q))
          ≡ elim (wanted (labelled true) channel (prefixed a q)) [
            | true ↦ arrival_of S (outcome ps S.next x (alone p (prefixed a q))) ∷ []
            | false ↦ []
          ]
      of (output C M) =
          rw (wanted_output channel a C M) (tested (λ u v. map (arrived (over_settling a.rest a.bound a.next)) u ≡ v)
          (same (worked a.bound C) channel)
          (ap (λ A. A ∷ []) (arrival_same _ _ (left_threads ps S p h (prefixed a (output C M)) a.bound) refl)) refl)
      of (input C) = refl

  taken_is : (N : Recipe) → taken_arrivals S R N (located (leaves_at S.next p) a)
      ≡ elim (wanted (labelled false) channel a) [
        | true ↦ arrival_of S (outcome ps S.next (worked S.aliases N) (alone p a)) ∷ []
        | false ↦ []
      ]
  unfolding taken outcome wanted equal
  taken_is N = of a.prefix
    where
      x : Message
      x = worked S.aliases N

      of : (q : Prefix) → taken_arrivals S R N (located (leaves_at S.next p) (prefixed a q))
          ≡ elim (wanted (labelled false) channel (prefixed a q)) [
            | true ↦ arrival_of S (outcome ps S.next (worked S.aliases N) (alone p (prefixed a q))) ∷ []
            | false ↦ []
          ]
      of (output C M) = refl
      of (input C) =
          let σ = a.bound ▸ worked S.aliases N in
          rw (wanted_input channel a C) (tested (λ u v. map (arrived (over_settling a.rest σ a.next)) u ≡ v)
          (same (worked a.bound C) channel)
          (ap (λ A. A ∷ []) (arrival_same _ _ (left_threads ps S p h (prefixed a (input C)) σ) (sym (append-nil S.aliases)))) refl)

pub outputs_moved : OutputsMoved
unfolding arrivals
outputs_moved ps S R x e =
    ap (λ ts. flat_map (sent_arrivals S R) (offers S.next ts)) (sym e)
    ∙ labels_moved ps S.next true (worked S.aliases R) (sent_arrivals S R) (λ v. arrival_of S (outcome ps S.next x v))
    (λ p h a. sent_is ps S R p h a x)

pub inputs_moved : InputsMoved
unfolding arrivals
inputs_moved ps S R N e =
    ap (λ ts. flat_map (taken_arrivals S R N) (offers S.next ts)) (sym e)
    ∙ labels_moved ps S.next false (worked S.aliases R) (taken_arrivals S R N)
    (λ v. arrival_of S (outcome ps S.next (worked S.aliases N) v)) (λ p h a. taken_is ps S R p h a N)
