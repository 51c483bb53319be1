-- The offers and the silent steps of a thread by itself, and of a list of threads, with positions ("Steps").
use Prim.Native.Nat.{ℕ, ◌+◌}
use mathlib.Core.Path.{◌≡◌, refl, sym, ◌∙◌, ap, ap₂, fun_ext}
use mathlib.Core.Bool.{true}
use mathlib.Core.List.{List, [], ◌∷◌, ◌++◌, map, map-map, append-nil, flat_map}
use borrow.Author.Tests.{eq-eqb}
use Rattle.meaning.specs.Bytes.Process.{Prefix, Process}
use Rattle.meaning.specs.Places.{Every, none, ◌also◌}
use Rattle.meaning.specs.Steps.State.{Bound, Thread, act, repl, names, settle}
use Rattle.meaning.specs.Steps.Offer.{placed, opened}
use Rattle.meaning.specs.Steps.Silent.{Meeting, framed}
use Rattle.meaning.specs.Steps.Enumeration.{cuts, offers, pairs_at, silent_of, silents, offers_of as thread_offers}
use Rattle.meaning.proofs.Every.{every_map}
use Rattle.meaning.proofs.Steps.Enumeration.Cuts.{around, among}
use Rattle.meaning.proofs.Steps.Enumeration.Offers.{offers-among}
use Rattle.meaning.proofs.Steps.Enumeration.Silent.{silents_among}
use Rattle.state_record.specs.Record.{Placed, process_of, bound_of}
use Rattle.state_head.specs.Settled.{threads_of}
use Rattle.step_located.specs.Located.{located_offers, inside, replaced}
use Rattle.step_located.specs.CopyStep.{Pair, matching, located_offers_except, pairs, both_replaced, met}
use Rattle.step_located.proofs.Laws.Located.{offers_none, offers_one, located, acting_inside, offers_located}
use Rattle.step_located.proofs.Laws.Block.{flat_map_every}
use Rattle.step_located.proofs.Laws.CopyStep.{silents_located, jointly, joints_one}
use Rattle.step_transition.specs.Focus.{Focus, focuses, offers_of, copy_steps_of}
use Rattle.step_transition.proofs.Laws.MovesLists.{flat_map_none}
use Rattle.step_transition.proofs.Laws.MovesFocuses.{cut_of, cuts_spots}

-- A thread settles to itself.
settle_one : (t : Thread) (n : ℕ) → settle (process_of t) (bound_of t) n ≡ t ∷ []
unfolding settle
settle_one (act ρ p P) n = refl
settle_one (repl ρ P) n = refl

-- What is left of a thread when a list takes the place of what acts in it, at the position x.
abbrev pub leaves : ℕ → Placed → ℕ → List Thread → List Thread
leaves k t x z = replaced x z (process_of t.thread) t.place (bound_of t.thread) 0 k

pub offers_thread : (k : ℕ) (t : Placed) → thread_offers t.thread k ≡ map (located (leaves k t)) (offers_of t k)
offers_thread k t =
    sym (offers_one k t.thread) ∙ ap (offers k) (sym (settle_one t.thread 0))
    ∙ offers_located (process_of t.thread) t.place (bound_of t.thread) 0 k

-- Its silent steps. It makes no pair by itself.
own_place : (p : Prefix) (P : Process) (at : ℕ) (ρ : Bound) (j : ℕ) → located_offers_except at (Process.act p P) at ρ 0 j ≡ []
unfolding located_offers_except
own_place p P at ρ j = rw (eq-eqb at at refl, located_offers_except)

nobody : (t : Thread) (at k : ℕ)
    → Every (λ a. (j : ℕ) → located_offers_except a.place (process_of t) at (bound_of t) 0 j ≡ []) (located_offers (process_of t) at (bound_of t) 0 k)
unfolding located_offers located_offers_except
nobody (act ρ p P) at k = own_place p P at ρ also none
nobody (repl ρ P) at k =
    every_map (λ a (e : inside a.place (at + 1) P ≡ true) j. rw (e, located_offers_except)) (acting_inside P (at + 1) ρ k (names P ρ k))

no_pairs : (t : Thread) (at k : ℕ) → pairs (process_of t) at (bound_of t) 0 k ≡ []
unfolding pairs flat_map
no_pairs t at k =
    flat_map_every (every_map (λ a e. ap (flat_map (matching a)) (e a.next)) (nobody t at k))
    ∙ flat_map_none (λ a. []) (λ a. refl) (located_offers (process_of t) at (bound_of t) 0 k)

no_pairs_listed : (k : ℕ) (t : Thread) → flat_map (pairs_at k) (cuts (t ∷ [])) ≡ []
unfolding cuts flat_map pairs_at
no_pairs_listed k t =
    append-nil _
    ∙ flat_map_none _ (λ o. ap₂ ◌++◌ (ap (flat_map _) (offers_none (opened o))) (ap (flat_map _) (offers_none (opened o)))) (thread_offers t k)

silents_one : (k : ℕ) (t : Thread) → silents k (t ∷ []) ≡ silent_of t k
unfolding among cuts flat_map
silents_one k t =
    silents_among k (t ∷ []) ∙ ap (λ r. among framed silent_of k (t ∷ []) ++ r) (no_pairs_listed k t) ∙ append-nil _ ∙ joints_one k t

pub silent_thread : (k : ℕ) (t : Placed) → silent_of t.thread k ≡ map (jointly (leaves k t)) (copy_steps_of t k)
silent_thread k t =
    let P = process_of t.thread in
    let ρ = bound_of t.thread in
    sym (silents_one k t.thread) ∙ ap (silents k) (sym (settle_one t.thread 0)) ∙ silents_located P t.place ρ 0 k
    ∙ ap (λ r. map (jointly (leaves k t)) (copy_steps_of t k) ++ map paired r) (no_pairs t.thread t.place k) ∙ append-nil _
  where
    paired : Pair → Meeting
    paired w =
        met w (λ x y. both_replaced w.sender.place x w.taker.place y (process_of t.thread) t.place (bound_of t.thread) 0 k
        w.sender.next)

-- What is left of a list of threads.
abbrev pub leaves_at : ℕ → Focus → ℕ → List Thread → List Thread
leaves_at k p x z = around (cut_of p) (leaves k p.thread x z)

pub offers_spots : (k : ℕ) (ps : List Placed)
    → offers k (threads_of ps) ≡ flat_map (λ p. map (located (leaves_at k p)) (offers_of p.thread k)) (focuses ps)
unfolding among
offers_spots k ps =
    offers-among k (threads_of ps) ∙ cuts_spots _ ps
    ∙ ap (λ f. flat_map f (focuses ps)) (fun_ext λ p.
    ap (map (placed (around (cut_of p)))) (offers_thread k p.thread) ∙ map-map _ _ (offers_of p.thread k))

pub joints_spots : (k : ℕ) (ps : List Placed)
    → among framed silent_of k (threads_of ps) ≡ flat_map (λ p. map (jointly (leaves_at k p)) (copy_steps_of p.thread k)) (focuses ps)
unfolding among met
joints_spots k ps =
    cuts_spots _ ps
    ∙ ap (λ f. flat_map f (focuses ps)) (fun_ext λ p.
    ap (map (framed (around (cut_of p)))) (silent_thread k p.thread) ∙ map-map _ _ (copy_steps_of p.thread k))
