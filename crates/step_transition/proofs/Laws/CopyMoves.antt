-- Silent steps in copies are those of the definitions, in the same order ("Steps").
use Prim.Native.Nat.{ℕ, ◌+◌, ◌-◌, ◌≤◌}
use native.Mathlib.Omega.{arith}
use mathlib.Core.Path.{◌≡◌, refl, sym, ◌∙◌, ap, ap₂, fun_ext}
use mathlib.Core.Bool.{Bool, true, false}
use mathlib.Core.List.{List, [], ◌∷◌, ◌++◌, map, map-append, map-map, flat_map}
use borrow.Author.Tests.{le-ltb, ne_eqb, eqb-true, eqb-false}
use lib.Dec.{T, eqb}
use Rattle.meaning.specs.Messages.Term.{leaf, public, Message}
use Rattle.meaning.specs.Messages.Normal.{same, equal}
use Rattle.meaning.specs.Bytes.Process.{Prefix, output, input, Process}
use Rattle.meaning.specs.Steps.State.{Bound, names, worked}
use Rattle.meaning.proofs.Messages.Same.{same_sound, same_refl}
use Rattle.meaning.proofs.Test.{T-alike}
use Rattle.state_record.specs.Record.{Placed, process_of, bound_of}
use Rattle.step_located.specs.Located.{LocatedOffer, located_offers, prefixed}
use Rattle.step_located.specs.CopyStep.{Pair, matching, located_offers_except, pairs, copy_pairs, pair_of}
use Rattle.step_located.specs.Sought.{wanted, offers_except, Opened}
use Rattle.step_located.proofs.Laws.Block.{map_flat_map}
use Rattle.step_located.proofs.Laws.Copies as traverses
use Rattle.step_located.proofs.Laws.Copies.{joint_of, copies_steps}
use Rattle.step_transition.specs.Focus.{Focus, focuses, copies_of, copy_steps_of, filter}
use Rattle.step_transition.specs.Moves.{inside, meetings, silent_moves}
use Rattle.step_transition.specs.CopyOffers.{copy_offers, outputs, inputs, channel_of, takers_at, excluded_by, pairs_of, pairs_from, senders, moved, copy_step_with}
use Rattle.step_transition.specs.CopyMoves.{group_moves, copy_moves}
use Rattle.step_transition.specs.Resumption.{CopyMovesAll}
use Rattle.step_transition.specs.Step.{arity_of}
use Rattle.step_transition.proofs.Laws.MovesLists.{flat_map_none, flat_map_filter, flat_map_kept}

-- The order of two messages that are compared does not matter.
same_turned : (m n : Message) → same m n ≡ same n m
same_turned m n = T-alike (same m n) (same n m) (turn m n) (turn n m)
  where
    turn : (m n : Message) → T (same m n) → T (same n m)
    turn m n t = rw (same_sound m n t) (same_refl n)

-- The number of copies that take part.
pub mode_of : (arity : ℕ) (w : Opened) (v : Pair) → 1 ≤ arity → arity ≤ 2 → arity_of (copy_step_with arity w v) ≡ arity
mode_of arity w v low high = by_test (eqb arity 2) refl
  where
    by_test : (b : Bool) → eqb arity 2 ≡ b → elim b [ true ↦ 2 | false ↦ 1 ] ≡ arity
    by_test true e = sym (eqb-true arity 2 e)
    by_test false e = let other = eqb-false arity 2 e in omega arith

-- The takers of an offer: it has none if it is an input.
pub matching_output : (excluded : ℕ) (a : LocatedOffer) (C M : _) (b : LocatedOffer) → let s = prefixed a (output C M) in
    matching s b ≡ elim (wanted (inputs 0 excluded) (channel_of s) b) [ true ↦ pair_of s b ∷ [] | false ↦ [] ]
unfolding matching wanted equal
matching_output excluded a C M b = of b.prefix
  where
    s : LocatedOffer
    s = prefixed a (output C M)

    of : (q : Prefix) → matching s (prefixed b q)
        ≡ elim (wanted (inputs 0 excluded) (channel_of s) (prefixed b q)) [ true ↦ pair_of s (prefixed b q) ∷ [] | false ↦ [] ]
    of (output D N) = refl
    of (input D) = rw (le-ltb b.place 0 (omega arith), same_turned (worked b.bound D) (worked a.bound C))

pub matching_input : (a : LocatedOffer) (C : _) (b : LocatedOffer) → matching (prefixed a (input C)) b ≡ []
unfolding matching
matching_input a C b = of b.prefix
  where
    of : (q : Prefix) → matching (prefixed a (input C)) (prefixed b q) ≡ []
    of (output D N) = refl
    of (input D) = refl

abbrev takers_in : (excluded : ℕ) → LocatedOffer → List LocatedOffer → List Pair
takers_in excluded a bs = map (pair_of a) (filter (wanted (inputs 0 excluded) (channel_of a)) bs)

matching_all : (excluded : ℕ) (a : LocatedOffer) (bs : List LocatedOffer)
    → flat_map (matching a) bs ≡ elim (wanted (outputs 0) (leaf (public 0)) a) [ true ↦ takers_in excluded a bs | false ↦ [] ]
unfolding wanted
matching_all excluded a bs = of a.prefix
  where
    of : (q : Prefix) → let s = prefixed a q in
        flat_map (matching s) bs ≡ elim (wanted (outputs 0) (leaf (public 0)) s) [ true ↦ takers_in excluded s bs | false ↦ [] ]
    of (output C M) =
        let s = prefixed a (output C M) in
        flat_map_filter (wanted (inputs 0 excluded) (channel_of s)) (matching s) (pair_of s) (matching_output excluded a C M) bs
        ∙ sym (rw (le-ltb a.place 0 (omega arith)))
    of (input C) = flat_map_none (matching (prefixed a (input C))) (matching_input a C) bs

pub pairs_flat : (arity : ℕ) (w : Opened) (xs : List LocatedOffer) → pairs_from arity w 0 xs ≡ flat_map (pairs_of arity w 0) xs
unfolding pairs_from flat_map
pairs_flat arity w [] = refl
pairs_flat arity w (a ∷ xs) = ap (λ r. pairs_of arity w 0 a ++ r) (pairs_flat arity w xs)

-- The offers of the threads that the position x is not in.
but_one : (x : ℕ) (P : Process) (at : ℕ) (ρ : Bound) (n k : ℕ) → offers_except (x + 1) P at ρ n k ≡ located_offers_except x P at ρ n k
unfolding offers_except
but_one x P at ρ n k =
    let e : x + 1 - 1 ≡ x = omega arith in
    rw (ne_eqb (x + 1) 0 (omega arith), offers_except) (ap (λ y. located_offers_except y P at ρ n k) e)

module _ (w : Opened) where
  abbrev own : ℕ
  own = names w.copied w.bound w.opens

  -- The pairs of all senders, each with those offers that its takers are among.
  pairs_are : (arity : ℕ) (among : LocatedOffer → List LocatedOffer) → ((a : LocatedOffer) → copy_offers (excluded_by arity a) (takers_at arity w a) w ≡ among a)
      → pairs_from arity w 0 (senders w 0)
      ≡ flat_map (λ a. flat_map (matching a) (among a)) (located_offers w.copied (w.place + 1) w.bound w.opens own)
  unfolding senders pairs_of copy_offers offers_except
  pairs_are arity among e =
      pairs_flat arity w (senders w 0)
      ∙ flat_map_kept (wanted (outputs 0) (leaf (public 0))) (pairs_of arity w 0) (λ a. flat_map (matching a) (among a))
      (λ a. matching_all (excluded_by arity a) a (among a)
      ∙ ap (λ bs. elim (wanted (outputs 0) (leaf (public 0)) a) [ true ↦ takers_in (excluded_by arity a) a bs | false ↦ [] ]) (sym (e a))) _

  pairs_within : pairs_from 1 w 0 (senders w 0) ≡ pairs w.copied (w.place + 1) w.bound w.opens own
  unfolding pairs copy_offers
  pairs_within =
      pairs_are 1 (λ a. located_offers_except a.place w.copied (w.place + 1) w.bound w.opens a.next)
      (λ a. but_one a.place w.copied (w.place + 1) w.bound w.opens a.next)

  pairs_apart : pairs_from 2 w 0 (senders w 0) ≡ copy_pairs w.copied (w.place + 1) w.bound w.opens
  unfolding copy_pairs copy_offers offers_except
  pairs_apart =
      pairs_are 2 (λ a. located_offers w.copied (w.place + 1) w.bound a.next (names w.copied w.bound a.next)) (λ a. refl)

  -- The silent steps of a repl thread.
  group_joints : (p : Focus) → group_moves p w ≡ map (inside p) (traverses.copy_steps_of w)
  unfolding group_moves
  group_joints p =
      let vs = pairs w.copied (w.place + 1) w.bound w.opens own in
      let us = copy_pairs w.copied (w.place + 1) w.bound w.opens in
      ap₂ (λ r u. moved p 1 w r ++ moved p 2 w u) pairs_within pairs_apart
      ∙ ap₂ ◌++◌ (sym (map-map (inside p) (joint_of w false) vs)) (sym (map-map (inside p) (joint_of w true) us))
      ∙ sym (map-append (inside p) (map (joint_of w false) vs) _)

pub copy_moves_all : CopyMovesAll
unfolding copy_moves
copy_moves_all k qs = ap (λ f. flat_map f qs) (fun_ext of)
  where
    of : (p : Focus) → flat_map (group_moves p) (copies_of p.thread k) ≡ map (inside p) (copy_steps_of p.thread k)
    of p =
        let t = p.thread in
        ap (λ f. flat_map f (copies_of t k)) (fun_ext (λ w. group_joints w p)) ∙ sym (map_flat_map (inside p) traverses.copy_steps_of (copies_of t k))
        ∙ ap (map (inside p)) (sym (copies_steps (process_of t.thread) t.place (bound_of t.thread) 0 k))

-- So the silent steps of a state are these, and then those of two threads.
pub silent_moves_parts : (k : ℕ) (ps : List Placed)
    → silent_moves k ps ≡ copy_moves k (focuses ps) ++ flat_map (meetings k (focuses ps)) (focuses ps)
unfolding silent_moves
silent_moves_parts k ps = ap (λ r. r ++ flat_map (meetings k (focuses ps)) (focuses ps)) (sym (copy_moves_all k (focuses ps)))
