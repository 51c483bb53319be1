-- Silent steps of two threads are those of the definitions, in the same order, and what is left behind one of them is what comes after it
-- ("Steps").
use Prim.Native.Nat.{ℕ}
use native.Mathlib.Omega.{arith}
use mathlib.Core.Path.{◌≡◌, refl, sym, ◌∙◌, ap, ap₂, subst}
use mathlib.Core.Bool.{Bool, true, false, not}
use mathlib.Core.List.{List, [], ◌∷◌, ◌++◌, map, map-map, flat_map}
use borrow.Author.Tests.{le-ltb}
use Rattle.meaning.specs.Messages.Term.{Term, leaf, public, Message}
use Rattle.meaning.specs.Bytes.Process.{Prefix, output, input}
use Rattle.meaning.specs.Steps.Offer.{Split}
use Rattle.state_record.specs.Record.{Placed}
use Rattle.state_task.specs.declared.task.Quest.{Quest}
use Rattle.step_located.specs.Located.{LocatedOffer, prefixed}
use Rattle.step_located.specs.CopyStep.{matching, pair_of}
use Rattle.step_located.specs.Sought.{wanted}
use Rattle.step_located.proofs.Laws.Block.{flat_map_map, map_flat_map, flat_map_every}
use Rattle.step_located.proofs.Laws.Increasing.{Increasing, end}
use Rattle.step_located.proofs.Laws.Everywhere.{everywhere}
use Rattle.step_located.proofs.Laws.Copies.{split_at}
use Rattle.step_transition.specs.Focus.{Focus, focuses, offers_of, filter}
use Rattle.step_transition.specs.Moves.{Move, alone, inside, between, others, takers, meetings}
use Rattle.step_transition.specs.Outcome.{same}
use Rattle.step_transition.specs.CopyOffers.{outputs, inputs, channel_of}
use Rattle.step_between.specs.Between.{Party, parties_from, senders_from, offered_to, meeting_of, takers_from, between_from}
use Rattle.step_between.specs.Between.{Resumed, BetweenAll, BetweenResumed}
use Rattle.step_transition.proofs.Laws.MovesLists.{flat_map_flat_map, flat_map_none, flat_map_filter, flat_map_kept}
use Rattle.step_transition.proofs.Laws.CopyMoves.{matching_output, matching_input}
use Rattle.step_transition.proofs.Laws.SplitLists.{split_flat_map, split_map, since}
use Rattle.step_between.proofs.Laws.BetweenLists.{party, parties_resumed}
use Rattle.step_between.proofs.Laws.BetweenOnward.{offers_increase, senders_resumed}

-- From the beginning on, the parties are those of one thread after the other.
parties_all_threads : (q : Quest) (x : Message) (f : Focus → List LocatedOffer) (ps : List Focus)
    → parties_from (since 0 q) x f ps ≡ flat_map (λ p. map (party p) (filter (wanted (since 0 q) x) (f p))) ps
unfolding parties_from flat_map
parties_all_threads q x f [] = refl
parties_all_threads q x f (p ∷ ps) =
    ap (λ r. map (party p) (filter (wanted (since 0 q) x) (f p)) ++ r) (parties_all_threads q x f ps)

-- The takers of an output among the other threads.
module _ (p : Focus) (a : LocatedOffer) (C M : Term) where
  abbrev sends : LocatedOffer
  sends = prefixed a (output C M)

  abbrev taken : Focus → List Move
  taken q = map (meeting_of (party p sends)) (map (party q) (filter (wanted (inputs 0 0) (channel_of sends)) (offered_to (party p sends) q)))

  abbrev met : Focus → List Move
  met q = map (between p q) (flat_map (matching sends) (offers_of q.thread a.next))

  met_in : (q : Focus) → taken q ≡ elim (not (same p q)) [ true ↦ met q | false ↦ [] ]
  unfolding filter
  met_in q = of (same p q)
    where
      of : (b : Bool)
          → map (meeting_of (party p sends)) (map (party q)
          (filter (wanted (inputs 0 0) (channel_of sends)) (elim b [ true ↦ [] | false ↦ offers_of q.thread a.next ])))
          ≡ elim (not b) [ true ↦ met q | false ↦ [] ]
      of true = refl
      of false =
          map-map (meeting_of (party p sends)) (party q) (filter (wanted (inputs 0 0) (channel_of sends)) (offers_of q.thread a.next))
          ∙ sym (map-map (between p q) (pair_of sends) (filter (wanted (inputs 0 0) (channel_of sends)) (offers_of q.thread a.next)))
          ∙ ap (map (between p q)) (sym (flat_map_filter (wanted (inputs 0 0) (channel_of sends)) (matching sends) (pair_of sends)
          (matching_output 0 a C M) (offers_of q.thread a.next)))

  takers_met : (qs : List Focus) → takers p sends (others p qs) ≡ takers_from (party p sends) 0 qs
  unfolding takers others takers_from
  takers_met qs =
      sym (ap (map (meeting_of (party p sends))) (parties_all_threads (inputs 0 0) (channel_of sends) (offered_to (party p sends)) qs)
      ∙ map_flat_map (meeting_of (party p sends)) _ qs ∙ sym (flat_map_kept (λ q. not (same p q)) met taken met_in qs))

-- An input sends nothing.
none_met : (p : Focus) (a : LocatedOffer) (C : Term) (qs : List Focus) → takers p (prefixed a (input C)) qs ≡ []
unfolding takers
none_met p a C qs =
    flat_map_none _ (λ q. ap (map (between p q)) (flat_map_none _ (matching_input a C) (offers_of q.thread a.next))) qs

takers_wanted : (p : Focus) (qs : List Focus) (a : LocatedOffer)
    → takers p a (others p qs) ≡ elim (wanted (outputs 0) (leaf (public 0)) a) [ true ↦ takers_from (party p a) 0 qs | false ↦ [] ]
unfolding wanted
takers_wanted p qs a = of a.prefix
  where
    of : (q : Prefix) → takers p (prefixed a q) (others p qs)
        ≡ elim (wanted (outputs 0) (leaf (public 0)) (prefixed a q)) [ true ↦ takers_from (party p (prefixed a q)) 0 qs | false ↦ [] ]
    of (output C M) = takers_met p a C M qs ∙ sym (rw (le-ltb a.place 0 (omega arith)))
    of (input C) = none_met p a C (others p qs)

meetings_met : (k : ℕ) (qs ps : List Focus) → flat_map (meetings k qs) ps ≡ between_from qs k ps 0
unfolding meetings between_from senders_from
meetings_met k qs ps =
    let W = wanted (outputs 0) (leaf (public 0)) in
    let f : Focus → List LocatedOffer = λ p. offers_of p.thread k in
    let g : Party → List Move = λ w. takers_from w 0 qs in
    flat_map_every (everywhere (λ p.
    sym (flat_map_kept W (λ a. g (party p a)) _ (takers_wanted p qs) (f p)) ∙ sym (flat_map_map g (party p) (filter W (f p)))) ps)
    ∙ sym (ap (flat_map g) (parties_all_threads (outputs 0) (leaf (public 0)) f ps) ∙ flat_map_flat_map g _ ps)

pub between_all : BetweenAll
between_all k ps = meetings_met k (focuses ps) (focuses ps)

-- What the theorem says of a move.
abbrev ResumedAt : (k : ℕ) → List Placed → (after : List Move) → Move → Type 0
ResumedAt k ps after (alone p a) = Unit {0}
ResumedAt k ps after (inside p w) = Unit {0}
ResumedAt k ps after (between p q v) = Resumed k ps after p q v

offered_increase : (w : Party) (q : Focus) → Increasing 0 (offered_to w q)
offered_increase w q = of (same w.focus q)
  where
    of : (b : Bool) → Increasing 0 (elim b [ true ↦ [] | false ↦ offers_of q.thread w.offer.next ])
    of true = end
    of false = offers_increase w.offer.next q

pub between_resumed : BetweenResumed
unfolding between_from takers_from senders_from
between_resumed k ps before after p q v e =
    let m = split_flat_map (λ w. takers_from w 0 qs) senders (split_at before (sym (between_all k ps) ∙ e)) in
    let (front, u, back, s, is, left) =
    split_map (meeting_of m.at) (parties_from (inputs 0 0) (channel_of m.at.offer) (offered_to m.at) qs) m.inner in
    subst (ResumedAt k ps after) (sym is) (found m.at u m.outer s left m.follows)
  where
    qs : List Focus
    qs = focuses ps

    senders : List Party
    senders = senders_from k 0 qs

    found : (w u : Party) {pre post front back : List Party} {high : List Move} → Split senders pre w post
        → Split (parties_from (inputs 0 0) (channel_of w.offer) (offered_to w) qs) front u back → high ≡ map (meeting_of w) back
        → after ≡ high ++ flat_map (λ w. takers_from w 0 qs) post → ResumedAt k ps after (meeting_of w u)
    found w u {post = post} outer inner left follows =
        let sent = senders_resumed k 0 [] ps outer in
        let took = parties_resumed (inputs 0 0) (channel_of w.offer) (offered_to w) (offered_increase w) 0 [] ps inner in
        record {
          sending = sent.parts;
          taking = took.parts;
          others = post;
          again = sent.again;
          left =
              ap₂ ◌++◌ (ap (map (meeting_of w)) took.on ∙ sym left) (ap (flat_map (λ w. takers_from w 0 qs)) sent.on) ∙ sym follows;
        }
