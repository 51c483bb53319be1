-- Silent steps of a list of threads are those of the definitions ("Steps"; "Judging and its count").
use Prim.Native.Nat.{ℕ}
use mathlib.Core.Path.{◌≡◌, refl, sym, ◌∙◌, ap, ap₂, fun_ext}
use mathlib.Core.List.{List, [], ◌∷◌, ◌++◌, map, map-append, map-map, append-nil, flat_map}
use Rattle.meaning.specs.Messages.Term.{Message}
use Rattle.meaning.specs.Messages.Normal.{equal}
use Rattle.meaning.specs.Bytes.Process.{Prefix, output, input}
use Rattle.meaning.specs.Steps.State.{written, Thread, repl, State}
use Rattle.meaning.specs.Steps.Silent.{framed}
use Rattle.meaning.specs.Steps.Enumeration.{offers, joined, pairs_at, silent_of, silents}
use Rattle.meaning.specs.Judging.Visits.{Arrival, met_arrival, arrivals}
use Rattle.meaning.proofs.Test.{chosen as tested}
use Rattle.meaning.proofs.Every.{every_map}
use Rattle.meaning.proofs.Steps.Enumeration.Cuts.{among}
use Rattle.meaning.proofs.Steps.Enumeration.Silent.{silents_among}
use Rattle.state_record.specs.Record.{Placed}
use Rattle.state_head.specs.Settled.{threads_of}
use Rattle.state_head.proofs.Laws.Settling.{settled_threads}
use Rattle.step_located.specs.Located.{LocatedOffer, prefixed}
use Rattle.step_located.specs.CopyStep.{Pair, matching, CopyStep, met, pair_of}
use Rattle.step_located.specs.Rebuilt.{left_at}
use Rattle.step_located.specs.Rebuilt as rebuilt
use Rattle.step_located.proofs.Laws.Located.{located}
use Rattle.step_located.proofs.Laws.Block.{flat_map_append, flat_map_map, map_flat_map, flat_map_every}
use Rattle.step_located.proofs.Laws.Pairs.{Places}
use Rattle.step_located.proofs.Laws.Rebuilt.{left_threads}
use Rattle.step_located.proofs.Laws.CopyStep.{jointly}
use Rattle.step_transition.specs.Focus.{Focus, focuses, offers_of, copy_steps_of}
use Rattle.step_transition.specs.Moves.{Move, inside, between, others, takers, meetings, silent_moves}
use Rattle.step_transition.specs.Outcome.{exchanged, both_exchanged, replaced_in, sender_rest, taker_rest, met_outcome, outcome, arrival_of}
use Rattle.step_transition.specs.Theorems.{SilentsMoved}
use Rattle.step_transition.proofs.Laws.MovesLists.{flat_map_flat_map}
use Rattle.step_transition.proofs.Laws.MovesFocuses.{cut_of, cuts_spots, Stands, spots_stand, left_of, right_of, exchanged_left, exchanged_right}
use Rattle.step_transition.proofs.Laws.MovesOthers.{others_are}
use Rattle.step_transition.proofs.Laws.MovesThread.{leaves, leaves_at, offers_thread, offers_spots, joints_spots}
use Rattle.step_transition.proofs.Laws.Moves.{threads_around, leaves_threads, exchanged_threads, arrival_same}

-- The state that a pair leads to.
met-arrival : (S : State) (w : Pair) (f : Places) (ts : List Placed) → threads_of ts ≡ f (threads_of (sender_rest w)) (threads_of (taker_rest w))
    → met_arrival S (met w f) ≡ arrival_of S (met_outcome w ts)
unfolding met
met-arrival S w f ts e =
    arrival_same _ _ (sym (e ∙ ap₂ f (settled_threads w.sender.rest _ w.sender.bound w.taker.next)
    (settled_threads w.taker.rest _ _ _))) (sym (append-nil S.aliases))

-- The takers of two lists.
takers_append : (p : Focus) (a : LocatedOffer) (xs ys : List Focus) → takers p a (xs ++ ys) ≡ takers p a xs ++ takers p a ys
unfolding takers
takers_append p a xs ys = flat_map_append _ xs ys

-- Two offers that meet where the pair of them leads to a state.
module _ (S : State) (arrange : Places) (f g : ℕ → List Thread → List Thread) (F : Pair → Arrival) where
  abbrev Leads : LocatedOffer → LocatedOffer → Type 0
  Leads a b = met_arrival S (met (pair_of a b) (λ x y. arrange (f a.place x) (g b.place y))) ≡ F (pair_of a b)

  joined_moved : (a b : LocatedOffer) → Leads a b → map (met_arrival S) (joined arrange (located f a) (located g b)) ≡ map F (matching a b)
  unfolding joined matching met
  joined_moved a b e = of a.prefix b.prefix e
    where
      of : (p q : Prefix) → Leads (prefixed a p) (prefixed b q)
          → map (met_arrival S) (joined arrange (located f (prefixed a p)) (located g (prefixed b q)))
          ≡ map F (matching (prefixed a p) (prefixed b q))
      of (output C M) (output D N) h = refl
      of (output C M) (input D) h =
          tested (λ ms ws. map (met_arrival S) ms ≡ map F ws) (equal (written a.bound C) (written b.bound D)) (ap (λ A. A ∷ []) h) refl
      of (input C) (output D N) h = refl
      of (input C) (input D) h = refl

module _ (ps : List Placed) (S : State) (x : Message) where
  abbrev reached : Move → Arrival
  reached v = arrival_of S (outcome ps S.next x v)

  -- Steps of one thread.
  inside_reached : (p : Focus) → Stands ps p → (w : CopyStep) → met_arrival S (jointly (leaves_at S.next p) w) ≡ reached (inside p w)
  unfolding outcome
  inside_reached p h w =
      let s = sender_rest w.pair in
      let t = taker_rest w.pair in
      let r = repl w.bound w.copied in
      let z = left_at w s t ++ rebuilt.alone w.place r in
      met-arrival S w.pair _ (exchanged p (replaced_in p.thread w.place S.next z) (focuses ps))
      (exchanged_threads ps p h S.next w.place z
      ∙ ap (leaves_at S.next p w.place) (map-append _ (left_at w s t) _ ∙ ap (λ u. u ++ (r ∷ [])) (left_threads w s t)))

  insides_moved : map (met_arrival S) (among framed silent_of S.next (threads_of ps))
      ≡ map reached (flat_map (λ p. map (inside p) (copy_steps_of p.thread S.next)) (focuses ps))
  insides_moved =
      ap (map (met_arrival S)) (joints_spots S.next ps) ∙ map_flat_map (met_arrival S) _ (focuses ps)
      ∙ flat_map_every (every_map (λ p h.
      map-map (met_arrival S) _ (copy_steps_of p.thread S.next)
      ∙ ap (λ f. map f (copy_steps_of p.thread S.next)) (fun_ext (inside_reached p h))
      ∙ sym (map-map reached (inside p) (copy_steps_of p.thread S.next))) (spots_stand ps))
      ∙ sym (map_flat_map reached _ (focuses ps))

  -- Steps of two threads, of which the sender's is at p.
  module _ (p : Focus) (h : Stands ps p) (a : LocatedOffer) where
    abbrev gives : ℕ → List Thread → List Thread
    gives = leaves S.next p.thread

    -- The takers of one side: u and v say what stands before and behind each in the whole list.
    module _ (arrange : Places) (side : List Placed) (u v : Focus → List Placed) where
      abbrev whole : Focus → Focus
      whole q = record { before = u q; thread = q.thread; behind = v q }

      side_moved : ((q : Focus) → Stands side q → (b : LocatedOffer)
          → Leads S arrange gives (leaves_at a.next q) (λ w. reached (between p (whole q) w)) a b)
          → map (met_arrival S) (flat_map (joined arrange (located gives a)) (offers a.next (threads_of side)))
          ≡ map reached (takers p a (map whole (focuses side)))
      unfolding takers
      side_moved e =
          let j = a.next in
          let qs = focuses side in
          ap (λ os. map (met_arrival S) (flat_map (joined arrange (located gives a)) os)) (offers_spots j side)
          ∙ ap (map (met_arrival S)) (flat_map_flat_map (joined arrange (located gives a)) _ qs) ∙ map_flat_map (met_arrival S) _ qs
          ∙ flat_map_every (every_map (λ q s.
          ap (map (met_arrival S)) (flat_map_map _ (located (leaves_at j q)) (offers_of q.thread j))
          ∙ map_flat_map (met_arrival S) _ (offers_of q.thread j)
          ∙ ap (λ f. flat_map f (offers_of q.thread j)) (fun_ext λ b.
          joined_moved S arrange gives (leaves_at j q) (λ w. reached (between p (whole q) w)) a b (e q s b))
          ∙ sym (map_flat_map _ (matching a) (offers_of q.thread j))
          ∙ sym (map-map reached (between p (whole q)) (flat_map (matching a) (offers_of q.thread j)))) (spots_stand side))
          ∙ sym (map_flat_map reached _ qs)
          ∙ ap (map reached) (sym (flat_map_map _ whole qs))

    -- A taker left of the sender, and one right of it.
    abbrev to_left : Places
    to_left c d = d ++ c ++ threads_of p.behind

    abbrev to_right : Places
    to_right c d = threads_of p.before ++ c ++ d

    module _ (q : Focus) (b : LocatedOffer) where
      abbrev sends : List Placed
      sends = replaced_in p.thread a.place S.next (sender_rest (pair_of a b))

      abbrev takes : List Placed
      takes = replaced_in q.thread b.place a.next (taker_rest (pair_of a b))

      sends_threads : threads_of sends ≡ gives a.place (threads_of (sender_rest (pair_of a b)))
      sends_threads = leaves_threads S.next p.thread a.place (sender_rest (pair_of a b))

      takes_threads : threads_of (q.before ++ (takes ++ q.behind))
          ≡ leaves_at a.next q b.place (threads_of (taker_rest (pair_of a b)))
      takes_threads =
          threads_around q.before takes q.behind
          ∙ ap (λ r. threads_of q.before ++ r ++ threads_of q.behind)
          (leaves_threads a.next q.thread b.place (taker_rest (pair_of a b)))

      left_reached : Stands p.before q
          → Leads S to_left gives (leaves_at a.next q) (λ w. reached (between p (left_of p q) w)) a b
      unfolding outcome
      left_reached s =
          met-arrival S (pair_of a b) _ (both_exchanged p sends (left_of p q) takes (focuses ps))
          (ap threads_of (exchanged_left ps p h sends q takes s)
          ∙ threads_around (q.before ++ (takes ++ q.behind)) sends p.behind
          ∙ ap₂ to_left sends_threads takes_threads)

      right_reached : Stands p.behind q
          → Leads S to_right gives (leaves_at a.next q) (λ w. reached (between p (right_of p q) w)) a b
      unfolding outcome
      right_reached s =
          met-arrival S (pair_of a b) _ (both_exchanged p sends (right_of p q) takes (focuses ps))
          (ap threads_of (exchanged_right ps p h sends q takes s)
          ∙ threads_around p.before sends (q.before ++ (takes ++ q.behind))
          ∙ ap₂ to_right sends_threads takes_threads)

    -- So all that an offer of the sender's thread leads to: the takers left of it, and then those right of it.
    sender_moved : let o = located gives a in
        map (met_arrival S) (flat_map (joined to_left o) (offers a.next (threads_of p.before))
        ++ flat_map (joined to_right o) (offers a.next (threads_of p.behind)))
        ≡ map reached (takers p a (others p (focuses ps)))
    sender_moved =
        let o = located gives a in
        let ls = map (left_of p) (focuses p.before) in
        let rs = map (right_of p) (focuses p.behind) in
        map-append (met_arrival S) (flat_map (joined to_left o) (offers a.next (threads_of p.before))) _
        ∙ ap₂ ◌++◌
        (side_moved to_left p.before (λ q. q.before) (λ q. q.behind ++ (p.thread ∷ p.behind)) (λ q s b. left_reached q b s))
        (side_moved to_right p.behind (λ q. p.before ++ (p.thread ∷ []) ++ q.before) (λ q. q.behind) (λ q s b. right_reached q b s))
        ∙ sym (ap (λ qs. map reached (takers p a qs)) (others_are ps p h) ∙ ap (map reached) (takers_append p a ls rs)
        ∙ map-append reached (takers p a ls) (takers p a rs))

  meetings_moved : (p : Focus) → Stands ps p
      → map (met_arrival S) (pairs_at S.next (cut_of p)) ≡ map reached (meetings S.next (focuses ps) p)
  unfolding pairs_at meetings
  meetings_moved p h =
      let os = offers_of p.thread S.next in
      ap (map (met_arrival S)) (ap (flat_map _) (offers_thread S.next p.thread) ∙ flat_map_map _ _ os) ∙ map_flat_map (met_arrival S) _ os
      ∙ ap (λ f. flat_map f os) (fun_ext (sender_moved p h)) ∙ sym (map_flat_map reached _ os)

pub silents_moved : SilentsMoved
unfolding arrivals silent_moves
silents_moved ps S x e =
    let k = S.next in
    ap (λ ts. map (met_arrival S) (silents k ts)) (sym e) ∙ ap (map (met_arrival S)) (silents_among k (threads_of ps))
    ∙ map-append (met_arrival S) (among framed silent_of k (threads_of ps)) _
    ∙ ap₂ ◌++◌ (insides_moved ps S x)
    (ap (map (met_arrival S)) (cuts_spots (pairs_at k) ps) ∙ map_flat_map (met_arrival S) _ (focuses ps)
    ∙ flat_map_every (every_map (meetings_moved ps S x) (spots_stand ps)) ∙ sym (map_flat_map _ (meetings k (focuses ps)) (focuses ps)))
    ∙ sym (map-append _ (flat_map (λ p. map (inside p) (copy_steps_of p.thread k)) (focuses ps)) _)
