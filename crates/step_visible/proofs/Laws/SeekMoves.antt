-- The first offer among threads as the first of the moves with a label ("Steps").
use mathlib.Core.Path.{◌≡◌, refl, ◌∙◌, ap}
use mathlib.Core.Bool.{Bool, true, false}
use mathlib.Core.Logic.{◌⊎◌, inl, inr}
use mathlib.Core.List.{List, [], ◌∷◌, ◌++◌, map, flat_map, append_assoc}
use Prim.Native.Nat.{ℕ, ◌+◌, ◌≤◌}
use native.Mathlib.Omega.{arith}
use lib.Dec.{eqb}
use lib.ListN.{length, length-append}
use borrow.Author.Tests.{ne_eqb}
use Rattle.meaning.specs.Messages.Term.{Message}
use Rattle.meaning.specs.Steps.Offer.{Split}
use Rattle.state_record.specs.Record.{Placed, process_of, bound_of, encode_record, encode_records}
use Rattle.state_task.specs.declared.task.Quest.{Quest}
use Rattle.step_located.specs.Located.{LocatedOffer}
use Rattle.step_located.specs.Sought.{wanted}
use Rattle.step_located.proofs.Laws.Increasing.{Increasing, acting_increasing}
use Rattle.step_located.proofs.Laws.Copies.{split_none, split_joined, split_at}
use Rattle.step_transition.specs.Focus.{Focus, focuses_from, record_at, offers_of, filter}
use Rattle.step_transition.specs.Moves.{Move, alone, inside, between, labelled, offered}
use Rattle.step_transition.proofs.Laws.SplitLists.{split_map, split_parts, resumed}
use Rattle.step_transition.proofs.Laws.Records.{record_long, records_further}
use Rattle.step_offer.specs.Seek.{Sight, unseen, seen, first_of, first_among}
use Rattle.step_visible.specs.Labelled.{labelled_from}
use Rattle.step_offer.proofs.Laws.Seek.{among_sought}

-- The offer of the first move.
abbrev pub sight_of : (start : ℕ) → List Move → Sight
sight_of start [] = unseen
sight_of start (alone p a ∷ ws) = seen (record_at start p) a
sight_of start (inside p w ∷ ws) = unseen
sight_of start (between p q w ∷ ws) = unseen

module _ (start : ℕ) (sending : Bool) (x : Message) (p : Focus) (ws : List Move) where
  -- The first offer of a thread is its first move.
  first_offered : (q : Quest) (os : List LocatedOffer)
      → first_of q x (record_at start p) os (sight_of start ws) ≡ sight_of start (map (alone p) (filter (wanted q x) os) ++ ws)
  unfolding first_of filter
  first_offered q [] = refl
  first_offered q (a ∷ os) = by_test (first_offered q os) (wanted q x a)
    where
      by_test : first_of q x (record_at start p) os (sight_of start ws) ≡ sight_of start (map (alone p) (filter (wanted q x) os) ++ ws)
          → (b : Bool)
          → elim b [ true ↦ seen (record_at start p) a | false ↦ first_of q x (record_at start p) os (sight_of start ws) ]
          ≡ sight_of start (map (alone p) (elim b [ true ↦ a ∷ filter (wanted q x) os | false ↦ filter (wanted q x) os ]) ++ ws)
      by_test e true = refl
      by_test e false = e

  -- After an offer comes the first of those behind its position.
  after_offer : {low : ℕ} {os front back : List LocatedOffer} {a : LocatedOffer} → Increasing low os
      → Split (filter (wanted (labelled sending) x) os) front a back
      → first_of (labelled_from sending (a.place + 1)) x (record_at start p) os (sight_of start ws) ≡ sight_of start (map (alone p) back ++ ws)
  after_offer {os = os} {a = a} h s =
      first_offered (labelled_from sending (a.place + 1)) os
      ∙ ap (λ r. sight_of start (map (alone p) r ++ ws)) (resumed (labelled sending) x 0 h s).1

module _ (start skip k : ℕ) (sending : Bool) (x : Message) where
  -- The moves of threads, behind others.
  abbrev moves_from : (ls ts : List Placed) → List Move
  moves_from ls ts = flat_map (offered sending x k) (focuses_from ls ts)

  -- No record stands at a position behind all of them.
  apart : (ls : List Placed) (t : Placed) (ts : List Placed) → start + length (encode_records ls) + length (encode_records (t ∷ ts)) ≤ skip
      → eqb (start + length (encode_records ls)) skip ≡ false
  unfolding encode_records
  apart ls t ts l = ne_eqb _ skip (λ e. omega (arith, record_long t, length-append (encode_record t) (encode_records ts)))

  further : (ls : List Placed) (t : Placed) (ts : List Placed) → start + length (encode_records ls) + length (encode_records (t ∷ ts)) ≤ skip
      → (start + length (encode_records ls) + length (encode_record t) ≡ start + length (encode_records (ls ++ (t ∷ []))))
      × (start + length (encode_records (ls ++ (t ∷ []))) + length (encode_records ts) ≤ skip)
  unfolding encode_records
  further ls t ts l =
      let more = records_further ls t in
      let both = length-append (encode_record t) (encode_records ts) in
      (omega arith, omega arith)

  -- The first offer among the threads is the first of their moves.
  pub spots_sought : (ls ts : List Placed) → start + length (encode_records ls) + length (encode_records ts) ≤ skip
      → first_among (labelled sending) x k skip (start + length (encode_records ls)) ts ≡ sight_of start (moves_from ls ts)
  unfolding first_among flat_map focuses_from offered
  spots_sought ls [] l = refl
  spots_sought ls (t ∷ ts) l =
      let (here, l₁) = further ls t ts l in
      let p : Focus = record { before = ls; thread = t; behind = ts } in
      let rest = spots_sought (ls ++ (t ∷ [])) ts l₁ in
      among_sought (labelled sending) x k skip (start + length (encode_records ls)) t ts (apart ls t ts l)
      ∙ ap (λ (s : Sight). first_of (labelled sending) x (start + length (encode_records ls)) (offers_of t k) s)
      (ap (λ (n : ℕ). first_among (labelled sending) x k skip n ts) here ∙ rest)
      ∙ first_offered start sending x p (moves_from (ls ++ (t ∷ [])) ts) (labelled sending) (offers_of t k)

  -- After a move, it is the first of the moves that come later, and the thread of the move is one of the threads.
  pub record Continues (ps : List Placed) (p : Focus) (a : LocatedOffer) (after : List Move) : Type 0 where
    pub splits : ps ≡ p.before ++ (p.thread ∷ p.behind)
    pub later : first_among (labelled_from sending (a.place + 1)) x k skip (record_at start p) (p.thread ∷ p.behind) ≡ sight_of start after

  pub spots_later : (ls ts : List Placed) → start + length (encode_records ls) + length (encode_records ts) ≤ skip
      → (before : List Move) (p : Focus) (a : LocatedOffer) (after : List Move) → moves_from ls ts ≡ before ++ (alone p a ∷ after)
      → Continues (ls ++ ts) p a after
  unfolding flat_map focuses_from offered
  spots_later ls [] l before p a after e = absurd (split_none (split_at before e))
  spots_later ls (t ∷ ts) l before p a after e =
      let (next, l₁) = further ls t ts l in
      of (next, spots_sought (ls ++ (t ∷ [])) ts l₁) (λ before e. spots_later (ls ++ (t ∷ [])) ts l₁ before p a after e)
      (split_joined own (split_at before e))
    where
      focus : Focus
      focus = record { before = ls; thread = t; behind = ts }

      own : List Move
      own = map (alone focus) (filter (wanted (labelled sending) x) (offers_of t k))

      rest : List Move
      rest = moves_from (ls ++ (t ∷ [])) ts

      Further : Type 0
      Further =
          (start + length (encode_records ls) + length (encode_record t) ≡ start + length (encode_records (ls ++ (t ∷ []))))
          × (first_among (labelled sending) x k skip (start + length (encode_records (ls ++ (t ∷ [])))) ts ≡ sight_of start rest)

      here : Further → {front back : List LocatedOffer} {b : LocatedOffer} → Split (filter (wanted (labelled sending) x) (offers_of t k)) front b back
          → alone p a ≡ alone focus b → after ≡ map (alone focus) back ++ rest → Continues (ls ++ (t ∷ ts)) p a after
      here (on, next) {b = b} s i j =
          let same : p ≡ focus = cc in
          let acts : a ≡ b = cc in
          let stands = acting_increasing (process_of t.thread) t.place (bound_of t.thread) 0 k in
          let q = labelled_from sending (b.place + 1) in
          let shown = after_offer start sending x focus rest stands s in
          let sought = among_sought q x k skip (start + length (encode_records ls)) t ts (apart ls t ts l)
          ∙ ap (λ (s : Sight). first_of q x (start + length (encode_records ls)) (offers_of t k) s)
          (ap (λ (n : ℕ). first_among (labelled sending) x k skip n ts) on ∙ next) ∙ shown in
          rw (same, acts, j) (record { splits = refl; later = sought })

      of : Further → ((before : List Move) → rest ≡ before ++ (alone p a ∷ after) → Continues (ls ++ (t ∷ []) ++ ts) p a after)
          → ((mid : List Move) × Split own before (alone p a) mid × (after ≡ mid ++ rest)) ⊎ ((earlier : List Move) × Split rest earlier (alone p a) after)
          → Continues (ls ++ (t ∷ ts)) p a after
      of more on (inl (mid, s, g)) =
          let (front, b, back, c, i, j) = split_map (alone focus) (filter (wanted (labelled sending) x) (offers_of t k)) s in
          here more c i (g ∙ ap (λ (l : List Move). l ++ rest) j)
      of more on (inr (earlier, s)) = rw (append_assoc ls (t ∷ []) ts) at (on earlier (split_parts s))
