-- What is left of the silent steps in copies after one of them ("Steps").
use Prim.Native.Nat.{ℕ, ◌+◌, ◌≤◌}
use native.Mathlib.Omega.{arith}
use mathlib.Core.Path.{◌≡◌, refl, sym, ◌∙◌, ap, ap₂, subst}
use mathlib.Core.Bool.{true, false}
use mathlib.Core.Logic.{inl, inr}
use mathlib.Core.List.{List, [], ◌∷◌, ◌++◌, map, append-nil, flat_map}
use lib.Dec.{eqb}
use Rattle.meaning.specs.Messages.Term.{leaf, public}
use Rattle.meaning.specs.Steps.Offer.{Split, here, there}
use Rattle.meaning.proofs.Every.{every_split}
use Rattle.state_record.specs.Record.{Placed}
use Rattle.step_located.specs.Located.{LocatedOffer}
use Rattle.step_located.specs.CopyStep.{Pair, CopyStep}
use Rattle.step_located.specs.Sought.{wanted, Opened}
use Rattle.step_located.proofs.Laws.Copies.{split_joined, split_at}
use Rattle.step_transition.specs.Focus.{Focus, focuses, focuses_from, copies_of, filter}
use Rattle.step_transition.specs.Moves.{Move, inside}
use Rattle.step_transition.specs.Step.{arity_of}
use Rattle.step_transition.specs.CopyOffers.{copy_offers, inputs, channel_of, takers_at, excluded_by, pairs_of, pairs_from, senders, copy_step_with, moved, outputs}
use Rattle.step_transition.specs.CopyMoves.{group_moves, copy_moves, later_focuses, copy_moves_from}
use Rattle.step_transition.specs.Resumption.{Resumed, CopyMovesResumed}
use Rattle.step_transition.proofs.Laws.MovesFocuses.{spots_stand}
use Rattle.step_transition.proofs.Laws.CopyMoves.{pairs_flat}
use Rattle.step_transition.proofs.Laws.SplitLists.{split_flat_map, split_map, split_parts, resumed}
use Rattle.step_transition.proofs.Laws.CopyMovesOrder.{copy_rising}

-- After a pair come those of its sender with later takers, and then those of later senders.
module _ (arity : ℕ) (w : Opened) where
  -- The takers of a sender a that are wanted from the position y on.
  abbrev takers_from : ℕ → LocatedOffer → List LocatedOffer
  takers_from y a = filter (wanted (inputs y (excluded_by arity a)) (channel_of a)) (copy_offers (excluded_by arity a) (takers_at arity w a) w)

  pairs-left : {a : LocatedOffer} (b : LocatedOffer) {post later : List LocatedOffer} → senders w a.place ≡ a ∷ post → takers_from (b.place + 1) a ≡ later
      → pairs_from arity w (b.place + 1) (senders w a.place)
      ≡ map (λ c. record { sender = a; taker = c }) later ++ flat_map (pairs_of arity w 0) post
  unfolding pairs_from pairs_of
  pairs-left {a} b {post} e f =
      ap (pairs_from arity w (b.place + 1)) e ∙ ap₂ ◌++◌ (ap (map (λ c. record { sender = a; taker = c })) f) (pairs_flat arity w post)

  pub pairs_resumed : (before after : List Pair) (v : Pair) → pairs_from arity w 0 (senders w 0) ≡ before ++ (v ∷ after)
      → pairs_from arity w (v.taker.place + 1) (senders w v.sender.place) ≡ after
  unfolding pairs_of senders
  pairs_resumed before after v e =
      let m = split_flat_map (pairs_of arity w 0) (senders w 0) (split_at before (sym (pairs_flat arity w (senders w 0)) ∙ e)) in
      let a = m.at in
      let (l, b, r, s, f, g) = split_map (λ c. record { sender = a; taker = c }) (takers_from 0 a) m.inner in
      let sending = (resumed (outputs 0) (leaf (public 0)) 0 (copy_rising 0 _ w) m.outer).0 in
      let taking = (resumed (inputs 0 (excluded_by arity a)) (channel_of a) 0 (copy_rising (excluded_by arity a) (takers_at arity w a) w) s).1 in
      subst (λ v. pairs_from arity w (v.taker.place + 1) (senders w v.sender.place) ≡ after) (sym f)
      (pairs-left b sending taking ∙ ap (λ u. u ++ flat_map (pairs_of arity w 0) m.post) (sym g) ∙ sym m.follows)

-- The threads behind one.
spots_later : (ls ts : List Placed) {l r : List Focus} {p : Focus} → Split (focuses_from ls ts) l p r → r ≡ later_focuses p
unfolding focuses_from
spots_later ls [] s = elim s [ ]
spots_later ls (t ∷ ts) here = refl
spots_later ls (t ∷ ts) (there s) = spots_later (ls ++ (t ∷ [])) ts s

-- What is left of the pairs of one copy, or of two; and those of two copies, if they are to come yet.
abbrev pairs_left : Focus → Opened → (arity : ℕ) → Pair → List Move
pairs_left q w arity v = moved q arity w (pairs_from arity w (v.taker.place + 1) (senders w v.sender.place))

abbrev two_copies : Focus → Opened → (arity : ℕ) → List Move
two_copies q w arity = elim (eqb arity 1) [ true ↦ moved q 2 w (pairs_from 2 w 0 (senders w 0)) | false ↦ [] ]

-- The step j of the thread p is one of this repl thread of q, and r comes after it.
record Grouped (q : Focus) (w : Opened) (p : Focus) (j : CopyStep) (r : List Move) : Type 0 where
  own : p ≡ q
  meant : w.place ≡ j.place
  arity_low : 1 ≤ arity_of j
  arity_high : arity_of j ≤ 2
  left : pairs_left q w (arity_of j) j.pair ++ two_copies q w (arity_of j) ≡ r

module _ (q : Focus) (w : Opened) {p : Focus} {j : CopyStep} where
  moved_resumed : (arity : ℕ) {l r : List Move} → Split (moved q arity w (pairs_from arity w 0 (senders w 0))) l (inside p j) r
      → (v : Pair) × (p ≡ q) × (j ≡ copy_step_with arity w v) × (pairs_left q w arity v ≡ r)
  moved_resumed arity s =
      let (l, v, r, t, e, f) = split_map (λ v. inside q (copy_step_with arity w v)) (pairs_from arity w 0 (senders w 0)) s in
      let g = pairs_resumed arity w l r v (split_parts t) in
      (v, cc, cc, ap (moved q arity w) g ∙ sym f)

  group_resumed : {l r : List Move} → Split (group_moves q w) l (inside p j) r → Grouped q w p j r
  unfolding group_moves
  group_resumed {r} s =
      elim (split_joined (moved q 1 w (pairs_from 1 w 0 (senders w 0))) s) [
        | inl t ↦
            let (r', u, h) = t in
            let (v, e, f, g) = moved_resumed 1 u in
            subst (λ i. Grouped q w p i r) (sym f) (record {
              own = e;
              meant = refl;
              arity_low = omega arith;
              arity_high = omega arith;
              left = ap (λ r. r ++ two_copies q w 1) g ∙ sym h;
            })
        | inr t ↦
            let (v, e, f, g) = moved_resumed 2 t.1 in
            subst (λ i. Grouped q w p i r) (sym f) (record {
              own = e;
              meant = refl;
              arity_low = omega arith;
              arity_high = omega arith;
              left = append-nil (pairs_left q w 2 v) ∙ g;
            })
      ]

-- With the repl threads after it, and the threads behind: what comes after in the group, in the thread and in the whole list.
whole_left : (k : ℕ) (q : Focus) (w : Opened) (post : List Opened) (arity : ℕ) (v : Pair) {group thread after : List Move} {later : List Focus}
    → pairs_left q w arity v ++ two_copies q w arity ≡ group → thread ≡ group ++ flat_map (group_moves q) post → later ≡ later_focuses q
    → after ≡ thread ++ copy_moves k later → copy_moves_from k q arity w post v.sender.place (v.taker.place + 1) ≡ after
unfolding copy_moves_from
whole_left k q w post arity v {thread} e f g h =
    let behind = copy_moves k (later_focuses q) in
    ap (λ r. r ++ flat_map (group_moves q) post ++ behind) e ∙ ap (λ r. r ++ behind) (sym f)
    ∙ ap (λ qs. thread ++ copy_moves k qs) (sym g) ∙ sym h

pub copy_moves_resumed : CopyMovesResumed
unfolding copy_moves
copy_moves_resumed k ps before after p j e =
    let m = split_flat_map (λ p. flat_map (group_moves p) (copies_of p.thread k)) (focuses ps) (split_at before e) in
    let q = m.at in
    let n = split_flat_map (group_moves q) (copies_of q.thread k) m.inner in
    let g = group_resumed q n.at n.inner in
    subst (λ p. Resumed k ps after p j) (sym g.own) (record {
      pre = n.pre;
      w = n.at;
      post = n.post;
      listed = split_parts n.outer;
      parts = (every_split m.outer (spots_stand ps)).1.parts;
      meant = g.meant;
      arity_low = g.arity_low;
      arity_high = g.arity_high;
      left =
          whole_left k q n.at n.post (arity_of j) j.pair g.left n.follows (spots_later [] ps m.outer) m.follows;
    })
