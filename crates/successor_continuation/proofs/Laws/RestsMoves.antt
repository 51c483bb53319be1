-- The threads and the offers of a step of a state: where they stand in their lists, and at which private names ("Steps").
use Prim.Native.Nat.{ℕ, ◌+◌, ◌≤◌}
use native.Mathlib.Omega.{arith}
use native.Mathlib.Nat.{le_refl}
use mathlib.Core.Path.{◌≡◌, refl, sym, ap}
use mathlib.Core.Bool.{Bool, true, false}
use mathlib.Core.List.{List, [], ◌∷◌, ◌++◌, append_assoc}
use Rattle.meaning.specs.Messages.Term.{Message}
use Rattle.meaning.specs.Messages.Normal.{equal}
use Rattle.meaning.specs.Bytes.Process.{Prefix, output, input, Process}
use Rattle.meaning.specs.Places.{Every, none, ◌also◌}
use Rattle.meaning.specs.Steps.State.{Bound, ◌▸◌, written, names}
use Rattle.meaning.proofs.Every.{every_map, every_joined}
use Rattle.state_record.specs.Place.{then_at, else_at}
use Rattle.state_record.specs.Record.{Placed, process_of, bound_of}
use Rattle.state_head.specs.News.{news, later_news}
use Rattle.state_head.proofs.Laws.TraversalResult.{names-fit}
use Rattle.state_head.proofs.Laws.Fits.{later_fewer}
use Rattle.step_located.specs.Located.{LocatedOffer, located_offers, prefixed}
use Rattle.step_located.specs.CopyStep.{Pair, matching, CopyStep, pair_of}
use Rattle.step_located.specs.Sought.{wanted, offers_except, Opened, copies}
use Rattle.step_located.proofs.Laws.Everywhere.{every_and, every_mapped, every_flat_map, matching_every}
use Rattle.step_transition.specs.Focus.{Focus, focuses, offers_of, copies_of}
use Rattle.step_transition.specs.Moves.{Move, alone, inside, between, offered, labelled_moves, others, takers, meetings, silent_moves}
use Rattle.step_transition.specs.Outcome.{bound_after}
use Rattle.step_transition.specs.CopyOffers.{copy_offers, outputs, inputs, takers_at, excluded_by, pairs_of, pairs_from, senders, copy_step_with, moved}
use Rattle.step_transition.specs.CopyMoves.{group_moves, copy_moves}
use Rattle.step_transition.specs.Behind.{moves_of}
use Rattle.step_label.specs.declared.step.Label.{Label}
use Rattle.step_label.specs.declared.step.Label.TheVariants.{Output, Input, Silent}
use Rattle.step_transition.proofs.Laws.MovesFocuses.{Stands, spots_stand}
use Rattle.step_transition.proofs.Laws.Opened.{names_later, Acts, acting_all}
use Rattle.step_transition.proofs.Laws.CopyMoves.{pairs_flat, silent_moves_parts}
use Rattle.step_transition.proofs.Laws.MovesLists.{every_filter}
use Rattle.successor_continuation.proofs.Laws.Counting.{some_offers}

-- An element of a list, with what comes before it and after it.
module _ {A : Type 0} where
  pub record Among (xs : List A) (x : A) : Type 0 where
    pub before : List A
    pub after : List A
    pub listed : xs ≡ before ++ (x ∷ after)

  among_later : (y : A) {xs : List A} (x : A) → Among xs x → Among (y ∷ xs) x
  among_later y x h = record { before = y ∷ h.before; after = h.after; listed = ap (λ r. y ∷ r) h.listed }

  pub among_all : (xs : List A) → Every (Among xs) xs
  among_all [] = none
  among_all (x ∷ xs) = record { before = []; after = xs; listed = refl } also every_map (among_later x) (among_all xs)

  among_left : {xs : List A} (ys : List A) (x : A) → Among xs x → Among (xs ++ ys) x
  among_left ys x h = record {
    before = h.before;
    after = h.after ++ ys;
    listed = rw h.listed (append_assoc h.before (x ∷ h.after) ys);
  }

  among_right : (xs : List A) {ys : List A} (x : A) → Among ys x → Among (xs ++ ys) x
  among_right xs x h = record {
    before = xs ++ h.before;
    after = h.after;
    listed = rw h.listed (sym (append_assoc xs h.before (x ∷ h.after)));
  }

-- The offers of the copy of a repl thread are some of these, and it has at most so many `new` nodes.
record CopyPart (offers : List LocatedOffer) (most : ℕ) (w : Opened) : Type 0 where
  part :
      Every (Among offers) (located_offers w.copied (w.place + 1) w.bound w.opens (names w.copied w.bound w.opens))
  few : news w.copied ≤ most

more_offers : {xs ys : List LocatedOffer} {m n : ℕ} → ((a : LocatedOffer) → Among xs a → Among ys a) → m ≤ n → (w : Opened) → CopyPart xs m w
    → CopyPart ys n w
more_offers f l w h = record { part = every_map f h.part; few = omega (arith, h.few) }

copies_part : (P : Process) (at : ℕ) (ρ : Bound) (n k : ℕ) → Every (CopyPart (located_offers P at ρ n k) (later_news P)) (copies P at ρ n k)
unfolding copies located_offers
copies_part Process.nil at ρ n k = none
copies_part (Process.new P) at ρ n k = copies_part P _ _ _ k
copies_part (Process.act p P) at ρ n k = none
copies_part (Process.if M N P Q) at ρ n k = of (equal (written ρ M) (written ρ N)) (copies_part P _ ρ n k) (copies_part Q _ ρ n k)
  where
    of : (b : Bool) → Every (CopyPart (located_offers P (then_at at M N) ρ n k) (later_news P)) (copies P (then_at at M N) ρ n k)
        → Every (CopyPart (located_offers Q (else_at at M N P) ρ n k) (later_news Q)) (copies Q (else_at at M N P) ρ n k)
        → Every (CopyPart (elim b [ true ↦ located_offers P (then_at at M N) ρ n k | false ↦ located_offers Q (else_at at M N P) ρ n k ])
        (later_news P + later_news Q)) (elim b [ true ↦ copies P (then_at at M N) ρ n k | false ↦ copies Q (else_at at M N P) ρ n k ])
    of true f g = every_map (more_offers (λ a h. h) (omega arith)) f
    of false f g = every_map (more_offers (λ a h. h) (omega arith)) g
copies_part (Process.let_in M P) at ρ n k = copies_part P _ _ n k
copies_part (Process.par P Q) at ρ n k =
    every_joined (every_map (more_offers (among_left _) (omega arith)) (copies_part P (at + 1) ρ n k))
    (every_map (more_offers (among_right (located_offers P (at + 1) ρ n k)) (omega arith)) (copies_part Q _ ρ _ k))
copies_part (Process.repl P) at ρ n k =
    every_joined (every_map (more_offers (λ a h. h) (later_fewer P)) (copies_part P (at + 1) ρ k (names P ρ k)))
    (record { part = among_all (located_offers P (at + 1) ρ k (names P ρ k)); few = le_refl (news P) } also none)

-- What sends binds no message, and what takes binds the one that it takes.
pub record BindsNothing (a : LocatedOffer) : Type 0 where
  pub bound : (z : Message) → bound_after z a ≡ a.bound

pub record BindsMessage (a : LocatedOffer) : Type 0 where
  pub bound : (z : Message) → bound_after z a ≡ a.bound ▸ z

wanted_sends : (from : ℕ) (x : Message) (a : LocatedOffer) → wanted (outputs from) x a ≡ true → BindsNothing a
unfolding wanted
wanted_sends from x a = of a.prefix
  where
    of : (q : Prefix) → wanted (outputs from) x (prefixed a q) ≡ true → BindsNothing (prefixed a q)
    of (output C M) e = record { bound = λ z. refl }
    of (input C) e = absurd (let z : ◌≡◌ {A = ℕ} 0 1 = cc in omega arith)

wanted_takes : (from excluded : ℕ) (x : Message) (a : LocatedOffer) → wanted (inputs from excluded) x a ≡ true → BindsMessage a
unfolding wanted
wanted_takes from excluded x a = of a.prefix
  where
    of : (q : Prefix) → wanted (inputs from excluded) x (prefixed a q) ≡ true → BindsMessage (prefixed a q)
    of (output C M) e = absurd (let z : ◌≡◌ {A = ℕ} 0 1 = cc in omega arith)
    of (input C) e = record { bound = λ z. refl }

matching_both : {Q : Pair → Type 0} (a c : LocatedOffer) → (BindsNothing a → BindsMessage c → Q (pair_of a c)) → Every Q (matching a c)
matching_both {Q} a c =
    matching_every (λ a c. BindsNothing a → BindsMessage c → Q (pair_of a c)) a c (λ C M D h. h (record { bound = λ z. refl }) (record { bound = λ z. refl }))

-- The offers in a copy once more, and those of a second one, which come after the second name.
abbrev CopyActs : (arity : ℕ) → Opened → LocatedOffer → Type 0
CopyActs arity w a = Every (Acts a.next (news w.copied)) (copy_offers (excluded_by arity a) (takers_at arity w a) w)

acts_one : (w : Opened) (a : LocatedOffer) → CopyActs 1 w a
unfolding copy_offers
acts_one w a =
    some_offers _ w.copied _ w.bound w.opens a.next
    (every_map (λ b h. record { later = h.later; small = omega (arith, h.small, later_fewer w.copied) })
    (acting_all w.copied _ w.bound w.opens a.next))

acts_two : (w : Opened) (a : LocatedOffer) → CopyActs 2 w a
unfolding copy_offers
acts_two w a =
    let from = names_later w.copied w.bound a.next in
    let fit = names-fit w.copied w.bound a.next in
    some_offers _ w.copied _ w.bound a.next _
    (every_map (λ b h. record { later = omega (arith, h.later, from); small = omega (arith, h.small, fit) })
    (acting_all w.copied _ w.bound a.next (names w.copied w.bound a.next)))

-- A step of two threads.
pub record Shared (k : ℕ) (ps : List Placed) (p q : Focus) (v : Pair) : Type 0 where
  pub sending : Stands ps p
  pub taking : Stands ps q
  pub sender : Among (offers_of p.thread k) v.sender
  pub taker : Among (offers_of q.thread v.sender.next) v.taker
  pub sends : BindsNothing v.sender
  pub takes : BindsMessage v.taker

-- A step of one thread, in its copies.
pub record Joined (k : ℕ) (ps : List Placed) (p : Focus) (j : CopyStep) : Type 0 where
  pub stands : Stands ps p
  pub arity : ℕ
  pub low : 1 ≤ arity
  pub high : arity ≤ 2
  pub copy : Opened
  pub same : j ≡ copy_step_with arity copy j.pair
  pub listed : Among (copies_of p.thread k) copy
  pub few : news copy.copied ≤ later_news (process_of p.thread.thread)
  pub sender : Among (offers_of p.thread k) j.pair.sender
  pub later : names copy.copied copy.bound copy.opens ≤ j.pair.sender.next
  pub taker : Among (copy_offers (excluded_by arity j.pair.sender) (takers_at arity copy j.pair.sender) copy) j.pair.taker
  pub small : Acts j.pair.sender.next (news copy.copied) j.pair.taker
  pub sends : BindsNothing j.pair.sender
  pub takes : BindsMessage j.pair.taker

-- Where the threads and the offers of a step stand.
abbrev pub Stood : (k : ℕ) → List Placed → Move → Type 0
Stood k ps (alone p a) = Stands ps p × Among (offers_of p.thread k) a
Stood k ps (between p q v) = Shared k ps p q v
Stood k ps (inside p j) = Joined k ps p j

module _ (k : ℕ) (ps : List Placed) where
  labelled_stood : (sending : Bool) (x : Message) → Every (Stood k ps) (labelled_moves sending x k ps)
  unfolding labelled_moves offered
  labelled_stood sending x =
      every_flat_map _ (every_map (λ p s.
      every_mapped (alone p) (every_filter _ (every_map (λ a m e. (s, m)) (among_all (offers_of p.thread k))))) (spots_stand ps))

  meetings_stood : (p : Focus) → Stands ps p → Every (Stood k ps) (meetings k (focuses ps) p)
  unfolding meetings takers others
  meetings_stood p s =
      every_flat_map _ (every_map (λ a m.
      every_flat_map _ (every_filter _ (every_map (λ q t e.
      every_mapped (between p q) (every_flat_map (matching a) (every_map (λ c n.
      matching_both a c (λ f g. record { sending = s; taking = t; sender = m; taker = n; sends = f; takes = g }))
      (among_all (offers_of q.thread a.next))))) (spots_stand ps)))) (among_all (offers_of p.thread k)))

  -- The pairs of a repl thread, of one copy or of two.
  moved_stood : (p : Focus) → Stands ps p → (arity : ℕ) → 1 ≤ arity → arity ≤ 2 → (w : Opened) → Among (copies_of p.thread k) w
      → CopyPart (offers_of p.thread k) (later_news (process_of p.thread.thread)) w → ((a : LocatedOffer) → CopyActs arity w a)
      → Every (Stood k ps) (moved p arity w (pairs_from arity w 0 (senders w 0)))
  unfolding senders pairs_of copy_offers offers_except
  moved_stood p s arity low high w m c acts =
      let own = names w.copied w.bound w.opens in
      every_mapped (λ v. inside p (copy_step_with arity w v)) {xs = pairs_from arity w 0 (senders w 0)}
      (rw (pairs_flat arity w (senders w 0))
      (every_flat_map _ (every_filter _ (every_map (λ a (among, first) e.
      every_mapped (λ b. record { sender = a; taker = b }) (every_filter _ (every_map (λ b (placed, next) f. record {
        stands = s;
        arity = arity;
        low = low;
        high = high;
        copy = w;
        same = refl;
        listed = m;
        few = c.few;
        sender = among;
        later = first.later;
        taker = placed;
        small = next;
        sends = wanted_sends 0 _ a e;
        takes = wanted_takes 0 _ _ b f;
      }) (every_and (among_all _) (acts a)))))
      (every_and c.part (acting_all w.copied (w.place + 1) w.bound w.opens own))))))

  silent_stood : Every (Stood k ps) (silent_moves k ps)
  unfolding copy_moves group_moves
  silent_stood =
      rw (silent_moves_parts k ps)
      (every_joined (every_flat_map _ (every_map (λ p s.
      every_flat_map (group_moves p) (every_map (λ w (m, c).
      every_joined (moved_stood p s 1 (omega arith) (omega arith) w m c (acts_one w))
      (moved_stood p s 2 (omega arith) (omega arith) w m c (acts_two w)))
      (every_and (among_all (copies_of p.thread k))
      (copies_part (process_of p.thread.thread) p.thread.place (bound_of p.thread.thread) 0 k)))) (spots_stand ps)))
      (every_flat_map _ (every_map (λ p s. meetings_stood p s) (spots_stand ps))))

  pub moves_stood : (l : Label) (x : Message) → Every (Stood k ps) (moves_of l x k ps)
  moves_stood Output x = labelled_stood true x
  moves_stood Input x = labelled_stood false x
  moves_stood Silent x = silent_stood
