-- The pairs of threads of a settled process are those with positions ("Steps").
use Prim.Native.Nat.{ℕ, ◌+◌}
use mathlib.Core.Path.{◌≡◌, refl, sym, ◌∙◌, ap, ap₂, fun_ext}
use mathlib.Core.Logic.{inl, inr}
use mathlib.Core.Bool.{Bool, true, false, true≢false}
use mathlib.Core.List.{List, [], ◌∷◌, ◌++◌, map, append-nil, append_assoc, flat_map}
use borrow.Author.Tests.{eq-eqb}
use Rattle.meaning.specs.Messages.Normal.{equal}
use Rattle.meaning.specs.Bytes.Process.{Prefix, output, input, Process}
use Rattle.meaning.specs.Places.{Every, none, ◌also◌}
use Rattle.meaning.specs.Steps.State.{Bound, written, Thread, act, repl, names, settle}
use Rattle.meaning.specs.Steps.Silent.{Meeting}
use Rattle.meaning.specs.Steps.Enumeration.{cuts, offers, joined, pairs_at}
use Rattle.meaning.proofs.Test.{chosen as tested}
use Rattle.meaning.proofs.Every.{every_map}
use Rattle.state_record.specs.Place.{then_at, else_at, right_at}
use Rattle.step_located.specs.Located.{LocatedOffer, located_offers, prefixed, without_place}
use Rattle.step_located.specs.CopyStep.{matching, located_offers_except, pairs, both_replaced, met, both_replaced_as}
use Rattle.step_located.proofs.Laws.Located.{new_part, then_part, else_part, let_part, left_part, right_part, repl_part, part_inside}
use Rattle.step_located.proofs.Laws.Located.{at_inside, left_only, acting_inside, replaced_act}
use Rattle.step_located.proofs.Laws.Located.{located, offers_none, offers_one, offers_located}
use Rattle.step_located.proofs.Laws.Block.{flat_map_append, flat_map_map, map_flat_map, flat_map_every, over_cuts, over_cuts_append, cuts_over}
use Rattle.step_located.proofs.Laws.Block.{Block, Within, block, ◌beside◌, Laws, Apart, beside_laws, block_laws}

-- Where the rests of two threads go.
abbrev pub Places : Type 0
Places = List Thread → List Thread → List Thread

-- The meetings of two offers, none or one.
abbrev pub joining : LocatedOffer → LocatedOffer → Places → List Meeting
joining a b f = joined f (located (λ x z. z) a) (located (λ x z. z) b)

module _ (a b : LocatedOffer) where
  -- Two offers of the definitions, and a pair, as such meetings.
  joined_located : (arrange : Places) (f g : ℕ → List Thread → List Thread)
      → joined arrange (located f a) (located g b) ≡ joining a b (λ x y. arrange (f a.place x) (g b.place y))
  unfolding joined
  joined_located arrange f g = each a.prefix b.prefix
    where
      each : (p q : Prefix) → joined arrange (located f (prefixed a p)) (located g (prefixed b q))
          ≡ joining (prefixed a p) (prefixed b q) (λ x y. arrange (f a.place x) (g b.place y))
      each (output C M) (output D N) = refl
      each (output C M) (input D) = refl
      each (input C) (output D N) = refl
      each (input C) (input D) = refl

  met_matching : (f : LocatedOffer → LocatedOffer → Places) → map (λ w. met w (f w.sender w.taker)) (matching a b) ≡ joining a b (f a b)
  unfolding joined matching met
  met_matching f = each a.prefix b.prefix
    where
      each : (p q : Prefix) → map (λ w. met w (f w.sender w.taker)) (matching (prefixed a p) (prefixed b q))
          ≡ joining (prefixed a p) (prefixed b q) (f (prefixed a p) (prefixed b q))
      each (output C M) (output D N) = refl
      each (output C M) (input D) =
          tested (λ ws ms. map (λ w. met w (f w.sender w.taker)) ws ≡ ms) (equal (written a.bound C) (written b.bound D))
          refl refl
      each (input C) (output D N) = refl
      each (input C) (input D) = refl

-- The pairs of each of the offers os with those that g gives for it.
pub met_pairs : (f : LocatedOffer → LocatedOffer → Places) (g : LocatedOffer → List LocatedOffer) (os : List LocatedOffer)
    → map (λ w. met w (f w.sender w.taker)) (flat_map (λ a. flat_map (matching a) (g a)) os)
    ≡ flat_map (λ a. flat_map (λ b. joining a b (f a b)) (g a)) os
met_pairs f g os =
    map_flat_map _ _ os
    ∙ ap (λ h. flat_map h os) (fun_ext λ a. map_flat_map _ (matching a) (g a) ∙ ap (λ h. flat_map h (g a)) (fun_ext λ b. met_matching a b f))

-- The meetings of the offers os with those of the other threads of a block.
senders : Block → ℕ → List LocatedOffer → List Meeting
senders W k os =
    flat_map (λ a. flat_map (λ b. joining a b (λ x y. W.put_both a.place x b.place y k a.next)) (W.besides a.place a.next)) os

-- An offer with all those of a block; and with all but those of its own thread, which is not in the block.
module _ {B : Block} (laws : Laws B) (arrange : Places) (f : ℕ → List Thread → List Thread) (a : LocatedOffer) where
  pub takers : (k : ℕ) → flat_map (joined arrange (located f a)) (offers k B.threads)
      ≡ flat_map (λ b. joining a b (λ x y. arrange (f a.place x) (B.put b.place y k))) (B.offering k)
  takers k =
      ap (flat_map (joined arrange (located f a))) (laws.offered k) ∙ flat_map_map _ _ (B.offering k)
      ∙ ap (λ g. flat_map g (B.offering k)) (fun_ext (λ b. joined_located a b arrange f (λ x z. B.put x z k)))

  besides_met : (g : LocatedOffer → Places) → ¬ (B.covers a.place)
      → ((b : LocatedOffer) → B.covers b.place → (x y : List Thread) → g b x y ≡ arrange (f a.place x) (B.put b.place y a.next))
      → flat_map (joined arrange (located f a)) (offers a.next B.threads)
      ≡ flat_map (λ b. joining a b (g b)) (B.besides a.place a.next)
  besides_met g out same =
      takers a.next ∙ flat_map_every (every_map (λ b i. ap (joining a b) (λ j x y. sym (same b i x y) j)) (laws.within a.next))
      ∙ ap (flat_map (λ b. joining a b (g b))) (sym (laws.everyone a.place a.next out))

-- Positions between two blocks that keep the laws: the blocks have none in common, and neither has one of these.
record Between (L : Block) (In : ℕ → Type 0) (R : Block) : Type 0 where
  before : Laws L
  after : Laws R
  before_apart : Apart L.covers In
  after_apart : Apart In R.covers
  apart : Apart L.covers R.covers

-- An offer of a single thread: no other offer is in that, and a second position changes nothing.
record Alone (B : Block) (k : ℕ) (a : LocatedOffer) : Type 0 where
  covered : B.covers a.place
  nobody : (j : ℕ) → B.besides a.place j ≡ []
  first : (zx : List Thread) (y : ℕ) (zy : List Thread) (j : ℕ) → B.put_both a.place zx y zy k j ≡ B.put a.place zx k

module _ (S : Block) {L R : Block} (h : Between L S.covers R) (k : ℕ) where
  abbrev whole : Block
  whole = L beside S beside R

  abbrev middle : ℕ → List Thread → List Thread
  middle x z = S.put x z k

  -- What one offer of the thread in the middle does with the takers left and right of it.
  module _ (a : LocatedOffer) (i : Alone S k a) where
    abbrev both : LocatedOffer → Places
    both b x y = whole.put_both a.place x b.place y k a.next

    not_before : ¬ (L.covers a.place)
    not_before o = h.before_apart a.place o i.covered

    not_after : ¬ (R.covers a.place)
    not_after o = h.after_apart a.place i.covered o

    both_is : (b : LocatedOffer) (x y : List Thread)
        → both b x y ≡ L.put b.place y a.next ++ S.put a.place x k ++ R.put b.place y a.next
    both_is b x y j =
        h.before.second a.place x b.place y k a.next not_before j ++ i.first x b.place y a.next j
        ++ h.after.second a.place x b.place y k a.next not_after j

    sender_met : flat_map (joined (λ u v. v ++ u ++ R.threads) (located middle a)) (offers a.next L.threads)
        ++ flat_map (joined (λ u v. L.threads ++ u ++ v) (located middle a)) (offers a.next R.threads)
        ≡ flat_map (λ b. joining a b (both b)) (whole.besides a.place a.next)
    sender_met =
        let left = L.besides a.place a.next in
        let right = R.besides a.place a.next in
        ap₂ ◌++◌
        (besides_met h.before (λ u v. v ++ u ++ R.threads) middle a both not_before (λ b o x y.
        both_is b x y ∙ ap (λ r. L.put b.place y a.next ++ S.put a.place x k ++ r)
        (h.after.still b.place y a.next (h.apart b.place o))))
        (besides_met h.after (λ u v. L.threads ++ u ++ v) middle a both not_after (λ b o x y.
        both_is b x y ∙ ap (λ r. r ++ S.put a.place x k ++ R.put b.place y a.next)
        (h.before.still b.place y a.next (λ q. h.apart b.place q o))))
        ∙ sym (flat_map_append _ left right)
        ∙ ap (λ u. flat_map (λ b. joining a b (both b)) (u ++ right)) (sym (ap (λ u. left ++ u) (i.nobody a.next) ∙ append-nil left))

  -- So the pairs of the definitions with a sender in that thread are those with positions.
  single_met : (t : Thread) → offers k (t ∷ []) ≡ map (located middle) (S.offering k) → Every (Alone S k) (S.offering k)
      → over_cuts (pairs_at k) L.threads (t ∷ []) R.threads ≡ senders whole k (S.offering k)
  unfolding pairs_at senders over_cuts
  single_met t offered alone =
      append-nil _ ∙ ap (flat_map _) (sym (offers_one k t) ∙ offered) ∙ flat_map_map _ _ (S.offering k)
      ∙ flat_map_every (every_map sender_met alone)

-- Fewer positions in the middle.
narrowed : {L R : Block} {I J : ℕ → Type 0} → Between L I R → ((x : ℕ) → J x → I x) → Between L J R
narrowed h fewer = record {
  before = h.before;
  after = h.after;
  before_apart = λ x o i. h.before_apart x o (fewer x i);
  after_apart = λ x i o. h.after_apart x (fewer x i) o;
  apart = h.apart;
}

-- The two processes of a par: each is between what is left and right of the par, the other one being added to that.
module _ {L R : Block} (P Q : Process) (at : ℕ) (ρ : Bound) (n : ℕ) (h : Between L (Within at (Process.par P Q)) R) where
  abbrev first_block : Block
  first_block = block P (at + 1) ρ n

  abbrev second_block : Block
  second_block = block Q (right_at at P) ρ (names P ρ n)

  to_first : Between L (Within (at + 1) P) R
  to_first = narrowed h (λ x. part_inside x (left_part at P Q))

  to_second : Between L (Within (right_at at P) Q) R
  to_second = narrowed h (λ x. part_inside x (right_part at P Q))

  parts_apart : Apart (Within (at + 1) P) (Within (right_at at P) Q)
  parts_apart x i o = true≢false (sym o ∙ left_only x at P Q i)

  first_between : Between L (Within (at + 1) P) (second_block beside R)
  first_between = record {
    before = h.before;
    after = beside_laws to_second.after_apart (block_laws Q _ ρ _) h.after;
    before_apart = to_first.before_apart;
    after_apart = λ x i. elim [ inl o ↦ parts_apart x i o | inr o ↦ to_first.after_apart x i o ];
    apart = λ x o. elim [ inl i ↦ to_second.before_apart x o i | inr i ↦ h.apart x o i ];
  }

  second_between : Between (L beside first_block) (Within (right_at at P) Q) R
  second_between = record {
    before = beside_laws to_first.before_apart h.before (block_laws P _ ρ n);
    after = h.after;
    before_apart = λ x. elim [ inl o ↦ to_second.before_apart x o | inr o ↦ parts_apart x o ];
    after_apart = to_second.after_apart;
    apart = λ x. elim [ inl o ↦ h.apart x o | inr i ↦ to_first.after_apart x i ];
  }

  -- Two blocks may be taken for one.
  first_same : (k : ℕ) (os : List LocatedOffer) → senders (L beside first_block beside (second_block beside R)) k os
      ≡ senders (L beside block (Process.par P Q) at ρ n beside R) k os
  unfolding senders located_offers_except both_replaced_as
  first_same k os = simp append_assoc

  second_same : (k : ℕ) (os : List LocatedOffer) → senders (L beside first_block beside second_block beside R) k os
      ≡ senders (L beside block (Process.par P Q) at ρ n beside R) k os
  unfolding senders located_offers_except both_replaced_as
  second_same k os = simp append_assoc

-- That the pairs with a sender in a process are those with positions, the process being between L and R.
abbrev PairedAt : (L R : Block) → Process → (at : ℕ) → Bound → (n k : ℕ) → Type 0
PairedAt L R P at ρ n k =
    over_cuts (pairs_at k) L.threads (settle P ρ n) R.threads ≡ senders (L beside block P at ρ n beside R) k (located_offers P at ρ n k)

paired : (P : Process) (at : ℕ) (ρ : Bound) (n k : ℕ) {L R : Block} → Between L (Within at P) R → PairedAt L R P at ρ n k
unfolding settle located_offers located_offers_except both_replaced_as senders over_cuts flat_map
paired Process.nil at ρ n k h = refl
paired (Process.new P) at ρ n k h = paired P _ _ _ k (narrowed h (λ x. part_inside x (new_part at P)))
paired (Process.act p P) at ρ n k h =
    single_met (block (Process.act p P) at ρ n) h k (act ρ p P) (offers_located (Process.act p P) at ρ n k)
    (record {
      covered = at_inside at (Process.act p P);
      nobody = λ j. rw (eq-eqb at at refl, located_offers_except);
      first = λ zx y zy j. rw (eq-eqb at at refl, both_replaced_as) (sym (replaced_act without_place zx at ρ n k p P));
    } also none)
paired (Process.if M N P Q) at ρ n k {L} {R} h =
    go (equal (written ρ M) (written ρ N)) refl (paired P _ ρ n k (narrowed h (λ x. part_inside x (then_part at M N P Q))))
    (paired Q _ ρ n k (narrowed h (λ x. part_inside x (else_part at M N P Q))))
  where
    go : (c : Bool) → equal (written ρ M) (written ρ N) ≡ c → PairedAt L R P (then_at at M N) ρ n k → PairedAt L R Q (else_at at M N P) ρ n k
        → PairedAt L R (Process.if M N P Q) at ρ n k
    go true e p q = rw (e, settle, located_offers, located_offers_except, both_replaced_as) p
    go false e p q = rw (e, settle, located_offers, located_offers_except, both_replaced_as) q
paired (Process.let_in M P) at ρ n k h = paired P _ _ n k (narrowed h (λ x. part_inside x (let_part at M P)))
paired (Process.par P Q) at ρ n k {L} {R} h =
    let m = names P ρ n in
    over_cuts_append (pairs_at k) L.threads (settle P ρ n) (settle Q ρ m) R.threads
    ∙ ap₂ ◌++◌ (paired P _ ρ n k (first_between P Q at ρ n h) ∙ first_same P Q at ρ n h k (located_offers P (at + 1) ρ n k))
    (paired Q _ ρ m k (second_between P Q at ρ n h) ∙ second_same P Q at ρ n h k (located_offers Q (right_at at P) ρ m k))
    ∙ sym (flat_map_append _ (located_offers P (at + 1) ρ n k) _)
paired (Process.repl P) at ρ n k h =
    single_met (block (Process.repl P) at ρ n) h k (repl ρ P) (offers_located (Process.repl P) at ρ n k)
    (every_map (λ a e. record {
      covered = part_inside a.place (repl_part at P) e;
      nobody = λ j. rw (e, located_offers_except);
      first = λ zx y zy j. rw (e, both_replaced_as);
    }) (acting_inside P (at + 1) ρ k (names P ρ k)))

-- No thread; nothing left or right of a process.
abbrev empty : Block
empty = record {
  covers = λ x. ⊥;
  threads = [];
  offering = λ k. [];
  besides = λ x k. [];
  put = λ x z k. [];
  put_both = λ x zx y zy k j. [];
}

empty_laws : Laws empty
empty_laws = record {
  within = λ k. none;
  offered = offers_none;
  still = λ x z k out. refl;
  everyone = λ x k out. refl;
  second = λ x zx y zy k j out. refl;
}

between_none : (In : ℕ → Type 0) → Between empty In empty
between_none In = record {
  before = empty_laws;
  after = empty_laws;
  before_apart = λ x o i. o;
  after_apart = λ x i o. o;
  apart = λ x o i. o;
}

-- The pairs of threads, as the definitions have them and with positions.
pub pairs_located : (P : Process) (at : ℕ) (ρ : Bound) (n k : ℕ) → flat_map (pairs_at k) (cuts (settle P ρ n))
    ≡ map (λ w. met w (λ x y. both_replaced w.sender.place x w.taker.place y P at ρ n k w.sender.next)) (pairs P at ρ n k)
unfolding senders pairs
pairs_located P at ρ n k =
    cuts_over (pairs_at k) (settle P ρ n) ∙ paired P at ρ n k (between_none (Within at P)) ∙ simp append-nil
    (sym (met_pairs (λ a b x y. both_replaced a.place x b.place y P at ρ n k a.next) (λ a. located_offers_except a.place P at ρ n a.next)
    (located_offers P at ρ n k)))
