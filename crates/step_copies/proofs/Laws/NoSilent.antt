-- A thread whose copies have no output, or no input, has no silent step in them ("Steps").
use mathlib.Core.Path.{◌≡◌, refl, sym, ap, ap₂, ◌∙◌}
use mathlib.Core.Bool.{Bool, true, false, true≢false}
use mathlib.Core.List.{List, [], ◌∷◌, ◌++◌, map, flat_map}
use Prim.Native.Nat.{ℕ, suc, ◌+◌, ◌-◌}
use mathlib.Core.Logic.{⊎_elim}
use native.Mathlib.Omega.{arith}
use lib.Dec.{eqb}
use borrow.Author.Tests.{eq-eqb}
use Rattle.std.proofs.lemmas.Bool.Decides.{eqb_tells}
use Rattle.meaning.specs.Messages.Term.{leaf, private, public}
use Rattle.meaning.specs.Messages.Normal.{equal}
use Rattle.meaning.specs.Bytes.Process.{Process, nil, new, act, if, let_in, par, repl}
use Rattle.meaning.specs.Places.{Every, none, ◌also◌}
use Rattle.meaning.specs.Steps.State.{Bound, ◌▸◌, written, worked, names}
use Rattle.meaning.proofs.Every.{every_joined}
use Rattle.buffer.specs.Word.{number_at}
use Rattle.index_entry.specs.Entry.{last_of}
use Rattle.index_process.specs.Index.{Lasts}
use Rattle.state_record.specs.Place.{then_at, else_at, body_at, right_at}
use Rattle.state_record.specs.Record.{process_of, bound_of}
use Rattle.state_record.proofs.Laws.Process.{in_model}
use Rattle.state_record.proofs.Laws.Stored.{record_parts}
use Rattle.state_task.specs.declared.task.CopyAt.{CopyAt}
use Rattle.step_located.specs.Located.{LocatedOffer, located_offers}
use Rattle.step_located.specs.Sought.{wanted, offers_except, Opened, copies}
use Rattle.step_located.proofs.Laws.Last.{either_one, none_wanted}
use Rattle.step_transition.specs.Focus.{Focus, filter}
use Rattle.step_transition.specs.CopyOffers.{copy_offers, outputs, inputs, channel_of, takers_at, excluded_by, pairs_of, pairs_from, senders}
use Rattle.step_transition.specs.CopyMoves.{group_moves}
use Rattle.step_transition.proofs.Laws.LimitsPairs.{but_every}
use Rattle.step_copies.specs.CopyStep.{NoSilent}

filter_none : {A : Type 0} (test : A → Bool) {xs : List A} → Every (λ x. test x ≡ false) xs → filter test xs ≡ []
unfolding filter
filter_none test none = refl
filter_none test (e also es) = rw (e, filter) (filter_none test es)

flat_map_empty : {A B : Type 0} (f : A → List B) {xs : List A} → Every (λ x. f x ≡ []) xs → flat_map f xs ≡ []
unfolding flat_map
flat_map_empty f none = refl
flat_map_empty f (e also es) = ap₂ ◌++◌ e (flat_map_empty f es)

-- What holds of the offers of a process, whatever names they have, holds of those in the copies of a repl thread.
module _ {R : LocatedOffer → Type 0} where
  offers_every : (excluded : ℕ) (P : Process) (at : ℕ) (ρ : Bound) (n k : ℕ) → Every R (located_offers P at ρ n k) → Every R (offers_except excluded P at ρ n k)
  unfolding offers_except
  offers_every excluded P at ρ n k e = either_one (Every R) (eqb excluded 0) e (but_every (excluded - 1) P at ρ n k e)

  copies_every : (excluded : ℕ) (c : CopyAt) (w : Opened) → ((n k : ℕ) → Every R (located_offers w.copied (w.place + 1) w.bound n k))
      → Every R (copy_offers excluded c w)
  unfolding copy_offers
  copies_every excluded c w e =
      let all : (n k : ℕ) → Every R (offers_except excluded w.copied (w.place + 1) w.bound n k) =
      λ n k. offers_every excluded w.copied (w.place + 1) w.bound n k (e n k) in
      either_one (Every R) (eqb c.arity 0) (all _ _) (either_one (Every R) (eqb c.arity 1) (all _ _) (all _ _))

-- No output, so no sender; or no input, so no taker.
no_sender : (w : Opened) → last_of true (w.place + 1) w.copied ≡ 0 → senders w 0 ≡ []
unfolding senders
no_sender w e =
    filter_none (wanted (outputs 0) (leaf (public 0)))
    (copies_every 0 _ w (λ n k. none_wanted (outputs 0) (leaf (public 0)) w.copied (w.place + 1) w.bound n k (omega arith)))

no_taker : (arity : ℕ) (w : Opened) → last_of false (w.place + 1) w.copied ≡ 0 → (os : List LocatedOffer) → pairs_from arity w 0 os ≡ []
unfolding pairs_from pairs_of
no_taker arity w e [] = refl
no_taker arity w e (a ∷ os) =
    let q = inputs 0 (excluded_by arity a) in
    ap₂ ◌++◌
    (ap (map _) (filter_none (wanted q (channel_of a)) (copies_every (excluded_by arity a) (takers_at arity w a) w
    (λ n k. none_wanted q (channel_of a) w.copied (w.place + 1) w.bound n k (omega arith)))))
    (no_taker arity w e os)

module _ (p : Focus) where
  group_none : (out : Bool) (w : Opened) → last_of out (w.place + 1) w.copied ≡ 0 → group_moves p w ≡ []
  unfolding group_moves pairs_from
  group_none true w e = rw (no_sender w e)
  group_none false w e = rw (no_taker 1 w e (senders w 0), no_taker 2 w e (senders w 0))

  groups_none : (out : Bool) (P : Process) (at : ℕ) (ρ : Bound) (n k : ℕ) → last_of out at P ≡ 0
      → Every (λ w. group_moves p w ≡ []) (copies P at ρ n k)
  unfolding copies last_of
  groups_none out nil at ρ n k e = none
  groups_none out (new P) at ρ n k e = groups_none out P (at + 1) (ρ ▸ leaf (private n)) (suc n) k e
  groups_none out (act a P) at ρ n k e = none
  groups_none out (if M N P Q) at ρ n k e =
      either_one (Every (λ w. group_moves p w ≡ [])) (equal (written ρ M) (written ρ N))
      (groups_none out P (then_at at M N) ρ n k (omega arith)) (groups_none out Q (else_at at M N P) ρ n k (omega arith))
  groups_none out (let_in M P) at ρ n k e = groups_none out P (body_at at M) (ρ ▸ worked ρ M) n k e
  groups_none out (par P Q) at ρ n k e =
      every_joined (groups_none out P (at + 1) ρ n k (omega arith)) (groups_none out Q (right_at at P) ρ (names P ρ n) k (omega arith))
  groups_none out (repl P) at ρ n k e =
      every_joined (groups_none out P (at + 1) ρ k (names P ρ k) e)
      (group_none out (record { place = at; bound = ρ; copied = P; opens = k }) e also none)

-- So the thread has none.
module _ {s : List ℕ} {at : ℕ} {out : List ℕ} where
  pub fertile : NoSilent s at out false
  fertile = record { exact = λ e. absurd (true≢false (sym e)) }

  no_meeting : (kind : Bool) {place last : ℕ} → place ≡ number_at out at → Lasts s place kind last → last ≡ 0
      → NoSilent s at out true
  no_meeting kind {place} e x l = record {
    exact = λ _ p k r.
        let t = p.thread in
        let here : place ≡ t.place = e ∙ (record_parts t r.stands).0 in
        flat_map_empty (group_moves p) (groups_none p kind (process_of t.thread) t.place (bound_of t.thread) 0 k
        (omega (arith, (rw here at x).same (process_of t.thread) (in_model r.standing.process))));
  }

  module _ {place last : ℕ} (e : place ≡ number_at out at) where
    pub no_output : Lasts s place true last → last ≡ 0 → NoSilent s at out (eqb last 0)
    no_output x l = rw (eq-eqb last 0 l) (no_meeting true e x l)

    pub no_input : Lasts s place false last → NoSilent s at out (eqb last 0)
    no_input x = ⊎_elim (λ t. rw t.0 (no_meeting false e x t.1)) (λ t. rw t.0 fertile) (eqb_tells last 0)

pub ruleset no_silents = (no_output, no_input)
