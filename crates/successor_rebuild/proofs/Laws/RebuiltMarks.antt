-- Offers of a process that stands in a model: the kinds of the processes at their positions, and how large their private names are
-- ("Steps"; "Bytes", the process kinds).
use mathlib.Core.Path.{◌≡◌}
use mathlib.Core.Bool.{true, false}
use mathlib.Core.List.{List}
use Prim.Native.Nat.{ℕ, ◌+◌, ◌≤◌}
use native.Mathlib.Omega.{arith}
use lib.ListN.{get_or}
use Rattle.meaning.specs.Messages.Normal.{equal}
use Rattle.meaning.specs.Bytes.Process.{output, input, Process}
use Rattle.meaning.specs.Places.{Every, none, ◌also◌}
use Rattle.meaning.specs.Steps.State.{Bound, written, names}
use Rattle.meaning.proofs.Every.{every_map, every_joined}
use Rattle.state_record.specs.Place.{ProcessAt, then_at, else_at}
use Rattle.state_record.specs.Record.{Placed, process_of, bound_of, Standing}
use Rattle.state_head.specs.News.{news, later_news}
use Rattle.state_record.proofs.Laws.Process.{kind_of, process_kind, of_new, of_if, of_let, of_par, of_repl}
use Rattle.state_head.proofs.Laws.TraversalResult.{names-fit}
use Rattle.state_head.proofs.Laws.Fits.{later_fewer}
use Rattle.step_located.specs.Located.{LocatedOffer, located_offers, prefixed}
use Rattle.step_located.specs.CopyStep.{Pair, matching, pairs, copy_pairs, pair_of}
use Rattle.step_located.specs.Sought.{Opened, copies}
use Rattle.step_located.proofs.Laws.Copies as traverses
use Rattle.step_located.proofs.Laws.Copies.{joint_of, copies_steps}
use Rattle.step_located.proofs.Laws.Everywhere.{every_and, every_mapped, every_flat_map, matching_every}
use Rattle.step_transition.specs.Focus.{offers_of, copy_steps_of}
use Rattle.step_transition.specs.Outcome.{last_of}
use Rattle.step_transition.specs.Threads.{Judged}
use Rattle.step_transition.proofs.Laws.LimitsPairs.{but_every}
use Rattle.step_transition.proofs.Laws.Opened.{Opening, opened_all, names_later, Acts, acting_all, judged_clear}
use Rattle.successor_continuation.proofs.Laws.RestsThread.{few_news}
use Rattle.index_process.specs.Index.{ShortModel}

-- The byte at an offer is the kind of its process.
abbrev pub Marked : List ℕ → LocatedOffer → Type 0
Marked s a = get_or s a.place 0 ≡ kind_of (Process.act a.prefix a.rest)

pub acting_marked : {s : List ℕ} (P : Process) (at : ℕ) (ρ : Bound) (n k : ℕ) {left scope next : ℕ} → ProcessAt s at left scope P next
    → Every (Marked s) (located_offers P at ρ n k)
unfolding located_offers
acting_marked Process.nil at ρ n k p = none
acting_marked (Process.new P) at ρ n k p = acting_marked P _ _ _ k (of_new P p)
acting_marked (Process.act q P) at ρ n k p = (process_kind (Process.act q P) p).0 also none
acting_marked {s} (Process.if M N P Q) at ρ n k p =
    let (i, j, f, g) = of_if M N P Q p in
    elim (equal (written ρ M) (written ρ N)) as (λ b.
    Every (Marked s) (elim b [ true ↦ located_offers P (then_at at M N) ρ n k | false ↦ located_offers Q (else_at at M N P) ρ n k ]))
    [ true ↦ acting_marked P _ ρ n k f | false ↦ acting_marked Q _ ρ n k g ]
acting_marked (Process.let_in M P) at ρ n k p = acting_marked P _ _ n k (of_let M P p).1
acting_marked (Process.par P Q) at ρ n k p =
    let (f, g) = of_par P Q p in every_joined (acting_marked P _ ρ n k f) (acting_marked Q _ ρ _ k g)
acting_marked (Process.repl P) at ρ n k p = acting_marked P _ ρ _ _ (of_repl P p)

-- The process of every repl thread stands behind its position.
pub record CopyStands (s : List ℕ) (w : Opened) : Type 0 where
  pub left : ℕ
  pub scope : ℕ
  pub next : ℕ
  pub process : ProcessAt s (w.place + 1) left scope w.copied next

pub copies_stand : {s : List ℕ} (P : Process) (at : ℕ) (ρ : Bound) (n k : ℕ) {left scope next : ℕ} → ProcessAt s at left scope P next
    → Every (CopyStands s) (copies P at ρ n k)
unfolding copies
copies_stand Process.nil at ρ n k p = none
copies_stand (Process.new P) at ρ n k p = copies_stand P _ _ _ k (of_new P p)
copies_stand (Process.act q P) at ρ n k p = none
copies_stand {s} (Process.if M N P Q) at ρ n k p =
    let (i, j, f, g) = of_if M N P Q p in
    elim (equal (written ρ M) (written ρ N)) as (λ b.
    Every (CopyStands s) (elim b [ true ↦ copies P (then_at at M N) ρ n k | false ↦ copies Q (else_at at M N P) ρ n k ]))
    [ true ↦ copies_stand P _ ρ n k f | false ↦ copies_stand Q _ ρ n k g ]
copies_stand (Process.let_in M P) at ρ n k p = copies_stand P _ _ n k (of_let M P p).1
copies_stand (Process.par P Q) at ρ n k p =
    let (f, g) = of_par P Q p in every_joined (copies_stand P _ ρ n k f) (copies_stand Q _ ρ _ k g)
copies_stand (Process.repl P) at ρ n k p =
    let q = of_repl P p in
    every_joined (copies_stand P _ ρ _ _ q) (record { left = _; scope = _; next = _; process = q } also none)

-- An offer whose copies open at k: its private names, and its kind.
pub record Acted (s : List ℕ) (k : ℕ) (a : LocatedOffer) : Type 0 where
  pub later : k ≤ a.next
  pub small : a.next + news a.rest ≤ k + 4096
  pub marked : Marked s a

acted_within : {s : List ℕ} {k j most : ℕ} → k ≤ j → j + most ≤ k + 4096 → (a : LocatedOffer) → Acts j most a → Marked s a → Acted s k a
acted_within le h a o m = record { later = omega (arith, o.later); small = omega (arith, o.small); marked = m }

-- The marks of a pair are those of an output and of an input, and its private names are small.
pub record Paired (s : List ℕ) (w : Pair) : Type 0 where
  pub sender : get_or s w.sender.place 0 ≡ 2
  pub taker : get_or s w.taker.place 0 ≡ 3
  pub sender_next : w.sender.next ≤ 28664
  pub taker_next : w.taker.next ≤ 28664
  pub last : last_of w ≤ 28664
  pub final : (τ : Bound) → names w.taker.rest τ (last_of w) ≤ 28664

module _ {s : List ℕ} {k : ℕ} (few : k ≤ 128) where
  pub paired : (a c : LocatedOffer) → Acted s k a → Acted s a.next c → Every (Paired s) (matching a c)
  paired a c f g =
      matching_every (λ a c. Acted s k a × Acted s a.next c) a c (λ C M D (f, g). record {
        sender = f.marked;
        taker = g.marked;
        sender_next = omega (arith, f.small);
        taker_next = omega (arith, f.small, g.small);
        last = omega (arith, f.small, f.later, g.small, names-fit a.rest a.bound c.next);
        final = λ τ.
            omega (
              arith,
              f.small,
              f.later,
              g.small,
              names-fit a.rest a.bound c.next,
              names-fit c.rest τ (last_of (pair_of (prefixed a (output C M)) (prefixed c (input D)))),
            );
      }) (f, g)

-- The offers of a thread, and its silent steps in copies.
module _ {s : List ℕ} (short : ShortModel s) (t : Placed) (standing : Standing s t) where
  thread_news : news (process_of t.thread) ≤ 4096
  thread_news = few_news (process_of t.thread) standing.process short

  pub offers_acted : (k : ℕ) → Every (Acted s k) (offers_of t k)
  offers_acted k =
      let P = process_of t.thread in
      every_map (λ a (o, m). acted_within (omega arith) (omega (arith, later_fewer P, thread_news)) a o m)
      (every_and (acting_all P t.place (bound_of t.thread) 0 k) (acting_marked P t.place (bound_of t.thread) 0 k standing.process))

  module _ {k : ℕ} (few : k ≤ 128) where
    paired_own : (w : Opened) → Opening k (later_news (process_of t.thread)) w → CopyStands s w
        → Every (λ v. Paired s v.pair) (traverses.copy_steps_of w)
    unfolding pairs copy_pairs
    paired_own w o c =
        let P = w.copied in
        let ρ = w.bound in
        let at = w.place + 1 in
        let own = names P ρ w.opens in
        let many : news P ≤ 4096 = few_news P c.process short in
        let first : Every (Acted s k) (located_offers P at ρ w.opens own) =
        every_map (λ a (h, m). acted_within (omega (arith, o.later, names_later P ρ w.opens))
        (omega (arith, o.small, later_fewer (process_of t.thread), thread_news)) a h m)
        (every_and (acting_all P at ρ w.opens own) (acting_marked P at ρ w.opens own c.process)) in
        every_joined
        (every_mapped (joint_of w false) (every_flat_map _ (every_map (λ a h.
        every_flat_map _ (every_map (λ b g. paired few a b h g)
        (but_every a.place P at ρ w.opens a.next
        (every_map (λ b (g, m). acted_within (omega arith) (omega (arith, later_fewer P, many)) b g m)
        (every_and (acting_all P at ρ w.opens a.next) (acting_marked P at ρ w.opens a.next c.process)))))) first)))
        (every_mapped (joint_of w true) (every_flat_map _ (every_map (λ a h.
        every_flat_map _ (every_map (λ b g. paired few a b h g)
        (every_map (λ b (g, m). acted_within (names_later P ρ a.next) (omega (arith, names-fit P ρ a.next, many)) b g m)
        (every_and (acting_all P at ρ a.next (names P ρ a.next)) (acting_marked P at ρ a.next (names P ρ a.next) c.process)))))
        first)))

    pub joints_paired : Judged k t → Every (λ v. Paired s v.pair) (copy_steps_of t k)
    joints_paired j =
        let P = process_of t.thread in
        let ρ = bound_of t.thread in
        rw (copies_steps P t.place ρ 0 k)
        (every_flat_map _ (every_map (λ w (o, c). paired_own w o c)
        (every_and (opened_all P t.place ρ 0 k (judged_clear t 0 j)) (copies_stand P t.place ρ 0 k standing.process))))
