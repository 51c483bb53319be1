-- The threads that an output or an input of a thread leads to that acts itself ("Steps"; "Judging and its count").
use mathlib.Core.Path.{◌≡◌, refl, sym, ap, subst, ◌∙◌}
use mathlib.Core.Bool.{Bool, true, false, ◌||◌}
use mathlib.Core.List.{List, ◌++◌, append_assoc}
use Prim.Native.Nat.{ℕ}
use Rattle.meaning.specs.Messages.Term.{Message}
use Rattle.meaning.specs.Bytes.Process.{Prefix, output, input, Process}
use Rattle.meaning.specs.Places.{none, ◌also◌}
use Rattle.meaning.specs.Steps.State.{Bound, Thread, act, repl, names}
use Rattle.meaning.specs.Steps.Invariant.{Stored, BoundStored, ThreadStored}
use Rattle.meaning.proofs.Every.{every_joined}
use Rattle.state_record.specs.Record.{Placed}
use Rattle.state_record.specs.Place.{rest_at}
use Rattle.state_progress.specs.TraversalResult.{Accumulated, going, unless, named}
use Rattle.state_task.specs.declared.task.Task.TheVariants.{Settle}
use Rattle.state_head.specs.Traversal.{go}
use Rattle.state_head.specs.Settled.{settled_at}
use Rattle.state_head.proofs.Laws.Crowd.{grown, crowded}
use Rattle.successor_continuation.specs.Rest.{bound_behind}
use Rattle.step_located.specs.Located.{LocatedOffer, located_offers}
use Rattle.step_located.specs.Rebuilt.{push_all, over_rest}
use Rattle.step_located.proofs.Laws.Writing.{Writes, writes_further, writes_settled, push_all_writes}
use Rattle.step_transition.specs.Focus.{Focus, offers_of}
use Rattle.step_transition.specs.Moves.{alone}
use Rattle.step_transition.specs.Outcome.{outcome, bound_after}
use Rattle.step_transition.specs.Limits.{rest_over}
use Rattle.step_transition.specs.Threads.{Judged}
use Rattle.step_transition.specs.Moving.{carried}
use Rattle.step_transition.proofs.Laws.MovesFocuses.{Stands, exchanged_is}
use Rattle.successor_continuation.proofs.Laws.RestsMoves.{Among}
use Rattle.successor_prefix.specs.Alone.{behind_focus, replaced_by}
use Rattle.successor_rebuild.proofs.Laws.Own.{only_one, focus_of, offer_of, own_place}

or_sides : (o : Bool) → ((false || o) || false) ≡ o
or_sides true = refl
or_sides false = refl

-- All are written, unless what follows the thread meets a limit of its own, or they are too many.
module _ (ps : List Placed) (k : ℕ) (x : Message) where
  abbrev pub Replaced : Focus → LocatedOffer → Type 0
  Replaced p a =
      let v = alone p a in
      let o = outcome ps k x v in
      (g : Accumulated) → g.names ≡ a.next → crowded g ≡ false
      → replaced_by (carried x v) p g ≡ unless (rest_over x v || crowded (grown g o.next o.threads)) (going (grown g o.next o.threads))

  by_act : (before : List Placed) (place : ℕ) (behind : List Placed) (ρ : Bound) (q : Prefix) (P : Process)
      → let p = focus_of before place (act ρ q P) behind in let a = offer_of place ρ q P k in
      Stands ps p → BoundStored k (bound_after x a) → bound_behind q ρ (carried x (alone p a)) ≡ bound_after x a → Replaced p a
  unfolding outcome rest_over
  by_act before place behind ρ q P h stored same g next w =
      let p = focus_of before place (act ρ q P) behind in
      let a = offer_of place ρ q P k in
      let y = carried x (alone p a) in
      let σ = bound_after x a in
      let z = settled_at P (rest_at place q) σ k in
      let over = over_rest a σ k in
      let here = rest_at place q in
      let settled : (f : Accumulated) → f.names ≡ k → crowded f ≡ false → Writes f (behind_focus y p f) over z (names P σ k) = λ f e v.
      subst (λ (τ : Bound). Writes f (go P Settle y here τ f) over z (names P σ k)) (sym same)
      (subst (λ (n : ℕ). Writes f (go P Settle y here σ (named n f)) over z (names P σ k)) (sym e) (writes_settled P y here σ k f stored v)) in
      let all : Writes g (replaced_by y p g) ((false || over) || false) ((before ++ z) ++ behind) (names P σ k) =
      writes_further (push_all behind) (writes_further (behind_focus y p) (push_all_writes before g w) (λ v. settled _ next v))
      (λ v. push_all_writes behind _ v) in
      let lists : (outcome ps k x (alone p a)).threads ≡ (before ++ z) ++ behind =
      exchanged_is ps p _ h ∙ ap (λ l. before ++ (l ++ behind)) (own_place place ρ q P k z) ∙ sym (append_assoc before z behind) in
      rw lists (rw (or_sides over) at all.is)

  pub replaced_alone : Stored k x → (p : Focus) (a : LocatedOffer) → Stands ps p → Among (offers_of p.thread k) a → Judged k p.thread
      → ((ρ : Bound) (P : Process) → p.thread.thread ≡ repl ρ P → ⊥) → Replaced p a
  unfolding located_offers carried
  replaced_alone stored p a h m j acts = of p.thread.thread h m j.stored acts
    where
      of : (u : Thread) → let q = focus_of p.before p.thread.place u p.behind in Stands ps q → Among (offers_of q.thread k) a
          → ThreadStored k u → ((ρ : Bound) (P : Process) → u ≡ repl ρ P → ⊥) → Replaced q a
      of (act ρ (output C M) P) h m b n =
          subst (λ c. Replaced (focus_of p.before p.thread.place (act ρ (output C M) P) p.behind) c) (sym (only_one _ a m))
          (by_act p.before p.thread.place p.behind ρ (output C M) P h b refl)
      of (act ρ (input C) P) h m b n =
          subst (λ c. Replaced (focus_of p.before p.thread.place (act ρ (input C) P) p.behind) c) (sym (only_one _ a m))
          (by_act p.before p.thread.place p.behind ρ (input C) P h (every_joined b (stored also none)) refl)
      of (repl ρ P) h m b n = absurd (n ρ P refl)
