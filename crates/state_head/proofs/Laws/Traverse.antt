-- The traversal of a process, by its head and the kind of that ("Steps": settling goes left to right).
use Rattle.std.specs.Prelude.{Option, Some, None}
use mathlib.Core.Path.{◌≡◌, refl, sym, ap, subst, ◌∙◌}
use mathlib.Core.Bool.{true, false, not, true≢false}
use mathlib.Core.List.{List}
use mathlib.Core.Logic.{inl, inr}
use Prim.Native.Nat.{ℕ, ◌+◌, ◌-◌, ◌≤◌}
use native.Mathlib.Omega.{arith}
use lib.ListN.{get_or}
use Rattle.meaning.specs.Messages.Term.{Message}
use Rattle.meaning.specs.Bytes.Process.{Process, nil, new, act, if, let_in, par, repl}
use Rattle.meaning.specs.Steps.State.{Bound}
use Rattle.buffer.specs.Buffer.{Within}
use Rattle.index_process.specs.Index.{Ends}
use Rattle.state_record.specs.Place.{right_at}
use Rattle.state_progress.specs.TraversalResult.{Accumulated, TraversalResult, going, over_limit, found, further, named}
use Rattle.state_progress.specs.Represented.{Represents, RepresentsResult}
use Rattle.state_progress.specs.Progress.{Stopped, Renamed}
use Rattle.state_task.specs.declared.task.Task.{Task}
use Rattle.state_progress.specs.declared.progress.Progress.{Progress}
use Rattle.state_record.proofs.Laws.Process.{in_model, kind_of, shaped, process_kind, of_par}
use Rattle.state_progress.proofs.Laws.Progress.{renamed_shows}
use Rattle.state_progress.proofs.Laws.Written.{no_further}
use Rattle.state_task.proofs.Laws.Bound.{bound_still}
use Rattle.state_head.specs.Traversal.{go}
use Rattle.state_head.specs.Head.{CanSettle, HasHead, Descends, Passing, Settled}
use Rattle.state_head.specs.Traverse.{Ready, HeadTraverses, TraversesIf, Traverses, AtPrefix}
use Rattle.state_head.specs.declared.head.Head.{Head}
use Rattle.state_head.proofs.Laws.Fits.{fewer, fits_part}
use Rattle.state_head.proofs.Laws.TraversalResult.{go_fits}

-- A traversal that has stopped before goes no further.
pub was_stopped : {s argument m out : List ℕ} {at left end : ℕ} {T : Task} {now : Progress} → not now.going ≡ true
    → Traverses s argument at left m end T out now now out
was_stopped e = record {
  stopped = λ f. (refl, refl);
  traverses = record { exact = λ P z ρ g y d. absurd (true≢false (sym e ∙ ap not d.on)) };
}

-- What is known of a process is known of its head.
to_settle : {s argument m : List ℕ} {at left end n : ℕ} {T : Task} {P : Process} {z : Message} {ρ : Bound} {g : Accumulated} → n ≡ g.names
    → Ready s argument at left m end T P z ρ g → CanSettle s at left m end n P ρ
to_settle e y = record { next = y.next; process = y.process; bound = y.bound; room = y.room; fits = omega (arith, y.fits.own) }

head_ready : {s argument m m₁ : List ℕ} {at left end n : ℕ} {T : Task} {P : Process} {z : Message} {ρ : Bound} {g : Accumulated} {h : Head}
    → Ready s argument at left m end T P z ρ g → (a : HasHead s P at ρ n h m₁) → h.left ≤ left
    → Ready s argument h.at h.left m₁ h.end T a.process z a.bound (named h.names g)
head_ready {P = P} y a l = record {
  next = a.settles.next;
  process = a.settles.process;
  shallow = omega (arith, y.shallow);
  short = y.short;
  labelled = y.labelled;
  small = y.small;
  normal = y.normal;
  bound = a.settles.bound;
  room = a.settles.room;
  fits = record { own = a.settles.fits; others = fewer P a.process a.traverses.later y.fits.others };
  meant = y.meant;
}

-- A traversal that goes on, over the head.
module _ {s argument m m₁ out after : List ℕ} {at left end : ℕ} {T : Task} {now r : Progress} {c : Option Head} (on : not now.going ≡ false)
    (d : Descends s at left m end now.names c m₁) where
  traverses_as : ((P : Process) (z : Message) (ρ : Bound) (g : Accumulated) → Ready s argument at left m end T P z ρ g → Represents s out now g
      → RepresentsResult s after r (go P T z at ρ (named now.names g))) → Traverses s argument at left m end T out now r after
  traverses_as f = record {
    stopped = λ off. absurd (true≢false (ap not (sym off) ∙ on));
    traverses = record {
      exact = λ P z ρ g y v. subst (λ (n : ℕ). RepresentsResult s after r (go P T z at ρ (named n g))) v.names (f P z ρ g y v);
    };
  }

  pub met_limit : c ≡ None → Stopped now r → Traverses s argument at left m end T out now r after
  met_limit none o = traverses_as λ P z ρ g y v. rw ((d.over none P ρ (to_settle v.names y)).over T z g) o.over

  pub at_head : {h : Head} → c ≡ Some h → Settled s h → h.left ≤ left → HeadTraverses s argument h m₁ T out now r after
      → Traverses s argument at left m end T out now r after
  at_head {h} is e l w = traverses_as λ P z ρ g y v.
      let a = d.head h is P ρ (to_settle v.names y) in
      rw (a.traverses.same T z g) (w.exact (e.other) a.process z a.bound g (head_ready y a l) v)

pub ruleset traverses = (was_stopped, met_limit, at_head)

-- The head, by its kind.
module _ {s argument m out after : List ℕ} {T : Task} {now d r : Progress} {h : Head} (n : Renamed now h.names d) where
  pub is_kind : {i : ℕ} → get_or s h.at 0 ≡ i → TraversesIf i s argument h.at h.left m h.end T out d r after
      → HeadTraverses s argument h m T out now r after
  is_kind e w = record {
    exact = λ f P z ρ g y v. (w.exact e).exact P z ρ (named h.names g) y (renamed_shows h.names v n);
  }

  pub is_prefix : (get_or s h.at 0 ≡ 0 → ⊥) → (get_or s h.at 0 ≡ 6 → ⊥) → (get_or s h.at 0 ≡ 7 → ⊥)
      → AtPrefix s argument h.at h.left m h.end T out d r after → HeadTraverses s argument h m T out now r after
  unfolding go
  is_prefix f₀ f₆ f₇ w = record {
    exact = λ f P z ρ g y v. only f P z ρ (named h.names g) (process_kind P y.process).0 y (renamed_shows h.names v n);
  }
    where
      only : (Passing (get_or s h.at 0) → ⊥) → (P : Process) (z : Message) (ρ : Bound) (g : Accumulated) → get_or s h.at 0 ≡ kind_of P
          → Ready s argument h.at h.left m h.end T P z ρ g → Represents s out d g → RepresentsResult s after r (go P T z h.at ρ g)
      only f nil z ρ g e y v = absurd (f₀ e)
      only f (new P) z ρ g e y v = absurd (f (inl e))
      only f (act p P) z ρ g e y v = w.exact p P z ρ g y v
      only f (if M N P Q) z ρ g e y v = absurd (f (inr (inl e)))
      only f (let_in M P) z ρ g e y v = absurd (f (inr (inr e)))
      only f (par P Q) z ρ g e y v = absurd (f₆ e)
      only f (repl P) z ρ g e y v = absurd (f₇ e)

pub is_nil : {s argument m out : List ℕ} {T : Task} {now d : Progress} {h : Head} → Renamed now h.names d
    → get_or s h.at 0 ≡ 0 → HeadTraverses s argument h m T out now d out
unfolding go
is_nil {h = h} n e = record {
  exact = λ f P z ρ g y v. let i = shaped 0 P y.process e in rw i (renamed_shows h.names v n);
}

pub ruleset nodes = (is_nil, is_kind, is_prefix)

-- Par: the first side, and whatever comes after it.
module _ {s argument m out out₁ : List ℕ} {at left end : ℕ} {T : Task} {now first : Progress}
    (v : Traverses s argument (at + 1) (left - 1) m end T out now first out₁) where
  sides : {after : List ℕ} {r : Progress}
      → ((P Q : Process) (z : Message) (ρ : Bound) (g : Accumulated) → Ready s argument at left m end T (par P Q) z ρ g → (c : TraversalResult)
      → go P T z (at + 1) ρ g ≡ c → RepresentsResult s out₁ first c → RepresentsResult s after r (further c (go Q T z (right_at at P) ρ)))
      → TraversesIf 6 s argument at left m end T out now r after
  unfolding go
  sides {after} {r} second = record {
    exact = λ e. record { exact = λ P z ρ g y d. let (Q, R, f) = shaped 6 P y.process e in rw f (one Q R z ρ g (rw f at y) d) };
  }
    where
      one : (P Q : Process) (z : Message) (ρ : Bound) (g : Accumulated) → Ready s argument at left m end T (par P Q) z ρ g → Represents s out now g
          → RepresentsResult s after r (go (par P Q) T z at ρ g)
      one P Q z ρ g y d =
          let (p, q) = of_par P Q y.process in
          second P Q z ρ g y (go P T z (at + 1) ρ g) refl (v.traverses.exact P z ρ g (record {
            next = right_at at P;
            process = p;
            shallow = omega (arith, y.shallow);
            short = y.short;
            labelled = y.labelled;
            small = y.small;
            normal = y.normal;
            bound = y.bound;
            room = omega (arith, y.room);
            fits = fits_part T g.names g.names (par P Q) P (omega arith) (omega arith) y.fits;
            meant = y.meant;
          }) d)

  -- Where the first side goes no further, that is all.
  pub par_stopped : first.going ≡ false → TraversesIf 6 s argument at left m end T out now first out₁
  par_stopped off = sides λ P Q z ρ g y c e d. no_further s out₁ first c _ d off

-- The second side goes on from what the first has come to.
pub par_traversed : {s argument m m₁ out out₁ after : List ℕ} {at left end mid high : ℕ} {T : Task} {now first r : Progress}
    → Traverses s argument (at + 1) (left - 1) m end T out now first out₁ → Traverses s argument mid (left - 1) m₁ end T out₁ first r after
    → Ends s (at + 1) mid → Within end high m m₁ → TraversesIf 6 s argument at left m end T out now r after
par_traversed {s} {argument} {m} {m₁} {out} {out₁} {after} {at} {left} {end} {mid} {T = T} {now} {first} {r} v w l k = sides v second
  where
    second : (P Q : Process) (z : Message) (ρ : Bound) (g : Accumulated) → Ready s argument at left m end T (par P Q) z ρ g → (c : TraversalResult) → go P T z (at + 1) ρ g ≡ c
        → RepresentsResult s out₁ first c → RepresentsResult s after r (further c (go Q T z (right_at at P) ρ))
    second P Q z ρ g y (going h) e d =
        let (p, q) = of_par P Q y.process in
        let here : mid ≡ right_at at P = l.same P (in_model p) in
        let names = go_fits P T z (at + 1) ρ g h e in
        rw (← here) (w.traverses.exact Q z ρ h (record {
          next = y.next;
          process = rw (← here) at q;
          shallow = omega (arith, y.shallow);
          short = y.short;
          labelled = y.labelled;
          small = y.small;
          normal = y.normal;
          bound = bound_still y.bound k;
          room = omega (arith, y.room, k.long);
          fits = fits_part T g.names h.names (par P Q) Q (omega arith) (omega arith) y.fits;
          meant = y.meant;
        }) d)
    second P Q z ρ g y over_limit e d = rw (w.stopped d.off).0 d
    second P Q z ρ g y (found at₁ k ms) e d = let (same, as-was) = w.stopped d.off in rw (same, as-was) d
