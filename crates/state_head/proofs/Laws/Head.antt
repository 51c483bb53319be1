-- The way down to the head of a process, one node after the other ("Steps").
use Rattle.std.specs.Prelude.{Option, Some, None}
use mathlib.Core.Path.{◌≡◌, refl, ◌∙◌}
use mathlib.Core.Bool.{Bool, true, false, true≢false}
use mathlib.Core.Logic.{inl, inr, ⊎_elim}
use mathlib.Core.List.{List}
use Prim.Native.Nat.{ℕ, ◌+◌, ◌-◌, ◌≤◌, ◌<◌}
use native.Mathlib.Omega.{arith}
use lib.Dec.{eqb}
use lib.ListN.{length, get_or}
use borrow.Author.Tests.{eqb-true, eqb-false}
use Rattle.meaning.specs.Bytes.Process.{Process}
use Rattle.meaning.specs.Steps.State.{Bound}
use Rattle.state_record.proofs.Laws.Process.{process_kind}
use Rattle.state_head.specs.Head.{CanSettle, MeetsLimit, SameTraversal, HasHead, Descends, DescendsIf, Passing, DescendsFrom, IsPassed, Settled}
use Rattle.state_head.specs.Head.{HasRoom, Arrives}
use Rattle.state_head.specs.declared.head.Head.{Head}

-- A head is one thing, none another.
pub some_or_none : {h : Head} → Some h ≡ None → ⊥
some_or_none e = let z : ◌≡◌ {A = ℕ} 0 1 = cc in omega arith

-- Nothing that could be settled stands there, for want of a node, of bytes or of room.
module _ {s : List ℕ} {at left size end n : ℕ} where
  none_there : ((m : List ℕ) → length m ≡ size → (P : Process) (ρ : Bound) → CanSettle s at left m end n P ρ → ⊥)
      → Arrives s at left size end n None
  none_there f = record {
    descends = λ m e. record { over = λ _ P ρ y. absurd (f m e P ρ y); head = λ h is P ρ y. absurd (f m e P ρ y) };
  }

  pub no_node_left : left ≡ 0 → Arrives s at left size end n None
  no_node_left e = none_there λ m l P ρ y. omega (arith, (process_kind P y.process).2)

  pub nothing_there : length s ≤ at → Arrives s at left size end n None
  nothing_there e = none_there λ m l P ρ y. omega (arith, (process_kind P y.process).1)

  pub no_room : size - end < 4606 → Arrives s at left size end n None
  no_room e = none_there λ m l P ρ y. omega (arith, y.room)

  -- The process itself.
  pub arrived : Arrives s at left size end n (Some (record { at = at; left = left; end = end; names = n }))
  arrived = record {
    descends = λ m e. record {
      over = λ none. absurd (some_or_none none);
      head = λ h is P ρ y. rw (← the_head is) (record {
        process = P;
        bound = ρ;
        settles = y;
        traverses = record { same = λ T x g. refl; later = omega arith };
      });
    };
  }
    where
      the_head : {h k : Head} → Some h ≡ Some k → h ≡ k
      the_head e = cc

pub ruleset arrivals = (no_node_left, nothing_there, no_room, arrived)

-- One way down after another.
module _ {P : Process} {at : ℕ} {ρ : Bound} {n : ℕ} {Q : Process} {to : ℕ} {σ : Bound} {k : ℕ} (w : SameTraversal P at ρ n Q to σ k) where
  over_below : MeetsLimit Q to σ k → MeetsLimit P at ρ n
  over_below o = record { over = λ T x g. w.same T x g ∙ o.over T x g }

  head_below : {s m : List ℕ} {h : Head} → HasHead s Q to σ k h m → HasHead s P at ρ n h m
  head_below d = record {
    process = d.process;
    bound = d.bound;
    settles = d.settles;
    traverses = record { same = λ T x g. w.same T x g ∙ d.traverses.same T x g; later = omega (arith, w.later, d.traverses.later) };
  }

-- A step down that every process takes, and what follows it.
pub onward : {s m m₁ m₂ : List ℕ} {at left end n : ℕ} {h : Head} {r : Option Head}
    → ((P : Process) (ρ : Bound) → CanSettle s at left m end n P ρ → HasHead s P at ρ n h m₁)
    → Descends s h.at h.left m₁ h.end h.names r m₂ → Descends s at left m end n r m₂
onward f d = record {
  over = λ none P ρ y. let a = f P ρ y in over_below a.traverses (d.over none a.process a.bound a.settles);
  head = λ h is P ρ y. let a = f P ρ y in head_below a.traverses (d.head h is a.process a.bound a.settles);
}

-- The loop.
pub starts : {s m : List ℕ} {at left end n : ℕ} {r : Option Head} {h : Head} → Arrives s at left (length m) end n r → r ≡ Some h
    → Descends s at left m end n (Some h) m
starts {m = m} a is = rw is at (a.descends m refl)

pub starts_not : {s m : List ℕ} {at left end n : ℕ} {r : Option Head} → Arrives s at left (length m) end n r → r ≡ None
    → Descends s at left m end n None m
starts_not {m = m} a is = rw is at (a.descends m refl)

module _ {s m m₁ m₂ : List ℕ} {at left end n : ℕ} {h : Head} {r : Option Head} {b : Bool} (d : Descends s at left m end n (Some h) m₁)
    (p : IsPassed s h b) (e : b ≡ true) (q : DescendsFrom h s m₁ r m₂) where
  below : Descends s at left m end n r m₂
  below = onward (d.head h refl) (q.exact (p.some e))

  pub further_down : {f : Head} → r ≡ Some f → Descends s at left m end n (Some f) m₂
  further_down is = rw is at below

  pub stopped_below : r ≡ None → Descends s at left m end n None m₂
  stopped_below is = rw is at below

pub is_settled : {s : List ℕ} {h : Head} {b : Bool} → IsPassed s h b → b ≡ false → Settled s h
is_settled p e = record { other = p.none e }

pub ruleset loops = (starts, starts_not, further_down, stopped_below, is_settled)

-- A node stands there, with room.
module _ {s : List ℕ} {size : ℕ} {h : Head} (r : HasRoom s size h) where
  pub byte_there : h.at < length s
  byte_there = r.byte

  pub node_there : 1 ≤ h.left
  node_there = r.node

  pub room_there : h.end + 4606 ≤ size
  room_there = r.room

pub ruleset rooms = (byte_there, node_there, room_there)

-- Whether the head is of one of the three kinds.
module _ {s : List ℕ} {h : Head} {kind : ℕ} (k : kind ≡ get_or s h.at 0) where
  passes_some : Passing kind → IsPassed s h true
  passes_some p = record { some = λ e. rw (← k) p; none = λ e. absurd (true≢false e) }

  pub passes_new : kind ≡ 1 → IsPassed s h true
  passes_new e = passes_some (inl e)

  pub passes_if : kind ≡ 4 → IsPassed s h true
  passes_if e = passes_some (inr (inl e))

  pub passes_let : (kind ≡ 1 → ⊥) → (kind ≡ 4 → ⊥) → IsPassed s h (eqb kind 5)
  passes_let f g = record {
    some = λ e. rw (← k) (inr (inr (eqb-true kind 5 e)));
    none = λ e p. ⊎_elim (λ a. f (k ∙ a)) (λ q. ⊎_elim (λ a. g (k ∙ a)) (λ a. eqb-false kind 5 e (k ∙ a)) q) p;
  }

pub ruleset passings = (passes_new, passes_if, passes_let)

-- A head of one of the three kinds.
module _ {s m m₁ : List ℕ} {f : Head} {r : Option Head} where
  pub is_kind : {i : ℕ} → get_or s f.at 0 ≡ i → DescendsIf i s f.at f.left m f.end f.names r m₁ → DescendsFrom f s m r m₁
  is_kind e d = record { exact = λ p. d.exact e }

  pub is_if : (get_or s f.at 0 ≡ 1 → ⊥) → (get_or s f.at 0 ≡ 5 → ⊥) → DescendsIf 4 s f.at f.left m f.end f.names r m₁
      → DescendsFrom f s m r m₁
  is_if u v d = record {
    exact = λ p. d.exact (⊎_elim (λ e. absurd (u e)) (λ q. ⊎_elim (λ e. e) (λ e. absurd (v e)) q) p);
  }

pub ruleset steps_down = (is_kind, is_if)
