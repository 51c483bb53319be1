-- What a traversal does at a repl thread is what its copies are decided to be ("Steps").
use mathlib.Core.Path.{◌≡◌, refl, sym, ap, ◌∙◌}
use mathlib.Core.Bool.{Bool, true, false, not, ◌&&◌, ◌||◌}
use mathlib.Core.List.{[], ◌∷◌, ◌++◌}
use Prim.Native.Nat.{ℕ, suc, ◌+◌}
use lib.Dec.{ltb, eqb}
use lib.ListN.{length}
use Rattle.meaning.specs.Bytes.Process.{Process}
use Rattle.meaning.specs.Steps.State.{Bound, repl}
use Rattle.meaning.specs.Judging.Limits.{bound_nodes}
use Rattle.state_progress.specs.TraversalResult.{Accumulated, TraversalResult, going, over_limit, found, further, unless, push}
use Rattle.state_task.specs.Machine.{contains, opened, sending, taking, sought_in, built_copy, built_copies, at_repl}
use Rattle.state_task.specs.Copies.{one, within, seeking, target, seeking_in, passes, finding, taken, builder, rebuilt, building_in}
use Rattle.state_task.specs.Copies.{copies_at, opened_by, performed}
use Rattle.state_task.specs.declared.task.Task.{Task}
use Rattle.state_task.specs.declared.task.Task.TheVariants.{Count, Judge, Settle, Seek, SeekIn, Find, Build, BuildIn}
use Rattle.state_task.specs.declared.task.Quest.{Quest}
use Rattle.state_task.specs.declared.task.CopyAt.{CopyAt}
use Rattle.state_task.specs.declared.task.Plan.{Plan}
use Rattle.state_task.specs.declared.opening.Opening.{Opening}
use Rattle.state_task.specs.declared.opening.Opening.TheVariants.{None, Copy}
use Rattle.state_task.specs.declared.opening.Own.TheVariants.{Passed, Before, After, Found}
use Rattle.state_task.specs.declared.opening.Copies.{Copies}

-- Nothing comes next.
pub no_more : (c : TraversalResult) → further c (λ g. going g) ≡ c
no_more (going g) = refl
no_more over_limit = refl
no_more (found x n ms) = refl

-- A test that decides what is done decides what it comes to.
either : {A B : Type 0} (f : A → B) (b : Bool) {x y : B} {c d : A} → x ≡ f c → y ≡ f d
    → (elim b [ true ↦ x | false ↦ y ]) ≡ f (elim b [ true ↦ c | false ↦ d ])
either f true p q = p
either f false p q = q

module _ (at : ℕ) (ρ : Bound) (P : Process) (copy : Task → Accumulated → TraversalResult) (g : Accumulated) where
  abbrev pub done : Copies → TraversalResult
  done c = performed c at ρ P copy g

  abbrev by : Opening → TraversalResult
  by o = opened_by o copy g

  -- One copy alone, or before the thread is found or written.
  alone : (o : Opening) → by o ≡ done (one Passed o)
  alone o = sym (no_more _ ∙ no_more _)

  then_found : (k : ℕ) (o : Opening) → further (by o) (λ h. found at k []) ≡ done (one (Found k) o)
  then_found k o = ap (λ c. further c (λ h. found at k [])) (sym (no_more (by o)))

  then_written : (o : Opening) → further (by o) (push at (repl ρ P)) ≡ done (one After o)
  then_written o = ap (λ c. further c (push at (repl ρ P))) (sym (no_more (by o)))

  -- It is written, and then a copy is judged.
  judged : (b : Bool) (h : Accumulated) → h.names ≡ g.names
      → further (unless b (going h)) (λ i. opened copy (Judge i.names) i.names i)
      ≡ further (further (further (unless b (going h)) (opened copy (Judge g.names) g.names)) (λ i. going i)) (λ i. going i)
  judged true h e = refl
  judged false h e = ap (λ n. opened copy (Judge n) n h) e ∙ sym (no_more _ ∙ no_more _)

  settling : further (push at (repl ρ P) g) (λ h. opened copy (Judge h.names) h.names h)
      ≡ done (one Before (Copy (Judge g.names) g.names))
  unfolding push
  settling =
      judged (ltb 32 (suc (length g.threads)) || ltb 1024 (g.nodes + bound_nodes ρ)) (record {
        names = g.names;
        nodes = g.nodes + bound_nodes ρ;
        threads = g.threads ++ (record { place = at; thread = repl ρ P } ∷ []);
      }) refl

  sought-in : (q : Quest) (c : CopyAt) (k : ℕ) → sought_in q c k copy g ≡ by (target q c k)
  unfolding sought_in target
  sought-in q c k = either by (eqb c.arity 0) refl (either by (eqb c.arity 1) refl refl)

  built-copy : (b : Plan) (k : ℕ) → built_copy b k at P copy g ≡ by (builder b k at P)
  unfolding built_copy builder within taken
  built-copy b k =
      either by (contains b.sender (at + 1) P) refl
      (either by (contains b.taker (at + 1) P) (either by (eqb b.sender 0) refl refl) refl)

  built_in : (b : Plan) (c : CopyAt) (k : ℕ) (here inside : Bool) → further (elim here [
    | true ↦ built_copies b c k copy g
    | false ↦ elim inside [ true ↦ opened copy (BuildIn b c k) k g | false ↦ going g ]
  ]) (push at (repl ρ P)) ≡ done (elim here [
    | true ↦ rebuilt b c k
    | false ↦ one After (elim inside [ true ↦ Copy (BuildIn b c k) k | false ↦ None ])
  ])
  unfolding built_copies rebuilt
  built_in b c k true inside = by_mode (eqb c.arity 2)
    where
      by_mode : (two : Bool) → further (elim two [
        | true ↦ further (opened copy (Build (sending b) k) k g) (opened copy (Build (taking b) k) c.second)
        | false ↦ opened copy (Build b k) k g
      ]) (push at (repl ρ P)) ≡ done (elim two [
        | true ↦ record { own = After; first = Copy (Build (sending b) k) k; second = Copy (Build (taking b) k) c.second }
        | false ↦ one After (Copy (Build b k) k)
      ])
      by_mode true = refl
      by_mode false = then_written (Copy (Build b k) k)
  built_in b c k false true = then_written (Copy (BuildIn b c k) k)
  built_in b c k false false = refl

  found_or_not : (f k : ℕ) (past here before : Bool) → (elim here [
    | true ↦ elim past [ true ↦ going g | false ↦ found at k [] ]
    | false ↦ elim before [ true ↦ going g | false ↦ further (opened copy (Find f past k) k g) (λ h. found at k []) ]
  ]) ≡ done (elim (elim here as (λ x. Bool) [ true ↦ past | false ↦ before ]) [
    | true ↦ one Passed None
    | false ↦ one (Found k) (elim here [ true ↦ None | false ↦ Copy (Find f past k) k ])
  ])
  found_or_not f k true true before = refl
  found_or_not f k false true before = refl
  found_or_not f k past false true = refl
  found_or_not f k past false false = then_found k (Copy (Find f past k) k)

  -- For every task.
  pub as_decided : (T : Task) → at_repl T at ρ P copy g ≡ done (copies_at T at g.names P)
  unfolding at_repl within seeking seeking_in passes finding building_in
  as_decided Count = refl
  as_decided (Judge k) = alone (Copy (Judge k) k)
  as_decided Settle = settling
  as_decided (Seek q k) = either by (contains q.excluded (at + 1) P) refl refl ∙ alone (seeking q k at P)
  as_decided (SeekIn q c k) =
      either by (eqb (at + 1) c.place) (sought-in q c k) (either by (contains c.place (at + 1) P) refl refl)
      ∙ alone (seeking_in q c k at P)
  as_decided (Find f past k) =
      found_or_not f k past (eqb (at + 1) f) (ltb (at + 1) f && not (contains f (at + 1) P))
  as_decided (Build b k) = ap (λ c. further c (push at (repl ρ P))) (built-copy b k) ∙ then_written (builder b k at P)
  as_decided (BuildIn b c k) = built_in b c k (eqb (at + 1) c.place) (contains c.place (at + 1) P)
