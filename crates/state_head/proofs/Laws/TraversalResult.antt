-- What every traversal leaves, whatever its task: the next private name is the one that settling leaves ("Steps").
use Prim.Native.Nat.{ℕ, suc, ◌+◌, ◌≤◌}
use native.Mathlib.Omega.{arith}
use mathlib.Core.Path.{◌≡◌, refl}
use mathlib.Core.Bool.{Bool, true, false, not, ◌&&◌, ◌||◌, true≢false}
use mathlib.Core.List.{List, [], ◌∷◌, ◌++◌}
use lib.Dec.{ltb, eqb}
use lib.ListN.{length}
use Rattle.meaning.specs.Messages.Term.{leaf, private, Message}
use Rattle.meaning.specs.Messages.Normal.{equal, same}
use Rattle.meaning.specs.Bytes.Process.{Prefix, output, input, Process}
use Rattle.meaning.specs.Steps.State.{Bound, ◌▸◌, written, worked, Thread, act, repl, names}
use Rattle.meaning.specs.Judging.Limits.{over, over_prefix, bound_nodes}
use Rattle.meaning.proofs.Test.{chosen}
use Rattle.state_record.specs.Place.{then_at, else_at, body_at, right_at, rest_at}
use Rattle.state_record.specs.Record.{bound_of}
use Rattle.state_progress.specs.TraversalResult.{Accumulated, TraversalResult, going, over_limit, found, further, unless, named, returned, push}
use Rattle.state_task.specs.Machine.{opening, opened, offered, sought, at_repl}
use Rattle.state_head.specs.Traversal.{built, at_prefix, go}
use Rattle.state_task.specs.Copies.{copies_at, opened_by, firstly, lastly}
use Rattle.state_task.proofs.Laws.Copies.{as_decided}
use Rattle.state_head.specs.News.{news, later_news}
use Rattle.state_task.specs.declared.task.Task.{Task}
use Rattle.state_task.specs.declared.task.Task.TheVariants.{Count, Judge, Settle, Seek, SeekIn, Find, Build, BuildIn}
use Rattle.state_task.specs.declared.task.Quest.{Quest}
use Rattle.state_task.specs.declared.task.Plan.{Plan}
use Rattle.state_task.specs.declared.opening.Opening.{Opening}
use Rattle.state_task.specs.declared.opening.Opening.TheVariants.{None, Copy, Again}
use Rattle.state_task.specs.declared.opening.Own.{Own}
use Rattle.state_task.specs.declared.opening.Own.TheVariants.{Passed, Before, After, Found}

-- What holds of a traversal that goes on, whatever it has come to.
pub record Ends (Q : Accumulated → Type 0) (c : TraversalResult) : Type 0 where
  pub at_end : (h : Accumulated) → c ≡ going h → Q h

module _ {Q : Accumulated → Type 0} where
  pub ends : {g : Accumulated} → Q g → Ends Q (going g)
  ends {g} q = record { at_end = λ h p. let e : g ≡ h = cc in rw e at q }

  -- A traversal that met a limit, or has found its thread, does not go on.
  pub stopped : Ends Q over_limit
  stopped = record { at_end = λ h p. let e : true ≡ false = cc in absurd (true≢false e) }

  pub ends_found : (place next : ℕ) (ms : List Message) → Ends Q (found place next ms)
  ends_found place next ms = record { at_end = λ h p. let e : true ≡ false = cc in absurd (true≢false e) }

  pub ends_unless : (b : Bool) {c : TraversalResult} → Ends Q c → Ends Q (unless b c)
  ends_unless true e = stopped
  ends_unless false e = e

  pub ends_either : (b : Bool) {c d : TraversalResult} → Ends Q c → Ends Q d → Ends Q (elim b [ true ↦ c | false ↦ d ])
  ends_either true e f = e
  ends_either false e f = f

  pub ends_further : (c : TraversalResult) {f : Accumulated → TraversalResult} → ((h : Accumulated) → c ≡ going h → Ends Q (f h)) → Ends Q (further c f)
  ends_further (going h) k = k h refl
  ends_further over_limit k = stopped
  ends_further (found place next ms) k = ends_found place next ms

-- The next private name is n.
abbrev pub Next : ℕ → Accumulated → Type 0
Next n h = h.names ≡ n

-- Two parts of a traversal, of which the second goes on from the name at which the first ends.
pub then_next : {c : TraversalResult} {f : Accumulated → TraversalResult} (then : ℕ → ℕ) {n : ℕ} → Ends (Next n) c
    → ((h : Accumulated) → Ends (Next (then h.names)) (f h)) → Ends (Next (then n)) (further c f)
then_next {c} {f} then e k = ends_further c (λ h p. rw (← e.at_end h p) (k h))

-- Names that were taken are given back.
pub returned_next : (n : ℕ) (c : TraversalResult) → Ends (Next n) (returned n c)
returned_next n c = ends_further c (λ h p. ends {g = named n h} refl)

pub push_next : (at : ℕ) (t : Thread) (g : Accumulated) → Ends (Next g.names) (push at t g)
unfolding push
push_next at t g =
    let more = g.nodes + bound_nodes (bound_of t) in
    let h : Accumulated = record { names = g.names; nodes = more; threads = g.threads ++ (record { place = at; thread = t } ∷ []) } in
    ends_unless (ltb 32 (suc (length g.threads)) || ltb 1024 more) (ends {g = h} refl)

module _ (at : ℕ) (ρ : Bound) (g : Accumulated) where
  offered_next : (p : Prefix) (P : Process) → Ends (Next g.names) (offered ρ p P g)
  unfolding offered
  offered_next p P = ends_unless (over_prefix ρ p P g.names) (ends {g = g} refl)

  -- One that seeks and goes on has come to what it had come to.
  pub sought_ends : {Q : Accumulated → Type 0} → Q g → (q : Quest) (k : ℕ) (x : Message) (p : Prefix) → Ends Q (sought q k x at ρ p g)
  unfolding sought
  sought_ends z q k x (output C M) =
      ends_either (q.output && not (ltb at q.from) && not (eqb (at + 1) q.excluded)) (ends_unless (over ρ C)
      (ends_either (q.any || same (worked ρ C) x) (ends_unless (over ρ M) (ends_found at k (worked ρ C ∷ worked ρ M ∷ []))) (ends z)))
      (ends z)
  sought_ends z q k x (input C) =
      ends_either (not q.output && not (ltb at q.from) && not (eqb (at + 1) q.excluded)) (ends_unless (over ρ C)
      (ends_either (q.any || same (worked ρ C) x) (ends_found at k []) (ends z))) (ends z)

  built_next : (b : Plan) (x : Message) (p : Prefix) (P : Process) (rest : Bound → Accumulated → TraversalResult)
      → Ends (Next g.names) (built b x at ρ p P rest g)
  unfolding built
  built_next b x p P rest =
      ends_either (eqb (at + 1) b.sender) (returned_next g.names (rest ρ (named b.rest g)))
      (ends_either (eqb (at + 1) b.taker) (returned_next g.names (rest (ρ ▸ x) (named b.last g))) (push_next at (act ρ p P) g))

prefix_next : (T : Task) (x : Message) (at : ℕ) (ρ : Bound) (p : Prefix) (P : Process) (rest : Bound → Accumulated → TraversalResult) (g : Accumulated)
    → Ends (Next g.names) (at_prefix T x at ρ p P rest g)
unfolding at_prefix
prefix_next Count x at ρ p P rest g = ends refl
prefix_next (Judge k) x at ρ p P rest g = offered_next at ρ g p P
prefix_next Settle x at ρ p P rest g = then_next (λ n. n) (push_next at (act ρ p P) g) (λ h. offered_next at ρ h p P)
prefix_next (Seek q k) x at ρ p P rest g = sought_ends at ρ g refl q k x p
prefix_next (SeekIn q c k) x at ρ p P rest g = ends refl
prefix_next (Find f past k) x at ρ p P rest g = ends refl
prefix_next (Build b k) x at ρ p P rest g = built_next at ρ g b x p P rest
prefix_next (BuildIn b c k) x at ρ p P rest g = push_next at (act ρ p P) g

-- What is done in copies.
module _ (copy : Task → Accumulated → TraversalResult) where
  pub opened_next : (T : Task) (n : ℕ) (g : Accumulated) → Ends (Next g.names) (opened copy T n g)
  unfolding opened
  opened_next T n g = ends_further (copy Count (named n g)) (λ h p. returned_next g.names (copy (opening T h.names) (named n g)))

  pub opening_next : (o : Opening) (g : Accumulated) → Ends (Next g.names) (opened_by o copy g)
  opening_next None g = ends refl
  opening_next (Copy T n) g = opened_next T n g
  opening_next (Again T n) g = returned_next g.names (copy T (named n g))

-- What is done with a repl thread itself, before and after.
module _ (at : ℕ) (ρ : Bound) (P : Process) where
  pub first_next : (own : Own) (g : Accumulated) → Ends (Next g.names) (firstly own at ρ P g)
  first_next Passed g = ends refl
  first_next Before g = push_next at (repl ρ P) g
  first_next After g = ends refl
  first_next (Found k) g = ends refl

  last_next : (own : Own) (g : Accumulated) → Ends (Next g.names) (lastly own at ρ P g)
  last_next Passed g = ends refl
  last_next Before g = ends refl
  last_next After g = push_next at (repl ρ P) g
  last_next (Found k) g = ends_found at k []

  repl_next : (copy : Task → Accumulated → TraversalResult) (T : Task) (g : Accumulated) → Ends (Next g.names) (at_repl T at ρ P copy g)
  repl_next copy T g =
      let c = copies_at T at g.names P in
      rw (as_decided at ρ P copy g T) (then_next (λ n. n) (then_next (λ n. n) (then_next (λ n. n) (first_next c.own g)
      (opening_next copy c.first)) (opening_next copy c.second)) (last_next c.own))

go_next : (P : Process) (T : Task) (x : Message) (at : ℕ) (ρ : Bound) (g : Accumulated) → Ends (Next (names P ρ g.names)) (go P T x at ρ g)
unfolding go names
go_next Process.nil T x at ρ g = ends refl
go_next (Process.new P) T x at ρ g = go_next P T x (at + 1) (ρ ▸ leaf (private g.names)) (named (suc g.names) g)
go_next (Process.act p P) T x at ρ g = prefix_next T x at ρ p P (λ σ. go P Settle x (rest_at at p) σ) g
go_next (Process.if M N P Q) T x at ρ g =
    ends_unless (over ρ M || over ρ N) (chosen (λ c m. Ends (Next m) c) (equal (written ρ M) (written ρ N))
    (go_next P T x (then_at at M N) ρ g) (go_next Q T x (else_at at M N P) ρ g))
go_next (Process.let_in M P) T x at ρ g = ends_unless (over ρ M) (go_next P T x (body_at at M) (ρ ▸ worked ρ M) g)
go_next (Process.par P Q) T x at ρ g = then_next (names Q ρ) (go_next P T x (at + 1) ρ g) (go_next Q T x (right_at at P) ρ)
go_next (Process.repl P) T x at ρ g = repl_next at ρ P (λ U. go P U x (at + 1) ρ) T g

-- Every task leaves the names as settling does.
pub go_names : (P : Process) (T : Task) (x : Message) (at : ℕ) (ρ : Bound) (g h : Accumulated) → go P T x at ρ g ≡ going h
    → h.names ≡ names P ρ g.names
go_names P T x at ρ g h e = (go_next P T x at ρ g).at_end h e

-- There are at most as many `new` nodes under a repl, an output or an input as in all.
later_fewer : (P : Process) → later_news P ≤ news P
later_fewer Process.nil = omega arith
later_fewer (Process.new P) = omega (arith, later_fewer P)
later_fewer (Process.act p P) = omega arith
later_fewer (Process.if M N P Q) = omega (arith, later_fewer P, later_fewer Q)
later_fewer (Process.let_in M P) = later_fewer P
later_fewer (Process.par P Q) = omega (arith, later_fewer P, later_fewer Q)
later_fewer (Process.repl P) = omega arith

-- Settling makes the names of the other ones, each at most once.
pub names-fit : (P : Process) (ρ : Bound) (n : ℕ) → names P ρ n + later_news P ≤ n + news P
unfolding names
names-fit Process.nil ρ n = omega arith
names-fit (Process.new P) ρ n = omega (arith, names-fit P (ρ ▸ leaf (private n)) (suc n))
names-fit (Process.act p P) ρ n = omega arith
names-fit (Process.if M N P Q) ρ n =
    let p = names-fit P ρ n in
    let q = names-fit Q ρ n in
    chosen {B = Unit {0}} (λ m u. m + (later_news P + later_news Q) ≤ n + (news P + news Q)) (equal (written ρ M) (written ρ N))
    {w = tt} {y = tt} (omega (arith, later_fewer Q)) (omega (arith, later_fewer P))
names-fit (Process.let_in M P) ρ n = names-fit P _ n
names-fit (Process.par P Q) ρ n = omega (arith, names-fit P ρ n, names-fit Q ρ (names P ρ n))
names-fit (Process.repl P) ρ n = omega arith

-- So the names of a copy or of what follows a thread fit too, after those that were taken.
pub go_fits : (P : Process) (T : Task) (x : Message) (at : ℕ) (ρ : Bound) (g h : Accumulated) → go P T x at ρ g ≡ going h
    → h.names + later_news P ≤ g.names + news P
go_fits P T x at ρ g h e = rw (go_names P T x at ρ g h e) (names-fit P ρ g.names)
