-- What a traversal comes to that counts names, and one that judges what threads offer ("Judging and its count").
use Prim.Native.Nat.{ℕ, suc, ◌+◌}
use mathlib.Core.Path.{◌≡◌, refl, ap, ◌∙◌}
use mathlib.Core.Bool.{Bool, true, false, ◌||◌, or-false}
use mathlib.Core.List.{List, [], ◌∷◌, map}
use mathlib.Core.Option.{Option, none, some}
use Rattle.meaning.specs.Messages.Term.{leaf, private, Message}
use Rattle.meaning.specs.Messages.Normal.{equal}
use Rattle.meaning.specs.Bytes.Process.{Prefix, output, input, Process}
use Rattle.meaning.specs.Steps.State.{Bound, ◌▸◌, written, worked, Thread, act, repl, names, settle}
use Rattle.meaning.specs.Steps.Copies.{result_of}
use Rattle.meaning.specs.Logic.Truth.{any_of}
use Rattle.meaning.specs.Judging.Limits.{over, over_settling, over_prefix, over_copy, over_offers}
use Rattle.meaning.proofs.Test.{any_append}
use Rattle.meaning.proofs.Steps.Enumeration.Copies.{result_repl}
use Rattle.state_record.specs.Place.{then_at, else_at, body_at, right_at, rest_at}
use Rattle.state_progress.specs.TraversalResult.{Accumulated, TraversalResult, going, further, unless, named}
use Rattle.state_task.specs.Machine.{opening, offered, opened, at_repl}
use Rattle.state_head.specs.Traversal.{at_prefix, go}
use Rattle.state_task.specs.declared.task.Task.{Task}
use Rattle.state_task.specs.declared.task.Task.TheVariants.{Count, Judge, Settle}

-- A traversal meets a limit exactly where one of two tests says so, and otherwise it has come to h.
pub record Comes (c : TraversalResult) (a b : Bool) (h : Accumulated) : Type 0 where
  pub is : c ≡ unless (a || b) (going h)

-- The tests of two parts of a traversal.
pub or_four : (a b c d : Bool) → (a || b || (c || d)) ≡ (a || c || (b || d))
or_four true b c d = refl
or_four false true true d = refl
or_four false true false d = refl
or_four false false c d = refl

pub comes_unless : (o : Bool) {c : TraversalResult} {a b : Bool} {h : Accumulated} → Comes c a b h → Comes (unless o c) (o || a) b h
comes_unless true e = record { is = refl }
comes_unless false e = e

pub comes_further : {c : TraversalResult} {a b : Bool} {g : Accumulated} (f : Accumulated → TraversalResult) {d e : Bool} {h : Accumulated}
    → Comes c a b g → Comes (f g) d e h → Comes (further c f) (a || d) (b || e) h
comes_further {c} {a} {b} {g} f {d} {e} {h} p q =
    record { is = rw (p.is, ← or_four a b d e) (joined (a || b) q.is) }
  where
    joined : (t : Bool) → f g ≡ unless (d || e) (going h) → further (unless t (going g)) f ≡ unless (t || (d || e)) (going h)
    joined true r = refl
    joined false r = r

-- Four things that one test chooses.
pub chosen_all : {A B C D : Type 0} (R : A → B → C → D → Type 0) (c : Bool) {u u' : A} {v v' : B} {w w' : C} {x x' : D}
    → R u v w x → R u' v' w' x'
    → R (elim c [ true ↦ u | false ↦ u' ]) (elim c [ true ↦ v | false ↦ v' ]) (elim c [ true ↦ w | false ↦ w' ])
    (elim c [ true ↦ x | false ↦ x' ])
chosen_all R true r s = r
chosen_all R false r s = s

-- A repl thread meets a limit where its copy, opened at n, does, or a thread of that copy.
pub any_map : {A B : Type 0} (p : B → Bool) (f : A → B) (xs : List A) → any_of p (map f xs) ≡ any_of (λ x. p (f x)) xs
unfolding any_of
any_map p f [] = refl
any_map p f (x ∷ xs) = ap (λ b. p (f x) || b) (any_map p f xs)

abbrev pub over_copies : Process → Bound → ℕ → Bool
over_copies P ρ n = any_of (λ t. over_offers t (names P ρ n)) (settle P ρ n)

pub over_repl : (ρ : Bound) (P : Process) (n : ℕ) → over_offers (repl ρ P) n ≡ (over_settling P ρ n || over_copies P ρ n)
unfolding over_offers
over_repl ρ P n =
    ap (λ (r : ℕ → Bool). r n) (result_repl over_prefix over_copy ρ P)
    ∙ ap (λ b. over_settling P ρ n || b) (any_map (λ t. t.1 (names P ρ n)) (λ t. (t, result_of over_prefix over_copy t)) (settle P ρ n))

-- Own offers do not depend on the next private name.
any_name : (ρ : Bound) (p : Prefix) (P : Process) (n m : ℕ) → over_prefix ρ p P n ≡ over_prefix ρ p P m
any_name ρ (output C M) P n m = refl
any_name ρ (input C) P n m = refl

-- A copy is opened: its names are counted, and then its threads are judged.
opened_comes : (copy : Task → Accumulated → TraversalResult) (k n m : ℕ) (g : Accumulated) (a b : Bool) → Comes (copy Count (named n g)) a false (named m g)
    → Comes (copy (Judge m) (named n g)) a b (named m g) → opened copy (Judge k) n g ≡ unless (a || b) (going g)
unfolding opened opening
opened_comes copy k n m g true b c j = rw c.is
opened_comes copy k n m g false true c j = rw (c.is, j.is)
opened_comes copy k n m g false false c j = rw (c.is, j.is)

-- The two tasks that write no thread, and what they look at in a thread.
abbrev judging : Option ℕ → Task
judging none = Count
judging (some k) = Judge k

abbrev meets : Option ℕ → Thread → Bool
meets none t = false
meets (some k) t = over_offers t k

counts_none : (ts : List Thread) → any_of (meets none) ts ≡ false
unfolding any_of
counts_none [] = refl
counts_none (t ∷ ts) = counts_none ts

-- A thread that is traversed.
abbrev Over : TraversalResult → Option ℕ → Thread → Accumulated → Type 0
Over c k t g = Comes c false (meets k t || false) g

prefix_traversed : (k : Option ℕ) (x : Message) (at : ℕ) (ρ : Bound) (p : Prefix) (P : Process) (rest : Bound → Accumulated → TraversalResult) (g : Accumulated)
    → Over (at_prefix (judging k) x at ρ p P rest g) k (act ρ p P) g
unfolding at_prefix offered over_offers result_of
prefix_traversed none x at ρ p P rest g = record { is = refl }
prefix_traversed (some k) x at ρ p P rest g = record { is = rw (or-false, any_name ρ p P g.names k) }

-- What a traversal of a process comes to, n being the next private name: it meets a limit while settling, or at a thread.
abbrev Traversed : TraversalResult → Option ℕ → Process → Bound → ℕ → Accumulated → Type 0
Traversed c k P ρ n g = Comes c (over_settling P ρ n) (any_of (meets k) (settle P ρ n)) (named (names P ρ n) g)

repl_traversed : (k : Option ℕ) (at : ℕ) (ρ : Bound) (P : Process) (copy : Task → Accumulated → TraversalResult) (g : Accumulated)
    → ((j : Option ℕ) (n : ℕ) → Traversed (copy (judging j) (named n g)) j P ρ n g) → Over (at_repl (judging k) at ρ P copy g) k (repl ρ P) g
unfolding at_repl
repl_traversed none at ρ P copy g h = record { is = refl }
repl_traversed (some k) at ρ P copy g h =
    let count = rw counts_none at (h none k) in
    let judge = h (some (names P ρ k)) k in
    let opens = opened_comes copy k k (names P ρ k) g (over_settling P ρ k) (over_copies P ρ k) count judge in
    record { is = rw (or-false, over_repl ρ P k) opens }

traversed : (P : Process) (k : Option ℕ) (x : Message) (at : ℕ) (ρ : Bound) (g : Accumulated)
    → Traversed (go P (judging k) x at ρ g) k P ρ g.names g
unfolding go names settle over_settling any_of
traversed Process.nil k x at ρ g = record { is = refl }
traversed (Process.new P) k x at ρ g = traversed P k x (at + 1) (ρ ▸ leaf (private g.names)) (named (suc g.names) g)
traversed (Process.act p P) k x at ρ g = prefix_traversed k x at ρ p P (λ σ. go P Settle x (rest_at at p) σ) g
traversed (Process.if M N P Q) k x at ρ g =
    comes_unless (over ρ M || over ρ N)
    (chosen_all (λ c a ts n. Comes c a (any_of (meets k) ts) (named n g)) (equal (written ρ M) (written ρ N))
    (traversed P k x (then_at at M N) ρ g) (traversed Q k x (else_at at M N P) ρ g))
traversed (Process.let_in M P) k x at ρ g = comes_unless (over ρ M) (traversed P k x (body_at at M) (ρ ▸ worked ρ M) g)
traversed (Process.par P Q) k x at ρ g =
    let left = traversed P k x (at + 1) ρ g in
    let right = traversed Q k x (right_at at P) ρ (named (names P ρ g.names) g) in
    rw (any_append (meets k) (settle P ρ g.names) (settle Q ρ (names P ρ g.names)))
    (comes_further (go Q (judging k) x (right_at at P) ρ) left right)
traversed (Process.repl P) k x at ρ g =
    repl_traversed k at ρ P (λ U. go P U x (at + 1) ρ) g (λ j n. traversed P j x (at + 1) ρ (named n g))

-- Counting meets a limit exactly where settling does.
pub counted : (P : Process) (x : Message) (at : ℕ) (ρ : Bound) (g : Accumulated)
    → go P Count x at ρ g ≡ unless (over_settling P ρ g.names) (going (named (names P ρ g.names) g))
counted P x at ρ g = rw (counts_none, or-false) at (traversed P none x at ρ g).is

-- Judging meets one exactly where settling does, or some thread, its copies being opened at k.
pub judged : (P : Process) (k : ℕ) (x : Message) (at : ℕ) (ρ : Bound) (g : Accumulated)
    → go P (Judge k) x at ρ g
    ≡ unless (over_settling P ρ g.names || any_of (λ t. over_offers t k) (settle P ρ g.names)) (going (named (names P ρ g.names) g))
judged P k x at ρ g = (traversed P (some k) x at ρ g).is
