-- Whichever copy of a repl thread is opened, and however late, the same limits are met ("Judging and its count"): a copy opened
-- one name later has its own names one higher, and is otherwise the same.
use Prim.Native.Nat.{ℕ, zero, suc, ◌+◌, ◌-◌, min, ◌≤◌}
use native.Mathlib.Omega.{arith}
use native.Mathlib.Nat.{add-zero, add-suc}
use mathlib.Core.Path.{◌≡◌, refl, ◌∙◌, ap, ap₂}
use mathlib.Core.Bool.{Bool, false, ◌||◌, or-false}
use mathlib.Core.List.{List, ◌∷◌, map, map-append}
use Rattle.meaning.specs.Messages.Term.{leaf, proj, binary, public, private, Term, Message}
use Rattle.meaning.specs.Messages.Normal.{equal}
use Rattle.meaning.specs.Bytes.Process.{Prefix, Process}
use Rattle.meaning.specs.Places.{none, ◌also◌}
use Rattle.meaning.specs.Steps.State.{Bound, ◌▸◌, written, worked, Thread, act, repl, names}
use Rattle.meaning.specs.Steps.Copies.{settled, result_of}
use Rattle.meaning.specs.Logic.Truth.{any_of}
use Rattle.meaning.specs.Judging.Limits.{over_whole, over, over_settling, over_prefix, over_copy, over_offers}
use Rattle.meaning.specs.Steps.Invariant.{MessageBelow, BoundStored, ThreadStored}
use Rattle.meaning.specs.Theorems.{CopiesAlike}
use Rattle.meaning.proofs.Test.{chosen, any_append}
use Rattle.meaning.proofs.Steps.Invariant.Settling.{thread_later}
use Rattle.meaning.proofs.Messages.Renaming.{rename, rename_nodes, rename_written, rename_normal, rename_equal}

module _ (n : ℕ) where
  -- Names from n on go up by one, and down again.
  abbrev up : ℕ → ℕ
  up k = k + min 1 (suc k - n)

  abbrev down : ℕ → ℕ
  down k = k - min 1 (k - n)

  down_up : (k : ℕ) → down (up k) ≡ k
  down_up k = omega arith

  -- Bound messages with their names gone up.
  abbrev raised : Bound → Bound
  raised ρ = map (rename up) ρ

  -- What is worked from raised messages is raised, so it passes the same tests.
  module _ (ρ : Bound) where
    raised_worked : (t : Term) → worked (raised ρ) t ≡ rename up (worked ρ t)
    raised_worked t = rw rename_written (rename_normal up down down_up (written ρ t))

    raised_equal : (t u : Term) → equal (written (raised ρ) t) (written (raised ρ) u) ≡ equal (written ρ t) (written ρ u)
    raised_equal t u =
        rw (rename_written up ρ t, rename_written up ρ u) (rename_equal up down down_up (written ρ t) (written ρ u))

    raised_whole : (t : Term) → over_whole (raised ρ) t ≡ over_whole ρ t
    raised_whole t = rw (raised_worked t, rename_nodes)

    raised_over : (t : Term) → over (raised ρ) t ≡ over ρ t
    unfolding over
    raised_over (leaf l) = raised_whole (leaf l)
    raised_over (proj s t) = ap₂ ◌||◌ (raised_over t) (raised_whole (proj s t))
    raised_over (binary b t u) = ap₂ ◌||◌ (ap₂ ◌||◌ (raised_over t) (raised_over u)) (raised_whole (binary b t u))

    raised_prefix : (p : Prefix) (P : Process) (k l : ℕ) → over_prefix (raised ρ) p P l ≡ over_prefix ρ p P k
    raised_prefix (Prefix.output C M) P k l = ap₂ ◌||◌ (raised_over C) (raised_over M)
    raised_prefix (Prefix.input C) P k l = raised_over C

  -- Messages with no name from n on stay.
  rename_below : (x : Message) → MessageBelow n x → rename up x ≡ x
  rename_below (leaf (public a)) h = refl
  rename_below (leaf (private k)) h = let e : up k ≡ k = omega arith in rw e
  rename_below (proj s x) h = ap (proj s) (rename_below x h)
  rename_below (binary b x y) h = ap₂ (binary b) (rename_below x h.0) (rename_below y h.1)

  raised_below : {ρ : Bound} → BoundStored n ρ → raised ρ ≡ ρ
  raised_below none = refl
  raised_below (h also b) = ap₂ ◌∷◌ (rename_below _ h.1) (raised_below b)

  -- The next name is n or later, and one higher.
  abbrev Next : ℕ → ℕ → Type 0
  Next k l = (n ≤ k) × (l ≡ suc k)

  -- Results of threads that meet the same limits.
  abbrev OffersAlike : List (Thread × (ℕ → Bool)) → List (Thread × (ℕ → Bool)) → Type 0
  OffersAlike xs ys = (k l : ℕ) → Next k l → any_of (λ t. t.1 l) ys ≡ any_of (λ t. t.1 k) xs

  -- A process is settled from ρ and k, and alike from σ and l.
  abbrev Alike : Process → Bound → Bound → ℕ → ℕ → Type 0
  Alike P ρ σ k l =
      Next (names P ρ k) (names P σ l) × (over_settling P σ l ≡ over_settling P ρ k)
      × OffersAlike (settled over_prefix over_copy P ρ k) (settled over_prefix over_copy P σ l)

  alike : (P : Process) (ρ : Bound) (k l : ℕ) → Next k l → Alike P ρ (raised ρ) k l
  unfolding names over_settling settled any_of
  alike Process.nil ρ k l x = (x, refl, λ i j y. refl)
  alike (Process.new P) ρ k l x =
      let e : up k ≡ l = omega arith in
      rw (map-append, e) at (alike P (ρ ▸ leaf (private k)) (suc k) (suc l) (omega arith))
  alike (Process.act p P) ρ k l x = (x, refl, λ i j y. ap (λ b. b || false) (raised_prefix ρ p P i j))
  alike (Process.if M N P Q) ρ k l x =
      let p = alike P ρ k l x in
      let q = alike Q ρ k l x in
      let c = equal (written ρ M) (written ρ N) in
      rw (raised_equal ρ M N, names, over_settling, settled) (
        chosen Next c p.0 q.0,
        ap₂ ◌||◌ (ap₂ ◌||◌ (raised_over ρ M) (raised_over ρ N)) (chosen (λ a b. b ≡ a) c p.1 q.1),
        chosen OffersAlike c p.2 q.2,
      )
  alike (Process.let_in M P) ρ k l x =
      let p = rw (map-append, ← raised_worked) at (alike P (ρ ▸ worked ρ M) k l x) in
      (p.0, ap₂ ◌||◌ (raised_over ρ M) p.1, p.2)
  alike (Process.par P Q) ρ k l x =
      let p = alike P ρ k l x in
      let q = alike Q ρ (names P ρ k) (names P (raised ρ) l) p.0 in
      (q.0, ap₂ ◌||◌ p.1 q.1, λ i j y. simp any_append (ap₂ ◌||◌ (p.2 i j y) (q.2 i j y)))
  alike (Process.repl P) ρ k l x =
      (x, refl, λ i j y. let p = alike P ρ i j y in ap (λ b. b || false) (ap₂ ◌||◌ p.1 (p.2 _ _ p.0)))

one_later : (t : Thread) (n : ℕ) → ThreadStored n t → over_offers t (suc n) ≡ over_offers t n
unfolding settled result_of any_of over_offers
one_later (act ρ (Prefix.output C M) P) n b = refl
one_later (act ρ (Prefix.input C) P) n b = refl
one_later (repl ρ P) n b =
    let x : Next n n (suc n) = omega arith in
    simp (raised_below n b, or-false) at ((alike n (Process.repl P) ρ n (suc n) x).2 n (suc n) x)

pub copies_alike : CopiesAlike
copies_alike t n m b le = let e : n + (m - n) ≡ m = omega arith in rw e at (later (m - n))
  where
    later : (d : ℕ) → over_offers t (n + d) ≡ over_offers t n
    later zero = rw add-zero
    later (suc d) = rw add-suc (one_later t (n + d) (thread_later (omega arith) t b) ∙ later d)
