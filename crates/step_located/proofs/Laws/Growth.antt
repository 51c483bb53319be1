-- What a step leaves of a process and its copies weighs no more than the index says, by any measure of threads that adds up ("Steps",
-- "Judging and its count").
use Prim.Native.Nat.{ℕ, suc, ◌+◌, ◌*◌, ◌≤◌}
use native.Mathlib.Omega.{arith}
use native.Mathlib.Nat.{le_refl, add-mul, one-mul}
use mathlib.Core.Path.{◌≡◌, refl, sym, ◌∙◌, ap, subst}
use mathlib.Core.Bool.{Bool, true, false, true≢false}
use mathlib.Core.List.{List, [], ◌∷◌, ◌++◌}
use lib.Dec.{eqb}
use borrow.Author.Tests.{eqb-true}
use Rattle.meaning.specs.Messages.Term.{Term, Message, leaf, private, nodes}
use Rattle.meaning.specs.Messages.Normal.{equal}
use Rattle.meaning.specs.Bytes.Process.{Prefix, Process}
use Rattle.meaning.specs.Steps.State.{Bound, ◌▸◌, written, act, repl, names}
use Rattle.meaning.specs.Judging.Limits.{bound_nodes}
use Rattle.state_record.specs.Place.{right_at}
use Rattle.state_record.specs.Record.{Placed, bound_of}
use Rattle.index_entry.specs.Entry.{growth}
use Rattle.step_located.specs.Located.{inside, replaced_as}
use Rattle.step_located.specs.CopyStep.{CopyStep, both_replaced_as, left_as}
use Rattle.step_located.specs.Rebuilt.{replaced_at, both_replaced_at, left_at, placed_at}
use Rattle.step_located.proofs.Laws.Located.{Part, new_part, then_part, else_part, left_part, right_part, repl_part}
use Rattle.step_located.proofs.Laws.Located.{at_inside, part_inside, left_only}

-- A growth that is not capped is the sum of those of the parts. The one of a `let` is always too large.
pub new_sum : (P : Process) → growth (Process.new P) ≤ 32 → growth (Process.new P) ≡ 1 + growth P
unfolding growth
new_sum P few = omega arith

pub if_sum : (M N : Term) (P Q : Process) → growth (Process.if M N P Q) ≤ 32 → growth (Process.if M N P Q) ≡ growth P + growth Q
unfolding growth
if_sum M N P Q few = omega arith

pub let_large : (M : Term) (P : Process) → growth (Process.let_in M P) ≤ 32 → ⊥
unfolding growth
let_large M P few = omega arith

pub par_sum : (P Q : Process) → growth (Process.par P Q) ≤ 32 → growth (Process.par P Q) ≡ growth P + growth Q
unfolding growth
par_sum P Q few = omega arith

pub repl_sum : (P : Process) → growth (Process.repl P) ≤ 32 → growth (Process.repl P) ≡ 1 + growth P
unfolding growth
repl_sum P few = omega arith

act_one : (p : Prefix) (P : Process) → growth (Process.act p P) ≡ 1
unfolding growth
act_one p P = refl

-- The nodes of one more message; a private name is one node.
pub more_nodes : (ρ : Bound) (m : Message) → bound_nodes (ρ ▸ m) ≡ bound_nodes ρ + nodes m
unfolding bound_nodes
more_nodes [] m = omega arith
more_nodes (r ∷ ρ) m = omega (arith, more_nodes ρ m)

-- A process that has room: few threads, and with the names that it binds no more nodes than c in one of them.
record RoomForGrowth (c : ℕ) (P : Process) (ρ : Bound) : Type 0 where
  few : growth P ≤ 32
  light : bound_nodes ρ + growth P ≤ c

module _ {c : ℕ} {ρ : Bound} where
  room_new : (P : Process) (n : ℕ) → RoomForGrowth c (Process.new P) ρ → RoomForGrowth c P (ρ ▸ leaf (private n))
  room_new P n r = omega (arith, r, new_sum P r.few, more_nodes ρ (leaf (private n)))

  room_then : (M N : Term) (P Q : Process) → RoomForGrowth c (Process.if M N P Q) ρ → RoomForGrowth c P ρ
  room_then M N P Q r = omega (arith, r, if_sum M N P Q r.few)

  room_else : (M N : Term) (P Q : Process) → RoomForGrowth c (Process.if M N P Q) ρ → RoomForGrowth c Q ρ
  room_else M N P Q r = omega (arith, r, if_sum M N P Q r.few)

  room_left : (P Q : Process) → RoomForGrowth c (Process.par P Q) ρ → RoomForGrowth c P ρ
  room_left P Q r = omega (arith, r, par_sum P Q r.few)

  room_right : (P Q : Process) → RoomForGrowth c (Process.par P Q) ρ → RoomForGrowth c Q ρ
  room_right P Q r = omega (arith, r, par_sum P Q r.few)

  room_copy : (P : Process) → RoomForGrowth c (Process.repl P) ρ → RoomForGrowth c P ρ
  room_copy P r = omega (arith, r, repl_sum P r.few)

-- The multiples of d by a sum, and by one more.
pub times : {s : ℕ} (p q d : ℕ) → s ≡ p + q → s * d ≡ p * d + q * d
times p q d e = ap (λ r. r * d) e ∙ add-mul p q d

more_times : {s : ℕ} (p d : ℕ) → s ≡ 1 + p → s * d ≡ d + p * d
more_times p d e = times 1 p d e ∙ ap (λ r. r + p * d) (one-mul d)

-- What takes the place of the thread at x weighs m: at most a, if x is in the process.
abbrev Takes : (x at : ℕ) → Process → (m a : ℕ) → Type 0
Takes x at P m a = inside x at P ≡ true → m ≤ a

takes_part : (x : ℕ) {at at' m a : ℕ} {P P' : Process} → Part at P at' P' → Takes x at P m a → Takes x at' P' m a
takes_part x part f i = f (part_inside x part i)

takes_first : (x at : ℕ) (P : Process) {m a : ℕ} → Takes x at P m a → eqb at x ≡ true → m ≤ a
takes_first x at P f e = f (subst (λ y. inside y at P ≡ true) (eqb-true at x e) (at_inside at P))

-- The position is in one side of a par at most, so only this side has something to take.
record Split (x at : ℕ) (P Q : Process) (m a : ℕ) : Type 0 where
  left : ℕ
  right : ℕ
  whole : left + right ≡ a
  in_left : Takes x (at + 1) P m left
  in_right : Takes x (right_at at P) Q m right

split : (x at : ℕ) (P Q : Process) (m a : ℕ) → Takes x at (Process.par P Q) m a → Split x at P Q m a
split x at P Q m a f = by_test (inside x (at + 1) P) refl
  where
    by_test : (b : Bool) → inside x (at + 1) P ≡ b → Split x at P Q m a
    by_test true e = record {
      left = a;
      right = 0;
      whole = omega arith;
      in_left = takes_part x (left_part at P Q) f;
      in_right = λ i. absurd (true≢false (sym i ∙ left_only x at P Q e));
    }
    by_test false e = record {
      left = 0;
      right = a;
      whole = omega arith;
      in_left = λ i. absurd (true≢false (sym i ∙ e));
      in_right = takes_part x (right_part at P Q) f;
    }

-- A measure of lists that adds up, and what one thread weighs at most whose messages have no more nodes than c.
module _ (μ : List Placed → ℕ) (nothing : μ [] ≡ 0) (joined : (xs ys : List Placed) → μ (xs ++ ys) ≡ μ xs + μ ys) (c d : ℕ)
    (each : (t : Placed) → bound_nodes (bound_of t.thread) ≤ c → μ (t ∷ []) ≤ d) where
  by_either : (b : Bool) {xs ys : List Placed} {e : ℕ} → (b ≡ true → μ xs ≤ e) → (b ≡ false → μ ys ≤ e)
      → μ (elim b [ true ↦ xs | false ↦ ys ]) ≤ e
  by_either true f g = f refl
  by_either false f g = g refl

  module _ (x : ℕ) (z : List Placed) where
    replaced_room : (P : Process) (at : ℕ) (ρ : Bound) (n k a : ℕ) → RoomForGrowth c P ρ → Takes x at P (μ z) a
        → μ (replaced_at x z P at ρ n k) ≤ growth P * d + a
    unfolding replaced_as
    replaced_room Process.nil at ρ n k a r f = omega (arith, nothing)
    replaced_room (Process.new P) at ρ n k a r f =
        let rest = replaced_room P (at + 1) (ρ ▸ leaf (private n)) (suc n) k a (room_new P n r) (takes_part x (new_part at P) f) in
        omega (arith, rest, more_times (growth P) d (new_sum P r.few))
    replaced_room (Process.act p P) at ρ n k a r f =
        let one = more_times 0 d (act_one p P) in
        by_either (eqb at x) (λ e. omega (arith, takes_first x at (Process.act p P) f e))
        (λ e. omega (arith, one, each (placed_at at (act ρ p P)) (omega (arith, r))))
    replaced_room (Process.if M N P Q) at ρ n k a r f =
        let sum = times (growth P) (growth Q) d (if_sum M N P Q r.few) in
        let then = replaced_room P _ ρ n k a (room_then M N P Q r) (takes_part x (then_part at M N P Q) f) in
        let else = replaced_room Q _ ρ n k a (room_else M N P Q r) (takes_part x (else_part at M N P Q) f) in
        by_either (equal (written ρ M) (written ρ N)) (λ e. omega (arith, then, sum)) (λ e. omega (arith, else, sum))
    replaced_room (Process.let_in M P) at ρ n k a r f = absurd (let_large M P r.few)
    replaced_room (Process.par P Q) at ρ n k a r f =
        let s = split x at P Q (μ z) a f in
        let m = names P ρ n in
        omega (
          arith,
          times (growth P) (growth Q) d (par_sum P Q r.few),
          joined (replaced_at x z P (at + 1) ρ n k) (replaced_at x z Q (right_at at P) ρ m k),
          replaced_room P (at + 1) ρ n k s.left (room_left P Q r) s.in_left,
          replaced_room Q (right_at at P) ρ m k s.right (room_right P Q r) s.in_right,
          s.whole,
        )
    replaced_room (Process.repl P) at ρ n k a r f =
        let sum = more_times (growth P) d (repl_sum P r.few) in
        let own = each (placed_at at (repl ρ P)) (omega (arith, r)) in
        let copy = replaced_room P (at + 1) ρ k (names P ρ k) a (room_copy P r) (takes_part x (repl_part at P) f) in
        by_either (eqb at x) (λ e. omega (arith, takes_first x at (Process.repl P) f e))
        (λ e. by_either (inside x (at + 1) P)
        (λ i. omega (arith, sum, own, copy, joined (replaced_at x z P (at + 1) ρ k (names P ρ k)) (placed_at at (repl ρ P) ∷ [])))
        (λ i. omega (arith, sum, own)))

    pub replaced_spread : (P : Process) (at : ℕ) (ρ : Bound) (n k : ℕ) → growth P ≤ 32 → bound_nodes ρ + growth P ≤ c
        → μ (replaced_at x z P at ρ n k) ≤ growth P * d + μ z
    replaced_spread P at ρ n k few light =
        replaced_room P at ρ n k (μ z) (record { few = few; light = light }) (λ i. le_refl (μ z))

  module _ (x : ℕ) (zx : List Placed) (y : ℕ) (zy : List Placed) where
    both_room : (P : Process) (at : ℕ) (ρ : Bound) (n k j a b : ℕ) → RoomForGrowth c P ρ → Takes x at P (μ zx) a → Takes y at P (μ zy) b
        → μ (both_replaced_at x zx y zy P at ρ n k j) ≤ growth P * d + a + b
    unfolding both_replaced_as
    both_room Process.nil at ρ n k j a b r f g = omega (arith, nothing)
    both_room (Process.new P) at ρ n k j a b r f g =
        let part = new_part at P in
        let rest = both_room P (at + 1) (ρ ▸ leaf (private n)) (suc n) k j a b (room_new P n r) (takes_part x part f) (takes_part y part g) in
        omega (arith, rest, more_times (growth P) d (new_sum P r.few))
    both_room (Process.act p P) at ρ n k j a b r f g =
        by_either (eqb at x) (λ e. omega (arith, takes_first x at (Process.act p P) f e))
        (λ e. omega (arith, replaced_room y zy (Process.act p P) at ρ n j b r g))
    both_room (Process.if M N P Q) at ρ n k j a b r f g =
        let sum = times (growth P) (growth Q) d (if_sum M N P Q r.few) in
        let first = then_part at M N P Q in
        let second = else_part at M N P Q in
        let then = both_room P _ ρ n k j a b (room_then M N P Q r) (takes_part x first f) (takes_part y first g) in
        let else = both_room Q _ ρ n k j a b (room_else M N P Q r) (takes_part x second f) (takes_part y second g) in
        by_either (equal (written ρ M) (written ρ N)) (λ e. omega (arith, then, sum)) (λ e. omega (arith, else, sum))
    both_room (Process.let_in M P) at ρ n k j a b r f g = absurd (let_large M P r.few)
    both_room (Process.par P Q) at ρ n k j a b r f g =
        let s = split x at P Q (μ zx) a f in
        let t = split y at P Q (μ zy) b g in
        let m = names P ρ n in
        omega (
          arith,
          times (growth P) (growth Q) d (par_sum P Q r.few),
          joined (both_replaced_at x zx y zy P (at + 1) ρ n k j) (both_replaced_at x zx y zy Q (right_at at P) ρ m k j),
          both_room P (at + 1) ρ n k j s.left t.left (room_left P Q r) s.in_left t.in_left,
          both_room Q (right_at at P) ρ m k j s.right t.right (room_right P Q r) s.in_right t.in_right,
          s.whole,
          t.whole,
        )
    both_room (Process.repl P) at ρ n k j a b r f g =
        by_either (inside x (at + 1) P) (λ e. omega (arith, replaced_room x zx (Process.repl P) at ρ n k a r f))
        (λ e. omega (arith, replaced_room y zy (Process.repl P) at ρ n j b r g))

    both_spread : (P : Process) (at : ℕ) (ρ : Bound) (n k j : ℕ) → growth P ≤ 32 → bound_nodes ρ + growth P ≤ c
        → μ (both_replaced_at x zx y zy P at ρ n k j) ≤ growth P * d + μ zx + μ zy
    both_spread P at ρ n k j few light =
        both_room P at ρ n k j (μ zx) (μ zy) (record { few = few; light = light }) (λ i. le_refl (μ zx)) (λ i. le_refl (μ zy))

  -- What is left of the copies that take part in a silent step: of one copy, or of two.
  pub left_spread : (w : CopyStep) (zx zy : List Placed) → growth w.copied ≤ 32 → bound_nodes w.bound + growth w.copied ≤ c
      → μ (left_at w zx zy) ≤ growth w.copied * d + growth w.copied * d + μ zx + μ zy
  unfolding left_as
  left_spread w zx zy few light =
      let x = w.pair.sender.place in
      let y = w.pair.taker.place in
      let P = w.copied in
      let at = w.place + 1 in
      let ρ = w.bound in
      let n = w.opens in
      let k = names P ρ n in
      let j = w.pair.sender.next in
      let i = names P ρ j in
      by_either w.two
      (λ e. omega (
        arith,
        joined (replaced_at x zx P at ρ n k) (replaced_at y zy P at ρ j i),
        replaced_spread x zx P at ρ n k few light,
        replaced_spread y zy P at ρ j i few light,
      ))
      (λ e. omega (arith, both_spread x zx y zy P at ρ n k j few light))
