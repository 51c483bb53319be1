-- The repl threads of a process grow no further than it, and what a silent step in the copies of one leaves of the process weighs at most
-- three times what the index says ("Steps", "Judging and its count").
use Prim.Native.Nat.{ℕ, suc, ◌+◌, ◌-◌, ◌*◌, ◌≤◌}
use native.Mathlib.Omega.{arith}
use native.Mathlib.Nat.{le_refl, one-mul}
use mathlib.Core.Path.{◌≡◌, refl}
use mathlib.Core.Bool.{true, false}
use mathlib.Core.List.{List, [], ◌∷◌, ◌++◌}
use Rattle.meaning.specs.Messages.Term.{leaf, private}
use Rattle.meaning.specs.Messages.Normal.{equal}
use Rattle.meaning.specs.Bytes.Process.{Process}
use Rattle.meaning.specs.Places.{Every, none, ◌also◌}
use Rattle.meaning.specs.Steps.State.{Bound, ◌▸◌, written, repl, names}
use Rattle.meaning.specs.Judging.Limits.{bound_nodes}
use Rattle.meaning.proofs.Every.{every_map, every_joined}
use Rattle.state_record.specs.Place.{then_at, else_at, right_at}
use Rattle.state_record.specs.Record.{Placed, bound_of}
use Rattle.index_entry.specs.Entry.{growth}
use Rattle.step_located.specs.CopyStep.{CopyStep}
use Rattle.step_located.specs.Sought.{Opened, copies}
use Rattle.step_located.specs.Rebuilt.{alone, replaced_at, left_at}
use Rattle.step_located.proofs.Laws.Growth.{new_sum, if_sum, let_large, par_sum, repl_sum, more_nodes, times, replaced_spread, left_spread}

-- The process of a repl thread of a process grows no further with its messages than the process does with its own.
pub record Copied (P : Process) (ρ σ : Bound) (Q : Process) : Type 0 where
  pub few : growth (Process.repl Q) ≤ growth P
  pub light : bound_nodes σ + growth (Process.repl Q) ≤ bound_nodes ρ + growth P

abbrev pub CopiedIn : Process → Bound → Opened → Type 0
CopiedIn P ρ w = Copied P ρ w.bound w.copied

more_copied : {P P' : Process} {ρ ρ' : Bound} {ws : List Opened} → Every (CopiedIn P' ρ') ws → growth P' ≤ growth P
    → bound_nodes ρ' + growth P' ≤ bound_nodes ρ + growth P → Every (CopiedIn P ρ) ws
more_copied every l k = every_map (λ w h. record { few = omega (arith, h.few); light = omega (arith, h.light) }) every

part_copied : {P P' : Process} {ρ : Bound} {ws : List Opened} → Every (CopiedIn P' ρ) ws → growth P' ≤ growth P → Every (CopiedIn P ρ) ws
part_copied every l = more_copied every l (omega arith)

pub copies_spread : (P : Process) (at : ℕ) (ρ : Bound) (n k : ℕ) → growth P ≤ 32 → Every (CopiedIn P ρ) (copies P at ρ n k)
unfolding copies
copies_spread Process.nil at ρ n k few = none
copies_spread (Process.new P) at ρ n k few =
    let sum = new_sum P few in
    more_copied (copies_spread P (at + 1) (ρ ▸ leaf (private n)) (suc n) k (omega arith)) (omega arith)
    (omega (arith, more_nodes ρ (leaf (private n))))
copies_spread (Process.act p P) at ρ n k few = none
copies_spread (Process.if M N P Q) at ρ n k few =
    let sum = if_sum M N P Q few in
    elim (equal (written ρ M) (written ρ N)) as (λ b.
    Every (CopiedIn (Process.if M N P Q) ρ) (elim b [ true ↦ copies P (then_at at M N) ρ n k | false ↦ copies Q (else_at at M N P) ρ n k ])) [
      | true ↦ part_copied (copies_spread P (then_at at M N) ρ n k (omega arith)) (omega arith)
      | false ↦ part_copied (copies_spread Q (else_at at M N P) ρ n k (omega arith)) (omega arith)
    ]
copies_spread (Process.let_in M P) at ρ n k few = absurd (let_large M P few)
copies_spread (Process.par P Q) at ρ n k few =
    let sum = par_sum P Q few in
    every_joined (part_copied (copies_spread P (at + 1) ρ n k (omega arith)) (omega arith))
    (part_copied (copies_spread Q (right_at at P) ρ (names P ρ n) k (omega arith)) (omega arith))
copies_spread (Process.repl P) at ρ n k few =
    let sum = repl_sum P few in
    every_joined (part_copied (copies_spread P (at + 1) ρ k (names P ρ k) (omega arith)) (omega arith))
    (record { few = le_refl (growth (Process.repl P)); light = le_refl (bound_nodes ρ + growth (Process.repl P)) } also none)

-- A measure of lists that adds up, and what one thread weighs at most whose messages have no more nodes than c.
module _ (μ : List Placed → ℕ) (nothing : μ [] ≡ 0) (joined : (xs ys : List Placed) → μ (xs ++ ys) ≡ μ xs + μ ys) (c d : ℕ)
    (each : (t : Placed) → bound_nodes (bound_of t.thread) ≤ c → μ (t ∷ []) ≤ d) where
  -- What is left of a process if copies of a repl thread in it take part in a silent step; the repl thread stays.
  pub inside_spread : (w : CopyStep) (zx zy : List Placed) (P : Process) (at : ℕ) (ρ : Bound) (n k : ℕ) → growth P ≤ 32 → bound_nodes ρ + growth P ≤ c
      → Copied P ρ w.bound w.copied
      → μ (replaced_at w.place (left_at w zx zy ++ alone w.place (repl w.bound w.copied)) P at ρ n k)
      ≤ growth P * d + growth P * d + growth P * d + μ zx + μ zy
  inside_spread w zx zy P at ρ n k few light copied =
      let Q = w.copied in
      let own = alone w.place (repl w.bound Q) in
      let left = left_at w zx zy in
      let sum = repl_sum Q (omega (arith, copied.few)) in
      let more : growth P ≡ 1 + growth Q + (growth P - (1 + growth Q)) = omega (arith, sum, copied.few) in
      let rest = growth P - (1 + growth Q) in
      omega (
        arith,
        replaced_spread μ nothing joined c d each w.place (left ++ own) P at ρ n k few light,
        joined left own,
        left_spread μ nothing joined c d each w zx zy (omega (arith, sum, copied.few)) (omega (arith, sum, copied.light)),
        each (record { place = w.place; thread = repl w.bound Q }) (omega (arith, copied.light)),
        times (1 + growth Q) rest d more,
        times 1 (growth Q) d refl,
        one-mul d,
      )
