-- Bound messages of at most 255 nodes each: whatever is worked or settled without meeting a limit has only such messages ("Judging and its
-- count").
use Prim.Native.Nat.{ℕ, ◌*◌, ◌≤◌}
use native.Mathlib.Omega.{arith}
use mathlib.Core.Path.{◌≡◌}
use mathlib.Core.Bool.{Bool, true, false, ◌||◌}
use lib.ListN.{length}
use borrow.Author.Tests.{ltb-false}
use Rattle.meaning.specs.Messages.Term.{leaf, proj, binary, Term, nodes}
use Rattle.meaning.specs.Messages.Normal.{size, equal}
use Rattle.meaning.specs.Bytes.Process.{Process}
use Rattle.meaning.specs.Places.{Every, none, ◌also◌}
use Rattle.meaning.specs.Steps.State.{Bound, written, worked, Thread, settle}
use Rattle.meaning.specs.Judging.Limits.{over, over_settling, bound_nodes}
use Rattle.meaning.proofs.Every.{every_joined}
use Rattle.meaning.proofs.Test.{neither}
use Rattle.message_term.specs.Bound.{encode_bound}
use Rattle.message_term.proofs.Theorems.{bound_length}
use Rattle.state_record.specs.Record.{bound_of}
use Rattle.state_layout.specs.Loaded.{BoundSmall}

-- The messages take 512 bytes each at most.
nodes_few : {ρ : Bound} → BoundSmall ρ → bound_nodes ρ ≤ 255 * length ρ
unfolding bound_nodes
nodes_few none = omega arith
nodes_few (h also hs) = omega (arith, h, nodes_few hs)

pub bound_few : {ρ : Bound} → BoundSmall ρ → length (encode_bound ρ) ≤ 512 * length ρ
bound_few {ρ} h = omega (arith, bound_length ρ, nodes_few h)

-- A term that is worked without meeting the limit.
pub worked_small : (ρ : Bound) (t : Term) → over ρ t ≡ false → nodes (worked ρ t) ≤ 255
unfolding over
worked_small ρ (leaf l) e = ltb-false 255 (size (written ρ (leaf l))) e
worked_small ρ (proj s t) e = ltb-false 255 (size (written ρ (proj s t))) (neither (over ρ t) _ e).1
worked_small ρ (binary b t u) e = ltb-false 255 (size (written ρ (binary b t u))) (neither (over ρ t || over ρ u) _ e).1

-- Settling.
abbrev pub ThreadSmall : Thread → Type 0
ThreadSmall t = BoundSmall (bound_of t)

pub settled_small : (P : Process) (ρ : Bound) (n : ℕ) → over_settling P ρ n ≡ false → BoundSmall ρ → Every ThreadSmall (settle P ρ n)
unfolding over_settling settle
settled_small Process.nil ρ n e b = none
settled_small (Process.new P) ρ n e b = settled_small P _ _ e (every_joined b (omega arith also none))
settled_small (Process.act p P) ρ n e b = b also none
settled_small (Process.if M N P Q) ρ n e b =
    of (equal (written ρ M) (written ρ N)) (λ f. settled_small P ρ n f b) (λ f. settled_small Q ρ n f b)
    (neither (over ρ M || over ρ N) _ e).1
  where
    of : (t : Bool) → (over_settling P ρ n ≡ false → Every ThreadSmall (settle P ρ n))
        → (over_settling Q ρ n ≡ false → Every ThreadSmall (settle Q ρ n))
        → (elim t [ true ↦ over_settling P ρ n | false ↦ over_settling Q ρ n ]) ≡ false
        → Every ThreadSmall (elim t [ true ↦ settle P ρ n | false ↦ settle Q ρ n ])
    of true p q f = p f
    of false p q f = q f
settled_small (Process.let_in M P) ρ n e b =
    let (whole, rest) = neither (over ρ M) _ e in
    settled_small P _ n rest (every_joined b (worked_small ρ M whole also none))
settled_small (Process.par P Q) ρ n e b =
    let (left, right) = neither (over_settling P ρ n) _ e in
    every_joined (settled_small P ρ n left b) (settled_small Q ρ _ right b)
settled_small (Process.repl P) ρ n e b = b also none
