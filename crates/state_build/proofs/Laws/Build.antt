-- The traversal that builds: what is left of the copy of a repl thread, and the thread itself ("Steps").
use Rattle.std.specs.Prelude.{Option, Some}
use mathlib.Core.Path.{◌≡◌, refl, sym, ◌∙◌}
use mathlib.Core.Bool.{Bool, true, false}
use mathlib.Core.List.{List, [], ◌∷◌}
use Prim.Native.Nat.{ℕ, ◌+◌, ◌-◌, ◌≤◌}
use lib.ListN.{get_or}
use borrow.Author.Tests.{eq-eqb, ne_eqb}
use Rattle.meaning.specs.Messages.Term.{Message}
use Rattle.meaning.specs.Bytes.Process.{Process}
use Rattle.meaning.specs.Places.{Every, ◌also◌}
use Rattle.meaning.specs.Steps.State.{Bound, repl}
use Rattle.buffer.specs.Buffer.{Within}
use Rattle.buffer.proofs.Laws.Buffer.{unchanged}
use Rattle.state_progress.specs.TraversalResult.{Accumulated}
use Rattle.state_progress.specs.Represented.{Represents, RepresentsResult}
use Rattle.state_progress.specs.Progress.{Renamed}
use Rattle.state_progress.specs.Written.{Keeps}
use Rattle.state_progress.specs.declared.progress.Progress.{Progress}
use Rattle.state_record.proofs.Laws.Process.{in_model, shaped, of_repl}
use Rattle.state_progress.proofs.Laws.Written.{stands_there}
use Rattle.state_task.specs.Machine.{contains, opening, taking, built_copy, at_repl}
use Rattle.state_task.specs.Place.{Contains}
use Rattle.state_task.specs.declared.task.Plan.{Plan}
use Rattle.state_task.specs.declared.task.Task.{Task}
use Rattle.state_task.specs.declared.task.Task.TheVariants.{Build}
use Rattle.state_task.proofs.Laws.Bound.{bound_still}
use Rattle.state_head.specs.News.{news}
use Rattle.state_head.specs.Traversal.{go}
use Rattle.state_head.specs.Count.{Counts}
use Rattle.state_head.specs.Traverse.{NamesFit, Ready, HeadTraverses, TraversesIf, Returns, ActsAs, copy_of, Opens}
use Rattle.state_build.specs.Build.{OpensBuilt}
use Rattle.state_head.specs.declared.head.Head.{Head}
use Rattle.state_head.proofs.Laws.Traverse.{is_prefix}
use Rattle.state_head.proofs.Laws.Copy.{copy_done}
use Rattle.state_head.proofs.Laws.Prefix.{on_build}
use Rattle.state_traversal.proofs.Laws.Repl.{taking_meant, ready_for}

-- A thread that acts by itself.
pub is_act : {s argument m out after : List ℕ} {k : ℕ} {b : Plan} {now d r : Progress} {h : Head} → Renamed now h.names d
    → (get_or s h.at 0 ≡ 0 → ⊥) → (get_or s h.at 0 ≡ 6 → ⊥) → (get_or s h.at 0 ≡ 7 → ⊥)
    → ActsAs b s argument h.at h.left m h.end out d r after → HeadTraverses s argument h m (Build b k) out now r after
is_act n f₀ f₆ f₇ w = is_prefix n f₀ f₆ f₇ (on_build refl w)

-- A copy, whose names are counted.
pub copy_built : {s argument m m₁ out after : List ℕ} {at left end k n next high : ℕ} {b : Plan} {a : Option ℕ} {now d r : Progress}
    → Counts s (at + 1) (left - 1) m end n a → a ≡ Some next
    → Returns now.names s argument (at + 1) (left - 1) m₁ end (Build b next) out d r after → Renamed now n d → Within end high m m₁
    → Opens (Build b k) n s argument at left m end out now r after
unfolding opening
copy_built c is w i l = copy_done c is w refl i l

-- The private names at which the copy opens fit; and whether a mark is in it.
starts : (b : Plan) (k : ℕ) (P : Process) → Every (λ n. n + news P ≤ 32760) (k ∷ b.second ∷ b.rest ∷ b.last ∷ [])
    → (k + news P ≤ 32760) × (b.second + news P ≤ 32760)
starts b k P (h also (i also e)) = (h, i)

contains_so : {s argument m : List ℕ} {at left end mark : ℕ} {T : Task} {u t : Bool} → Contains s (at + 1) mark u → u ≡ t → (P : Process) {x : Message} {ρ : Bound}
    {g : Accumulated} → Ready s argument at left m end T (Process.repl P) x ρ g → contains mark (at + 1) P ≡ t
contains_so f e P y = sym (f.exact P (in_model (of_repl P y.process))) ∙ e

-- The copy that has the sender or the taker in it.
module _ {s argument m out : List ℕ} {at left end k : ℕ} {b : Plan} {now : Progress} where
  module _ {v : Bool} (sends : Contains s (at + 1) b.sender v) where
    pub built-sender : {r : Progress} {after : List ℕ} → v ≡ true → Opens (Build b k) k s argument at left m end out now r after
        → OpensBuilt b k s argument at left m end out now r after
    unfolding built_copy
    built-sender e o = record {
      exact = λ P x ρ g y z. rw (contains_so sends e P y, built_copy) (o.exact P x ρ g y (starts b k P y.fits.others).0 z);
    }

    module _ {w : Bool} (takes : Contains s (at + 1) b.taker w) (not : v ≡ false) where
      pub built-none : w ≡ false → OpensBuilt b k s argument at left m end out now now out
      unfolding built_copy
      built-none e = record { exact = λ P x ρ g y z. rw (contains_so sends not P y, built_copy) (rw (contains_so takes e P y) z) }

      module _ {r : Progress} {after : List ℕ} (e : w ≡ true) where
        pub built-taker : b.sender ≡ 0 → Opens (Build b k) k s argument at left m end out now r after
            → OpensBuilt b k s argument at left m end out now r after
        unfolding built_copy
        built-taker f o = record {
          exact = λ P x ρ g y z.
              rw (contains_so sends not P y, built_copy) (rw (contains_so takes e P y) (rw (eq-eqb b.sender 0 f)
              (o.exact P x ρ g y (starts b k P y.fits.others).0 z)));
        }

        pub built_second : {c : Plan} → (b.sender ≡ 0 → ⊥) → c ≡ taking b
            → Opens (Build c k) b.second s argument at left m end out now r after → OpensBuilt b k s argument at left m end out now r after
        unfolding built_copy
        built_second {c} f i o = record {
          exact = λ P x ρ g y z.
              let fits : NamesFit (Build (taking b) k) g.names (Process.repl P) = record { own = y.fits.own; others = y.fits.others } in
              let there = ready_for (Process.repl P) (Build (taking b) k) g y (unchanged {low = end} {high = end}) fits (taking_meant s b y.meant) in
              rw (contains_so sends not P y, built_copy) (rw (contains_so takes e P y) (rw (ne_eqb b.sender 0 f)
              ((rw i at o).exact P x ρ g there (starts b k P y.fits.others).1 z)));
        }

pub ruleset builts = (built-sender, built-none, built-taker, built_second)

-- And then the thread itself.
pub repl_built : {s argument m m₁ out out₁ after : List ℕ} {at left end k high : ℕ} {b : Plan} {now mid r : Progress}
    → OpensBuilt b k s argument at left m end out now mid out₁ → Keeps m₁ end at out₁ mid r after → Within end high m m₁
    → TraversesIf 7 s argument at left m end (Build b k) out now r after
unfolding go at_repl
repl_built {s} {argument} {m} {out = out} {after = after} {at} {left} {end} {k} {b = b} {now} {r = r} w f i = record {
  exact = λ e. record { exact = λ P x ρ g y v. let (Q, j) = shaped 7 P y.process e in rw j (only Q x ρ g (rw j at y) v) };
}
  where
    only : (P : Process) (x : Message) (ρ : Bound) (g : Accumulated) → Ready s argument at left m end (Build b k) (Process.repl P) x ρ g
        → Represents s out now g → RepresentsResult s after r (at_repl (Build b k) at ρ P (copy_of at P x ρ) g)
    only P x ρ g y v =
        f.exact s (repl ρ P) (built_copy b k at P (copy_of at P x ρ) g) (bound_still y.bound i)
        (stands_there (repl ρ P) y.short y.shallow y.process y.bound.normal) (w.exact P x ρ g y v)
