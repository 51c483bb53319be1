-- A thread that acts by itself, for each task, and what follows it ("Steps").
use mathlib.Core.Path.{◌≡◌, refl, subst}
use mathlib.Core.Bool.{Bool}
use mathlib.Core.List.{List, [], ◌∷◌}
use Prim.Native.Nat.{ℕ, suc, ◌+◌, ◌-◌, ◌≤◌, ◌<◌}
use native.Mathlib.Omega.{arith}
use borrow.Author.Tests.{eq-eqb, ne_eqb}
use lib.ListN.{length, length-append}
use Rattle.meaning.specs.Messages.Term.{Message}
use Rattle.meaning.specs.Bytes.Process.{Prefix, output, input, Process}
use Rattle.meaning.specs.Places.{Every, none, ◌also◌}
use Rattle.meaning.specs.Steps.State.{Bound, ◌▸◌, act}
use Rattle.buffer.specs.Buffer.{Within}
use Rattle.message_term.specs.Bound.{BindsRun}
use Rattle.message_term.proofs.Theorems.{bound_further}
use Rattle.state_record.specs.Place.{then_at, body_at, rest_at}
use Rattle.state_head.specs.News.{news}
use Rattle.state_progress.specs.TraversalResult.{Accumulated, TraversalResult, named, returned, push}
use Rattle.state_head.specs.Traversal.{built, at_prefix, go}
use Rattle.state_progress.specs.Represented.{Represents, RepresentsResult}
use Rattle.state_head.specs.Traverse.{NamesFit, Ready, Returns, AtPrefix, ActsAs, SettlesContinuation, Receives}
use Rattle.state_progress.specs.Progress.{Stopped, Renamed}
use Rattle.state_progress.specs.Written.{Pushes}
use Rattle.state_task.specs.Thread.{Offers, Settles, Seeks}
use Rattle.state_task.specs.Place.{Rests}
use Rattle.state_task.specs.declared.task.Task.{Task}
use Rattle.state_task.specs.declared.task.Task.TheVariants.{Count, Judge, Settle, Seek, SeekIn, Find, Build, BuildIn}
use Rattle.state_task.specs.declared.task.Quest.{Quest}
use Rattle.state_task.specs.declared.task.CopyAt.{CopyAt}
use Rattle.state_task.specs.declared.task.Plan.{Plan}
use Rattle.state_progress.specs.declared.progress.Progress.{Progress}
use Rattle.state_record.proofs.Laws.Process.{process_kind, after-output, after-input}
use Rattle.state_progress.proofs.Laws.Progress.{renamed_shows}
use Rattle.state_head.proofs.Laws.Fits.{fits_none}
use Rattle.state_progress.proofs.Laws.Written.{stands_there}

-- For each task.
module _ {s argument m out : List ℕ} {at left end : ℕ} {T : Task} {now : Progress} where
  pub on_count : T ≡ Count → AtPrefix s argument at left m end T out now now out
  unfolding at_prefix
  on_count e = record { exact = λ p P x ρ g y d. rw e d }

  pub on_seek_in : {q : Quest} {c : CopyAt} {k : ℕ} → T ≡ SeekIn q c k → AtPrefix s argument at left m end T out now now out
  unfolding at_prefix
  on_seek_in e = record { exact = λ p P x ρ g y d. rw e d }

  pub on_find : {f k : ℕ} {past : Bool} → T ≡ Find f past k → AtPrefix s argument at left m end T out now now out
  unfolding at_prefix
  on_find e = record { exact = λ p P x ρ g y d. rw e d }

  module _ {r : Progress} where
    pub on_judge : {k : ℕ} → T ≡ Judge k → Offers s at m end now r → AtPrefix s argument at left m end T out now r out
    unfolding at_prefix
    on_judge e f = record { exact = λ p P x ρ g y d. rw e (f.exact p P ρ g out y.process y.bound d) }

    module _ {after : List ℕ} where
      pub on_settle : T ≡ Settle → Settles s at m end out now r after → AtPrefix s argument at left m end T out now r after
      unfolding at_prefix
      on_settle e f = record { exact = λ p P x ρ g y d. rw e (f.exact p P ρ g y.shallow y.process y.bound d) }

      pub on_seek : {q : Quest} {k : ℕ} → T ≡ Seek q k → Seeks s argument at m end q k out now r after
          → AtPrefix s argument at left m end T out now r after
      unfolding at_prefix
      on_seek e f = record { exact = λ p P x ρ g y d. rw e (f.exact p P x ρ g y.process y.bound y.labelled d) }

      pub on_build : {b : Plan} {k : ℕ} → T ≡ Build b k → ActsAs b s argument at left m end out now r after
          → AtPrefix s argument at left m end T out now r after
      unfolding at_prefix
      on_build e f = record { exact = λ p P x ρ g y d. rw e (f.exact p P x ρ g (rw e at y) d) }

      pub on_build_in : {b : Plan} {c : CopyAt} {k : ℕ} → T ≡ BuildIn b c k → Pushes m end at out now r after
          → AtPrefix s argument at left m end T out now r after
      unfolding at_prefix
      on_build_in e w = record {
        exact = λ p P x ρ g y d.
            rw e (w.exact s (act ρ p P) g y.bound (stands_there (act ρ p P) y.short y.shallow y.process y.bound.normal) d);
      }

pub ruleset prefixes = (on_count, on_seek_in, on_find, on_judge, on_settle, on_seek, on_build, on_build_in)

-- What follows the thread, after which the names are given back.
pub followed : {s argument m out after : List ℕ} {at left end i n : ℕ} {now d r : Progress}
    → Returns now.names s argument i (left - 1) m end Settle out d r after → Rests s at i → Renamed now n d
    → SettlesContinuation n s argument at left m end out now r after
followed {s} {after = after} {at} {n = n} {now} {r = r} w l e = record {
  exact = λ p P x ρ g q y v.
      let here = l.exact p P q in
      let before : now.names ≡ g.names = v.names in
      subst (λ (b : ℕ). RepresentsResult s after r (returned b (go P Settle x (rest_at at p) ρ (named n g)))) before
      ((rw here at w).exact P x ρ (named n g) y (renamed_shows n v e));
}

-- What follows an input, under the message of the label.
longer : (ρ : Bound) (x : Message) → length (ρ ▸ x) ≡ suc (length ρ)
longer ρ x = omega (arith, length-append ρ (x ∷ []))

module _ {s argument m out : List ℕ} {at left end n : ℕ} {now r : Progress} where
  pub label_long : 510 < length argument → Stopped now r → Receives n s argument at left m end out now r out
  label_long h o = record { exact = λ C P x ρ g y l v. absurd (omega (arith, y.small)) }

  pub received : {m₁ after : List ℕ} {last high : ℕ} → SettlesContinuation n s argument at left m₁ last out now r after → BindsRun argument m end last m₁
      → Within end high m m₁ → last ≡ end + 2 + length argument → Receives n s argument at left m end out now r after
  received {m₁} {last = last} f b k l = record {
    exact = λ C P x ρ g y h v.
        let p = after-input C P y.process in
        f.exact (input C) P x (ρ ▸ x) g y.process.stands (record {
          next = y.next;
          process = rw (← longer ρ x) at p;
          shallow = omega (arith, y.shallow);
          short = y.short;
          labelled = y.labelled;
          small = y.small;
          normal = y.normal;
          bound = bound_further m m₁ 0 end last ρ x y.bound y.normal (omega (arith, y.process.few)) (b.exact x y.labelled);
          room = omega (arith, y.room, y.small, k.long);
          fits = fits_none Settle n P refl h;
          meant = tt;
        }) v;
  }

pub ruleset receipts = (label_long, received)

-- The private names at which what follows is settled fit.
rests : (b : Plan) (P : Process) (p : Prefix) {k n : ℕ} → NamesFit (Build b k) n (Process.act p P)
    → (b.rest + news P ≤ 32760) × (b.last + news P ≤ 32760)
rests b P p f = by_numbers f.others
  where
    by_numbers : {k : ℕ} → Every (λ v. v + news P ≤ 32760) (k ∷ b.second ∷ b.rest ∷ b.last ∷ [])
        → (b.rest + news P ≤ 32760) × (b.last + news P ≤ 32760)
    by_numbers (k also (i also (j also (l also none)))) = (j, l)

-- What a plan does with a thread.
module _ (b : Plan) (x : Message) (at : ℕ) (ρ : Bound) (p : Prefix) (P : Process) (rest : Bound → Accumulated → TraversalResult) (g : Accumulated) where
  as_sender : at + 1 ≡ b.sender → built b x at ρ p P rest g ≡ returned g.names (rest ρ (named b.rest g))
  unfolding built
  as_sender e = rw (eq-eqb (at + 1) b.sender e, built)

  as_taker : (at + 1 ≡ b.sender → ⊥) → at + 1 ≡ b.taker
      → built b x at ρ p P rest g ≡ returned g.names (rest (ρ ▸ x) (named b.last g))
  unfolding built
  as_taker z e = rw (ne_eqb (at + 1) b.sender z, built) (rw (eq-eqb (at + 1) b.taker e))

  as_neither : (at + 1 ≡ b.sender → ⊥) → (at + 1 ≡ b.taker → ⊥) → built b x at ρ p P rest g ≡ push at (act ρ p P) g
  unfolding built
  as_neither z e = rw (ne_eqb (at + 1) b.sender z, built) (rw (ne_eqb (at + 1) b.taker e))

-- The thread of a plan: it sends, or takes, or stays.
module _ {s argument m out after : List ℕ} {at left end : ℕ} {b : Plan} {now r : Progress} where
  pub acts_sender : at + 1 ≡ b.sender → SettlesContinuation b.rest s argument at left m end out now r after → ActsAs b s argument at left m end out now r after
  acts_sender e f = record { exact = λ p. only p }
    where
      only : (p : Prefix) (P : Process) (x : Message) (ρ : Bound) (g : Accumulated) {k : ℕ}
          → Ready s argument at left m end (Build b k) (Process.act p P) x ρ g → Represents s out now g
          → RepresentsResult s after r (built b x at ρ p P (λ σ. go P Settle x (rest_at at p) σ) g)
      only (output C M) P x ρ g y v =
          rw (as_sender b x at ρ (output C M) P (λ σ. go P Settle x (then_at at C M) σ) g e)
          (f.exact (output C M) P x ρ g y.process.stands (record {
            next = y.next;
            process = after-output C M P y.process;
            shallow = omega (arith, y.shallow);
            short = y.short;
            labelled = y.labelled;
            small = y.small;
            normal = y.normal;
            bound = y.bound;
            room = omega (arith, y.room);
            fits = fits_none Settle b.rest P refl (rests b P (output C M) y.fits).0;
            meant = tt;
          }) v)
      only (input C) P x ρ g y v =
          absurd (omega (arith, y.meant.0 at e, (process_kind (Process.act (input C) P) y.process).0))

  pub acts_taker : (at + 1 ≡ b.sender → ⊥) → at + 1 ≡ b.taker → Receives b.last s argument at left m end out now r after
      → ActsAs b s argument at left m end out now r after
  acts_taker z e f = record { exact = λ p. only p }
    where
      only : (p : Prefix) (P : Process) (x : Message) (ρ : Bound) (g : Accumulated) {k : ℕ}
          → Ready s argument at left m end (Build b k) (Process.act p P) x ρ g → Represents s out now g
          → RepresentsResult s after r (built b x at ρ p P (λ σ. go P Settle x (rest_at at p) σ) g)
      only (output C M) P x ρ g y v =
          absurd (omega (arith, y.meant.1 at e, (process_kind (Process.act (output C M) P) y.process).0))
      only (input C) P x ρ g y v =
          rw (as_taker b x at ρ (input C) P (λ σ. go P Settle x (body_at at C) σ) g z e)
          (f.exact C P x ρ g y (rests b P (input C) y.fits).1 v)

  pub acts_not : (at + 1 ≡ b.sender → ⊥) → (at + 1 ≡ b.taker → ⊥) → Pushes m end at out now r after
      → ActsAs b s argument at left m end out now r after
  acts_not z e w = record {
    exact = λ p P x ρ g y d.
        rw (as_neither b x at ρ p P (λ σ. go P Settle x (rest_at at p) σ) g z e)
        (w.exact s (act ρ p P) g y.bound (stands_there (act ρ p P) y.short y.shallow y.process y.bound.normal) d);
  }

pub ruleset located_offers = (acts_sender, acts_taker, acts_not)
