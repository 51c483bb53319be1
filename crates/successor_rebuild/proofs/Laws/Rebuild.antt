-- The threads of a state written into the next one ("Steps").
use mathlib.Core.Path.{◌≡◌, refl, sym, ap, ◌∙◌}
use mathlib.Core.Bool.{true, false, not, true≢false}
use mathlib.Core.List.{List, [], ◌∷◌}
use Prim.Native.Nat.{ℕ, ◌+◌, ◌-◌, ◌≤◌, ◌<◌}
use native.Mathlib.Omega.{arith}
use lib.Dec.{eqb}
use lib.ListN.{length}
use borrow.Author.Tests.{eq-eqb, ne_eqb}
use Rattle.meaning.specs.Messages.Term.{Message}
use Rattle.meaning.specs.Steps.State.{Thread, act, repl, names}
use Rattle.meaning.proofs.Every.{every_parts}
use Rattle.buffer.specs.Word.{number_at}
use Rattle.buffer.specs.Buffer.{Within}
use Rattle.buffer.proofs.Laws.Buffer.{unchanged}
use Rattle.state_record.specs.Record.{Placed, encode_record}
use Rattle.state_progress.specs.TraversalResult.{Accumulated, TraversalResult, going, over_limit, found, further, push}
use Rattle.state_progress.specs.Represented.{Represents, RepresentsResult}
use Rattle.state_progress.specs.Progress.{Extends}
use Rattle.state_task.specs.declared.task.Task.{Task}
use Rattle.state_progress.specs.declared.progress.Progress.{Progress}
use Rattle.state_head.proofs.Laws.TraversalResult.{Ends, Next, ends_either, push_next, go_names}
use Rattle.state_record.proofs.Laws.Stored.{record_parts}
use Rattle.step_located.specs.Rebuilt.{push_all}
use Rattle.step_located.proofs.Laws.Writing.{push_all_names}
use Rattle.step_transition.specs.Threads.{Threads}
use Rattle.state_layout.specs.Loaded.{TraversesThread}
use Rattle.successor_rebuild.specs.Block.{Still, Halts, Keeps}
use Rattle.successor_rebuild.specs.declared.block.Block.{Block}
use Rattle.successor_rebuild.specs.Rebuild.{go_over, renewed, rebuilt, Prepared, Acts, Renews, Rebuilds, Resumes}
use Rattle.step_transition.proofs.Laws.Threads.{first_thread, threads_kept, no_threads}
use Rattle.step_transition.proofs.Laws.Records.{record_long}

-- What is left of a thread, by its position.
module _ (x : Message) (i : ℕ) (T : Task) (j : ℕ) (U : Task) (at : ℕ) (t : Placed) (g : Accumulated) where
  pub renewed_first : at ≡ i → renewed x i T j U at t g ≡ go_over t T x g
  unfolding renewed
  renewed_first e = rw (eq-eqb at i e, renewed)

  pub renewed_second : (at ≡ i → ⊥) → at ≡ j → renewed x i T j U at t g ≡ go_over t U x g
  unfolding renewed
  renewed_second f e = rw (ne_eqb at i f, eq-eqb at j e, renewed)

  pub renewed_others : (at ≡ i → ⊥) → (at ≡ j → ⊥) → renewed x i T j U at t g ≡ push t.place t.thread g
  unfolding renewed
  renewed_others f e = rw (ne_eqb at i f, ne_eqb at j e, renewed)

-- So a thread that acts is done.
module _ {s argument m out after : List ℕ} {at i j : ℕ} {T U : Task} {now r : Progress} where
  pub at_first : at ≡ i → TraversesThread s argument at m T out now r after → Renews s argument at m i T j U out now r after
  at_first e v = record {
    exact = λ a t x g h l p d.
        rw (renewed_first x i T j U at t g e) (v.exact t x g h p.labelled p.short p.room p.names p.meant d);
  }

  pub at_second : (at ≡ i → ⊥) → TraversesThread s argument at m U out now r after → Renews s argument at m i T j U out now r after
  at_second f v = record {
    exact = λ a t x g h l p d.
        rw (renewed_second x i T j U at t g f (a f)) (v.exact t x g h p.labelled p.short p.room p.other_names p.other_meant d);
  }

pub ruleset renewals = (at_first, at_second)

-- Whatever is done at a thread, the names are given back.
go_over_next : (t : Placed) (T : Task) (x : Message) (g : Accumulated) → Ends (Next g.names) (go_over t T x g)
unfolding names
go_over_next t T x g = record { at_end = λ h e. of t.thread h e }
  where
    of : (u : Thread) (h : Accumulated) → go_over (record { place = t.place; thread = u }) T x g ≡ going h → h.names ≡ g.names
    of (act ρ p P) h e = go_names _ T x t.place ρ g h e
    of (repl ρ P) h e = go_names _ T x t.place ρ g h e

pub renewed_names : (x : Message) (i : ℕ) (T : Task) (j : ℕ) (U : Task) (at : ℕ) (t : Placed) (g h : Accumulated)
    → renewed x i T j U at t g ≡ going h → h.names ≡ g.names
unfolding renewed
renewed_names x i T j U at t g h e =
    (ends_either (eqb at i) (go_over_next t T x g) (ends_either (eqb at j) (go_over_next t U x g) (push_next t.place t.thread g))).at_end h e

pub threads_long : {s out : List ℕ} {at k to : ℕ} (t : Placed) (ts : List Placed) → Threads s out at k (t ∷ ts) to → at + 4 ≤ to
threads_long t ts h = let (a, b, c) = first_thread t ts h in omega (arith, record_long t, c.stands.size)

-- Nothing more is done.
module _ {s argument m out : List ℕ} {at to i j : ℕ} {T U : Task} {now : Progress} where
  pub no_more : not now.going ≡ true → Rebuilds s argument at to m i T j U out now now out
  no_more e = record {
    stopped = λ f. (refl, refl);
    exact = λ ps x g h l p d. absurd (true≢false (sym e ∙ ap not d.on));
  }

  none_here : (at + 4 ≤ to → ⊥) → Rebuilds s argument at to m i T j U out now now out
  unfolding rebuilt
  none_here f = record { stopped = λ o. (refl, refl); exact = λ ps x g h l p d. by_threads ps x g h d }
    where
      by_threads : (ps : List Placed) (x : Message) (g : Accumulated) {k : ℕ} → Threads s out at k ps to → Represents s out now g
          → RepresentsResult s out now (rebuilt x i T j U at ps g)
      by_threads [] x g h d = d
      by_threads (t ∷ ts) x g h d = absurd (f (threads_long t ts h))

  pub at_the_end : to ≤ at → Rebuilds s argument at to m i T j U out now now out
  at_the_end e = none_here (λ h. omega arith)

  as_resumes : Rebuilds s argument at to m i T j U out now now out → Resumes s argument at to m i T j U out now now out
  as_resumes w = record { stopped = w.stopped; located_offers = λ a. w }

  pub no_rest : not now.going ≡ true → Resumes s argument at to m i T j U out now now out
  no_rest e = as_resumes (no_more e)

  pub no_record : to - at < 4 → Resumes s argument at to m i T j U out now now out
  no_record e = as_resumes (none_here (λ h. omega arith))

-- Whatever was done so far, the others are rebuilt if the traversal goes on.
module _ {s argument m m₁ out₁ after : List ℕ} {at to i j high n : ℕ} {T U : Task} {now first r : Progress}
    (off : first.going ≡ false → (r ≡ first) × (after ≡ out₁)) (on : first.going ≡ true → Rebuilds s argument at to m₁ i T j U out₁ first r after)
    (k : Within 0 high m m₁) (e : Extends now first) (l : to ≤ now.state.end) (ts : List Placed) (x : Message) (g : Accumulated)
    (h : Threads s out₁ at n ts to) (p : Prepared s argument m T U x g.names) where
  others_too : (c : TraversalResult) → ((h : Accumulated) → c ≡ going h → h.names ≡ g.names) → RepresentsResult s out₁ first c
      → RepresentsResult s after r (further c (rebuilt x i T j U at ts))
  others_too (going h₁) same d =
      (on d.on).exact ts x h₁ h (omega (arith, e.end)) (rw (same h₁ refl) (record {
        labelled = p.labelled;
        short = p.short;
        room = omega (arith, p.room, k.long);
        names = p.names;
        other_names = p.other_names;
        meant = p.meant;
        other_meant = p.other_meant;
      })) d
  others_too over_limit same d = rw (off d.off).0 d
  others_too (found at₁ n ms) same d = let (is, as-was) = off d.off in rw (is, as-was) d

-- A thread that acts, and then the others.
module _ {s argument m m₁ out out₁ after : List ℕ} {at to i j size high : ℕ} {T U : Task} {now first r : Progress} where
  pub one_more : not now.going ≡ false → 4 ≤ to - at → size ≡ number_at out (at + 2)
      → Renews s argument at m i T j U out now first out₁ → Rebuilds s argument (at + 4 + size) to m₁ i T j U out₁ first r after
      → Extends now first → Within 0 high m m₁ → Within now.state.end (length out) out out₁
      → Resumes s argument at to m i T j U out now r after
  unfolding rebuilt
  one_more on far z v w e k o = record {
    stopped = λ f. absurd (goes f);
    located_offers = λ a. record { stopped = λ f. absurd (goes f); exact = λ ps x g h l p d. by_threads (a far) ps x g h l p d };
  }
    where
      goes : now.going ≡ false → ⊥
      goes f = true≢false (ap not (sym f) ∙ on)

      by_threads : Acts i j at → (ps : List Placed) (x : Message) (g : Accumulated) {n : ℕ} → Threads s out at n ps to → to ≤ now.state.end
          → Prepared s argument m T U x g.names → Represents s out now g → RepresentsResult s after r (rebuilt x i T j U at ps g)
      by_threads acts [] x g h l p d = absurd (omega (arith, no_threads h))
      by_threads acts (t ∷ ts) x g h l p d =
          let (a, b, c) = first_thread t ts h in
          let (place, long, bound) = record_parts t a.stands in
          let here : at + length (encode_record t) ≡ at + 4 + size = omega (arith, bound.size) in
          let rest = threads_kept ts o l (rw here at c) in
          rw here
          (others_too w.stopped (λ on. w) k e l ts x g rest p (renewed x i T j U at t g) (renewed_names x i T j U at t g)
          (v.exact acts t x g a (omega (arith, c.stands.size)) p d))

-- A block of threads that do not act, and then the others.
module _ {s argument m out out₁ after : List ℕ} {at to i j : ℕ} {T U : Task} {b : Block} {now first r : Progress} where
  pub after_block : not now.going ≡ false → Still out at to i j b → Halts out to i j b → Keeps out at b now first out₁ → Extends now first
      → Within now.state.end (length out) out out₁ → Resumes s argument b.end to m i T j U out₁ first r after
      → Rebuilds s argument at to m i T j U out now r after
  after_block on v u k e o w = record {
    stopped = λ f. absurd (true≢false (ap not (sym f) ∙ on));
    exact = λ ps x g h l p d.
        let q = v.exact s ps h in
        let (standing, others) = every_parts q.front (rw q.whole at h.standing) in
        let shown = k.exact s q.front g q.block (omega (arith, q.behind.stands.size)) standing d in
        let rest = threads_kept q.others o l q.behind in
        rw (q.same x T U g)
        (others_too w.stopped (λ on. w.located_offers (λ far. u.acts s q.others q.behind far (k.light on))) (unchanged {low = 0} {high = 0})
        e l q.others x g rest p (push_all q.front g) (push_all_names q.front g) shown);
  }

pub ruleset rebuilds = (no_more, at_the_end, no_rest, no_record)
