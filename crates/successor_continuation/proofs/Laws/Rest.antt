-- What follows a thread is settled ("Steps").
use mathlib.Core.Path.{◌≡◌, refl, sym, ◌∙◌}
use mathlib.Core.List.{List, [], ◌∷◌}
use Prim.Native.Nat.{ℕ, suc, ◌+◌, ◌-◌, ◌≤◌, ◌<◌}
use native.Mathlib.Omega.{arith}
use lib.ListN.{length, get_or, length-append}
use Rattle.meaning.specs.Messages.Term.{Message}
use Rattle.meaning.specs.Bytes.Process.{Prefix, output, input, Process}
use Rattle.meaning.specs.Steps.State.{Bound, ◌▸◌, Thread, act, repl}
use Rattle.buffer.specs.Buffer.{Within}
use Rattle.message_term.specs.Bound.{BindsRun}
use Rattle.message_term.proofs.Theorems.{bound_further}
use Rattle.state_record.specs.Place.{rest_at}
use Rattle.state_record.specs.Record.{Placed, process_of, bound_of}
use Rattle.state_progress.specs.TraversalResult.{Accumulated}
use Rattle.state_progress.specs.Represented.{Represents, RepresentsResult}
use Rattle.state_progress.specs.Progress.{Stopped}
use Rattle.state_record.specs.Stored.{Loads}
use Rattle.state_record.specs.declared.stored.Loaded.{Loaded}
use Rattle.state_progress.specs.declared.progress.Progress.{Progress}
use Rattle.state_record.proofs.Laws.Process.{process_kind, shaped, after-output, after-input}
use Rattle.state_task.specs.Place as place
use Rattle.state_task.specs.declared.task.Task.TheVariants.{Settle}
use Rattle.state_head.specs.Traversal.{go}
use Rattle.state_head.specs.Traverse.{Ready, Traverses}
use Rattle.state_head.proofs.Laws.Fits.{fits_none}
use Rattle.state_layout.specs.Loaded.{IsRunOf, RecordAt}
use Rattle.successor_continuation.specs.Rest.{bound_behind, settled_behind, SettlesBehind, TakesBehind, SettlesRest, Rests}
use Rattle.state_layout.proofs.Laws.Loaded.{news_short, bound_short}
use Rattle.index_process.specs.Index.{ShortModel}

-- Nil follows, or a process that is traversed.
module _ {s argument m out : List ℕ} {at end i : ℕ} {now : Progress} (rests : place.Rests s at i) where
  pub nil_follows : {kind : ℕ} → kind ≡ get_or s i 0 → kind ≡ 0 → SettlesBehind s argument at m end out now now out
  unfolding go
  nil_follows e z = record {
    exact = λ p P x ρ g q y d.
        let is_nil : P ≡ Process.nil = shaped 0 P y.process (rw (rests.exact p P q) at (sym e ∙ z)) in
        rw is_nil d;
  }

  pub settled-behind : {r : Progress} {after : List ℕ} → Traverses s argument i 63 m end Settle out now r after
      → SettlesBehind s argument at m end out now r after
  settled-behind w = record { exact = λ p P x ρ g q y d. (rw (rests.exact p P q) at w).traverses.exact P x ρ g y d }

pub ruleset settlings = (nil_follows, settled-behind)

-- Behind an input the message of the label is bound too.
module _ {s argument m out : List ℕ} {at end : ℕ} {now r : Progress} where
  pub label_long : 510 < length argument → TakesBehind s argument at m end out now r out
  label_long h = record { exact = λ C P x ρ g y d. absurd (omega (arith, y.small)) }

  pub no_room : length m - end < 512 → TakesBehind s argument at m end out now r out
  no_room h = record { exact = λ C P x ρ g y d. absurd (omega (arith, y.room)) }

  pub taken_behind : {m₁ after : List ℕ} {last high : ℕ} → SettlesBehind s argument at m₁ last out now r after → BindsRun argument m end last m₁
      → Within end high m m₁ → last ≡ end + 2 + length argument → TakesBehind s argument at m end out now r after
  taken_behind {m₁} {last = last} f b k l = record {
    exact = λ C P x ρ g y d.
        let longer : length (ρ ▸ x) ≡ suc (length ρ) = omega (arith, length-append ρ (x ∷ [])) in
        f.exact (input C) P x (ρ ▸ x) g y.process.stands (record {
          next = y.next;
          process = rw (← longer) at (after-input C P y.process);
          shallow = omega arith;
          short = y.short;
          labelled = y.labelled;
          small = y.small;
          normal = y.normal;
          bound = bound_further m m₁ 0 end last ρ x y.bound y.normal (omega (arith, y.process.few)) (b.exact x y.labelled);
          room = omega (arith, y.room, y.small, k.long);
          fits = fits_none Settle g.names P refl (omega (arith, y.fits.own));
          meant = tt;
        }) d;
  }

pub ruleset takings = (label_long, no_room, taken_behind)

-- An input takes the message of the label, an output none.
module _ {s argument m out after : List ℕ} {at end kind : ℕ} {now r : Progress} (e : kind ≡ get_or s at 0) where
  pub behind_input : kind ≡ 3 → TakesBehind s argument at m end out now r after → SettlesRest s argument at m end out now r after
  behind_input z f = record { exact = of }
    where
      of : (p : Prefix) (P : Process) (x : Message) (ρ : Bound) (g : Accumulated) → Ready s argument at 64 m end Settle (Process.act p P) x ρ g
          → Represents s out now g → RepresentsResult s after r (go P Settle x (rest_at at p) (bound_behind p ρ x) g)
      of (output C M) P x ρ g y d = absurd (omega (arith, e, (process_kind (Process.act (output C M) P) y.process).0))
      of (input C) P x ρ g y d = f.exact C P x ρ g y d

  pub behind_output : (kind ≡ 3 → ⊥) → SettlesBehind s argument at m end out now r after → SettlesRest s argument at m end out now r after
  behind_output z f = record { exact = of }
    where
      of : (p : Prefix) (P : Process) (x : Message) (ρ : Bound) (g : Accumulated) → Ready s argument at 64 m end Settle (Process.act p P) x ρ g
          → Represents s out now g → RepresentsResult s after r (go P Settle x (rest_at at p) (bound_behind p ρ x) g)
      of (output C M) P x ρ g y d =
          f.exact (output C M) P x ρ g y.process.stands (record {
            next = y.next;
            process = after-output C M P y.process;
            shallow = omega arith;
            short = y.short;
            labelled = y.labelled;
            small = y.small;
            normal = y.normal;
            bound = y.bound;
            room = omega (arith, y.room);
            fits = fits_none Settle g.names P refl (omega (arith, y.fits.own));
            meant = tt;
          }) d
      of (input C) P x ρ g y d = absurd (z (e ∙ (process_kind (Process.act (input C) P) y.process).0))

pub ruleset behind = (behind_input, behind_output)

-- The thread is loaded, and it acts by itself or is a repl thread.
module _ {s argument m m₁ out : List ℕ} {at : ℕ} {l : Loaded} (loads : Loads out at l m₁) (w : Within 0 l.end m m₁) where
  loaded : (t : Placed) (x : Message) (g : Accumulated) {next : ℕ} → RecordAt s out at t next → IsRunOf argument x → ShortModel s
      → 10750 ≤ length m → g.names ≤ 28664
      → (l.place ≡ t.place) × Ready s argument l.place 64 m₁ l.end Settle (process_of t.thread) x (bound_of t.thread) g
  loaded t x g h i short room names =
      let ρ = bound_of t.thread in
      let P = process_of t.thread in
      let size = bound_short t h in
      let p = h.standing.process in
      let few = p.few in
      let (place, next, stands) = loads.exact t h.stands h.standing.fits (omega arith) (omega (arith, w.long)) in (
        place,
        record {
          next = h.standing.next;
          process = rw place p;
          shallow = omega arith;
          short = short;
          labelled = i.same;
          small = i.small;
          normal = i.normal;
          bound = record { stands = stands; few = omega arith; normal = h.standing.normal };
          room = omega (arith, w.long, stands.size);
          fits = fits_none Settle g.names P refl (omega (arith, news_short P, p.stands.size, p.inside));
          meant = tt;
        },
      )

  module _ {now r : Progress} {after : List ℕ} where
    -- What is to be shown of each kind of thread.
    of_thread : ((u : Thread) (x : Message) (g : Accumulated) → Ready s argument l.place 64 m₁ l.end Settle (process_of u) x (bound_of u) g
        → Represents s out now g → RepresentsResult s after r (settled_behind u l.place x g)) → Rests s argument at m out now r after
    of_thread f = record {
      exact = λ t x g h i short room names d.
          let (place, y) = loaded t x g h i short room names in
          rw (← place) (f t.thread x g y d);
    }

    pub rest_nowhere : length s ≤ l.place → Rests s argument at m out now r after
    rest_nowhere n = of_thread (λ u x g y d. absurd (omega (arith, (process_kind (process_of u) y.process).1)))

    module _ {kind : ℕ} (e : kind ≡ get_or s l.place 0) where
      pub rest_repl : kind ≡ 7 → Stopped now r → Rests s argument at m out now r after
      rest_repl z o = of_thread of
        where
          of : (u : Thread) (x : Message) (g : Accumulated) → Ready s argument l.place 64 m₁ l.end Settle (process_of u) x (bound_of u) g
              → Represents s out now g → RepresentsResult s after r (settled_behind u l.place x g)
          of (act ρ (output C M) P) x g y d = absurd (omega (arith, e, (process_kind (Process.act (output C M) P) y.process).0))
          of (act ρ (input C) P) x g y d = absurd (omega (arith, e, (process_kind (Process.act (input C) P) y.process).0))
          of (repl ρ P) x g y d = o.over

      pub rest_acts : (kind ≡ 7 → ⊥) → SettlesRest s argument l.place m₁ l.end out now r after → Rests s argument at m out now r after
      rest_acts n f = of_thread of
        where
          of : (u : Thread) (x : Message) (g : Accumulated) → Ready s argument l.place 64 m₁ l.end Settle (process_of u) x (bound_of u) g
              → Represents s out now g → RepresentsResult s after r (settled_behind u l.place x g)
          of (act ρ p P) x g y d = f.exact p P x ρ g y d
          of (repl ρ P) x g y d = absurd (n (e ∙ (process_kind (Process.repl P) y.process).0))

pub ruleset rests = (rest_nowhere, rest_repl, rest_acts)
