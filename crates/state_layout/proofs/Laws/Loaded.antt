-- A traversal of a thread that is loaded from its record ("Steps").
use mathlib.Core.Path.{◌≡◌, refl, subst}
use mathlib.Core.List.{List, ◌++◌}
use Prim.Native.Nat.{ℕ, ◌+◌, ◌*◌, ◌≤◌}
use native.Mathlib.Omega.{arith}
use lib.ListN.{length, length-append}
use Rattle.meaning.specs.Messages.Term.{Message}
use Rattle.meaning.specs.Bytes.Process.{output, input, Process}
use Rattle.meaning.specs.Bytes.Encoding.{encode_term, encode_process}
use Rattle.meaning.specs.Places.{none, ◌also◌}
use Rattle.meaning.proofs.Every.{every_map}
use Rattle.buffer.specs.Buffer.{Within}
use Rattle.message_term.specs.Bound.{encode_bound}
use Rattle.state_record.specs.Place.{ProcessAt}
use Rattle.state_record.specs.Record.{Placed, process_of, bound_of, encode_records}
use Rattle.state_record.specs.Room.{fresh_state}
use Rattle.state_head.specs.News.{news}
use Rattle.state_progress.specs.TraversalResult.{Accumulated}
use Rattle.state_head.specs.Traversal.{go}
use Rattle.state_progress.specs.Represented.{Represents, RepresentsResult}
use Rattle.state_head.specs.Traverse.{NamesFit, Meant, Traverses}
use Rattle.state_record.specs.Stored.{Loads}
use Rattle.state_task.specs.declared.task.Task.{Task}
use Rattle.state_task.specs.declared.task.Task.TheVariants.{Build}
use Rattle.state_task.specs.declared.task.Plan.{Plan}
use Rattle.state_record.specs.declared.stored.Loaded.{Loaded}
use Rattle.state_progress.specs.declared.progress.Progress.{Progress}
use Rattle.state_progress.proofs.Laws.Progress.{to_end}
use Rattle.state_head.proofs.Laws.Fits.{later_fewer}
use Rattle.state_layout.specs.Loaded.{nothing_yet, IsRunOf, RecordAt, NamesSmall, TraversesThread}
use Rattle.state_progress.specs.Progress.{Begins}
use Rattle.state_layout.proofs.Laws.Small.{bound_few}
use Rattle.index_process.specs.Index.{ShortModel}

-- Every `new` node takes a byte.
pub news_short : (P : Process) → news P ≤ length (encode_process P)
unfolding encode_process
news_short Process.nil = omega arith
news_short (Process.new P) = omega (arith, news_short P)
news_short (Process.act (output C M) P) =
    omega (arith, news_short P, length-append (encode_term C ++ encode_term M) (encode_process P))
news_short (Process.act (input C) P) = omega (arith, news_short P, length-append (encode_term C) (encode_process P))
news_short (Process.if M N P Q) =
    omega (
      arith,
      news_short P,
      news_short Q,
      length-append (encode_term M ++ encode_term N ++ encode_process P) (encode_process Q),
      length-append (encode_term M ++ encode_term N) (encode_process P),
    )
news_short (Process.let_in M P) = omega (arith, news_short P, length-append (encode_term M) (encode_process P))
news_short (Process.par P Q) = omega (arith, news_short P, news_short Q, length-append (encode_process P) (encode_process Q))
news_short (Process.repl P) = omega (arith, news_short P)

-- Small names fit whatever process stands in a model.
pub names_small : {s : List ℕ} {at left scope next : ℕ} (T : Task) (n : ℕ) (P : Process) → ProcessAt s at left scope P next → ShortModel s
    → NamesSmall T n → NamesFit T n P
names_small T n P p l (a also rest) =
    let few : news P ≤ 4096 = omega (arith, news_short P, p.stands.size, p.inside) in
    record { own = omega arith; others = every_map (λ k h. omega (arith, later_fewer P)) rest }

-- The messages of a thread within the limits take 512 bytes each at most.
pub bound_short : {s out : List ℕ} {at next : ℕ} (t : Placed) → RecordAt s out at t next
    → length (encode_bound (bound_of t.thread)) ≤ 512 * length (bound_of t.thread)
bound_short t h = bound_few h.small

-- So they are loaded, and the traversal finds room above them.
pub thread_traversed : {s argument m m₁ out after : List ℕ} {at : ℕ} {T : Task} {now r : Progress} {l : Loaded} → Loads out at l m₁
    → Within 0 l.end m m₁ → Traverses s argument l.place 64 m₁ l.end T out now r after → TraversesThread s argument at m T out now r after
thread_traversed {s} {argument} {m} {m₁} {out} {after} {at} {T} {now} {r} {l} d w v = record { exact = one }
  where
    one : (t : Placed) (x : Message) (g : Accumulated) {next : ℕ} → RecordAt s out at t next → IsRunOf argument x → ShortModel s
        → 10750 ≤ length m → NamesSmall T g.names → Meant s T → Represents s out now g
        → RepresentsResult s after r (go (process_of t.thread) T x t.place (bound_of t.thread) g)
    one t x g h i short room names meant shows =
        let ρ = bound_of t.thread in
        let P = process_of t.thread in
        let size = bound_short t h in
        let few = h.standing.process.few in
        let (place, next, stands) = d.exact t h.stands h.standing.fits (omega arith) (omega (arith, w.long)) in
        subst (λ (n : ℕ). RepresentsResult s after r (go P T x n ρ g)) place
        (v.traverses.exact P x ρ g (record {
          next = h.standing.next;
          process = rw place h.standing.process;
          shallow = omega arith;
          short = short;
          labelled = i.same;
          small = i.small;
          normal = i.normal;
          bound = record { stands = stands; few = omega arith; normal = h.standing.normal };
          room = omega (arith, w.long, stands.size);
          fits = names_small T g.names P h.standing.process short names;
          meant = meant;
        }) shows)

-- By the traversal that builds, where that is the task.
pub thread_built : {s argument m m₁ out after : List ℕ} {at k : ℕ} {T : Task} {b : Plan} {now r : Progress} {l : Loaded} → T ≡ Build b k
    → Loads out at l m₁ → Within 0 l.end m m₁ → Traverses s argument l.place 64 m₁ l.end (Build b k) out now r after
    → TraversesThread s argument at m T out now r after
thread_built e d w v = rw e (thread_traversed d w v)

pub ruleset thread_traversals = (thread_traversed, thread_built)

-- Nothing has been written yet.
pub begins_shown : {s out : List ℕ} {to n : ℕ} (now : Progress) → Begins to n now → to + 3964 ≤ length out → Represents s out now (nothing_yet n)
unfolding encode_records
begins_shown {s} {out} {to} {n} now b l =
    let e : now.state ≡ fresh_state to to 0 = b.state in
    record {
      on = b.on;
      names = b.next;
      threads = rw e;
      nodes = rw e;
      records = rw e (record { bytes = refl; size = omega arith });
      size = rw e (omega arith);
      few = omega arith;
      light = omega arith;
      room = rw e l;
      standing = none;
    }

-- What the traversals write stands behind the state.
pub behind : {to n : ℕ} {now : Progress} {out out₁ : List ℕ} {high : ℕ} → Begins to n now → Within now.state.end high out out₁
    → Within to (length out) out out₁
behind b w = let ends = b.state in to_end (rw ends at w)
