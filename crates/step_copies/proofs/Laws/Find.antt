-- The next repl thread of a thread, found by a traversal of it ("Steps").
use mathlib.Core.Path.{◌≡◌, ◌∙◌}
use mathlib.Core.Bool.{true}
use mathlib.Core.List.{List, [], ◌∷◌, ◌++◌}
use Prim.Native.Nat.{ℕ, ◌+◌, ◌≤◌}
use native.Mathlib.Omega.{arith}
use Rattle.meaning.specs.Messages.Term.{leaf, public}
use Rattle.meaning.specs.Messages.Normal.{normal}
use Rattle.meaning.specs.Places.{none, ◌also◌}
use Rattle.meaning.specs.Steps.State.{names}
use Rattle.meaning.proofs.Messages.{normal_forms}
use Rattle.message_bytes.specs.Encoding.{encode_message}
use Rattle.buffer.specs.Word.{encode_word}
use Rattle.state_record.specs.Record.{Placed, process_of, bound_of}
use Rattle.state_progress.specs.TraversalResult.{Accumulated, going, named}
use Rattle.state_head.specs.Traversal.{go}
use Rattle.state_progress.specs.Represented.{RepresentsResult}
use Rattle.state_task.specs.declared.task.Task.TheVariants.{Find}
use Rattle.state_progress.specs.declared.progress.Progress.{Progress}
use Rattle.step_located.specs.Sought.{Opened, first_copy}
use Rattle.step_located.proofs.Laws.Find.{found_first, found_next}
use Rattle.step_transition.specs.Focus.{copies_of}
use Rattle.step_transition.specs.Threads.{Judged}
use Rattle.state_layout.specs.Loaded.{IsRunOf, TraversesThread}
use Rattle.state_progress.specs.Progress.{Begins}
use Rattle.state_layout.specs.Loaded.{nothing_yet}
use Rattle.step_transition.specs.CopyOffers.{ThreadAt}
use Rattle.step_copies.specs.CopyStep.{ShowsCopy, Finds}
use Rattle.state_layout.proofs.Laws.Loaded.{begins_shown}
use Rattle.step_transition.proofs.Laws.Opened.{judged_free, copies_settled}

-- A label that does not matter.
pub any_label : {argument : List ℕ} → argument ≡ 16 ∷ 0 ∷ [] → IsRunOf argument (leaf (public 0))
unfolding encode_message encode_word normal
any_label e = record { same = e; small = rw e (omega arith); normal = (normal_forms (leaf (public 0))).0 }

-- What is found first is shown.
copy_shown : (s after : List ℕ) (r : Progress) (ws : List Opened) (g : Accumulated) → RepresentsResult s after r (first_copy ws (going g)) → ShowsCopy r ws
unfolding first_copy
copy_shown s after r [] g h = h.on
copy_shown s after r (w ∷ ws) g h = (h.off, h.mark)

-- The traversal of a thread that meets no limit.
module _ (t : Placed) {k : ℕ} (j : Judged k t) where
  abbrev end : Accumulated
  end = named (names (process_of t.thread) (bound_of t.thread) k) (nothing_yet k)

  finds_first : go (process_of t.thread) (Find 0 true k) (leaf (public 0)) t.place (bound_of t.thread) (nothing_yet k)
      ≡ first_copy (copies_of t k) (going end)
  finds_first =
      let free = judged_free t k j in
      found_first k (leaf (public 0)) (process_of t.thread) t.place (bound_of t.thread) (nothing_yet k) free.settling free.offering true
      ∙ rw (copies_settled t k k)

  finds_next : (pre post : List Opened) (w : Opened) → copies_of t k ≡ pre ++ (w ∷ post)
      → go (process_of t.thread) (Find (w.place + 1) true k) (leaf (public 0)) t.place (bound_of t.thread) (nothing_yet k)
      ≡ first_copy post (going end)
  finds_next pre post w e =
      let free = judged_free t k j in
      found_next k (leaf (public 0)) (process_of t.thread) t.place (bound_of t.thread) (nothing_yet k) free.settling free.offering
      pre post w (copies_settled t k k ∙ e)

pub finds : {s argument : List ℕ} {at to : ℕ} {m : List ℕ} {copy k : ℕ} {out : List ℕ} {now r : Progress} {after : List ℕ}
    → argument ≡ 16 ∷ 0 ∷ [] → Begins to k now → TraversesThread s argument at m (Find copy true k) out now r after → Finds s at k to m copy out r
finds {s} {argument} {at} {to} {m} {copy} {k} {out} {now} {r} {after} e begins v = record {
  first = λ t h zero.
      let course : RepresentsResult s after r (first_copy (copies_of t k) (going (end t h.judged))) =
      rw (zero, finds_first t h.judged) at (traversed t h) in
      copy_shown s after r (copies_of t k) (end t h.judged) course;
  later = λ t pre post w h listed mark.
      let course : RepresentsResult s after r (first_copy post (going (end t h.judged))) =
      rw (mark, finds_next t h.judged pre post w listed) at (traversed t h) in
      copy_shown s after r post (end t h.judged) course;
}
  where
    traversed : (t : Placed) → ThreadAt s out m at k to t
        → RepresentsResult s after r (go (process_of t.thread) (Find copy true k) (leaf (public 0)) t.place (bound_of t.thread) (nothing_yet k))
    traversed t h =
        let small : k ≤ 28664 = omega (arith, h.few) in
        v.exact t (leaf (public 0)) (nothing_yet k) h.recorded (any_label e) h.short h.wide (small also small also none) tt
        (begins_shown now begins h.room)
