-- The silent steps of the threads of a state in their copies, one after the other ("Steps").
use Rattle.std.specs.Prelude.{Option, Some, None}
use mathlib.Core.Path.{◌≡◌, refl, sym, ◌∙◌, ap}
use mathlib.Core.Bool.{Bool, true, false, true≢false}
use mathlib.Core.List.{List, [], ◌∷◌, ◌++◌, append_assoc, append-nil, flat_map}
use Prim.Native.Nat.{ℕ, ◌+◌, ◌-◌, ◌*◌, ◌≤◌, ◌<◌}
use native.Mathlib.Omega.{arith}
use lib.Dec.{eqb}
use borrow.Author.Tests.{ne_eqb}
use lib.ListN.{length}
use Rattle.buffer.specs.Word.{number_at}
use Rattle.buffer.specs.Buffer.{Within}
use Rattle.buffer.proofs.Laws.Buffer.{unchanged}
use Rattle.state_record.specs.Record.{Placed, encode_record, encode_records}
use Rattle.state_progress.specs.declared.progress.Progress.{Progress}
use Rattle.step_located.specs.Sought.{Opened}
use Rattle.step_transition.specs.Focus.{Focus, focuses_from, record_at, copies_of}
use Rattle.step_transition.specs.Threads.{Threads}
use Rattle.step_transition.specs.Moves.{Move}
use Rattle.step_transition.specs.CopyOffers.{ThreadAt, pairs_from, senders, moved}
use Rattle.step_copy_pair.specs.Meet.{CopyOf, Meets}
use Rattle.step_transition.specs.Step.{Shown}
use Rattle.step_transition.specs.CopyMoves.{group_moves, copy_moves, later_focuses, copy_moves_from, Roomy}
use Rattle.step_copies.specs.CopyStep.{NextInCopies, NoSilent, ShowsCopy, Finds, NextAfterCopies}
use Rattle.step_label.specs.declared.step.Step.{Step}
use Rattle.step_transition.proofs.Laws.Records.{records_further}
use Rattle.step_copies.proofs.Laws.ReplThreads.{few_groups}
use Rattle.step_transition.proofs.Laws.Shown.{found_or_none, shown_more, shown_next}
use Rattle.step_transition.proofs.Laws.Threads.{first_thread, threads_kept, no_threads, record_end}
use Rattle.step_transition.proofs.Laws.Roomy.{still_roomy}

-- The steps of a thread and of those behind it, and of its repl threads one by one.
moves_first : (k : ℕ) (ls : List Placed) (t : Placed) (ts : List Placed)
    → let p : Focus = record { before = ls; thread = t; behind = ts } in
    copy_moves k (focuses_from ls (t ∷ ts)) ≡ flat_map (group_moves p) (copies_of t k) ++ copy_moves k (later_focuses p)
unfolding copy_moves focuses_from flat_map
moves_first k ls t ts = refl

moves_none : (k : ℕ) (ls : List Placed) → copy_moves k (focuses_from ls []) ≡ []
unfolding copy_moves focuses_from flat_map
moves_none k ls = refl

groups_first : (k : ℕ) (p : Focus) (w : Opened) (ws : List Opened)
    → copy_moves_from k p 1 w ws 0 0 ≡ flat_map (group_moves p) (w ∷ ws) ++ copy_moves k (later_focuses p)
unfolding copy_moves_from group_moves flat_map
groups_first k p w ws = refl

groups_none : (k : ℕ) (p : Focus) → flat_map (group_moves p) [] ++ copy_moves k (later_focuses p) ≡ copy_moves k (later_focuses p)
unfolding flat_map
groups_none k p = refl

-- What comes after the pairs of one repl thread.
abbrev afterwards : (k : ℕ) → Focus → (arity : ℕ) → Opened → List Opened → List Move
afterwards k p arity w post =
    (elim (eqb arity 1) [ true ↦ moved p 2 w (pairs_from 2 w 0 (senders w 0)) | false ↦ [] ])
    ++ flat_map (group_moves p) post ++ copy_moves k (later_focuses p)

moves_parts : (k : ℕ) (p : Focus) (arity : ℕ) (w : Opened) (post : List Opened) (x y : ℕ)
    → copy_moves_from k p arity w post x y ≡ moved p arity w (pairs_from arity w y (senders w x)) ++ afterwards k p arity w post
unfolding copy_moves_from
moves_parts k p arity w post x y =
    let own = moved p arity w (pairs_from arity w y (senders w x)) in
    let two : List Move = elim (eqb arity 1) [ true ↦ moved p 2 w (pairs_from 2 w 0 (senders w 0)) | false ↦ [] ] in
    let rest = flat_map (group_moves p) post in
    let later = copy_moves k (later_focuses p) in
    append_assoc (own ++ two) rest later ∙ append_assoc own two (rest ++ later) ∙ ap (λ l. own ++ l) (sym (append_assoc two rest later))

moves_two : (k : ℕ) (p : Focus) (w : Opened) (post : List Opened) → copy_moves_from k p 2 w post 0 0 ≡ afterwards k p 1 w post
unfolding copy_moves_from
moves_two k p w post =
    ap (λ l. l ++ flat_map (group_moves p) post ++ copy_moves k (later_focuses p)) (append-nil (moved p 2 w (pairs_from 2 w 0 (senders w 0))))

-- The first thread, with room for a traversal of it.
pub thread_at : {s out m message : List ℕ} {at k to : ℕ} (t : Placed) (ts : List Placed) → Threads s out at k (t ∷ ts) to
    → Roomy s out m message k to → ThreadAt s out m at k to t
thread_at {at = at} t ts h o =
    let (p, j, rest) = first_thread t ts h in
    record {
      next = at + length (encode_record t);
      recorded = p;
      below = (record_end t ts h).1;
      judged = j;
      short = o.short;
      wide = o.wide;
      room = o.room;
      few = o.few;
    }

-- A repl thread of the first thread, as one that is met.
copy_of : {s out m message : List ℕ} {start at k to arity copy : ℕ} (p : Focus) (pre post : List Opened) (w : Opened)
    → Threads s out at k (p.thread ∷ p.behind) to → Roomy s out m message k to → at ≡ record_at start p
    → copies_of p.thread k ≡ pre ++ (w ∷ post) → copy ≡ w.place + 1 → 1 ≤ arity → arity ≤ 2
    → CopyOf s out m start at k to p arity copy w
copy_of p pre post w h o place listed mark low high = record {
  thread = thread_at p.thread p.behind h o;
  position = place;
  pre = pre;
  post = post;
  listed = listed;
  meant = mark;
  arity_low = low;
  arity_high = high;
}

-- No thread stands there, or nothing is left to count down.
module _ {s : List ℕ} {at k to : ℕ} {m : List ℕ} {copy arity x y left : ℕ} {out message : List ℕ} where
  nothing_there : (at + 4 ≤ to → ⊥) → NextInCopies s at k to m copy arity x y left out message None message
  nothing_there f = record {
    first = λ start ls ts h o place zero two l. of start ls ts h;
    later = λ start p pre post w h o place listed mark low high l. absurd (f (long p.thread p.behind h));
  }
    where
      long : (t : Placed) (ts : List Placed) → Threads s out at k (t ∷ ts) to → at + 4 ≤ to
      long t ts h = omega (arith, record_end t ts h)

      of : (start : ℕ) (ls ts : List Placed) → Threads s out at k ts to → Shown start message None (copy_moves k (focuses_from ls ts))
      of start ls [] h = rw (moves_none k ls) refl
      of start ls (t ∷ ts) h = absurd (f (long t ts h))

  pub joins_end : to ≤ at → NextInCopies s at k to m copy arity x y left out message None message
  joins_end l = nothing_there (λ h. omega arith)

  pub joins_short : to - at < 4 → NextInCopies s at k to m copy arity x y left out message None message
  joins_short l = nothing_there (λ h. omega arith)

  pub joins_spent : left ≡ 0 → NextInCopies s at k to m copy arity x y left out message None message
  joins_spent e = record {
    first = λ start ls ts h o place zero two l. absurd (omega arith);
    later = λ start p pre post w h o place listed mark low high l. absurd (omega arith);
  }

-- The pairs of the repl thread that is meant, and what comes after it.
module _ {s : List ℕ} {at k to : ℕ} {m : List ℕ} {copy arity x y left : ℕ} {out message : List ℕ} (far : 4 ≤ to - at) where
  pub joins_found : {v : Step} {r : Option Step} {said : List ℕ} → Meets s at k to m copy arity x y out message r said → r ≡ Some v
      → NextInCopies s at k to m copy arity x y left out message (Some v) said
  joins_found {v} {r} {said} met e = record {
    first = λ start ls ts h o place zero two l. of start ls ts h o zero;
    later = λ start p pre post w h o place listed mark low high l.
        rw (moves_parts k p arity w post x y)
        (shown_more start said v (moved p arity w (pairs_from arity w y (senders w x))) (afterwards k p arity w post)
        (rw (← e) (met.exact start p w (copy_of p pre post w h o place listed mark low high) o.long)));
  }
    where
      of : (start : ℕ) (ls ts : List Placed) → Threads s out at k ts to → Roomy s out m message k to → copy ≡ 0
          → Shown start said (Some v) (copy_moves k (focuses_from ls ts))
      of start ls [] h o zero = absurd (omega (arith, no_threads h))
      of start ls (t ∷ ts) h o zero = absurd (found_or_none (sym e ∙ met.nowhere t (thread_at t ts h o) zero))

  pub joins_passed : {m₁ out₁ said₁ said : List ℕ} {r₁ r : Option Step} {low high : ℕ} → (left ≡ 0 → ⊥)
      → Meets s at k to m copy arity x y out message r₁ said₁ → r₁ ≡ None → Within low high m m₁ → Within to (length out) out out₁
      → length said₁ ≡ length message → NextAfterCopies s at k to m₁ copy arity (left - 1) out₁ said₁ r said
      → NextInCopies s at k to m copy arity x y left out message r said
  joins_passed {m₁} {out₁} {said₁} {said} {r₁} {r} some met e wm wo same pass = record {
    first = λ start ls ts h o place zero two l. of start ls ts h o place zero two l;
    later = λ start p pre post w h o place listed mark low high l.
        rw (moves_parts k p arity w post x y)
        (shown_next start said₁ said r (moved p arity w (pairs_from arity w y (senders w x))) (afterwards k p arity w post)
        (rw (← e) (met.exact start p w (copy_of p pre post w h o place listed mark low high) o.long))
        (pass.later start p pre post w (threads_kept (p.thread ∷ p.behind) wo (omega arith) h) (still_roomy wm wo same o) place
        listed mark low high (omega arith)));
  }
    where
      of : (start : ℕ) (ls ts : List Placed) → Threads s out at k ts to → Roomy s out m message k to
          → at ≡ start + length (encode_records ls) → copy ≡ 0 → arity ≡ 2 → 8193 ≤ left
          → Shown start said r (copy_moves k (focuses_from ls ts))
      of start ls [] h o place zero two l = absurd (omega (arith, no_threads h))
      of start ls (t ∷ ts) h o place zero two l =
          rw (moves_first k ls t ts)
          (pass.first start (record { before = ls; thread = t; behind = ts }) (threads_kept (t ∷ ts) wo (omega arith) h)
          (still_roomy wm wo same o) place zero two (omega arith))

  -- Where no repl thread is meant, there are none before it.
  pub joins_first : {said : List ℕ} {r : Option Step} → copy ≡ 0 → (left ≡ 0 → ⊥)
      → NextAfterCopies s at k to m 0 2 (left - 1) out message r said
      → NextInCopies s at k to m copy arity x y left out message r said
  joins_first {said} {r} zero some pass = record {
    first = λ start ls ts h o place z two l. of start ls ts h o place two l;
    later = λ start p pre post w h o place listed mark low high l. absurd (omega arith);
  }
    where
      of : (start : ℕ) (ls ts : List Placed) → Threads s out at k ts to → Roomy s out m message k to
          → at ≡ start + length (encode_records ls) → arity ≡ 2 → 8193 ≤ left → Shown start said r (copy_moves k (focuses_from ls ts))
      of start ls [] h o place two l = absurd (omega (arith, no_threads h))
      of start ls (t ∷ ts) h o place two l =
          rw (moves_first k ls t ts)
          (pass.first start (record { before = ls; thread = t; behind = ts }) h o place refl refl (omega arith))

pub ruleset joinings = (joins_end, joins_short, joins_spent, joins_found, joins_first)

-- After one copy come two.
pub passes_two : {s : List ℕ} {at k to : ℕ} {m : List ℕ} {copy arity left : ℕ} {out message : List ℕ} {r : Option Step} {said : List ℕ}
    → arity ≡ 1 → NextInCopies s at k to m copy 2 0 0 left out message r said → NextAfterCopies s at k to m copy arity left out message r said
passes_two {k = k} {r = r} {said = said} one join = record {
  first = λ start p h o place zero two l. absurd (omega arith);
  later = λ start p pre post w h o place listed mark low high l.
      let two = join.later start p pre post w h o place listed mark (omega arith) (omega arith) (omega arith) in
      let both : Shown start said r (afterwards k p 1 w post) = rw (moves_two k p w post) at two in
      rw one both;
}

-- The threads behind the first one, where that one has no silent step.
behind_shown : {s : List ℕ} {at k to : ℕ} {m out message m₁ out₁ : List ℕ} {r : Option Step} {said : List ℕ} {low high size : ℕ}
    → Within low high m m₁ → Within to (length out) out out₁ → size ≡ number_at out (at + 2)
    → NextInCopies s (at + 4 + size) k to m₁ 0 2 0 0 8193 out₁ message r said → (start : ℕ) (p : Focus) → Threads s out at k (p.thread ∷ p.behind) to
    → Roomy s out m message k to → at ≡ record_at start p → Shown start said r (copy_moves k (later_focuses p))
behind_shown {at = at} {size = size} wm wo z join start p h o place =
    let (a, b, rest) = first_thread p.thread p.behind h in
    let here : at + length (encode_record p.thread) ≡ at + 4 + size = omega (arith, record_end p.thread p.behind h) in
    let kept = threads_kept p.behind wo (omega arith) (rw here at rest) in
    join.first start (p.before ++ (p.thread ∷ [])) p.behind kept (still_roomy wm wo refl o)
    (omega (arith, records_further p.before p.thread)) refl refl (omega arith)

-- It may have none in its copies.
pub passes_barren : {s : List ℕ} {at k to : ℕ} {m : List ℕ} {left size : ℕ} {out message : List ℕ} {r : Option Step} {said : List ℕ}
    {b : Bool}
    → NoSilent s at out b → b ≡ true → size ≡ number_at out (at + 2) → NextInCopies s (at + 4 + size) k to m 0 2 0 0 8193 out message r said
    → NextAfterCopies s at k to m 0 2 left out message r said
passes_barren {at = at} {k = k} {to = to} {out = out} x is z join = record {
  first = λ start p h o place zero two l.
      let (record-at, j, rest) = first_thread p.thread p.behind h in
      rw (x.exact is p k record-at)
      (behind_shown (unchanged {low = 0} {high = 0}) (unchanged {low = to} {high = length out}) z join start p h o place);
  later = λ start p pre post w h o place listed mark low high l. absurd (omega arith);
}

-- After two copies comes the next repl thread, or the next thread.
module _ {s : List ℕ} {at k to : ℕ} {m : List ℕ} {copy arity left : ℕ} {out message m₁ out₁ : List ℕ} {found : Progress} {r : Option Step}
    {said : List ℕ}
    {low high : ℕ} (two : arity ≡ 1 → ⊥) (v : Finds s at k to m copy out found) (wm : Within low high m m₁) (wo : Within to (length out) out out₁)
  where
    pub passes_thread : {size : ℕ} → size ≡ number_at out (at + 2) → found.going ≡ true
        → NextInCopies s (at + 4 + size) k to m₁ 0 2 0 0 8193 out₁ message r said → NextAfterCopies s at k to m copy arity left out message r said
    passes_thread {size} z on join = record {
      first = λ start p h o place zero mode-two l.
          by_copies start p h o place (copies_of p.thread k) (v.first p.thread (thread_at p.thread p.behind h o) zero);
      later = λ start p pre post w h o place listed mark low high l.
          rw (ne_eqb arity 1 two)
          (by_copies start p h o place post (v.later p.thread pre post w (thread_at p.thread p.behind h o) listed mark));
    }
      where
        by_copies : (start : ℕ) (p : Focus) → Threads s out at k (p.thread ∷ p.behind) to → Roomy s out m message k to
            → at ≡ record_at start p → (ws : List Opened) → ShowsCopy found ws
            → Shown start said r (flat_map (group_moves p) ws ++ copy_moves k (later_focuses p))
        by_copies start p h o place [] e = rw (groups_none k p) (behind_shown wm wo z join start p h o place)
        by_copies start p h o place (w ∷ ws) e = absurd (true≢false (sym on ∙ e.0))

    pub passes_copy : found.going ≡ false → NextInCopies s at k to m₁ found.mark 1 0 0 left out₁ message r said
        → NextAfterCopies s at k to m copy arity left out message r said
    passes_copy off join = record {
      first = λ start p h o place zero mode-two l.
          let t = thread_at p.thread p.behind h o in
          by_copies start p h o place [] (copies_of p.thread k) refl (v.first p.thread t zero) (omega (arith, few_groups p.thread t));
      later = λ start p pre post w h o place listed mark low high l.
          rw (ne_eqb arity 1 two)
          (by_copies start p h o place (pre ++ (w ∷ [])) post (listed ∙ sym (append_assoc pre (w ∷ []) post))
          (v.later p.thread pre post w (thread_at p.thread p.behind h o) listed mark) (omega arith));
    }
      where
        by_copies : (start : ℕ) (p : Focus) → Threads s out at k (p.thread ∷ p.behind) to → Roomy s out m message k to
            → at ≡ record_at start p → (pre ws : List Opened) → copies_of p.thread k ≡ pre ++ ws → ShowsCopy found ws → 2 * length ws ≤ left
            → Shown start said r (flat_map (group_moves p) ws ++ copy_moves k (later_focuses p))
        by_copies start p h o place pre [] listed e l = absurd (true≢false (sym e ∙ off))
        by_copies start p h o place pre (w ∷ ws) listed e l =
            rw (← groups_first k p w ws)
            (join.later start p pre ws w (threads_kept (p.thread ∷ p.behind) wo (omega arith) h) (still_roomy wm wo refl o) place listed
            e.1 (omega arith) (omega arith) (omega arith))

pub ruleset passings = (passes_two, passes_barren, passes_thread, passes_copy)
