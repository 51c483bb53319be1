-- The state that an output or an input of a thread leads to that acts itself, as it is formed ("Steps"; "Judging and its count").
use Rattle.std.specs.Prelude.{Option}
use mathlib.Core.Path.{◌≡◌, refl, sym, ap, subst, ◌∙◌}
use mathlib.Core.Bool.{Bool, ◌||◌}
use mathlib.Core.List.{List, [], ◌∷◌, ◌++◌}
use Prim.Native.Nat.{ℕ, ◌+◌, ◌-◌, ◌≤◌, ◌<◌}
use native.Mathlib.Omega.{arith}
use lib.ListN.{length, get_or}
use Rattle.meaning.specs.Messages.Term.{Message}
use Rattle.meaning.specs.Bytes.Process.{Process}
use Rattle.meaning.specs.Steps.State.{Bound, State, repl}
use Rattle.meaning.specs.Judging.Limits.{bound_nodes, thread_nodes}
use Rattle.meaning.proofs.Every.{every_split}
use Rattle.buffer.specs.Buffer.{Within}
use Rattle.buffer.specs.Word.{number_at}
use Rattle.buffer.proofs.Laws.Buffer.{unchanged}
use Rattle.state_record.specs.Record.{process_of, encode_record}
use Rattle.state_progress.specs.TraversalResult.{Accumulated, going, unless}
use Rattle.state_progress.specs.Represented.{RepresentsResult}
use Rattle.state_progress.specs.Progress.{Extends}
use Rattle.state_record.specs.declared.state.State as code
use Rattle.state_progress.specs.declared.progress.Progress.{Progress}
use Rattle.state_record.proofs.Laws.Process.{kind_of, process_kind}
use Rattle.state_head.proofs.Laws.Crowd.{roomy}
use Rattle.state_start.specs.Form.{Finishes}
use Rattle.step_located.specs.Located.{LocatedOffer}
use Rattle.step_located.specs.Rebuilt.{nodes_of}
use Rattle.step_located.proofs.Laws.Copies.{split_at}
use Rattle.step_transition.specs.Focus.{Focus, record_at}
use Rattle.step_transition.specs.Moves.{alone}
use Rattle.step_transition.specs.Outcome.{outcome}
use Rattle.step_transition.specs.Limits.{rest_over, full}
use Rattle.step_transition.specs.Threads.{Threads}
use Rattle.step_transition.specs.CopyOffers.{ThreadAt}
use Rattle.step_transition.specs.Step.{actor}
use Rattle.step_transition.specs.WithinLimits.{WithinLimits}
use Rattle.step_transition.specs.Moving.{carried, Leading, Moving}
use Rattle.step_label.specs.declared.step.Step as step
use Rattle.step_label.specs.declared.step.Actor.{Actor}
use Rattle.step_transition.proofs.Laws.Start.{within_threads}
use Rattle.step_transition.proofs.Laws.Threads.{threads_from, threads_kept, thread_kept, record_end}
use Rattle.successor_continuation.proofs.Laws.Rests.{record_below}
use Rattle.successor_continuation.proofs.Laws.RestsMoves.{Stood, moves_stood}
use Rattle.successor_continuation.proofs.Laws.RestsThread.{thread_at, later_few, offer_acts}
use Rattle.successor_frame.specs.Aliases.{appended, Begun, Carries}
use Rattle.successor_rebuild.specs.Tasks.{sends}
use Rattle.successor_prefix.specs.Alone.{Replaces, sent_nodes, Around, LeadsUntil, LeadsAlone}
use Rattle.successor_prefix.specs.declared.halves.Halves.{Halves}
use Rattle.successor_rebuild.proofs.Laws.Formed.{written, full_written, aliases_after, formed_behind}
use Rattle.successor_prefix.proofs.Laws.Around.{appended_sum}
use Rattle.successor_prefix.proofs.Laws.AloneForm.{replaced_alone}

-- The thread of the step, and where its record ends.
module _ {s out message : List ℕ} {st : code.State} {S : State} (h : WithinLimits s out st S) {v : step.Step} {x : Message} (p : Focus) (a : LocatedOffer)
    (moving : Moving s out st S h v x (alone p a) message) where
  stood : Stood S.next h.at.placed (alone p a)
  stood = (every_split (split_at moving.earlier moving.listed) (moves_stood _ h.at.placed v.label moving.channel)).1

  all_threads : Threads s out st.start S.next (p.before ++ (p.thread ∷ p.behind)) st.end
  all_threads = subst (λ ps. Threads s out st.start S.next ps st.end) stood.0.parts (within_threads h)

  pub own_thread : {m : List ℕ} → Leading s st S m out → ThreadAt s out m (record_at st.start p) S.next st.end p.thread
  own_thread {m} leading =
      subst (λ k. ThreadAt s out m (record_at st.start p) k st.end p.thread) h.at.names (thread_at h leading p stood.0)

  own_end : (length (encode_record p.thread) ≡ 4 + number_at out (record_at st.start p + 2))
      × (record_at st.start p + length (encode_record p.thread) ≤ st.end)
  own_end = record_end p.thread p.behind (threads_from p.before (p.thread ∷ p.behind) all_threads)

-- Where no record stands, there is no such step.
module _ {s message m out after : List ℕ} {st : code.State} {q : Bool} {u : Actor} {f : Option code.State} where
  pub alone_early : u.at < st.start → LeadsAlone s st q u message m out f after
  alone_early l = record { exact = λ v S h x p a moving e own plain leading. absurd (omega (arith, ap (λ w. w.at) own)) }

  pub alone_none : st.end < 4 → LeadsAlone s st q u message m out f after
  alone_none l = record {
    exact = λ v S h x p a moving e own plain leading. absurd (omega (arith, record_below p.thread (own_thread h p a moving leading)));
  }

  pub alone_short : st.end - 4 < u.at → LeadsAlone s st q u message m out f after
  alone_short l = record {
    exact = λ v S h x p a moving e own plain leading.
        absurd (omega (arith, ap (λ w. w.at) own, record_below p.thread (own_thread h p a moving leading)));
  }

  pub alone_cut : {n : ℕ} → n ≡ number_at out (u.at + 2) → st.end < u.at + 4 + n → LeadsAlone s st q u message m out f after
  alone_cut d l = record {
    exact = λ v S h x p a moving e own plain leading.
        let at = ap (λ w. w.at) own in
        let (size, low) = own_end h p a moving in
        absurd (omega (arith, size, low, at, ap (λ i. number_at out (i + 2)) at));
  }

-- The aliases, and then the threads.
leads_alone : {s message m out mid after : List ℕ} {st : code.State} {q : Bool} {u : Actor} {n : ℕ} {b r : Progress} {halves : Halves} {f : Option code.State}
    → n ≡ number_at out (u.at + 2) → Around mid st u.at (u.at + 4 + n) q (length message) b halves → Carries st message q u.next out b mid → st.end ≤ b.state.end → Within st.end (length out) out mid
    → Replaces s st u.at (u.at + 4 + n) halves message m mid b r after → Extends b r → Within b.state.end (length mid) mid after → Finishes r f
    → LeadsAlone s st q u message m out f after
leads_alone {s} {message} {m} {out} {mid} {after} {st} {q} {u} {n} {b} {r} {halves} d around carries above within replaces extends further finishes = record {
  exact = λ v S h x p a moving e own plain leading.
      formed_behind carries e extends above further finishes S h x (alone p a) moving leading
      (λ off. ap (λ w. w.going) (replaces.stopped off) ∙ off) (shown v S h x p a moving e own plain leading);
}
  where
    shown : (v : step.Step) (S : State) (h : WithinLimits s out st S) (x : Message) (p : Focus) (a : LocatedOffer) → Moving s out st S h v x (alone p a) message
        → q ≡ sends v.label → u ≡ actor st.start p a → (get_or s p.thread.place 0 ≡ 7 → ⊥) → Leading s st S m out
        → let o = outcome h.at.placed S.next x (alone p a) in
        bound_nodes (S.aliases ++ o.alias) ≤ 1024 → Begun s st.end (S.aliases ++ o.alias) u.next b mid
        → RepresentsResult s after r (unless (rest_over x (alone p a) || full S o) (going (written S o)))
    shown v S h x p a moving e own plain leading light begun =
        let o = outcome h.at.placed S.next x (alone p a) in
        let aliases = S.aliases ++ o.alias in
        let at : u.at ≡ record_at st.start p = ap (λ w. w.at) own in
        let next : u.next ≡ a.next = ap (λ w. w.next) own in
        let (stands, among) = stood h p a moving in
        let t = own_thread h p a moving leading in
        let (size, low) = own_end h p a moving in
        let small = (offer_acts p.thread a among).small in
        let few = later_few p.thread t in
        let g : Accumulated = record { names = u.next; nodes = bound_nodes aliases; threads = [] } in
        let here : ThreadAt s mid m u.at S.next st.end p.thread =
        rw (sym at) at (thread_kept p.thread within (unchanged {low = 0} {high = 0}) t) in
        let ends : u.at + 4 + n ≡ u.at + length (encode_record p.thread) = omega (arith, size, ap (λ i. number_at out (i + 2)) at) in
        let judged = (every_split (split_at p.before stands.parts) h.judged).1 in
        let standing = (every_split (split_at p.before stands.parts) h.at.standing).1 in
        let acts : (ρ : Bound) (P : Process) → p.thread.thread ≡ repl ρ P → ⊥ = λ ρ P z.
        plain ((process_kind (process_of p.thread.thread) standing.process).0 ∙ ap (λ w. kind_of (process_of w)) z) in
        let course = replaced_alone h.at.placed S.next x moving.stored p a stands among judged acts g next (roomy g (omega arith) light) in
        let there = threads_kept _ within (omega arith) (all_threads h p a moving) in
        let y = carried x (alone p a) in
        let same : appended q S.aliases y ≡ aliases =
        ap (λ c. appended c S.aliases y) (e ∙ ap (λ w. sends w.label) moving.same)
        ∙ aliases_after h.at.placed S.next st.start x S.aliases (alone p a) in
        let begins : b.state.nodes ≡ bound_nodes S.aliases + sent_nodes q (length message) =
        begun.shows.nodes ∙ sym (ap bound_nodes same) ∙ appended_sum q S.aliases y moving.labelled in
        let (before, behind) = around.exact s p (bound_nodes S.aliases) there at ends (h.at.many ∙ ap length stands.parts)
        (omega (arith, h.at.nodes, ap thread_nodes h.at.threads, ap nodes_of stands.parts)) h.light begins in
        let all = replaces.exact p y g there at ends here before behind
        moving.labelled (omega (arith, next, small, few, t.few)) above begun.shows in
        subst (λ (c : Bool). RepresentsResult s after r (unless (rest_over x (alone p a) || c) (going (written S o)))) (full_written S o) (rw course at all)

pub leads_until : {s message m out mid after : List ℕ} {st : code.State} {q : Bool} {u : Actor} {next : ℕ} {b r : Progress} {halves : Halves}
    {f : Option code.State} → Around mid st u.at next q (length message) b halves → Carries st message q u.next out b mid → st.end ≤ b.state.end → Within st.end (length out) out mid
    → Replaces s st u.at next halves message m mid b r after → Extends b r → Within b.state.end (length mid) mid after → Finishes r f
    → LeadsUntil s st q u next message m out f after
leads_until around carries above within replaces extends further finishes = record {
  exact = λ d e. leads_alone d (rw e at around) carries above within (rw e at replaces) extends further finishes;
}

pub alone_found : {s message m out after : List ℕ} {st : code.State} {q : Bool} {u : Actor} {n : ℕ} {f : Option code.State} → n ≡ number_at out (u.at + 2)
    → LeadsUntil s st q u (u.at + 4 + n) message m out f after → LeadsAlone s st q u message m out f after
alone_found d leads = leads.exact d refl

pub ruleset alones = (alone_early, alone_none, alone_short, alone_cut, alone_found)
