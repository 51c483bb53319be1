-- A thread of a state whose offer acts: where its record stands, and how many private names it takes ("Steps").
use Prim.Native.Nat.{ℕ, ◌+◌, ◌≤◌}
use native.Mathlib.Omega.{arith}
use mathlib.Core.Path.{sym, subst}
use mathlib.Core.List.{List, ◌∷◌}
use lib.ListN.{length}
use Rattle.meaning.specs.Bytes.Process.{Process}
use Rattle.state_record.specs.Place.{ProcessAt}
use Rattle.meaning.specs.Steps.State.{State}
use Rattle.meaning.proofs.Every.{every_split}
use Rattle.state_record.specs.Record.{Placed, process_of, bound_of, encode_record}
use Rattle.state_head.specs.News.{news, later_news}
use Rattle.state_record.specs.declared.state.State as code
use Rattle.state_head.proofs.Laws.Fits.{later_fewer}
use Rattle.step_located.specs.Located.{LocatedOffer}
use Rattle.step_located.proofs.Laws.Copies.{split_at}
use Rattle.step_transition.specs.Focus.{Focus, record_at, offers_of}
use Rattle.step_transition.specs.Threads.{Threads}
use Rattle.step_transition.specs.CopyOffers.{ThreadAt}
use Rattle.step_transition.specs.WithinLimits.{WithinLimits}
use Rattle.step_transition.specs.Moving.{Leading}
use Rattle.step_transition.proofs.Laws.MovesFocuses as focuses
use Rattle.step_transition.proofs.Laws.Opened.{Acts, acting_all}
use Rattle.successor_continuation.proofs.Laws.RestsMoves.{Among}
use Rattle.step_transition.proofs.Laws.Start.{within_threads}
use Rattle.step_transition.proofs.Laws.Threads.{first_thread, threads_from}
use Rattle.state_layout.proofs.Laws.Loaded.{news_short}
use Rattle.index_process.specs.Index.{ShortModel}

-- A thread of a state, and room for traversals of it.
pub thread_at : {s out m : List ℕ} {st : code.State} {S : State} (h : WithinLimits s out st S) → Leading s st S m out → (p : Focus)
    → focuses.Stands h.at.placed p → ThreadAt s out m (record_at st.start p) st.names st.end p.thread
thread_at {s} {out} {m} {st} {S} h l p stands =
    let all = subst (λ ps. Threads s out st.start S.next ps st.end) stands.parts (within_threads h) in
    let (recorded, judged, rest) = first_thread p.thread p.behind (threads_from p.before (p.thread ∷ p.behind) all) in
    subst (λ k. ThreadAt s out m (record_at st.start p) k st.end p.thread) (sym h.at.names) (record {
      next = record_at st.start p + length (encode_record p.thread);
      recorded = recorded;
      below = omega (arith, rest.stands.size);
      judged = judged;
      short = l.short;
      wide = l.wide;
      room = omega (arith, l.room);
      few = h.made;
    })

-- A process that stands in a model has no more `new` nodes than the model has bytes; so has that of a thread.
pub few_news : {s : List ℕ} {at left scope next : ℕ} (P : Process) → ProcessAt s at left scope P next → ShortModel s → news P ≤ 4096
few_news P p l = omega (arith, news_short P, p.stands.size, p.inside)

pub later_few : {s out m : List ℕ} {at k to : ℕ} (t : Placed) → ThreadAt s out m at k to t → later_news (process_of t.thread) ≤ 4096
later_few t h =
    let P = process_of t.thread in
    omega (arith, later_fewer P, few_news P h.recorded.standing.process h.short)

pub offer_acts : {k : ℕ} (t : Placed) (a : LocatedOffer) → Among (offers_of t k) a → Acts k (later_news (process_of t.thread)) a
offer_acts {k} t a m =
    (every_split (split_at m.before m.listed) (acting_all (process_of t.thread) t.place (bound_of t.thread) 0 k)).1
