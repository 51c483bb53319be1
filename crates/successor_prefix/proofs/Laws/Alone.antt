-- A thread that acts itself, among the others that stay ("Steps"; "Judging and its count").
use mathlib.Core.Path.{◌≡◌, refl, sym, ap, ◌∙◌}
use mathlib.Core.Bool.{true, false, not, true≢false}
use mathlib.Core.List.{List, [], ◌∷◌, ◌++◌}
use Prim.Native.Nat.{ℕ, ◌+◌, ◌-◌, ◌≤◌, ◌<◌}
use native.Mathlib.Omega.{arith}
use lib.ListN.{length}
use Rattle.meaning.proofs.Every.{every_parts}
use Rattle.meaning.proofs.Bytes.Reading.Place.{parts}
use Rattle.buffer.specs.Buffer.{Within}
use Rattle.buffer.proofs.Laws.Buffer.{kept, unchanged, wider}
use Rattle.state_record.specs.Record.{Placed, encode_records}
use Rattle.state_progress.specs.TraversalResult.{further}
use Rattle.state_progress.specs.Progress.{Extends}
use Rattle.state_record.specs.declared.state.State as code
use Rattle.state_progress.specs.declared.progress.Progress.{Progress}
use Rattle.state_progress.proofs.Laws.Progress.{records_twice}
use Rattle.successor_continuation.specs.Rest.{Rests}
use Rattle.step_located.specs.Rebuilt.{push_all}
use Rattle.step_located.proofs.Laws.Writing.{push_all_names}
use Rattle.step_transition.specs.Threads.{Threads}
use Rattle.step_transition.proofs.Laws.Threads.{first_thread, threads_from, thread_kept}
use Rattle.successor_continuation.proofs.Laws.Rests.{record_below}
use Rattle.successor_prefix.specs.Alone.{behind_focus, ContinuesThread, Replaces}
use Rattle.successor_rebuild.specs.Block.{BlockOf, KeepsOn}
use Rattle.successor_rebuild.specs.declared.block.Block.{Block}
use Rattle.successor_prefix.specs.declared.halves.Halves.{Halves}
use Rattle.successor_rebuild.proofs.Laws.Formed.{then_shown}
use Rattle.successor_rebuild.proofs.Laws.Block.{records_joined}

-- What follows one thread.
module _ {s message m out : List ℕ} {to at : ℕ} {now : Progress} where
  pub follows_not : not now.going ≡ true → ContinuesThread s to at message m out now now out
  follows_not off = record {
    stopped = λ e. (refl, refl);
    exact = λ t y g h i n d. absurd (true≢false (sym off ∙ ap not d.on));
  }

  module _ {r : Progress} (on : not now.going ≡ false) where
    pub follows_none : to < 4 → ContinuesThread s to at message m out now r out
    follows_none l = record {
      stopped = λ off. absurd (true≢false (ap not (sym off) ∙ on));
      exact = λ t y g h i n d. absurd (omega (arith, record_below t h));
    }

    pub follows_short : to - 4 < at → ContinuesThread s to at message m out now r out
    follows_short l = record {
      stopped = λ off. absurd (true≢false (ap not (sym off) ∙ on));
      exact = λ t y g h i n d. absurd (omega (arith, record_below t h));
    }

    pub follows_rest : {after : List ℕ} → Rests s message at m out now r after → ContinuesThread s to at message m out now r after
    follows_rest rests = record {
      stopped = λ off. absurd (true≢false (ap not (sym off) ∙ on));
      exact = λ t y g h i n d. rests.exact t y g h.recorded i h.short h.wide n d;
    }

pub ruleset followings = (follows_not, follows_none, follows_short, follows_rest)

-- The threads before one end where its record begins.
pub threads_before : {s out : List ℕ} {at k end : ℕ} (ls ts : List Placed) → Threads s out at k (ls ++ ts) end
    → Threads s out at k ls (at + length (encode_records ls))
threads_before ls ts h =
    let (mid, first, rest) = parts (encode_records ls) (encode_records ts ∷ []) (rw (records_joined ls ts) at h.stands) in
    record {
      stands = rw first.size at first;
      standing = (every_parts ls h.standing).0;
      judged = (every_parts ls h.judged).0;
    }

-- A block stays where nothing is written before its end.
block_kept : {out out₁ : List ℕ} {at high from : ℕ} {b : Block} (ts : List Placed) → Within from high out out₁ → b.end ≤ from → BlockOf out at ts b
    → BlockOf out₁ at ts b
block_kept {from = from} ts w low h = record { stands = kept {low = from} h.stands low w.below; threads = h.threads; nodes = h.nodes }

-- Those before it are kept, what follows it is settled, and those behind it are kept.
pub replaced : {s message m out out₁ out₂ after : List ℕ} {st : code.State} {at next : ℕ} {b : Halves} {now r₁ r₂ r : Progress}
    → KeepsOn out st.start b.before now r₁ out₁ → Extends now r₁ → Within now.state.end (length out) out out₁
    → ContinuesThread s st.end at message m out₁ r₁ r₂ out₂ → Extends r₁ r₂ → Within r₁.state.end (length out₁) out₁ out₂
    → KeepsOn out₂ next b.behind r₂ r after → Replaces s st at next b message m out now r after
replaced {s} {message} {m} {out} {out₁} {out₂} {after} {st} {at} {next} {b} {now} {r₁} {r₂} {r} first e₁ w₁ second e₂ w₂ third = record {
  stopped = λ off.
      let (same₁, bytes₁) = first.stopped off in
      let (same₂, bytes₂) = second.stopped (ap (λ q. q.going) same₁ ∙ off) in
      let (same, bytes) = third.stopped (ap (λ q. q.going) (same₂ ∙ same₁) ∙ off) in
      same ∙ same₂ ∙ same₁;
  exact = λ p y g {k} h here there t before behind i n low d.
      let (before-stand, others-stand) = every_parts p.before h.standing in
      let (a, j, rest) = first_thread p.thread p.behind (threads_from p.before (p.thread ∷ p.behind) h) in
      let shown = first.exact s p.before g before
      (omega (arith, before.stands.size, t.recorded.stands.size, t.below)) before-stand d in
      let kept : Within st.end (length out) out out₁ = wider w₁ low (omega arith) in
      let here₁ = thread_kept p.thread kept (unchanged {low = 0} {high = 0}) t in
      let shown₁ = then_shown (push_all p.before g) (behind_focus y p) shown second.stopped
      (λ f c v. second.exact p.thread y f here₁ i (omega (arith, push_all_names p.before g f c)) v) in
      let end : b.behind.end ≤ now.state.end = omega (arith, behind.stands.size, rest.stands.size) in
      let behind₂ = block_kept p.behind (records_twice w₁ w₂ e₁) end behind in
      then_shown (further (push_all p.before g) (behind_focus y p)) (push_all p.behind) shown₁ third.stopped
      (λ f c v. third.exact s p.behind f behind₂ (omega (arith, e₁.end, e₂.end)) rest.standing v);
}

-- All is written behind what is written already.
pub replaced_within : {out out₁ out₂ after : List ℕ} {now r₁ r₂ : Progress} {high high₁ high₂ : ℕ} → Within now.state.end high out out₁
    → Within r₁.state.end high₁ out₁ out₂ → Within r₂.state.end high₂ out₂ after → Extends now r₁ → Extends r₁ r₂
    → Within now.state.end (length out) out after
replaced_within w₁ w₂ w₃ e₁ e₂ = records_twice w₁ (records_twice w₂ w₃ e₂) e₁
