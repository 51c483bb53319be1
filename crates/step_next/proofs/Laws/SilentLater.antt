-- The next silent step of two threads behind one, whose sender's channel and message are at hand ("Steps").
use Rattle.std.specs.Prelude.{Option, Some, None}
use mathlib.Core.Path.{◌≡◌, refl, ap, subst}
use mathlib.Core.List.{List, ◌∷◌}
use Prim.Native.Nat.{ℕ, ◌+◌, ◌-◌, ◌*◌}
use native.Mathlib.Omega.{arith}
use lib.ListN.{length, take, drop}
use Rattle.message_bytes.specs.Encoding.{encode_message}
use Rattle.message_bytes.specs.Run.{SizeOf}
use Rattle.buffer.specs.Buffer.{Within}
use Rattle.message_bytes.proofs.Theorems.{run_length}
use Rattle.buffer.proofs.Laws.Buffer.{part}
use Rattle.state_record.specs.Record.{Placed}
use Rattle.state_record.specs.declared.state.State as code
use Rattle.step_located.specs.CopyStep.{Pair}
use Rattle.step_transition.specs.Focus.{Focus, focuses, focuses_from}
use Rattle.step_transition.specs.Moves.{Move, between, silent_moves}
use Rattle.step_transition.specs.Threads.{Threads}
use Rattle.step_transition.specs.CopyOffers.{channel_of}
use Rattle.step_transition.specs.CopyMoves.{later_focuses, Roomy}
use Rattle.step_transition.specs.Step.{actor, step_of, run_of}
use Rattle.step_transition.specs.Behind.{Behind, all, later}
use Rattle.step_label.specs.declared.step.Step as step
use Rattle.step_label.specs.declared.step.Label.TheVariants.{Silent}
use Rattle.step_transition.proofs.Laws.Threads.{threads_kept}
use Rattle.step_transition.proofs.Laws.Roomy.{still_roomy}
use Rattle.step_between.specs.Buffered.{channel_run, Buffered, Answered, BufferedBefore, Resuming}
use Rattle.step_between.specs.Between.{takers_from, between_from, Takes, Betweens, Resumed}
use Rattle.step_next.specs.Next.{NextFrom}
use Rattle.step_between.proofs.Laws.Buffered.{answered_more, answered_next}
use Rattle.step_between.proofs.Laws.BetweenLists.{party}
use Rattle.step_between.proofs.Laws.Between.{sender_known}
use Rattle.step_between.proofs.Laws.BetweenOnward.{channel_label}
use Rattle.step_between.proofs.Laws.BetweenMoves.{between_resumed}
use Rattle.step_next.proofs.Laws.Silent.{Stand, in-copies, of_two, stand}

-- A step of two threads, what comes after it, and the answer among the takers of its sender that are left.
record SenderResumed (st : code.State) (from : step.Step) (channel message : List ℕ) (r : Option step.Step) (ps : List Placed)
    (others : List Move) : Type 0 where
  sender : Focus
  taker : Focus
  pair : Pair
  acts : from.sender ≡ actor st.start sender pair.sender
  resumed : Resumed st.names ps others sender taker pair
  answered : Answered st.start channel message r
      (takers_from (party sender pair.sender) (pair.taker.place + 1) (taker ∷ later_focuses taker))

-- The search for a taker behind that of a step, n being the nodes of its channel.
abbrev TakesFrom : (s : List ℕ) → code.State → (m out channel : List ℕ) → ℕ → Option step.Step → step.Step → Type 0
TakesFrom s st m out channel n r v =
    Takes s (take (2 * n - 0) (drop 0 channel)) st.end m v.sender v.taker.at v.taker.mark out v.size r

module _ {s : List ℕ} {st : code.State} {m out channel message : List ℕ} {n : ℕ} {r₁ : Option step.Step} (size : SizeOf channel n) where
  -- The run of the channel is as long as its nodes say.
  held_two : (ps : List Placed) (others : List Move) (p q : Focus) (v : Pair) → Threads s out st.start st.names ps st.end
      → Roomy s out m message st.names st.end → Resumed st.names ps others p q v → Buffered channel message (between p q v)
      → TakesFrom s st m out channel n r₁ (step_of st.start (between p q v)) → SenderResumed st (step_of st.start (between p q v)) channel message r₁ ps others
  unfolding step_of channel_run run_of focuses_from
  held_two ps others p q v threads roomy res kept takes =
      let a = v.sender in
      let sending = (sender_known a.place ps p.before (p.thread ∷ p.behind) threads res.sending roomy.short roomy.few res.again).sending in
      let long : length (encode_message (channel_of a)) ≡ 2 * n = omega (arith, run_length (channel_of a), size.same (channel_of a) kept.on) in
      let argument : take (2 * n - 0) (drop 0 channel) ≡ encode_message (channel_of a) = rw long at (part kept.on) in
      record {
        sender = p;
        taker = q;
        pair = v;
        acts = refl;
        resumed = res;
        answered =
            takes.exact st.start st.names a.place ps p.before (p.thread ∷ p.behind) q.before (q.thread ∷ q.behind)
            (party p a) res.others channel message message threads roomy res.sending res.taking refl res.again refl
            (channel_label a sending argument) refl (λ u. record { on = kept.on; sent = kept.sent });
      }

  held : {from : step.Step} (ps : List Placed) {others : List Move} → from.arity ≡ 0 → Threads s out st.start st.names ps st.end
      → Roomy s out m message st.names st.end → Resuming Silent st.start (silent_moves st.names ps) channel message from others
      → TakesFrom s st m out channel n r₁ from → SenderResumed st from channel message r₁ ps others
  unfolding step_of
  held ps zero threads roomy on takes = of on.behind on.keeping zero takes
    where
      two : (w : Move) (others : List Move) → Stand st.names ps w others → Buffered channel message w → (step_of st.start w).arity ≡ 0
          → TakesFrom s st m out channel n r₁ (step_of st.start w) → SenderResumed st (step_of st.start w) channel message r₁ ps others
      two w others (in-copies rest alone res) kept e takes = absurd (omega (arith, res.arity_low))
      two w others (of_two {p} {q} {v} earlier g) kept e takes =
          held_two ps others p q v threads roomy (between_resumed st.names ps earlier others p q v g) kept takes

      of : {from : step.Step} {others : List Move} (b : Behind Silent st.start (silent_moves st.names ps) from others)
          → BufferedBefore channel message b → from.arity ≡ 0 → TakesFrom s st m out channel n r₁ from → SenderResumed st from channel message r₁ ps others
      of all kept e takes = absurd (omega (arith, e))
      of (later earlier w {others} f) kept e takes = two w others (stand st.names ps earlier w others f) kept e takes

  -- A further taker of the sender; or the senders after it.
  module _ {from : step.Step} (takes : TakesFrom s st m out channel n r₁ from) where
    pub later_found : {v : step.Step} → r₁ ≡ Some v → NextFrom (λ v. v.arity ≡ 0) s st from m out channel message (Some v) channel message
    later_found {v} e = record {
      exact = λ ps here threads roomy long on.
          let h = held ps here threads roomy on takes in
          let mine = takers_from (party h.sender h.pair.sender) (h.pair.taker.place + 1) (h.taker ∷ later_focuses h.taker) in
          let theirs = between_from (focuses ps) st.names (h.sender ∷ later_focuses h.sender) (h.pair.sender.place + 1) in
          subst (λ us. Answered st.start channel message (Some v) us) h.resumed.left
          (answered_more st.start channel message v mine theirs
          (subst (λ a. Answered st.start channel message a mine) e h.answered));
    }

    pub later_next : {m₁ out₁ on said : List ℕ} {r : Option step.Step} {low high : ℕ} → r₁ ≡ None → Within low high m m₁
        → Within st.end (length out) out out₁
        → Betweens s st.start from.sender.at st.names st.end m₁ from.sender.mark out₁ channel message r on said
        → NextFrom (λ v. v.arity ≡ 0) s st from m out channel message r on said
    unfolding focuses_from
    later_next {m₁} {out₁} {on} {said} {r} e wm wo two = record {
      exact = λ ps here threads roomy long resuming.
          let h = held ps here threads roomy resuming takes in
          let p = h.sender in
          let mine = takers_from (party p h.pair.sender) (h.pair.taker.place + 1) (h.taker ∷ later_focuses h.taker) in
          let rest = two.exact ps p.before (p.thread ∷ p.behind) (threads_kept ps wo (omega arith) threads) (still_roomy wm wo refl roomy) long
          h.resumed.sending (ap (λ u. u.at) h.acts) in
          let mark : from.sender.mark ≡ h.pair.sender.place + 1 = ap (λ u. u.mark) h.acts in
          let theirs = between_from (focuses ps) st.names (p ∷ later_focuses p) in
          subst (λ us. Answered st.start on said r us) h.resumed.left
          (answered_next st.start channel message on said r mine (theirs (h.pair.sender.place + 1))
          (subst (λ a. Answered st.start channel message a mine) e h.answered)
          (subst (λ i. Answered st.start on said r (theirs i)) mark rest));
    }

pub ruleset laters = (later_found, later_next)
