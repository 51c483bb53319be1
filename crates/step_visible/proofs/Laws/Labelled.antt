-- The next output or input on the channel of a label ("Steps").
use Rattle.std.specs.Prelude.{Option, Some, None}
use mathlib.Core.Path.{◌≡◌, refl, sym, ◌∙◌, ap, subst}
use mathlib.Core.Bool.{Bool, true, false}
use mathlib.Core.List.{List, [], ◌∷◌}
use Prim.Native.Nat.{ℕ, ◌+◌, ◌-◌, ◌*◌, ◌≤◌, ◌<◌}
use native.Mathlib.Omega.{arith}
use lib.ListN.{length, take, drop, drop_of_length-le}
use Rattle.meaning.specs.Messages.Term.{Message}
use Rattle.meaning.specs.Bytes.Process.{Prefix, output, input}
use Rattle.meaning.specs.Bytes.Standing.{Stands}
use Rattle.meaning.specs.Places.{Every, ◌also◌}
use Rattle.meaning.specs.Steps.State.{worked}
use Rattle.meaning.specs.Judging.Limits.{over}
use Rattle.meaning.proofs.Test.{neither}
use Rattle.meaning.proofs.Bytes.Reading.Place.{parts}
use Rattle.message_bytes.specs.Encoding.{encode_message}
use Rattle.buffer.specs.Buffer.{Within}
use Rattle.message_bytes.specs.Run.{SizeOf}
use Rattle.message_bytes.proofs.Laws.Encoding.{length_encode}
use Rattle.message_bytes.proofs.Laws.Traverse.{some_node}
use Rattle.state_progress.specs.Represented.{encode_messages}
use Rattle.state_task.specs.declared.task.Quest.{Quest}
use Rattle.state_progress.specs.declared.progress.Progress.{Progress}
use Rattle.state_record.specs.declared.state.State.{State}
use Rattle.step_located.specs.Located.{LocatedOffer, prefixed}
use Rattle.step_located.specs.Sought.{wanted, sent_by}
use Rattle.step_transition.specs.Focus.{Focus, record_at}
use Rattle.step_transition.specs.Moves.{Move, alone, inside, between, labelled}
use Rattle.state_layout.specs.Loaded.{IsRunOf}
use Rattle.step_transition.specs.Step.{step_of, run_of, Shown}
use Rattle.step_offer.specs.Seek.{Sees, ShowsSight, Seeks}
use Rattle.step_visible.specs.Labelled.{labelled_from, NextVisible, NextLabelled, output_step, input_step, HandsOver}
use Rattle.step_offer.specs.declared.seek.Sighting.{Sighting}
use Rattle.step_offer.specs.Hand.{CopiesTo}
use Rattle.step_label.specs.declared.step.Step.{Step}
use Rattle.step_label.specs.declared.step.Label.TheVariants.{Output, Input, Silent}
use Rattle.step_transition.proofs.Laws.Allowed.{run_short}
use Rattle.step_transition.proofs.Laws.Threads.{stands_ends}
use Rattle.step_visible.proofs.Laws.SeekMoves.{sight_of}
use Rattle.step_visible.proofs.Laws.LabelledBehind.{Small, Offered, Ahead, ahead}
use Rattle.step_offer.proofs.Laws.Hand.{size_of}
use Rattle.index_process.specs.Index.{ShortModel}

module _ (out : List ℕ) (at : ℕ) (now : Progress) {message : List ℕ} where
  pub handed_beyond : length out < now.sent → HandsOver out at now message None message
  unfolding encode_messages
  handed_beyond h = record {
    exact = λ x y p l.
        let (mid, a, rest) = parts (encode_message x) (encode_messages (y ∷ []) ∷ []) p in
        absurd (omega (arith, stands_ends a (omega (arith, length_encode x, some_node x)), a.size));
  }

  -- The message stands behind the channel.
  pub handed-over : {n size : ℕ} {after : List ℕ} → SizeOf (take (length out - now.sent) (drop now.sent out)) n
      → CopiesTo out (now.sent + 2 * n) now.state.end size after → length after ≡ length message
      → HandsOver out at now message (Some (output_step at now size)) after
  unfolding encode_messages
  handed-over {n} {size} w c same = record {
    exact = λ x y p l.
        let (mid, a, rest) = parts (encode_message x) (encode_messages (y ∷ []) ∷ []) p in
        let (last, b, e) = parts (encode_message y) ([] ∷ []) rest in
        let ends : last ≡ now.state.end = omega (arith, e.size) in
        let here : mid ≡ now.sent + 2 * n = omega (arith, a.size, size_of out w x a) in
        let there = c.exact y
        (subst (λ (i : ℕ). Stands out (now.sent + 2 * n) (encode_message y) i) ends (subst (λ (i : ℕ). Stands out i (encode_message y) last) here b))
        (omega arith) in
        let long : size ≡ length (encode_message y) = omega (arith, there.size) in
        (ap (λ (k : ℕ). Some (output_step at now k)) long, rw long at there);
  }

pub ruleset hands = (handed_beyond, handed-over)

pub handed_within : {a b : List ℕ} → length b ≡ length a → Within 0 (length a) a b
handed_within {a} {b} e = record {
  long = e;
  below = refl;
  above = drop_of_length-le b {i = length a} (omega arith) ∙ sym (drop_of_length-le a {i = length a} (omega arith));
}

-- The step of an offer that was seen.
module _ (start : ℕ) (p : Focus) (a : LocatedOffer) (x : Message) (ws : List Move) where
  output_shown : {found : Sighting} {after₁ message after : List ℕ} {r : Option Step} (f : Prefix)
      → Sees after₁ found (record_at start p) (prefixed a f) → wanted (labelled true) x (prefixed a f) ≡ true
      → Small (prefixed a f) → HandsOver after₁ found.at found.done message r after → 510 ≤ length message
      → Shown start after r (alone p (prefixed a f) ∷ ws)
  unfolding wanted sent_by step_of run_of
  output_shown (output C M) v w o h l =
      let short = run_short a.bound M (neither (over a.bound C) _ o).1 in
      let (e, s) = h.exact (worked a.bound C) (worked a.bound M) v.messages (omega arith) in
      (e ∙ rw (v.at, v.mark, v.next), s)
  output_shown (input C) v w o h l = absurd (let z : ◌≡◌ {A = ℕ} 0 1 = cc in omega arith)

  input_shown : {found : Sighting} {after₁ : List ℕ} (message : List ℕ) (f : Prefix)
      → Sees after₁ found (record_at start p) (prefixed a f) → wanted (labelled false) x (prefixed a f) ≡ true
      → Shown start message (Some (input_step found.at found.done)) (alone p (prefixed a f) ∷ ws)
  unfolding wanted step_of run_of
  input_shown message (output C M) v w = absurd (let z : ◌≡◌ {A = ℕ} 0 1 = cc in omega arith)
  input_shown message (input C) v w = (rw (v.at, v.mark, v.next), record { bytes = refl; size = refl })

-- What the search among the threads shows is the first move behind the cursor.
module _ (sending : Bool) (s channel : List ℕ) (st : State) (at from : ℕ) (m out message : List ℕ) {q : Quest} {found : Sighting}
    {out₁ : List ℕ} (e : q ≡ labelled_from sending from) (v : Seeks s channel at st.end m q st.end st.names out found out₁) where
  sighted : (x : Message) (ws : List Move) → Ahead s out st.start at from st.end st.names sending x ws → IsRunOf channel x
      → ShortModel s → 10750 ≤ length m → st.end + 3964 ≤ length out → st.names ≤ 28664
      → ShowsSight out₁ found (sight_of st.start ws)
  sighted x ws h d l1 l2 l3 l4 =
      let shown = v.exact h.threads x h.there (omega arith) (rw e refl) d l1 l2 l3 l4 in
      rw (← h.first, ← e) shown

  pub none_follows : found.done.mark ≡ 0 → NextVisible sending s channel st at from m out message None message
  none_follows z = record {
    exact = λ ps x ws h d l1 l2 l3 l5 l4 u.
        let a = ahead sending x ps h u in
        of x ws (sighted x ws a d l1 l2 l3 l4) a.offered;
  }
    where
      of : (x : Message) (ws : List Move) → ShowsSight out₁ found (sight_of st.start ws) → Every (Offered sending x) ws
          → Shown st.start message None ws
      of x [] w o = refl
      of x (alone p a ∷ ws) w o = absurd (omega (arith, w.mark))
      of x (inside p j ∷ ws) w (o also os) = absurd o
      of x (between p t j ∷ ws) w (o also os) = absurd o

output_follows : (s channel : List ℕ) (st : State) (at from : ℕ) (m out message : List ℕ) {q : Quest} {found : Sighting}
    {out₁ after : List ℕ} {r : Option Step} → q ≡ labelled_from true from → Seeks s channel at st.end m q st.end st.names out found out₁
    → (found.done.mark ≡ 0 → ⊥) → HandsOver out₁ found.at found.done message r after
    → NextVisible true s channel st at from m out message r after
output_follows s channel st at from m out message {q} {found} {out₁} {after} {r} e v z h = record {
  exact = λ ps x ws t d l1 l2 l3 l5 l4 u.
      let a = ahead true x ps t u in
      of x ws l5 (sighted true s channel st at from m out message e v x ws a d l1 l2 l3 l4) a.offered;
}
  where
    of : (x : Message) (ws : List Move) → 510 ≤ length message → ShowsSight out₁ found (sight_of st.start ws) → Every (Offered true x) ws
        → Shown st.start after r ws
    of x [] l w o = absurd (z w)
    of x (alone p a ∷ ws) l w ((o, small) also os) = output_shown st.start p a x ws a.prefix w o small h l
    of x (inside p j ∷ ws) l w (o also os) = absurd o
    of x (between p t j ∷ ws) l w (o also os) = absurd o

input_follows : (s channel : List ℕ) (st : State) (at from : ℕ) (m out message : List ℕ) {q : Quest} {found : Sighting}
    {out₁ : List ℕ} → q ≡ labelled_from false from → Seeks s channel at st.end m q st.end st.names out found out₁
    → (found.done.mark ≡ 0 → ⊥)
    → NextVisible false s channel st at from m out message (Some (input_step found.at found.done)) message
input_follows s channel st at from m out message {q} {found} {out₁} e v z = record {
  exact = λ ps x ws t d l1 l2 l3 l5 l4 u.
      let a = ahead false x ps t u in
      of x ws (sighted false s channel st at from m out message e v x ws a d l1 l2 l3 l4) a.offered;
}
  where
    of : (x : Message) (ws : List Move) → ShowsSight out₁ found (sight_of st.start ws) → Every (Offered false x) ws
        → Shown st.start message (Some (input_step found.at found.done)) ws
    of x [] w o = absurd (z w)
    of x (alone p a ∷ ws) w ((o, small) also os) = input_shown st.start p a x ws message a.prefix w o
    of x (inside p j ∷ ws) w (o also os) = absurd o
    of x (between p t j ∷ ws) w (o also os) = absurd o

module _ (s channel : List ℕ) (st : State) (at from : ℕ) (m out message : List ℕ) {sending : Bool} {q : Quest} {found : Sighting} {out₁ : List ℕ}
  where
    pub sent_follows : {after : List ℕ} {r : Option Step} → sending ≡ true → q ≡ labelled_from sending from
        → Seeks s channel at st.end m q st.end st.names out found out₁ → (found.done.mark ≡ 0 → ⊥)
        → HandsOver out₁ found.at found.done message r after → NextVisible sending s channel st at from m out message r after
    sent_follows e f v z h = rw e (output_follows s channel st at from m out message (rw e at f) v z h)

    pub taken_follows : sending ≡ false → q ≡ labelled_from sending from → Seeks s channel at st.end m q st.end st.names out found out₁
        → (found.done.mark ≡ 0 → ⊥)
        → NextVisible sending s channel st at from m out message (Some (input_step found.at found.done)) message
    taken_follows e f v z = rw e (input_follows s channel st at from m out message (rw e at f) v z)

pub ruleset follows = (none_follows, sent_follows, taken_follows)

-- By the label of the step.
module _ (s channel : List ℕ) (st : State) (step : Step) (m out message : List ℕ) {r : Option Step} {after : List ℕ} where
  pub next_output : step.label ≡ Output → NextVisible true s channel st step.sender.at step.sender.mark m out message r after
      → NextLabelled s channel st step m out message r after
  next_output e h = record { output = λ f. h; input = λ f. absurd (let z : ◌≡◌ {A = ℕ} 0 1 = cc in omega arith) }

  pub next_input : step.label ≡ Input → NextVisible false s channel st step.taker.at step.taker.mark m out message r after
      → NextLabelled s channel st step m out message r after
  next_input e h = record { input = λ f. h; output = λ f. absurd (let z : ◌≡◌ {A = ℕ} 0 1 = cc in omega arith) }

  pub next_silent : step.label ≡ Silent → NextLabelled s channel st step m out message r after
  next_silent e = record {
    output = λ f. absurd (let z : ◌≡◌ {A = ℕ} 0 1 = cc in omega arith);
    input = λ f. absurd (let z : ◌≡◌ {A = ℕ} 0 1 = cc in omega arith);
  }

pub ruleset nexts = (next_output, next_input, next_silent)
