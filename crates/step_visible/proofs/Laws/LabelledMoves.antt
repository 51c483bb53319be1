-- What the next output or input is, against the list of the moves of a state ("Steps").
use Rattle.std.specs.Prelude.{Option}
use mathlib.Core.Path.{◌≡◌, refl, sym}
use mathlib.Core.Bool.{Bool, true, false}
use mathlib.Core.List.{List, ◌∷◌, ◌++◌}
use Prim.Native.Nat.{ℕ, ◌+◌, ◌≤◌}
use native.Mathlib.Omega.{arith}
use lib.ListN.{length}
use Rattle.meaning.specs.Messages.Term.{Message}
use Rattle.meaning.specs.Bytes.Process.{Prefix, output, input}
use Rattle.meaning.specs.Places.{Every, ◌also◌}
use Rattle.meaning.specs.Steps.State
use Rattle.meaning.proofs.Every.{every_parts}
use Rattle.state_record.specs.Record.{Placed}
use Rattle.state_layout.specs.Layout.{StateAt}
use Rattle.state_record.specs.declared.state.State as code
use Rattle.step_located.specs.Located.{LocatedOffer, prefixed}
use Rattle.step_located.specs.Sought.{wanted}
use Rattle.step_transition.specs.Focus.{Focus, record_at}
use Rattle.step_transition.specs.Moves.{Move, alone, inside, between, labelled, labelled_moves}
use Rattle.step_transition.specs.Threads.{Threads}
use Rattle.state_layout.specs.Loaded.{IsRunOf}
use Rattle.step_transition.specs.Step.{step_of, Shown}
use Rattle.step_visible.specs.Labelled.{Upcoming, all, behind, NextVisible, NextLabelled}
use Rattle.step_label.specs.declared.step.Step.{Step}
use Rattle.step_label.specs.declared.step.Actor.{Actor}
use Rattle.step_label.specs.declared.step.Label.{Label}
use Rattle.step_label.specs.declared.step.Label.TheVariants.{Output, Input}
use Rattle.step_visible.proofs.Laws.LabelledBehind.{Offered, moves_offered}
use Rattle.index_process.specs.Index.{ShortModel}

-- The label of outputs, or of inputs, and which of the two threads of a step is the cursor.
abbrev pub label_of : Bool → Label
label_of true = Output
label_of false = Input

abbrev pub cursor_of : Bool → Step → Actor
cursor_of true step = step.sender
cursor_of false step = step.taker

-- The step of a move is the cursor of that move.
record Points (sending : Bool) (start : ℕ) (p : Focus) (a : LocatedOffer) : Type 0 where
  label : (step_of start (alone p a)).label ≡ label_of sending
  at : (cursor_of sending (step_of start (alone p a))).at ≡ record_at start p
  mark : (cursor_of sending (step_of start (alone p a))).mark ≡ a.place + 1

points : (sending : Bool) (x : Message) (start : ℕ) (p : Focus) (a : LocatedOffer) → wanted (labelled sending) x a ≡ true → Points sending start p a
unfolding wanted step_of
points sending x start p a = of sending a.prefix
  where
    of : (b : Bool) (f : Prefix) → wanted (labelled b) x (prefixed a f) ≡ true → Points b start p (prefixed a f)
    of true (output C M) w = record { label = refl; at = refl; mark = refl }
    of true (input C) w = absurd (let z : ◌≡◌ {A = ℕ} 0 1 = cc in omega arith)
    of false (output C M) w = absurd (let z : ◌≡◌ {A = ℕ} 0 1 = cc in omega arith)
    of false (input C) w = record { label = refl; at = refl; mark = refl }

-- What a call of the function asks for: a state in the work bytes, the run of the channel, and room.
pub record Asked (s channel : List ℕ) (st : code.State) (S : State.State) (ps : List Placed) (x : Message) (m out message : List ℕ) : Type 0
  where
    pub state : StateAt s out st S
    pub threads : Threads s out st.start S.next ps st.end
    pub channelled : IsRunOf channel x
    pub short : ShortModel s
    pub work : 10750 ≤ length m
    pub room : st.end + 3964 ≤ length out
    pub few : S.next ≤ 128
    pub fits : 510 ≤ length message

module _ {s channel : List ℕ} {st : code.State} {S : State.State} {ps : List Placed} {x : Message} {m out message : List ℕ}
    {r : Option Step} {after : List ℕ} (sending : Bool) (h : Asked s channel st S ps x m out message) where
  followed : {at from : ℕ} (ws : List Move) → NextVisible sending s channel st at from m out message r after
      → Upcoming st.start at from (labelled_moves sending x S.next ps) ws → Shown st.start after r ws
  followed {at} {from} ws f u =
      let same : S.next ≡ st.names = sym h.state.names in
      let t : Threads s out st.start st.names ps st.end = rw same at h.threads in
      let v : Upcoming st.start at from (labelled_moves sending x st.names ps) ws = rw same at u in
      f.exact ps x ws t h.channelled h.short h.work h.room h.fits (omega (arith, h.few)) v

module _ {s channel : List ℕ} {st : code.State} {S : State.State} {ps : List Placed} {x : Message} {m out message : List ℕ}
    {r : Option Step} {after : List ℕ} {step : Step} (h : Asked s channel st S ps x m out message)
    (n : NextLabelled s channel st step m out message r after) where
  chosen : (sending : Bool) → step.label ≡ label_of sending
      → NextVisible sending s channel st (cursor_of sending step).at (cursor_of sending step).mark m out message r after
  chosen true e = n.output e
  chosen false e = n.input e

  -- From the cursor before the first step, the answer is the first of the moves.
  pub first_shown : (sending : Bool) → step.label ≡ label_of sending → (cursor_of sending step).at ≡ st.start
      → (cursor_of sending step).mark ≡ 0 → Shown st.start after r (labelled_moves sending x S.next ps)
  first_shown sending e f g = followed sending h (labelled_moves sending x S.next ps) (chosen sending e) (all f g)

  -- From the step of a move, it is the first of those that come later.
  pub later_shown : (sending : Bool) (before : List Move) (w : Move) (later : List Move)
      → labelled_moves sending x S.next ps ≡ before ++ (w ∷ later) → step ≡ step_of st.start w → Shown st.start after r later
  later_shown sending before w later e f = of w e f (every_parts before (rw e at (moves_offered sending x h.threads.judged))).1
    where
      of : (w : Move) → labelled_moves sending x S.next ps ≡ before ++ (w ∷ later) → step ≡ step_of st.start w
          → Every (Offered sending x) (w ∷ later) → Shown st.start after r later
      of (alone p a) e f ((o, small) also os) =
          let q = points sending x st.start p a o in
          let at : (cursor_of sending step).at ≡ record_at st.start p = rw f q.at in
          let mark : (cursor_of sending step).mark ≡ a.place + 1 = rw f q.mark in
          followed sending h later (chosen sending (rw f q.label)) (behind before p a e at mark)
      of (inside p j) e f (o also os) = absurd o
      of (between p t j) e f (o also os) = absurd o
