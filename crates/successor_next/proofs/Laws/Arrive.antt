-- The step after one, and the state that it leads to ("Steps"; "Judging and its count").
use Rattle.std.specs.Prelude.{Option, None, Some}
use mathlib.Core.Path.{◌≡◌, refl, sym, ap, subst, ◌∙◌}
use mathlib.Core.Bool.{Bool}
use mathlib.Core.Logic.{◌⊎◌, inl, inr}
use mathlib.Core.List.{List, [], ◌∷◌, ◌++◌, append_assoc}
use Prim.Native.Nat.{ℕ, ◌-◌, ◌≤◌, ◌<◌}
use native.Mathlib.Omega.{arith}
use lib.ListN.{length, take, drop, length-append}
use Rattle.meaning.specs.Messages.Term.{Message}
use Rattle.meaning.specs.Steps.State.{State}
use Rattle.meaning.proofs.Every.{every_parts}
use Rattle.buffer.specs.Buffer.{Within}
use Rattle.buffer.proofs.Laws.Buffer.{part}
use Rattle.state_record.specs.declared.state.State as code
use Rattle.state_layout.specs.Loaded.{IsRunOf}
use Rattle.step_located.proofs.Laws.Everywhere.{every_first}
use Rattle.step_transition.specs.Moves.{Move}
use Rattle.step_transition.specs.WithinLimits.{WithinLimits}
use Rattle.step_transition.specs.Step.{step_of, run_of}
use Rattle.step_transition.specs.Behind.{moves_of, Behind, all, later, Searching}
use Rattle.step_transition.specs.Moving.{carried, Leading, Moving}
use Rattle.step_label.specs.declared.step.Step as step
use Rattle.step_label.specs.declared.step.Label.{Label}
use Rattle.step_label.specs.declared.step.Label.TheVariants.{Output, Input, Silent}
use Rattle.step_between.specs.Buffered.{Answered}
use Rattle.step_next.specs.Next.{Nexts}
use Rattle.successor_state.specs.Lead.{LeadsFor}
use Rattle.successor_rebuild.proofs.Laws.Formed.{within_kept}
use Rattle.successor_next.specs.Arrive.{Taken, Leaving, Leaves, LeavesBySending, arrived, ArrivedAt, Arrives}
use Rattle.successor_next.proofs.Laws.Sending.{Sending, moves_send}

-- What the step sends.
pub sending : {s out : List ℕ} {st : code.State} {S : State} (h : WithinLimits s out st S) (l : Label) (x y : Message) (earlier others : List Move) (w : Move)
    → moves_of l x S.next h.at.placed ≡ earlier ++ (w ∷ others) → Sending l st.start y w
sending {st = st} h l x y earlier others w e = every_first (every_parts earlier (rw e at (moves_send st.start y h.judged l x))).1

-- The move, with the message that goes.
moving : {s out message given taken : List ℕ} {st : code.State} {v : step.Step} {S : State} (h : WithinLimits s out st S) (y : Message) (w : Move)
    → Leaving s out st S h v taken message y w → IsRunOf given (carried y w) → Moving s out st S h v y w given
moving h y w l g = record {
  channel = l.channel;
  earlier = l.earlier;
  others = l.others;
  listed = l.listed;
  same = l.same;
  stored = l.taking.stored;
  small = l.taking.small;
  labelled = g;
}

-- Where a step leads.
module _ {stepless : Bool} {s message m out after : List ℕ} {st : code.State} {v : step.Step} {r : Option code.State} where
  pub leaves_input : {taken : List ℕ} → v.label ≡ Input → LeadsFor stepless s st v taken m out r after → Leaves stepless s taken message st v m out r after
  leaves_input {taken} e d = record {
    exact = λ S h y w l room.
        let f = sending h v.label l.channel y l.earlier l.others w l.listed in
        let same : carried y w ≡ y = f.taken e in
        d.exact S h y w (moving h y w l (rw same (l.taking.labelled e))) room;
  }

  -- A message that is sent is at the front of its slice.
  pub sends_part : {size : ℕ} → LeadsFor stepless s st v (take (size - 0) (drop 0 message)) m out r after → v.size ≡ size
      → LeavesBySending stepless s message st v m out r after
  sends_part {size} d e = record {
    exact = λ n taken. record {
      exact = λ S h y w l room.
          let f = sending h v.label l.channel y l.earlier l.others w l.listed in
          let long : length (run_of w) ≡ size = sym (f.size n) ∙ sym (ap (λ u. u.size) l.same) ∙ e in
          let run : take (size - 0) (drop 0 message) ≡ run_of w = rw long at (part l.sent) in
          d.exact S h y w (moving h y w l (rw run (f.sent n))) room;
    };
  }

  pub sends_none : length message < v.size → LeavesBySending stepless s message st v m out r after
  sends_none short = record {
    exact = λ n taken. record {
      exact = λ S h y w l room.
          let f = sending h v.label l.channel y l.earlier l.others w l.listed in
          let long : length (run_of w) ≡ v.size = sym (f.size n) ∙ sym (ap (λ u. u.size) l.same) in
          absurd (omega (arith, simp length-append at (ap length l.sent.bytes)));
    };
  }

  pub leaves_sent : {taken : List ℕ} → (v.label ≡ Output) ⊎ (v.label ≡ Silent) → LeavesBySending stepless s message st v m out r after
      → Leaves stepless s taken message st v m out r after
  leaves_sent {taken} (inl e) d = d.exact (λ i. absurd (let z : ◌≡◌ {A = ℕ} 0 1 = cc in omega arith)) taken
  leaves_sent {taken} (inr e) d = d.exact (λ i. absurd (let z : ◌≡◌ {A = ℕ} 0 1 = cc in omega arith)) taken

pub ruleset leavings = (leaves_input, leaves_sent, sends_part, sends_none)

-- The moves behind a step are some of the label's.
pub listed : {l : Label} {start : ℕ} {ws others : List Move} {v : step.Step} → Behind l start ws v others
    → (earlier : List Move) × (ws ≡ earlier ++ others)
listed all = ([], refl)
listed (later earlier w {others} e) = (earlier ++ (w ∷ []), e ∙ sym (append_assoc earlier (w ∷ []) others))

-- Room for a search is room for what follows it.
searching : {s m out message : List ℕ} {st : code.State} {S : State} → 510 ≤ length message → Leading s st S m out → Searching s st m out message
searching long o = record { short = o.short; wide = o.wide; room = omega (arith, o.room); long = long }

-- The next step, and then where it leads.
module _ {s channel m out buffered message : List ℕ} {st : code.State} {from : step.Step} {r : Option step.Step} {on said : List ℕ}
    (n : Nexts s channel st from m out buffered message r on said) where
  pub arrives_none : {stepless : Bool} {taken after : List ℕ} → r ≡ None
      → Arrives stepless s channel taken st from m out buffered message None after on said
  arrives_none {stepless} {taken} {after} e = record {
    exact = λ S x y h c t o wide long {others} b. nowhere S h y others (n.exact S x h c (searching long o) wide b);
  }
    where
      nowhere : (S : State) (h : WithinLimits s out st S) (y : Message) (others : List Move) → Answered st.start on said r others
          → ArrivedAt stepless s st S h.at.placed y None after on said others
      nowhere S h y [] d = refl
      nowhere S h y (w ∷ others) d = absurd (let z : ◌≡◌ {A = ℕ} 0 1 = cc in omega arith)

  pub arrives_by : {stepless : Bool} {taken m₁ out₁ after : List ℕ} {v : step.Step} {f : Option code.State} {high high₁ : ℕ} → r ≡ Some v
      → Within 0 high m m₁ → Within st.end high₁ out out₁ → Leaves stepless s taken said st v m₁ out₁ f after
      → Arrives stepless s channel taken st from m out buffered message (arrived v f) after on said
  unfolding within_kept
  arrives_by {stepless} {taken} {m₁} {out₁} {after} {v} {f} e wm wo d = record {
    exact = λ S x y h c t o wide long {others} b. by S x y h t o others b.behind (n.exact S x h c (searching long o) wide b);
  }
    where
      by : (S : State) (x y : Message) (h : WithinLimits s out st S) → Taken S taken from.label y → Leading s st S m out → (others : List Move)
          → Behind from.label st.start (moves_of from.label x S.next h.at.placed) from others
          → Answered st.start on said r others → ArrivedAt stepless s st S h.at.placed y (arrived v f) after on said others
      by S x y h t o [] b d = absurd (let z : ◌≡◌ {A = ℕ} 0 1 = cc in omega arith)
      by S x y h t o (w ∷ others) b (g, kept) =
          let same : v ≡ step_of st.start w = cc in
          let (earlier, there) = listed b in
          let sends = sending h from.label x y earlier others w there in
          let label : from.label ≡ v.label = sym sends.label ∙ sym (ap (λ u. u.label) same) in
          let leaving : Leaving s out₁ st S (within_kept wo h) v taken said y w =
          record {
            channel = x;
            earlier = earlier;
            others = others;
            listed = subst (λ (l : Label). moves_of l x S.next h.at.placed ≡ earlier ++ (w ∷ others)) label there;
            same = same;
            taking = subst (λ (l : Label). Taken S taken l y) label t;
            sent = kept.sent;
          } in
          let room : Leading s st S m₁ out₁ =
          record {
            short = o.short;
            wide = omega (arith, o.wide, wm.long);
            room = omega (arith, o.room, wo.long);
            few = o.few;
          } in
          (f, rw same, d.exact S (within_kept wo h) y w leaving room, kept)
