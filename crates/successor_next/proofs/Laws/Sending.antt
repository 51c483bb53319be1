-- What the moves of a label send ("Steps").
use mathlib.Core.Path.{◌≡◌, refl}
use mathlib.Core.Bool.{Bool, true, false}
use mathlib.Core.List.{List, [], ◌∷◌, flat_map}
use Prim.Native.Nat.{ℕ, ◌≤◌}
use native.Mathlib.Omega.{arith}
use lib.ListN.{length}
use Rattle.meaning.specs.Messages.Term.{Message}
use Rattle.meaning.specs.Bytes.Process.{Prefix, output, input}
use Rattle.meaning.specs.Places.{Every, none, ◌also◌}
use Rattle.meaning.specs.Steps.State.{written}
use Rattle.meaning.specs.Judging.Limits.{over}
use Rattle.meaning.proofs.Every.{every_map, every_parts, every_joined}
use Rattle.meaning.proofs.Messages.{normal_forms}
use Rattle.meaning.proofs.Test.{neither}
use Rattle.message_bytes.specs.Encoding.{encode_message}
use Rattle.message_bytes.proofs.Theorems.{run_length}
use Rattle.state_record.specs.Record.{Placed}
use Rattle.state_layout.specs.Loaded.{IsRunOf}
use Rattle.step_located.specs.Located.{LocatedOffer, prefixed}
use Rattle.step_located.specs.CopyStep.{Pair, message_of, matching}
use Rattle.step_located.specs.Sought.{wanted}
use Rattle.step_located.proofs.Laws.Everywhere.{every_first, every_and, every_mapped, every_flat_map}
use Rattle.step_transition.specs.Focus.{Focus, focuses, offers_of, copy_steps_of}
use Rattle.step_transition.specs.Moves.{Move, alone, inside, between, labelled, others, takers, meetings, silent_moves}
use Rattle.step_transition.specs.Outcome.{sent_by, outcome}
use Rattle.step_transition.specs.Threads.{Judged}
use Rattle.step_transition.specs.Step.{step_of, run_of}
use Rattle.step_transition.specs.Behind.{moves_of}
use Rattle.step_transition.specs.Moving.{carried}
use Rattle.step_label.specs.declared.step.Label.{Label}
use Rattle.step_label.specs.declared.step.Label.TheVariants.{Output, Input, Silent}
use Rattle.step_transition.proofs.Laws.Allowed.{acting_allowed, run_short}
use Rattle.step_transition.proofs.Laws.LimitsPairs.{sent_small}
use Rattle.step_transition.proofs.Laws.Opened.{judged_clear}
use Rattle.step_transition.proofs.Laws.MovesFocuses.{Stands}
use Rattle.step_visible.proofs.Laws.LabelledBehind.{Small, Offered, moves_offered}
use Rattle.step_visible.proofs.Laws.LabelledMoves.{label_of}
use Rattle.successor_continuation.proofs.Laws.RestsMoves.{Among, Stood, moves_stood}

-- The aliases that a step of a label adds.
abbrev pub added : Label → ℕ
added Output = 1
added Input = 0
added Silent = 0

-- A move of a label: unless it is an input, it sends a short message; an input takes the message of the label, y.
pub record Sending (l : Label) (start : ℕ) (y : Message) (w : Move) : Type 0 where
  pub label : (step_of start w).label ≡ l
  pub size : (l ≡ Input → ⊥) → (step_of start w).size ≡ length (run_of w)
  pub short : length (run_of w) ≤ 510
  pub sent : (l ≡ Input → ⊥) → IsRunOf (run_of w) (carried y w)
  pub taken : l ≡ Input → carried y w ≡ y
  pub alias : (ps : List Placed) (k : ℕ) → length (outcome ps k y w).alias ≡ added l

output_or_input : Output ≡ Input → ⊥
output_or_input e = let z : ◌≡◌ {A = ℕ} 0 1 = cc in omega arith

silent_or_input : Silent ≡ Input → ⊥
silent_or_input e = let z : ◌≡◌ {A = ℕ} 0 1 = cc in omega arith

-- A silent step is one of a pair.
abbrev Silence : Move → Type 0
Silence (alone p a) = ⊥
Silence (inside p j) = Unit {0}
Silence (between p q w) = Unit {0}

silent-moves : (k : ℕ) (ps : List Placed) → Every Silence (silent_moves k ps)
unfolding silent_moves meetings takers
silent-moves k ps =
    every_joined (every_flat_map _ (always (focuses ps) (λ p. every_mapped (inside p) (always (copy_steps_of p.thread k) (λ j. tt)))))
    (every_flat_map _ (always (focuses ps) (λ p.
    every_flat_map _ (always (offers_of p.thread k) (λ a.
    every_flat_map _ (always (others p (focuses ps)) (λ q.
    every_mapped (between p q) (always (flat_map (matching a) (offers_of q.thread a.next)) (λ w. tt)))))))))
  where
    always : {A : Type 0} {Q : A → Type 0} (xs : List A) → ((x : A) → Q x) → Every Q xs
    always [] h = none
    always (x ∷ xs) h = h x also always xs h

module _ (start : ℕ) (y : Message) where
  offered_sends : (sending : Bool) (x : Message) (w : Move) → Offered sending x w → Sending (label_of sending) start y w
  unfolding step_of run_of carried outcome wanted
  offered_sends sending x (inside p j) o = absurd o
  offered_sends sending x (between p q v) o = absurd o
  offered_sends sending x (alone p a) (e, small) = of sending a.prefix e small
    where
      of : (b : Bool) (f : Prefix) → wanted (labelled b) x (prefixed a f) ≡ true → Small (prefixed a f)
          → Sending (label_of b) start y (alone p (prefixed a f))
      of true (output C M) e small = record {
        label = refl;
        size = λ n. refl;
        short = run_short a.bound M (neither (over a.bound C) _ small).1;
        sent = λ n.
            record {
              same = refl;
              small = run_short a.bound M (neither (over a.bound C) _ small).1;
              normal = (normal_forms (written a.bound M)).0;
            };
        taken = λ i. absurd (output_or_input i);
        alias = λ ps k. refl;
      }
      of true (input C) e small = absurd (let z : ◌≡◌ {A = ℕ} 0 1 = cc in omega arith)
      of false (output C M) e small = absurd (let z : ◌≡◌ {A = ℕ} 0 1 = cc in omega arith)
      of false (input C) e small = record {
        label = refl;
        size = λ n. absurd (n refl);
        short = omega arith;
        sent = λ n. absurd (n refl);
        taken = λ i. refl;
        alias = λ ps k. refl;
      }

  -- What a pair sends.
  pair_sends : (w : Pair) → Small w.sender → IsRunOf (encode_message (sent_by w)) (sent_by w)
  pair_sends w small = record {
    same = refl;
    small =
        omega (arith, run_length (sent_by w), sent_small w.sender.bound w.sender.prefix w.sender.rest w.sender.next small);
    normal = (normal_forms (written w.sender.bound (message_of w.sender.prefix))).0;
  }

  sender_small : {k : ℕ} {ps : List Placed} → Every (Judged k) ps → (p : Focus) → Stands ps p → (a : LocatedOffer) → Among (offers_of p.thread k) a
      → Small a
  sender_small {k} js p s a m =
      let j = every_first (every_parts p.before (rw s.parts at js)).1 in
      let all = acting_allowed _ p.thread.place _ 0 k (judged_clear p.thread 0 j) in
      every_first (every_parts m.before (rw m.listed at all)).1

  silent_sends : {k : ℕ} {ps : List Placed} → Every (Judged k) ps → (w : Move) → Stood k ps w → Silence w → Sending Silent start y w
  unfolding step_of run_of carried outcome
  silent_sends js (alone p a) h s = absurd s
  silent_sends js (inside p j) h s = record {
    label = refl;
    size = λ n. refl;
    short = (pair_sends j.pair (sender_small js p h.stands j.pair.sender h.sender)).small;
    sent = λ n. pair_sends j.pair (sender_small js p h.stands j.pair.sender h.sender);
    taken = λ i. absurd (silent_or_input i);
    alias = λ ps k. refl;
  }
  silent_sends js (between p q w) h s = record {
    label = refl;
    size = λ n. refl;
    short = (pair_sends w (sender_small js p h.sending w.sender h.sender)).small;
    sent = λ n. pair_sends w (sender_small js p h.sending w.sender h.sender);
    taken = λ i. absurd (silent_or_input i);
    alias = λ ps k. refl;
  }

  pub moves_send : {k : ℕ} {ps : List Placed} → Every (Judged k) ps → (l : Label) (x : Message)
      → Every (Sending l start y) (moves_of l x k ps)
  moves_send js Output x = every_map (offered_sends true x) (moves_offered true x js)
  moves_send js Input x = every_map (offered_sends false x) (moves_offered false x js)
  moves_send {k} {ps} js Silent x =
      every_map (λ w (h, s). silent_sends js w h s) (every_and (moves_stood k ps Silent x) (silent-moves k ps))
