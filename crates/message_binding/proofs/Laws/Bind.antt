-- A message bound after others: the number of its nodes, and its run ("Steps").
use Rattle.std.specs.Prelude.{Option, Some, None}
use mathlib.Core.Path.{◌≡◌, sym, ap, ◌∙◌}
use mathlib.Core.Bool.{true≢false}
use mathlib.Core.List.{List, [], ◌∷◌, append-nil}
use Prim.Native.Nat.{ℕ, ◌+◌, ◌-◌, ◌*◌, ◌/◌, ◌%◌, ◌≤◌, ◌<◌}
use native.Mathlib.Omega.{arith}
use lib.ListN.{length, set, take}
use lib.Seq.{paste}
use Rattle.meaning.specs.Messages.Term.{Term, Message, leaf, private, nodes}
use Rattle.meaning.specs.Bytes.Standing.{Stands}
use Rattle.meaning.specs.Steps.State.{Bound, ◌▸◌, worked}
use Rattle.meaning.specs.Judging.Limits.{over}
use Rattle.meaning.proofs.Bytes.Reading.Place.{◌⨾◌}
use Rattle.message_bytes.specs.Encoding.{encode_message}
use Rattle.buffer.specs.Word.{encode_word}
use Rattle.buffer.specs.Buffer.{Within}
use Rattle.message_term.specs.Bound.{encode_bound, encode_entry, BoundAt, Binds, BindsRun}
use Rattle.message_term.specs.Work.{TermAt, answer_of, end_of, Works, BindWorked, Reaches}
use Rattle.message_term.specs.declared.work.Worked.{Worked}
use Rattle.message_bytes.proofs.Laws.Encoding.{length_encode}
use Rattle.buffer.proofs.Laws.Buffer.{kept, kept_above, unchanged, wider, one_after, node_within, node_stands, put_within, put_stands}
use Rattle.message_term.proofs.Laws.Bound.{bound_append}
use Rattle.message_term.proofs.Laws.Work.{said_over, said_small, still_bound}

one_entry : (m : Message) → encode_bound (m ∷ []) ≡ encode_entry m
unfolding encode_bound
one_entry m = append-nil (encode_entry m)

pub bound_more : {s : List ℕ} {base end last : ℕ} (ρ : Bound) (m : Message) → Stands s base (encode_bound ρ) end
    → Stands s end (encode_entry m) last → Stands s base (encode_bound (ρ ▸ m)) last
bound_more ρ m p q = rw (bound_append ρ (m ∷ []), one_entry m) (p ⨾ q)

-- A message is bound where the number of its nodes and then its run stand behind the others.
entry_bound : {before after : List ℕ} {end last : ℕ} (m : Message) → take end after ≡ take end before
    → Stands after end (encode_word (nodes m)) (end + 2) → Stands after (end + 2) (encode_message m) last
    → Binds before end m last after
entry_bound {end} m e number run = record {
  exact = λ ρ p. bound_more ρ m (kept {low = end} p (omega arith) e) (number ⨾ run);
}

-- A private name.
module _ (s t : List ℕ) (end n : ℕ) {u : List ℕ} (v : t ≡ set (set s end 1) (end + 1) 0)
    (w : u ≡ set (set t (end + 2) ((2 * n + 17) % 256)) (end + 2 + 1) ((2 * n + 17) / 256))
    (h : (end + 4 ≤ length s) × (n ≤ 32759)) where
  size_within : Within end (end + 2) s t
  size_within = node_within s end 1 v (omega arith)

  leaf_within : Within (end + 2) (end + 2 + 2) t u
  leaf_within = node_within t (end + 2) (2 * n + 17) w (omega (arith, size_within.long))

  pub name_within : Within end (end + 4) s u
  name_within = one_after size_within leaf_within (omega arith) (omega arith) (omega arith) (omega arith)

  pub name_bound : Binds s end (leaf (private n)) (end + 4) u
  unfolding encode_message
  name_bound =
      let four : end + 2 + 2 ≡ end + 4 = omega arith in
      let number = kept {low = end + 2} (node_stands s end 1 v (omega arith)) (omega arith) leaf_within.below in
      let run = node_stands t (end + 2) (2 * n + 17) w (omega (arith, size_within.long)) in
      entry_bound (leaf (private n)) name_within.below number (rw four at run)

pub ruleset names = (name_within, name_bound)

-- A message that stands in another slice.
module _ (x m m₁ : List ℕ) (end : ℕ) {m₂ : List ℕ} (v : m₁ ≡ set (set m end (length x / 2 % 256)) (end + 1) (length x / 2 / 256))
    (w : m₂ ≡ paste m₁ (end + 2) x (length x)) (h : (end + 2 + length x ≤ length m) × (length x ≤ 510)) where
  number_within : Within end (end + 2) m m₁
  number_within = node_within m end (length x / 2) v (omega arith)

  run_within : Within (end + 2) (end + 2 + length x) m₁ m₂
  run_within = put_within m₁ (end + 2) x w (omega (arith, number_within.long))

  pub message_within : Within end (end + 2 + length x) m m₂
  message_within = one_after number_within run_within (omega arith) (omega arith) (omega arith) (omega arith)

  pub message_bound : BindsRun x m end (end + 2 + length x) m₂
  message_bound = record {
    exact = λ y e.
        let count : length x / 2 ≡ nodes y = omega (arith, ap length e, length_encode y) in
        let number = kept {low = end + 2} (node_stands m end (length x / 2) v (omega arith)) (omega arith) run_within.below in
        let run : Stands m₂ (end + 2) (encode_message y) (end + 2 + length x) =
        rw (← e) (put_stands m₁ (end + 2) x w (omega (arith, number_within.long))) in
        entry_bound y message_within.below (rw count at number) run;
  }

pub ruleset messages = (message_within, message_bound)

-- The message of a term: its run first, and then the number before it.
pub term_within : {m m₁ m₂ : List ℕ} (end v : ℕ) → m₂ ≡ set (set m₁ end (v % 256)) (end + 1) (v / 256)
    → Within (end + 2) (end + 2 + 4096) m m₁ → end + 4098 ≤ length m → Within end (end + 4098) m m₂
term_within {m₁} end v e w h =
    one_after w (node_within m₁ end v e (omega (arith, w.long))) (omega arith) (omega arith) (omega arith) (omega arith)

module _ {s m m₁ : List ℕ} {at base end : ℕ} {r : Option Worked} (f : Works s at 8 m base (end + 2) r m₁) where
  -- They are bound below end + 2 too, where the message will start.
  further : {ρ : Bound} → BoundAt m base ρ end → BoundAt m base ρ (end + 2)
  further b = still_bound b (unchanged {low = end} {high = end}) (omega arith) (omega arith)

  answered : (t : Term) {next : ℕ} (ρ : Bound) → TermAt s at 8 (length ρ) t next → BoundAt m base ρ end
      → r ≡ answer_of (over ρ t) next (end_of ρ t (end + 2))
  answered t ρ p b = (f.exact t ρ p (further b)).answer

  pub term_large : r ≡ None → BindWorked s at m base end None m₁
  term_large e = record {
    answer = λ t ρ p b. sym e ∙ answered t ρ p b;
    run = λ t ρ p b o. absurd (true≢false (sym (said_over _ _ _ (answered t ρ p b) e) ∙ o));
  }

  pub term_bound : {m₂ : List ℕ} {x : Worked} → r ≡ Some x → Within (end + 2) (end + 2 + 4096) m m₁
      → m₂ ≡ set (set m₁ end ((x.end - end - 2) / 2 % 256)) (end + 1) ((x.end - end - 2) / 2 / 256)
      → end + 4098 ≤ length m → BindWorked s at m base end (Some x) m₂
  term_bound {m₂} {x} e w v h = record {
    answer = λ t ρ p b. sym e ∙ answered t ρ p b;
    run = λ t ρ p b o.
        let g = f.exact t ρ p (further b) in
        let (same, next, ends) = said_small _ _ _ g.answer e in
        let fits : end + 2 ≤ length m₁ = omega (arith, w.long) in
        let size : (x.end - end - 2) / 2 ≡ nodes (worked ρ t) = omega arith in
        let number = node_stands m₁ end ((x.end - end - 2) / 2) v fits in
        let above = (node_within m₁ end ((x.end - end - 2) / 2) v fits).above in
        entry_bound (worked ρ t) (term_within end ((x.end - end - 2) / 2) v w h).below (rw size at number)
        (kept_above {high = end + 2} (g.run o) (omega arith) above);
  }

pub term_large_within : {m m₁ : List ℕ} (end : ℕ) → Within (end + 2) (end + 2 + 4096) m m₁ → Within end (end + 4098) m m₁
term_large_within end w = wider w (omega arith) (omega arith)

pub done_reaches : {start left : ℕ} {x : Worked} {r : Option Worked} → r ≡ Some x → Reaches start left r → Reaches start left (Some x)
done_reaches e h = rw e at h

-- The number of nodes is worked out from where the message ends.
module _ {r : Option Worked} {x : Worked} (end : ℕ) (e : r ≡ Some x) (h : Reaches (end + 2) 8 r) where
  reached : (end + 2 ≤ x.end) × (x.end ≤ end + 2 + 510) × (1 ≤ 8)
  reached = h.there x e

  pub end_before : end ≤ x.end
  end_before = let g = reached in omega arith

  pub room_between : 2 ≤ x.end - end
  room_between = let g = reached in omega arith

  pub few_nodes : (x.end - end - 2) / 2 < 65536
  few_nodes = let g = reached in omega arith

pub ruleset counts = (end_before, room_between, few_nodes)

pub ruleset terms = (term_large, term_bound, term_large_within, term_within, done_reaches)
