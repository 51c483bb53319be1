-- A recipe worked in the work bytes, its message copied to the front of a slice ("Steps").
use Rattle.std.specs.Prelude.{Option, Some, None}
use mathlib.Core.Path.{◌≡◌, sym, ◌∙◌}
use mathlib.Core.Bool.{true≢false}
use mathlib.Core.List.{List}
use Prim.Native.Nat.{ℕ, ◌+◌, ◌-◌, ◌≤◌}
use native.Mathlib.Omega.{arith}
use lib.ListN.{length, take, drop, length-take}
use lib.Seq.{paste}
use Rattle.meaning.specs.Steps.State.{worked}
use Rattle.meaning.specs.Judging.Limits.{over}
use Rattle.message_bytes.specs.Encoding.{encode_message}
use Rattle.buffer.specs.Buffer.{Within}
use Rattle.message_term.specs.Work.{done, answer_of, end_of, Works, Reaches}
use Rattle.message_term.specs.declared.work.Worked.{Worked}
use Rattle.truth_label.specs.Recipe.{Recipes}
use Rattle.message_bytes.proofs.Laws.Encoding.{length_encode}
use Rattle.buffer.proofs.Laws.Buffer.{part, put_within, put_stands}
use Rattle.message_term.proofs.Laws.Leaf.{reaches, no_reach}
use Rattle.message_term.proofs.Laws.Work.{said_over, said_small}

-- How far the message goes.
module _ {r : Option Worked} {x : Worked} (start : ℕ) (e : r ≡ Some x) (h : Reaches start 8 r) where
  reached : (start ≤ x.end) × (x.end ≤ start + 510) × (1 ≤ 8)
  reached = h.there x e

  pub end_above : start ≤ x.end
  end_above = reached.0

  pub end_within : {out out₁ : List ℕ} → Within start (start + 4096) out out₁ → start + 4096 ≤ length out → x.end ≤ length out₁
  end_within w l = let g = reached in omega (arith, w.long)

  pub run_short : x.end - start ≤ 0 + 510
  run_short = let g = reached in omega arith

  pub run_fits : (out m : List ℕ) → 510 ≤ length m → 0 + length (take (x.end - start) (drop start out)) ≤ length m
  run_fits out m l = let g = reached in omega (arith, length-take (x.end - start) (drop start out))

  pub run_put : (out m : List ℕ) {m₁ : List ℕ}
      → m₁ ≡ paste m 0 (take (x.end - start) (drop start out)) (length (take (x.end - start) (drop start out)))
      → 510 ≤ length m → length m₁ ≡ length m
  run_put out m v l = (put_within m 0 (take (x.end - start) (drop start out)) v (run_fits out m l)).long

-- The answer, and the message in its new place.
module _ {f out out₁ : List ℕ} {at base start : ℕ} {r : Option Worked} (w : Works f at 8 out base start r out₁) where
  pub recipe_large : {m : List ℕ} → r ≡ None → Recipes f at base start out None m
  unfolding answer_of
  recipe_large e = record {
    exact = λ t {next} ρ p b.
        let large = said_over (over ρ t) next (end_of ρ t start) (w.exact t ρ p b).answer e in
        record { answer = rw large; run = λ small. absurd (true≢false (sym large ∙ small)) };
  }

  pub recipe_done : {x : Worked} (m : List ℕ) {m₁ : List ℕ} → r ≡ Some x → Reaches start 8 r
      → m₁ ≡ paste m 0 (take (x.end - start) (drop start out₁)) (length (take (x.end - start) (drop start out₁)))
      → 510 ≤ length m → Recipes f at base start out (done x.next (x.end - start)) m₁
  unfolding answer_of
  recipe_done {x} m e h v l = record {
    exact = λ t {next} ρ p b.
        let g = w.exact t ρ p b in
        let (small, same, ends) = said_small (over ρ t) next (end_of ρ t start) g.answer e in
        let size : x.end - start ≡ end_of ρ t 0 = omega arith in
        let own : take (x.end - start) (drop start out₁) ≡ encode_message (worked ρ t) = rw ends (part (g.run small)) in
        let put = put_stands m 0 (take (x.end - start) (drop start out₁)) v (run_fits start e h out₁ m l) in
        record {
          answer = rw (small, same, size);
          run = λ o. rw (length_encode (worked ρ t)) at (rw own at put);
        };
  }

pub ruleset recipes = (end_above, end_within, run_short, run_fits, run_put, recipe_large, recipe_done, reaches, no_reach)
