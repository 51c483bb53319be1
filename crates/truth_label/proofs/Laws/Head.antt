-- The head of a step formula, from the recipes of its label ("Steps").
use Rattle.std.specs.Prelude.{Option, Some, None}
use mathlib.Core.Path.{◌≡◌, refl, ◌∙◌}
use mathlib.Core.Bool.{false, true≢false}
use mathlib.Core.List.{List, [], ◌∷◌}
use Prim.Native.Nat.{ℕ, ◌+◌, ◌/◌, ◌%◌, ◌≤◌}
use native.Mathlib.Omega.{arith}
use lib.ListN.{length, take, set}
use Rattle.meaning.specs.Messages.Term.{Term, Message, leaf, public}
use Rattle.meaning.specs.Messages.Equation.{Normal}
use Rattle.meaning.specs.Messages.Normal.{normal}
use Rattle.meaning.specs.Bytes.Formula.{Label, output, input, silent}
use Rattle.meaning.specs.Bytes.Encoding.{encode_term}
use Rattle.meaning.specs.Bytes.Standing.{Stands}
use Rattle.meaning.specs.Steps.State.{Bound, written, worked}
use Rattle.meaning.specs.Judging.Limits.{over, over_label}
use Rattle.meaning.proofs.Bytes.Reading.Place.{parts}
use Rattle.meaning.proofs.Messages.{normal_forms}
use Rattle.message_bytes.specs.Encoding.{encode_message}
use Rattle.buffer.specs.Word.{encode_word}
use Rattle.buffer.specs.Buffer.{Within}
use Rattle.message_term.specs.Bound.{BoundAt}
use Rattle.message_term.specs.Work.{done, answer_of, end_of, WorkedTo, Reaches}
use Rattle.message_term.specs.declared.work.Worked.{Worked}
use Rattle.state_layout.specs.Loaded.{IsRunOf}
use Rattle.step_label.specs.declared.step.Label.TheVariants.{Output, Input, Silent}
use Rattle.truth_label.specs.Place.{kind_of, LabelAt}
use Rattle.truth_label.specs.Recipe.{Recipes}
use Rattle.truth_label.specs.Head.{label_of_step, channel_of, head_of, headed_of, HeadTo, Heads, Short}
use Rattle.truth_label.specs.Inner.{output_head, input_head, Tells, Inputs, Silences}
use Rattle.truth_label.specs.declared.head.Head as code
use Rattle.message_bytes.proofs.Laws.Encoding.{length_encode}
use Rattle.buffer.proofs.Laws.Buffer.{seen, node_within, node_stands, unchanged, one_after}
use Rattle.message_term.proofs.Laws.Work.{said_over, said_small, still_bound}

-- A message at the front of a slice.
labelled : {m : List ℕ} {end : ℕ} (x : Message) → Stands m 0 (encode_message x) end → end ≤ 510 → Normal x
    → IsRunOf (take (length (encode_message x)) m) x
labelled x p h n = record { same = seen p; small = rw (seen p) (omega (arith, p.size)); normal = n }

-- That of a recipe.
module _ {ρ : Bound} {t : Term} {next : ℕ} {r : Option Worked} {m : List ℕ} (g : WorkedTo ρ t 0 next r m) (h : Reaches 0 8 r) where
  recipe_label : over ρ t ≡ false → IsRunOf (take (length (encode_message (worked ρ t))) m) (worked ρ t)
  unfolding answer_of
  recipe_label small =
      let said : r ≡ done next (end_of ρ t 0) = g.answer ∙ rw small in
      labelled (worked ρ t) (g.run small) (h.there (record { next = next; end = end_of ρ t 0 }) said).1 (normal_forms (written ρ t)).0

  recipe_said : {x : Worked} → r ≡ Some x → (over ρ t ≡ false) × (x.next ≡ next) × (x.end ≡ length (encode_message (worked ρ t)))
  recipe_said e =
      let (small, same, ends) = said_small _ _ _ g.answer e in
      (small, same, omega (arith, length_encode (worked ρ t)))

-- The answers and the labels differ.
output_or_input : Output ≡ Input → ⊥
output_or_input e = let z : ◌≡◌ {A = ℕ} 0 1 = cc in omega arith

silent_or_input : Silent ≡ Input → ⊥
silent_or_input e = let z : ◌≡◌ {A = ℕ} 0 1 = cc in omega arith

large_or_by : {h : code.Head} → None ≡ Some h → ⊥
large_or_by e = let z : ◌≡◌ {A = ℕ} 0 1 = cc in omega arith

pub short_large : Short None
short_large = record { there = λ h e. absurd (large_or_by e) }

pub short_by : (h : code.Head) → h.channel ≤ 510 → h.taken ≤ 510 → Short (Some h)
short_by h c t = record {
  there = λ g e. let same : h ≡ g = cc in (rw (← same) c, rw (← same) t);
}

-- One recipe, told by a head.
module _ {f out : List ℕ} {at base start : ℕ} {r : Option Worked} {m : List ℕ} (w : Recipes f at base start out r m) (h : Reaches 0 8 r)
    (head : (body size : ℕ) → code.Head) where
  pub tells_large : r ≡ None → Tells f at base start out head None m
  unfolding headed_of
  tells_large e = record {
    exact = λ t ρ p b.
        let g = w.exact t ρ p b in
        record { answer = rw (said_over _ _ _ g.answer e); run = recipe_label g h };
  }

  pub tells_by : {x : Worked} {one : code.Head} → r ≡ Some x → one ≡ head x.next x.end → Tells f at base start out head (Some one) m
  unfolding headed_of
  tells_by e same = record {
    exact = λ t ρ p b.
        let g = w.exact t ρ p b in
        let (small, next, size) = recipe_said g h e in
        record { answer = rw (same, small, next, size); run = recipe_label g h };
  }

pub size_small : {r : Option Worked} {x : Worked} → r ≡ Some x → Reaches 0 8 r → x.end ≤ 510
size_small e h = (h.there _ e).1

-- A label that is no input takes no message.
not_input : {ρ : Bound} {a : Label} {body : ℕ} {r : Option code.Head} {channel taken : List ℕ}
    → (label_of_step a ≡ Input → ⊥) → r ≡ headed_of (over_label ρ a) (head_of ρ a body)
    → (over_label ρ a ≡ false → IsRunOf (take (head_of ρ a body).channel channel) (channel_of ρ a))
    → HeadTo ρ a body r channel taken
not_input n e c = record { answer = e; channelled = c; taking = λ o k. absurd (n k) }

-- An input: its channel, and then its message.
module _ {f out : List ℕ} {at base start : ℕ} {r : Option Worked} {channel : List ℕ} (w : Recipes f at base start out r channel)
    (h : Reaches 0 8 r) where
  pub input_large : {taken : List ℕ} → r ≡ None → Inputs f at base start out None channel taken
  unfolding headed_of head_of
  input_large e = record {
    exact = λ C M ρ p q b.
        let large = said_over _ _ _ (w.exact C ρ p b).answer e in
        record {
          answer = rw large;
          channelled = λ small. absurd (true≢false (rw large at small));
          taking = λ small k. absurd (true≢false (rw large at small));
        };
  }

  pub input_by : {x : Worked} {out₁ taken : List ℕ} {a : Option code.Head} → r ≡ Some x → Within start (start + 4096) out out₁
      → Tells f x.next base start out₁ (input_head x.end) a taken → Inputs f at base start out a channel taken
  unfolding headed_of head_of
  input_by e v d = record {
    exact = λ C M ρ p q b.
        let g = w.exact C ρ p b in
        let (small, next, size) = recipe_said g h e in
        let k = d.exact M ρ (rw (← next) at q) (still_bound b v (omega arith) (omega arith)) in
        record {
          answer = k.answer ∙ rw (small, size);
          channelled = λ o. recipe_label g h small;
          taking = λ o l. k.run (rw small at o);
        };
  }

pub both_within : {out out₁ out₂ : List ℕ} (start : ℕ) → Within start (start + 4096) out out₁ → Within start (start + 4096) out₁ out₂
    → Within start (start + 4096) out out₂
both_within start v w = one_after v w (omega arith) (omega arith) (omega arith) (omega arith)

-- A silent step: public name 0 stands for its channel.
module _ (m : List ℕ) {m₁ : List ℕ} (v : m₁ ≡ set (set m 0 (16 % 256)) (0 + 1) (16 / 256)) (l : 510 ≤ length m) where
  pub silent_long : length m₁ ≡ length m
  silent_long = (node_within m 0 16 v (omega arith)).long

  no_channel : Stands m₁ 0 (encode_message (leaf (public 0))) 2
  unfolding encode_message
  no_channel = node_stands m 0 16 v (omega arith)

  pub silent_by : (at : ℕ) → Silences at (Some (record { label = Silent; body = at; channel = 2; taken = 0 })) m₁
  unfolding headed_of head_of encode_message encode_word normal
  silent_by at = record {
    exact = λ ρ.
        not_input silent_or_input refl
        (λ o. labelled (leaf (public 0)) no_channel (omega arith) (normal_forms (leaf (public 0))).0);
  }

-- The labels by their kinds.
abbrev Promised : (f : List ℕ) (kind at base start : ℕ) → List ℕ → Option code.Head → (channel taken : List ℕ) → Label → Type 0
Promised f kind at base start out r channel taken a =
    (body : ℕ) (ρ : Bound) → kind ≡ kind_of a → LabelAt f at (length ρ) a body → BoundAt out base ρ start → HeadTo ρ a body r channel taken

module _ {f out channel : List ℕ} {kind at base start : ℕ} {r : Option code.Head} where
  for_each : {taken : List ℕ} → ((a : Label) → Promised f kind at base start out r channel taken a)
      → Heads f kind at base start out r channel taken
  for_each g = record { exact = λ a {body} ρ k p b. g a body ρ k p b }

  pub heads_output : {taken : List ℕ} → kind ≡ 3 → Tells f at base start out output_head r channel
      → Heads f kind at base start out r channel taken
  unfolding head_of
  heads_output {taken} k d = for_each only
    where
      only : (a : Label) → Promised f kind at base start out r channel taken a
      only (output C) body ρ e p b =
          let g = d.exact C ρ (record { stands = p.stands; deep = p.terms; scoped = p.scoped }) b in
          not_input output_or_input g.answer g.run
      only (input C M) body ρ e p b = absurd (omega arith)
      only silent body ρ e p b = absurd (omega arith)

  pub heads_input : {taken : List ℕ} → kind ≡ 4 → Inputs f at base start out r channel taken
      → Heads f kind at base start out r channel taken
  heads_input {taken} k d = for_each only
    where
      only : (a : Label) → Promised f kind at base start out r channel taken a
      only (output C) body ρ e p b = absurd (omega arith)
      only (input C M) body ρ e p b =
          let (mid, m, n) = parts (encode_term C) (encode_term M ∷ []) p.stands in
          d.exact C M ρ (record { stands = m; deep = omega (arith, p.terms); scoped = p.scoped.0 })
          (record { stands = n; deep = omega (arith, p.terms); scoped = p.scoped.1 }) b
      only silent body ρ e p b = absurd (omega arith)

  pub heads_silent : {taken : List ℕ} → (kind ≡ 3 → ⊥) → (kind ≡ 4 → ⊥) → Silences at r channel
      → Heads f kind at base start out r channel taken
  heads_silent {taken} no_output no_input d = for_each only
    where
      only : (a : Label) → Promised f kind at base start out r channel taken a
      only (output C) body ρ e p b = absurd (no_output e)
      only (input C M) body ρ e p b = absurd (no_input e)
      only silent body ρ e p b = let there : body ≡ at = omega (arith, p.stands.size) in rw there (d.exact ρ)

pub ruleset tellings = (tells_large, tells_by, size_small, short_large, short_by)

pub ruleset inputs = (input_large, input_by, size_small, short_large, both_within)

pub ruleset silences = (silent_long, silent_by, short_by)

pub ruleset heads = (heads_output, heads_input, heads_silent, unchanged)
