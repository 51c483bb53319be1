-- Where the message of a variable begins among the bound messages ("Steps").
use mathlib.Core.Path.{◌≡◌, refl, sym, ap, ◌∙◌}
use mathlib.Core.List.{List, [], ◌∷◌, ◌++◌, append_assoc}
use Prim.Native.Nat.{ℕ, suc, ◌+◌, ◌*◌, ◌≤◌, ◌<◌}
use native.Mathlib.Numerals.{add-one}
use native.Mathlib.Omega.{arith}
use lib.ListN.{length, get_or, take, drop, take-append-drop, length-append, length-drop}
use lib.Seq.{drop-cons}
use Rattle.meaning.specs.Messages.Term.{Message, leaf, public, nodes}
use Rattle.meaning.specs.Bytes.Standing.{Stands}
use Rattle.meaning.specs.Steps.State.{Bound}
use Rattle.meaning.proofs.Bytes.Reading.Place.{parts}
use Rattle.message_bytes.specs.Encoding.{encode_message}
use Rattle.buffer.specs.Word.{encode_word, number_at}
use Rattle.message_term.specs.Bound.{encode_entry, encode_bound, Begins, Found}
use Rattle.message_bytes.proofs.Laws.Encoding.{length_encode}
use Rattle.message_bytes.proofs.Laws.Traverse.{first_node}
use Rattle.buffer.proofs.Laws.Word.{word_number, word_end}

-- Where bound messages stand at the front, the traversal of the first i of them has come to this position.
pub record Passed (b : List ℕ) (i at : ℕ) : Type 0 where
  pub there : (ρ : Bound) {end : ℕ} → Stands b 0 (encode_bound ρ) end → i ≤ length ρ → Stands b at (encode_bound (drop i ρ)) end

-- The entry of the first of bound messages, and the others after it.
pub first_entry : {s : List ℕ} {at end : ℕ} (m : Message) (ρ : Bound) → Stands s at (encode_bound (m ∷ ρ)) end
    → (number_at s at ≡ nodes m) × Stands s (at + 2) (encode_message m) (at + 2 + 2 * nodes m)
    × Stands s (at + 2 + 2 * nodes m) (encode_bound ρ) end
unfolding encode_bound
first_entry {at} m ρ p =
    let (mid, h, (last, x, rest)) = parts (encode_word (nodes m)) (encode_message m ∷ encode_bound ρ ∷ []) p in
    let second : mid ≡ at + 2 = word_end (nodes m) h in
    let third : last ≡ at + 2 + 2 * nodes m = x.size ∙ rw (second, length_encode m) in
    (word_number (nodes m) h, rw (second, third) at x, rw third at rest)

pub bound_append : (ρ σ : Bound) → encode_bound (ρ ++ σ) ≡ encode_bound ρ ++ encode_bound σ
unfolding encode_bound
bound_append [] σ = refl
bound_append (m ∷ ρ) σ = ap (λ l. encode_entry m ++ l) (bound_append ρ σ) ∙ sym (append_assoc (encode_entry m) (encode_bound ρ) (encode_bound σ))

-- The bound messages from variable k on.
pub from_variable : {s : List ℕ} {at end : ℕ} (ρ : Bound) (k : ℕ) → Stands s at (encode_bound ρ) end
    → Stands s (at + length (encode_bound (take k ρ))) (encode_bound (drop k ρ)) end
from_variable {at} {end} ρ k p =
    let whole : encode_bound ρ ≡ encode_bound (take k ρ) ++ encode_bound (drop k ρ) =
    sym (ap encode_bound (take-append-drop k ρ)) ∙ bound_append (take k ρ) (drop k ρ) in
    let (mid, before, after) = parts (encode_bound (take k ρ)) (encode_bound (drop k ρ) ∷ []) (rw whole at p) in
    rw before.size at after

-- Its own entry, and how far the next one lies.
pub entry_of : {s : List ℕ} {end : ℕ} (ρ : Bound) (k : ℕ) (d : Message) {at : ℕ} → k < length ρ
    → Stands s at (encode_bound (drop k ρ)) end
    → (number_at s at ≡ nodes (get_or ρ k d)) × Stands s (at + 2) (encode_message (get_or ρ k d)) (at + 2 + 2 * nodes (get_or ρ k d))
    × Stands s (at + 2 + 2 * nodes (get_or ρ k d)) (encode_bound (drop (suc k) ρ)) end
entry_of ρ k d h p = first_entry (get_or ρ k d) (drop (suc k) ρ) (rw (drop-cons ρ k d h) at p)

module _ {b : List ℕ} where
  pub begins : Passed b 0 0
  begins = record { there = λ ρ p h. p }

  -- One entry further.
  pub passed : {i at v : ℕ} → Passed b i at → v ≡ number_at b at → Passed b (i + 1) (at + 2 + 2 * v)
  passed {i} w e = record {
    there = λ ρ p h.
        let (n, x, rest) = entry_of ρ i (leaf (public 0)) (omega arith) (w.there ρ p (omega arith)) in
        rw (e, n, add-one) rest;
  }

  pub found : {i k at : ℕ} → Passed b i at → k ≤ i → i ≤ k → Begins b k at
  found {i} {k} w h l =
      let same : i ≡ k = omega arith in
      record {
        there = λ ρ p g. omega (arith, (rw same at (w.there ρ p (omega arith))).size, (from_variable ρ k p).size);
      }

  -- Where the slice has no further entry, it has no variable k.
  pub not_there : {i k at : ℕ} → Passed b i at → i < k → length b < at + 2 → Begins b k at
  not_there {i} w l h = record {
    there = λ ρ p g. absurd (
        let (n, x, rest) = entry_of ρ i (leaf (public 0)) (omega arith) (w.there ρ p (omega arith)) in
        omega (arith, first_node (get_or ρ i (leaf (public 0))) x)
        );
  }

  -- The message of variable k, by the number that stands where its entry begins.
  at_entry : {k at : ℕ} → Begins b k at → (ρ : Bound) {end : ℕ} → Stands b 0 (encode_bound ρ) end → k < length ρ
      → (number_at b at ≡ nodes (get_or ρ k (leaf (public 0))))
      × Stands b (at + 2) (encode_message (get_or ρ k (leaf (public 0)))) (at + 2 + 2 * nodes (get_or ρ k (leaf (public 0))))
  at_entry {k} {at} w ρ p h =
      let here : at ≡ 0 + length (encode_bound (take k ρ)) = omega (arith, w.there ρ p h) in
      let (n, x, rest) = entry_of ρ k (leaf (public 0)) h (rw (← here) at (from_variable ρ k p)) in (n, x)

  pub run_found : {k at v : ℕ} → Begins b k at → v ≡ number_at b at → Found b k (at + 2) (at + 2 + 2 * v)
  run_found {k} {at} {v} w e = record { there = λ ρ p h. let (n, x) = at_entry w ρ p h in rw (e, n) x }

  ends_within : (m : Message) {at end : ℕ} → Stands b at (encode_message m) end → end ≤ length b
  ends_within m {at} {end} p =
      omega (arith, p.size, first_node m p, length-drop at b, ap length p.bytes, length-append (encode_message m) (drop end b))

  -- Where the slice ends before the number or before the message, there is no variable k.
  pub no_number : {k at : ℕ} → Begins b k at → length b < at + 2 → Found b k 0 0
  no_number w l = record {
    there = λ ρ p h. absurd (let (n, x) = at_entry w ρ p h in omega (arith, first_node _ x));
  }

  pub no_message : {k at v : ℕ} → Begins b k at → v ≡ number_at b at → length b < at + 2 + 2 * v → Found b k 0 0
  no_message {k} w e l = record {
    there = λ ρ p h. absurd (
        let y = get_or ρ k (leaf (public 0)) in
        let (n, x) = at_entry w ρ p h in
        omega (arith, n, ends_within y x)
        );
  }

pub ruleset entries = (begins, passed, found, not_there)

pub ruleset lookups = (run_found, no_number, no_message)
