-- The normal form of a message in a lent buffer, and the limit of 255 nodes ("Messages"; "Judging and its count").
use Rattle.std.specs.Prelude.{None}
use mathlib.Core.Path.{◌≡◌, sym, ◌∙◌}
use mathlib.Core.Bool.{true≢false}
use mathlib.Core.List.{List, ◌++◌}
use Prim.Native.Nat.{ℕ, ◌+◌, ◌-◌, ◌*◌, ◌≤◌, ◌<◌}
use native.Mathlib.Omega.{arith}
use borrow.Author.Tests.{lt-ltb, le-ltb}
use lib.ListN.{length, take, drop, length-drop}
use lib.Seq.{length-take-le}
use Rattle.meaning.specs.Messages.Term.{Message}
use Rattle.meaning.specs.Messages.Normal.{normal, size}
use Rattle.meaning.specs.Bytes.Standing.{Stands}
use Rattle.message_bytes.specs.Encoding.{encode_message}
use Rattle.message_normal.specs.Normal.{PartsNormal, first_end, Normalised}
use Rattle.buffer.specs.Buffer.{Within}
use Rattle.message_term.specs.Work.{answer_of, done}
use Rattle.message_term.specs.Inner.{Reduced}
use Rattle.message_bytes.proofs.Laws.Encoding.{length_encode}
use Rattle.buffer.proofs.Laws.Buffer.{part, back_within, back_stands}

module _ {ys : List ℕ} (before : List ℕ) (start mid end : ℕ) {count : ℕ}
    (n : Normalised (take (end - start) (drop start before)) (mid - start) count ys) where
  -- What the part that came back begins with.
  its_normal : (x : Message) → PartsNormal x → Stands before start (encode_message x) end → mid ≡ start + first_end x
      → Stands ys 0 (encode_message (normal x)) (2 * size x) × (count ≡ 2 * size x)
  its_normal x p q f =
      let s = n.there x p (part q) (omega arith) in
      let size : count ≡ 2 * size x = omega (arith, s.size, length_encode (normal x)) in
      (rw size at s, size)

  pub reduced_large : {next : ℕ} {after : List ℕ} → 510 < count → Reduced before start mid end next None after
  unfolding answer_of
  reduced_large l = record {
    answer = λ x p q f. let (s, c) = its_normal x p q f in rw (lt-ltb 255 (size x) (omega arith));
    run = λ x p q f o. let (s, c) = its_normal x p q f in absurd (true≢false (sym (lt-ltb 255 (size x) (omega arith)) ∙ o));
  }

  module _ {after : List ℕ} (l : length ys ≡ length (take (end - start) (drop start before)))
      (h : (start ≤ mid) × (mid ≤ end) × (end ≤ length before))
      (e : after ≡ take start before ++ (ys ++ drop (end - start) (drop start before))) where
    as_long : length ys ≡ end - start
    as_long = l ∙ length-take-le (end - start) (drop start before) (rw length-drop (omega arith))

    pub reduced : {next : ℕ} → count ≤ 510 → Reduced before start mid end next (done next (start + count)) after
    unfolding answer_of
    reduced c = record {
      answer = λ x p q f. let (s, g) = its_normal x p q f in rw (le-ltb 255 (size x) (omega arith), g);
      run = λ x p q f o.
          let (s, g) = its_normal x p q f in back_stands before start ys end e as_long (omega arith) (omega arith) s;
    }

    pub reduced_within : Within start end before after
    reduced_within = back_within before start ys end e as_long (omega arith) (omega arith)

pub ruleset reductions = (reduced_large, reduced, reduced_within)
