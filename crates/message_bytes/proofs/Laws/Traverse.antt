-- The size of a message, found by a traversal from node to node ("Messages"): each node is counted, and its parts are still to come.
use mathlib.Core.Path.{◌≡◌, refl, sym, ap, ◌∙◌}
use mathlib.Core.Bool.{Bool, true, ◌&&◌}
use mathlib.Core.List.{List, [], ◌∷◌, ◌++◌, append_assoc, append-nil}
use Prim.Native.Nat.{ℕ, zero, suc, ◌+◌, ◌-◌, ◌*◌, ◌≤◌, ◌<◌}
use native.Mathlib.Omega.{arith}
use lib.Dec.{T, leb, leb→le}
use lib.Ieee.Fits.{and_l, and_r}
use lib.ListN.{length, get_or, drop, length-append, length-drop}
use Rattle.meaning.specs.Messages.Term.{Side, Binary, side_kind, binary_kind, Message, leaf, proj, binary, nodes}
use Rattle.meaning.specs.Bytes.Standing.{Stands}
use Rattle.meaning.proofs.Bytes.Reading.Place.{parts, ◌⨾◌}
use Rattle.decode_layout.specs.Ends.{row, InRow}
use Rattle.decode_layout.proofs.Laws.Standing.{Traversed, alone, starts, done, row_append}
use Rattle.message_bytes.specs.Encoding.{encode_message, node_parts, parts_of}
use Rattle.buffer.specs.Word.{encode_word, number_at}
use Rattle.message_bytes.specs.Run.{SizeOf}
use Rattle.message_bytes.proofs.Laws.Encoding.{length_encode, head_number, inner, head_parts}
use Rattle.buffer.proofs.Laws.Word.{word_number, word_end}

pub shape : (m : Message) → encode_message m ≡ encode_word (head_number m) ++ row encode_message (inner m)
unfolding encode_message
shape (leaf a) = sym (append-nil _)
shape (proj s m) = rw append-nil
shape (binary b m n) = rw (append-nil, append_assoc)

-- The number of a message's first node, and its parts, where the message stands.
pub head-number : {s : List ℕ} {at end : ℕ} (m : Message) → Stands s at (encode_message m) end → number_at s at ≡ head_number m
head-number m p =
    let (mid, k, rest) = parts (encode_word (head_number m)) (_ ∷ []) (rw (shape m) at p) in word_number (head_number m) k

pub one_part : {s : List ℕ} {at end : ℕ} (t : Side) (m : Message) → Stands s at (encode_message (proj t m)) end
    → Stands s (at + 2) (encode_message m) end
unfolding encode_message
one_part t m p =
    let (mid, h, q) = parts (encode_word (side_kind t)) (encode_message m ∷ []) p in rw (word_end (side_kind t) h) at q

pub two_parts : {s : List ℕ} {at end : ℕ} (b : Binary) (m n : Message) → Stands s at (encode_message (binary b m n)) end
    → Stands s (at + 2) (encode_message m) (at + 2 + 2 * nodes m) × Stands s (at + 2 + 2 * nodes m) (encode_message n) end
unfolding encode_message
two_parts {at} b m n p =
    let (mid, h, (last, q, r)) = parts (encode_word (binary_kind b)) (encode_message m ∷ encode_message n ∷ []) p in
    let second : mid ≡ at + 2 = word_end (binary_kind b) h in
    let third : last ≡ at + 2 + 2 * nodes m = q.size ∙ rw (second, length_encode m) in
    (rw (second, third) at q, rw third at r)

-- A message has a node at least.
pub some_node : (m : Message) → 1 ≤ nodes m
some_node (leaf a) = omega arith
some_node (proj t m) = omega arith
some_node (binary b m n) = omega arith

module _ {s : List ℕ} where
  pub first_node : (m : Message) {at end : ℕ} → Stands s at (encode_message m) end → at + 2 ≤ length s
  first_node m {at} {end} p =
      let more = some_node m in
      omega (arith, length_encode m, length-drop at s, ap length p.bytes, length-append (encode_message m) (drop end s))

  -- The first message of a row gives way to its parts.
  next : {i left end : ℕ} (xs : List Message) → length xs ≡ left → Stands s i (row encode_message xs) end → 0 < left
      → InRow encode_message s (i + 2) (left - 1 + parts_of (number_at s i)) end
  next [] m p h = absurd (omega arith)
  next {i} {left} {end} (x ∷ xs) m p h =
      let (mid, k, (last, t, rest)) =
      parts (encode_word (head_number x)) (row encode_message (inner x) ∷ row encode_message xs ∷ []) (rw (shape x) at p) in
      record {
        trees = inner x ++ xs;
        many = rw (word_number (head_number x) k) (omega (arith, length-append (inner x) xs, head_parts x));
        there = rw (row_append, ← word_end (head_number x) k) (t ⨾ rest);
      }

  -- One turn of the traversal.
  pub counted : {at count left v p : ℕ} (n : ℕ) → Traversed encode_message s at count (2 * n) left → 0 < left → v ≡ number_at s (2 * n)
      → p ≡ parts_of v → Traversed encode_message s at count (2 * (n + 1)) (left - 1 + p)
  counted n w h e f =
      let on : 2 * (n + 1) ≡ 2 * n + 2 = omega arith in
      rw (on, f, e) (record { same = λ p. let q = w.same p in next q.trees q.many q.there h })

  -- Where it ends: no part is left, or the slice has no further node and so no such message.
  pub size_found : {left : ℕ} (n : ℕ) → Traversed encode_message s 0 1 (2 * n) left → left ≤ 0 → SizeOf s n
  size_found n w h = record { same = λ x p. omega (arith, (alone (done w h)).same x p, p.size, length_encode x) }

  pub no_size : {left : ℕ} (n : ℕ) → Traversed encode_message s 0 1 (2 * n) left → 0 < left → length s < 2 * n + 2 → SizeOf s n
  no_size {left} n w h l = record {
    same = λ x {end} p. absurd (
        let q = w.same {end = end} (record { trees = x ∷ []; many = refl; there = rw append-nil p }) in
        none q.trees q.many q.there
        );
  }
    where
      none : {end : ℕ} (xs : List Message) → length xs ≡ left → Stands s (2 * n) (row encode_message xs) end → ⊥
      none [] m p = omega arith
      none (x ∷ xs) m p =
          let (mid, k, rest) = parts (encode_message x) (row encode_message xs ∷ []) p in omega (arith, first_node x k)

-- No node has more than two parts.
abbrev few : List ℕ → Bool
few [] = true
few (n ∷ table) = leb n 2 && few table

few_at : (table : List ℕ) → T (few table) → (v : ℕ) → get_or table v 0 ≤ 2
few_at [] t v = omega arith
few_at (n ∷ table) t zero = leb→le n 2 (search and_l)
few_at (n ∷ table) t (suc v) = few_at table (search and_r) v

pub two_at_most : (v : ℕ) {p : ℕ} → p ≡ parts_of v → p ≤ 2
unfolding parts_of
two_at_most v e = rw e (few_at node_parts tt v)

pub ruleset sizes = (starts, counted, size_found, no_size)
