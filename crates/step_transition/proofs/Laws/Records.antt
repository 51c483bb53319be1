-- Threads of a state by how many stand before them, and by where their records stand ("Steps").
use mathlib.Core.Path.{◌≡◌, refl, sym, ap, ap₂}
use mathlib.Core.List.{List, [], ◌∷◌, ◌++◌}
use Prim.Native.Nat.{ℕ, ◌+◌, ◌<◌, ◌≤◌}
use native.Mathlib.Omega.{arith}
use lib.ListN.{length, length-append}
use Rattle.buffer.specs.Word.{encode_word}
use Rattle.message_term.specs.Bound.{encode_bound}
use Rattle.state_record.specs.Record.{Placed, bound_of, encode_record, encode_records}
use Rattle.step_transition.specs.Focus.{Focus, record_at}

-- A list begins with ls and with ms.
module _ {A : Type 0} where
  pub first_same : {x y : A} {xs ys : List A} → x ∷ xs ≡ y ∷ ys → (x ≡ y) × (xs ≡ ys)
  first_same e = (cc, cc)

  same_front : (ls ms : List A) {xs ys : List A} → ls ++ xs ≡ ms ++ ys → length ls ≡ length ms → (ls ≡ ms) × (xs ≡ ys)
  same_front [] [] e l = (refl, e)
  same_front [] (b ∷ ms) e l = absurd (omega arith)
  same_front (a ∷ ls) [] e l = absurd (omega arith)
  same_front (a ∷ ls) (b ∷ ms) e l =
      let (f, rest) = first_same e in
      let (g, h) = same_front ls ms rest (omega arith) in
      (ap₂ ◌∷◌ f g, h)

-- A record takes four bytes, and more.
pub record_long : (t : Placed) → 4 ≤ length (encode_record t)
unfolding encode_word
record_long t = let bound = encode_bound (bound_of t.thread) in omega arith

-- The records of more threads take more bytes.
longer_front : (ls ms xs ys : List Placed) → ls ++ xs ≡ ms ++ ys → length ls < length ms
    → length (encode_records ls) < length (encode_records ms)
unfolding encode_records
longer_front ls [] xs ys e l = absurd (omega arith)
longer_front [] (b ∷ ms) xs ys e l = omega (arith, record_long b, length-append (encode_record b) (encode_records ms))
longer_front (a ∷ ls) (b ∷ ms) xs ys e l =
    let (f, rest) = first_same e in
    let size = ap (λ t. length (encode_record t)) f in
    omega (
      arith,
      size,
      longer_front ls ms xs ys rest (omega arith),
      length-append (encode_record a) (encode_records ls),
      length-append (encode_record b) (encode_records ms),
    )

-- One thread after others.
pub records_further : (ls : List Placed) (t : Placed)
    → length (encode_records (ls ++ (t ∷ []))) ≡ length (encode_records ls) + length (encode_record t)
unfolding encode_records
records_further [] t = omega (arith, length-append (encode_record t) [])
records_further (l ∷ ls) t =
    omega (
      arith,
      records_further ls t,
      length-append (encode_record l) (encode_records (ls ++ (t ∷ []))),
      length-append (encode_record l) (encode_records ls),
    )

-- The list that a focus is one of.
abbrev pub whole : Focus → List Placed
whole p = p.before ++ (p.thread ∷ p.behind)

-- Two focuses of one list are the same, or their records stand at different positions.
module _ (start : ℕ) (p q : Focus) (e : whole p ≡ whole q) where
  pub same_record : length p.before ≡ length q.before → (record_at start p ≡ record_at start q) × (p.thread ≡ q.thread)
  same_record l =
      let (f, rest) = same_front p.before q.before e l in
      (ap (λ ls. start + length (encode_records ls)) f, (first_same rest).0)

  pub other_record : (length p.before ≡ length q.before → ⊥) → record_at start p ≡ record_at start q → ⊥
  other_record f r = by_order
    where
      less : length p.before < length q.before → ⊥
      less l = omega (arith, longer_front p.before q.before (p.thread ∷ p.behind) (q.thread ∷ q.behind) e l)

      more : length q.before < length p.before → ⊥
      more l = omega (arith, longer_front q.before p.before (q.thread ∷ q.behind) (p.thread ∷ p.behind) (sym e) l)

      by_order : ⊥
      by_order = f (omega (arith, less, more))
