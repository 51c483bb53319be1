-- Bytes in a lent buffer: what stands where after a part of it was written, and what is as it was.
use mathlib.Core.Path.{◌≡◌, refl, sym, ◌∙◌, ap}
use mathlib.Core.List.{List, [], ◌∷◌, ◌++◌, append_assoc}
use Prim.Native.Nat.{ℕ, zero, suc, ◌+◌, ◌-◌, ◌/◌, ◌%◌, ◌≤◌}
use native.Mathlib.Nat.{zero-add, suc-add}
use native.Mathlib.Numerals.{add-one}
use native.Mathlib.Omega.{arith}
use lib.ListN.{length, take, drop, set, length-append, length-drop, take-append-drop}
use lib.Seq.{take-nil, take-take, drop-drop, take_at, drop_at, take-append_seam, length-take-le, take-length, sets-eq, paste}
use Rattle.meaning.specs.Bytes.Standing.{Stands}
use Rattle.meaning.proofs.Bytes.Reading.Place.{stands, whole-stands}
use Rattle.buffer.specs.Word.{encode_word}
use Rattle.buffer.specs.Buffer.{Within}

-- A part of a list, cut at its end first.
window : (l : List ℕ) (at n : ℕ) → take n (drop at l) ≡ drop at (take (at + n) l)
window l zero n = rw zero-add
window [] (suc at) n = take-nil n ∙ rw take-nil
window (x ∷ l) (suc at) n = rw suc-add (window l at n)

-- What stands at a position is the part that it takes, and the other way round.
pub seen : {s xs : List ℕ} {at end : ℕ} → Stands s at xs end → take (length xs) (drop at s) ≡ xs
seen {s} {xs} {at} {end} p = rw p.bytes (take-append_seam xs (drop end s))

pub shown : (s : List ℕ) (at : ℕ) (xs : List ℕ) (end : ℕ) → take (length xs) (drop at s) ≡ xs → end ≡ at + length xs → Stands s at xs end
shown s at xs end e f = record {
  bytes = sym (take-append-drop (length xs) (drop at s)) ∙ rw (e, drop-drop, f);
  size = f;
}

-- What stands below a position is still there if the bytes below it are.
pub kept : {s t xs : List ℕ} {at end low : ℕ} → Stands s at xs end → end ≤ low → take low t ≡ take low s → Stands t at xs end
kept {s} {t} {xs} {at} {end} {low} p h e =
    let short : at + length xs ≤ low = omega (arith, p.size) in
    let same : take (length xs) (drop at t) ≡ take (length xs) (drop at s) =
    rw (window t at (length xs), window s at (length xs), ← take-take (at + length xs) low t, ← take-take (at + length xs) low s, e) in
    shown t at xs end (same ∙ seen p) p.size

-- What stands above a position is still there if the bytes above it are.
pub kept_above : {s t xs : List ℕ} {at end high : ℕ} → Stands s at xs end → high ≤ at → drop high t ≡ drop high s → Stands t at xs end
kept_above {s} {t} {xs} {at} {high} p h e =
    let on : at ≡ high + (at - high) = omega arith in
    shown t at xs _ (rw (on, ← drop-drop (at - high) high t, e, drop-drop (at - high) high s, ← on) (seen p)) p.size

-- What stands in a slice stands in each part of it that is lent, and is that part if it takes all of it.
pub lent : {s xs : List ℕ} {at end last : ℕ} → Stands s at xs end → end ≤ last → Stands (take (last - at) (drop at s)) 0 xs (end - at)
lent {s} {xs} {at} {end} {last} p h =
    let short : length xs ≤ last - at = omega (arith, p.size) in
    let size : end - at ≡ 0 + length xs = omega (arith, p.size) in
    shown (take (last - at) (drop at s)) 0 xs (end - at) (rw (take-take (length xs) (last - at) (drop at s) short) (seen p)) size

pub unlent : {s xs : List ℕ} {i j : ℕ} (at n : ℕ) → Stands (take n (drop at s)) i xs j → j ≤ n → Stands s (at + i) xs (at + j)
unlent {s} {xs} {i} {j} at n p h =
    let short : i + length xs ≤ n = omega (arith, p.size) in
    let same : take (length xs) (drop i (drop at s)) ≡ take (length xs) (drop i (take n (drop at s))) =
    rw (window (drop at s) i (length xs), window (take n (drop at s)) i (length xs), take-take (i + length xs) n (drop at s) short) in
    shown s (at + i) xs (at + j) (rw (← drop-drop i at s) (same ∙ seen p)) (omega (arith, p.size))

pub part : {s xs : List ℕ} {at end : ℕ} → Stands s at xs end → take (end - at) (drop at s) ≡ xs
part {s} {xs} {at} {end} p = let size : end - at ≡ length xs = omega (arith, p.size) in rw size (seen p)

-- A list with the bytes ys in the place of those from a position on.
abbrev pub splice : List ℕ → ℕ → List ℕ → List ℕ
splice s at ys = take at s ++ ys ++ drop (at + length ys) s

module _ (s : List ℕ) (at : ℕ) (ys : List ℕ) (fits : at + length ys ≤ length s) where
  front : length (take at s) ≡ at
  front = length-take-le at s (omega arith)

  after_front : drop at (splice s at ys) ≡ ys ++ drop (at + length ys) s
  after_front = rw append_assoc (drop_at (take at s) (ys ++ drop (at + length ys) s) at front)

  pub splice_stands : {xs : List ℕ} {end : ℕ} → Stands ys 0 xs end → Stands (splice s at ys) at xs (at + end)
  splice_stands {xs} {end} p =
      let size : at + end ≡ at + length xs = omega (arith, p.size) in
      rw size (
      stands (splice s at ys) at xs (drop end ys ++ drop (at + length ys) s)
      (after_front ∙ ap (λ l. l ++ drop (at + length ys) s) p.bytes ∙ append_assoc xs (drop end ys) (drop (at + length ys) s))
      )

  pub splice_within : Within at (at + length ys) s (splice s at ys)
  splice_within = record {
    long = simp (length-append, length-drop) (omega (arith, front));
    below = rw append_assoc (take_at (take at s) (ys ++ drop (at + length ys) s) at front);
    above = drop_at (take at s ++ ys) (drop (at + length ys) s) (at + length ys) (simp length-append (omega (arith, front)));
  }

-- What the code writes is such a list: a node's number, a copy, another slice, and a part that was lent and came back.
module _ (s : List ℕ) (at : ℕ) {t : List ℕ} where
  spliced_within : {high : ℕ} (ys : List ℕ) → t ≡ splice s at ys → at + length ys ≡ high → high ≤ length s → Within at high s t
  spliced_within ys e f h = rw (e, ← f) (splice_within s at ys (omega arith))

  spliced_stands : {xs : List ℕ} {end : ℕ} (ys : List ℕ) → t ≡ splice s at ys → at + length ys ≤ length s → Stands ys 0 xs end
      → Stands t at xs (at + end)
  spliced_stands ys e h p = rw e (splice_stands s at ys h p)

  module _ (v : ℕ) (e : t ≡ set (set s at (v % 256)) (at + 1) (v / 256)) (h : at + 2 ≤ length s) where
    as_spliced : t ≡ splice s at (encode_word v)
    unfolding encode_word
    as_spliced = e ∙ rw add-one (sets-eq (v % 256 ∷ v / 256 ∷ []) s at (omega arith))

    pub node_within : Within at (at + 2) s t
    unfolding encode_word
    node_within = spliced_within (encode_word v) as_spliced refl h

    pub node_stands : Stands t at (encode_word v) (at + 2)
    unfolding encode_word
    node_stands = spliced_stands (encode_word v) as_spliced h (whole-stands (encode_word v))

  module _ (from n : ℕ) (e : t ≡ paste s at (drop from s) n) (h : at + n ≤ length s) (l : from + n ≤ length s) where
    pub copy_within : Within at (at + n) s t
    copy_within =
        let size : length (take n (drop from s)) ≡ n = length-take-le n (drop from s) (rw length-drop (omega arith)) in
        spliced_within (take n (drop from s)) (e ∙ rw size) (rw size) h

    pub copy_stands : {xs : List ℕ} → Stands s from xs (from + n) → Stands t at xs (at + n)
    copy_stands {xs} p =
        let size : n ≡ length xs = omega (arith, p.size) in
        let same : t ≡ splice s at xs = e ∙ rw (size, seen p) in
        rw size (spliced_stands xs same (omega arith) (whole-stands xs))

  module _ (ys : List ℕ) (e : t ≡ paste s at ys (length ys)) (h : at + length ys ≤ length s) where
    pub put_within : Within at (at + length ys) s t
    put_within = spliced_within ys (e ∙ rw take-length) refl h

    pub put_stands : Stands t at ys (at + length ys)
    put_stands = spliced_stands ys (e ∙ rw take-length) h (whole-stands ys)

  module _ (ys : List ℕ) (end : ℕ) (e : t ≡ take at s ++ (ys ++ drop (end - at) (drop at s))) (f : length ys ≡ end - at)
      (l : at ≤ end) (h : end ≤ length s) where
    back : t ≡ splice s at ys
    back = e ∙ rw (drop-drop, ← f, append_assoc)

    pub back_within : Within at end s t
    back_within = spliced_within ys back (omega arith) h

    pub back_stands : {xs : List ℕ} {last : ℕ} → Stands ys 0 xs last → Stands t at xs (at + last)
    back_stands p = spliced_stands ys back (omega arith) p

-- One call after another.
pub one_after : {s t u : List ℕ} {low high low₁ high₁ low₂ high₂ : ℕ} → Within low₁ high₁ s t → Within low₂ high₂ t u
    → low ≤ low₁ → low ≤ low₂ → high₁ ≤ high → high₂ ≤ high → Within low high s u
one_after {s} {t} {u} {low} {high} p q l₁ l₂ h₁ h₂ = record {
  long = q.long ∙ p.long;
  below = lower q l₂ ∙ lower p l₁;
  above = higher q h₂ ∙ higher p h₁;
}
  where
    lower : {a b : List ℕ} {l h : ℕ} → Within l h a b → low ≤ l → take low b ≡ take low a
    lower {a} {b} {l} w le = rw (← take-take low l b le, ← take-take low l a le, w.below)

    higher : {a b : List ℕ} {l h : ℕ} → Within l h a b → h ≤ high → drop high b ≡ drop high a
    higher {a} {b} {h} w le =
        let sum : high ≡ h + (high - h) = omega arith in
        rw (sum, ← drop-drop (high - h) h b, ← drop-drop (high - h) h a, w.above)

pub unchanged : {s : List ℕ} {low high : ℕ} → Within low high s s
unchanged = record { long = refl; below = refl; above = refl }

pub wider : {s t : List ℕ} {low high low₁ high₁ : ℕ} → Within low₁ high₁ s t → low ≤ low₁ → high₁ ≤ high → Within low high s t
wider {low} {high} p l h = one_after p (unchanged {low = low} {high = high}) l (omega arith) h (omega arith)
