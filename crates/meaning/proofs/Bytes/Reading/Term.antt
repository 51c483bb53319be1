-- Terms ("Bytes"): what is read stands there, in scope and within the nesting limit (sound), and all that does so is read
-- (complete).
use mathlib.Core.Path.{◌≡◌, refl}
use mathlib.Core.List.{List, [], ◌∷◌}
use mathlib.Core.Option.{some}
use Prim.Native.Nat.{ℕ, zero, suc, ◌≤◌, ◌<◌}
use native.Mathlib.Omega.{arith}
use lib.Dec.{leb, ltb, leb→le, ltb→lt, le→leb, lt→ltb}
use lib.ListN.{get_elem?}
use Rattle.meaning.specs.Messages.Term.{Side, fst, snd, enc, dec, Binary, pair, cipher, mac, side_kind, binary_kind}
use Rattle.meaning.specs.Messages.Term.{Term, leaf, proj, binary, name, variable}
use Rattle.meaning.specs.Bytes.Encoding.{encode_number, encode_term}
use Rattle.meaning.specs.Bytes.Scope.{largest_name, TermScoped}
use Rattle.meaning.specs.Bytes.Nesting.{term_depth}
use Rattle.meaning.specs.Bytes.Number.{found, and_then}
use Rattle.meaning.specs.Bytes.Kind.{TermKind, term_kinds}
use Rattle.meaning.specs.Bytes.Reading.{always, never, term_fields, term}
use Rattle.meaning.specs.Bytes.WellFormed.{Bytes}
use Rattle.meaning.specs.Bytes.Standing.{Stands}
use Rattle.meaning.proofs.Bytes.Reading.Place.{◌⨾◌, parts}
use Rattle.meaning.proofs.Bytes.Reader.{Only, holds, fails, and-then, by_provided, provided_found}
use Rattle.meaning.proofs.Bytes.Reading.Number.{number_sound, number_complete}
use Rattle.meaning.proofs.Bytes.Reading.Kind.{term_code, term_table, kind_sound, kind_complete}

-- The bytes of the term stand there, it is in scope, and it has no more nodes on a path than are left.
abbrev pub TermAt : List ℕ → (left scope at : ℕ) → Term → (end : ℕ) → Type 0
TermAt s left scope at t end = Stands s at (encode_term t) end × TermScoped scope t × (term_depth t ≤ left)

module _ {s : List ℕ} (bytes : Bytes s) where
  -- The fields of each kind, with a sound reader of the parts.
  fields_sound : {left scope at mid : ℕ} → ((at : ℕ) → Only (TermAt s left scope at) (term left scope s at))
      → (k : TermKind) → Stands s at (term_code k ∷ []) mid
      → Only (TermAt s (suc left) scope at) (term_fields (term left scope s) scope s k mid)
  unfolding term_fields encode_term
  fields_sound part TermKind.name k =
      and-then (number_sound bytes _) λ n _ p.
      by_provided (leb n largest_name) _ _ _ _ (λ t. (k ⨾ p.0, leb→le n largest_name t, omega arith)) (λ t. tt)
  fields_sound {scope} part TermKind.variable k =
      and-then (number_sound bytes _) λ n _ p.
      by_provided (ltb n scope) _ _ _ _ (λ t. (k ⨾ p.0, ltb→lt n scope t, omega arith)) (λ t. tt)
  fields_sound part (TermKind.proj side) k = and-then (part _) λ t _ p. holds (k ⨾ p.0, p.1, omega arith)
  fields_sound part (TermKind.binary b) k =
      and-then (part _) λ t _ p. and-then (part _) λ u _ q. holds (k ⨾ p.0 ⨾ q.0, (p.1, q.1), omega arith)

  pub term_sound : (left scope at : ℕ) → Only (TermAt s left scope at) (term left scope s at)
  unfolding term
  term_sound zero scope at = and-then (kind_sound term_table never bytes at) λ k _ p. fails tt
  term_sound (suc left) scope at =
      and-then (kind_sound term_table always bytes at) λ k _ p. fields_sound (term_sound left scope) k p.0

-- The numbers of the kinds with parts are their places in the list.
side_listed : (side : Side) → get_elem? term_kinds (side_kind side) ≡ some (TermKind.proj side)
side_listed fst = refl
side_listed snd = refl

binary_listed : (b : Binary) → get_elem? term_kinds (binary_kind b) ≡ some (TermKind.binary b)
binary_listed pair = refl
binary_listed (cipher enc) = refl
binary_listed (cipher dec) = refl
binary_listed mac = refl

-- On some path of a term there is a node.
depth_positive : (t : Term) → 0 < term_depth t
depth_positive (leaf l) = omega arith
depth_positive (proj side t) = omega arith
depth_positive (binary b t u) = omega arith

-- A variable in so small a scope has a number of one byte, and a name has one of two at most.
pub term_complete : {s : List ℕ} (left scope : ℕ) → scope ≤ 16 → (t : Term) {at end : ℕ}
    → TermAt s left scope at t end → term left scope s at ≡ found t end
unfolding term term_fields encode_term and_then
term_complete zero scope small t h = absurd (omega (arith, depth_positive t))
term_complete (suc left) scope small (leaf (name n)) h =
    let (_, k, p) = parts (0 ∷ []) (encode_number n ∷ []) h.0 in
    rw (kind_complete term_table always TermKind.name refl tt k, number_complete n (omega arith) p)
    (provided_found (leb n largest_name) _ _ _ _ (le→leb n largest_name h.1))
term_complete (suc left) scope small (leaf (variable n)) h =
    let (_, k, p) = parts (1 ∷ []) (encode_number n ∷ []) h.0 in
    rw (kind_complete term_table always TermKind.variable refl tt k, number_complete n (omega arith) p)
    (provided_found (ltb n scope) _ _ _ _ (lt→ltb n scope h.1))
term_complete (suc left) scope small (proj side t) h =
    let (_, k, p) = parts (side_kind side ∷ []) (encode_term t ∷ []) h.0 in
    rw (
      kind_complete term_table always (TermKind.proj side) (side_listed side) tt k,
      term_complete left scope small t (p, h.1, omega arith),
    )
term_complete (suc left) scope small (binary b t u) h =
    let (_, k, (_, p, q)) = parts (binary_kind b ∷ []) (encode_term t ∷ encode_term u ∷ []) h.0 in
    rw (
      kind_complete term_table always (TermKind.binary b) (binary_listed b) tt k,
      term_complete left scope small t (p, h.1.0, omega arith),
      term_complete left scope small u (q, h.1.1, omega arith),
    )
