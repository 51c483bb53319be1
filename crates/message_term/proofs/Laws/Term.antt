-- A term that stands at a position, by its kind ("Bytes", the term kinds).
use mathlib.Core.Path.{◌≡◌, sym}
use mathlib.Core.List.{List, [], ◌∷◌}
use Prim.Native.Nat.{ℕ, ◌+◌, ◌-◌, ◌≤◌, ◌<◌}
use native.Mathlib.Omega.{arith}
use lib.ListN.{length, get_or}
use Rattle.meaning.specs.Messages.Term.{Side, Binary, side_kind, binary_kind, Term, leaf, proj, binary, name, variable}
use Rattle.meaning.specs.Bytes.Scope.{largest_name}
use Rattle.meaning.specs.Bytes.Encoding.{encode_number, encode_term}
use Rattle.meaning.specs.Bytes.Standing.{Stands}
use Rattle.meaning.proofs.Bytes.Reading.Place.{parts}
use Rattle.decode_layout.proofs.Laws.Standing.{first_byte, goes_on}
use Rattle.message_term.specs.Work.{TermAt}

module _ {s : List ℕ} {at left scope next : ℕ} where
  -- A kind stands first.
  pub term_kind : (t : Term) → TermAt s at left scope t next → (at < length s) × (1 ≤ left)
  unfolding encode_term
  term_kind (leaf (name n)) p = (goes_on p.stands, p.deep)
  term_kind (leaf (variable k)) p = (goes_on p.stands, p.deep)
  term_kind (proj t u) p = (goes_on p.stands, omega (arith, p.deep))
  term_kind (binary b u v) p = (goes_on p.stands, omega (arith, p.deep))

  -- The number of a name or a variable.
  pub of_name : (n : ℕ) → TermAt s at left scope (leaf (name n)) next
      → (get_or s at 0 ≡ 0) × (n ≤ largest_name) × Stands s (at + 1) (encode_number n) next
  unfolding encode_term
  of_name n p =
      let (mid, k, q) = parts (0 ∷ []) (encode_number n ∷ []) p.stands in
      (sym (first_byte p.stands), p.scoped, rw k.size at q)

  pub of_variable : (n : ℕ) → TermAt s at left scope (leaf (variable n)) next
      → (get_or s at 0 ≡ 1) × (n < scope) × Stands s (at + 1) (encode_number n) next
  unfolding encode_term
  of_variable n p =
      let (mid, k, q) = parts (1 ∷ []) (encode_number n ∷ []) p.stands in
      (sym (first_byte p.stands), p.scoped, rw k.size at q)

  -- The parts of a projection and of a node of two parts.
  pub of_proj : (t : Side) (u : Term) → TermAt s at left scope (proj t u) next
      → (get_or s at 0 ≡ side_kind t) × TermAt s (at + 1) (left - 1) scope u next
  unfolding encode_term
  of_proj t u p =
      let (mid, k, q) = parts (side_kind t ∷ []) (encode_term u ∷ []) p.stands in
      (sym (first_byte p.stands), record { stands = rw k.size at q; deep = omega (arith, p.deep); scoped = p.scoped })

  pub of_binary : (b : Binary) (u v : Term) → TermAt s at left scope (binary b u v) next
      → (get_or s at 0 ≡ binary_kind b) × ((mid : ℕ) × TermAt s (at + 1) (left - 1) scope u mid × TermAt s mid (left - 1) scope v next)
  unfolding encode_term
  of_binary b u v p =
      let (first, k, (mid, q, r)) = parts (binary_kind b ∷ []) (encode_term u ∷ encode_term v ∷ []) p.stands in (
        sym (first_byte p.stands),
        (
          mid,
          record { stands = rw k.size at q; deep = omega (arith, p.deep); scoped = p.scoped.0 },
          record { stands = r; deep = omega (arith, p.deep); scoped = p.scoped.1 },
        ),
      )
