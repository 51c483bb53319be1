-- The layout of terms ("Bytes"): what `meaning` reads of a term, without the tree, is a head and parts.
use mathlib.Core.Path.{◌≡◌, refl}
use mathlib.Core.Bool.{Bool, true, false}
use mathlib.Core.List.{List}
use Prim.Native.Nat.compare
use Prim.Native.Nat.{ℕ, zero, suc, ◌-◌}
use native.Mathlib.Omega.{arith}
use lib.Dec.{T, leb, ltb}
use Rattle.meaning.specs.Messages.Term.{Side, fst, snd, enc, dec, Binary, pair, cipher, mac, name, variable, leaf as leaf_of}
use Rattle.meaning.specs.Bytes.Scope.{largest_name}
use Rattle.meaning.specs.Bytes.Kind.{TermKind, term_kinds}
use Rattle.meaning.specs.Bytes.Number.{Read, found, refused, and_then, provided, number}
use Rattle.meaning.specs.Bytes.Reading.{always, term_fields, term}
use Rattle.decode_number.specs.Answer.{Extent, extent}
use Rattle.decode_layout.specs.Layout.{parts, layout_of, term_layouts}
use Rattle.decode_number.specs.Bounded.{number_below}
use Rattle.decode_term.specs.Shape.{times, node, leaf, term_head}
use Rattle.decode_term.specs.Sort.{Nodes}
use Rattle.decode_term.specs.Path.{term_below}
use Rattle.decode_layout.proofs.Laws.Table.{two_at_most}
use Rattle.decode_term.proofs.Laws.Alike.{Alike, both_end, both_refused, same_extent, and_part}
use Rattle.decode_term.proofs.Laws.Rows.{◌also◌, complete, Rows, node_alike, too_deep}

-- The number of a name or a variable: what is built of it is not told.
number_tested : {A : Type 0} (test : Bool) (refusal at n end : ℕ) (a : A) → Alike (provided test refusal at a end)
    (and_then (extent (provided test refusal at n end)) (λ _ end. found (tt {0}) end))
unfolding and_then extent
number_tested true refusal at n end a = both_end
number_tested false refusal at n end a = both_refused

number_alike : {A : Type 0} (x : Read ℕ) (test other : ℕ → Bool) (refusal at : ℕ) (made : ℕ → A) → ((n : ℕ) → test n ≡ other n)
    → Alike (and_then x (λ n end. provided (test n) refusal at (made n) end))
    (and_then (extent (and_then x (λ n end. provided (other n) refusal at n end))) (λ _ end. found (tt {0}) end))
unfolding and_then extent
number_alike (found n end) test other refusal at made same = rw (← same n) (number_tested (test n) refusal at n end (made n))
number_alike (refused number place) test other refusal at made same = both_refused

up_to_largest : (n : ℕ) → leb n largest_name ≡ ltb n (suc largest_name)
up_to_largest n = rw (compare.suc-suc n largest_name)

-- Terms.
module _ (left scope : ℕ) (s : List ℕ) where
  one : (side : Side) → T true → (end : ℕ) → Alike (term_fields (term left scope s) scope s (TermKind.proj side) end)
      (times 1 (λ e. extent (term left scope s e)) end)
  unfolding term_fields times
  one side t end = and_part (term left scope s) 0 end λ a end. both_end

  two : (b : Binary) → T true → (end : ℕ) → Alike (term_fields (term left scope s) scope s (TermKind.binary b) end)
      (times 2 (λ e. extent (term left scope s e)) end)
  unfolding term_fields times
  two b t end = and_part (term left scope s) 1 end λ a end. and_part (term left scope s) 0 end λ a end. both_end

  term_rows : Rows always (λ k end. term_fields (term left scope s) scope s k end) term_kinds (λ k. true)
      (λ k end. and_then (leaf scope s k end)
      (λ _ end. times (parts (layout_of term_layouts k)) (λ e. extent (term left scope s e)) end))
  unfolding term_fields leaf number_below and_then times
  term_rows =
      (refl, λ t end. number_alike (number s end) _ _ 5 end (λ n. leaf_of (name n)) up_to_largest)
      also (
        refl,
        λ t end.
            number_alike (number s end) (λ n. ltb n scope) (λ n. ltb n scope) 6 end (λ n. leaf_of (variable n)) λ n. refl,
      )
      also (refl, two pair)
      also (refl, one fst)
      also (refl, one snd)
      also (refl, two (cipher enc))
      also (refl, two (cipher dec))
      also (refl, two mac)
      also complete

-- A term as a head and parts.
abbrev pub term_node : (left scope : ℕ) → List ℕ → (at : ℕ) → Extent
term_node left scope s at = node (term_head left scope s at) term_layouts (λ k e. extent (term (left - 1) scope s e))

pub term_layout : (left scope : ℕ) (s : List ℕ) (at : ℕ) → extent (term left scope s at) ≡ term_node left scope s at
unfolding term
term_layout zero scope s at = same_extent (too_deep _ term_kinds _ _ term_layouts _ s at)
term_layout (suc left) scope s at =
    let down : suc left - 1 ≡ left = omega arith in
    rw down (same_extent (node_alike always _ term_kinds (suc left) _ _ term_layouts _ s at (omega arith) (term_rows left scope s)))

-- So terms are a sort.
pub terms : Nodes 8 term_layouts (λ p. p.left) (λ p k. true) (λ p. leaf p.scope) (λ p k. term_below p)
    (λ p s at. extent (term p.left p.scope s at))
terms = record {
  few = λ k. two_at_most term_layouts tt k refl;
  falls = λ p k. refl;
  shape = λ p s at. term_layout p.left p.scope s at;
}
