-- What the readers of terms, processes and formulas have in common ("Bytes"): a node is its kind, fields of its own, and parts of
-- its own sort. Here a kind is its number, and nothing is told of the tree.
use Rattle.std.specs.Prelude.{ℕ, zero, suc, Bool, true, ◌&&◌, List, ltb}
use Rattle.meaning.specs.Bytes.Scope.{largest_name}
use Rattle.meaning.specs.Bytes.Number.{Read, found, and_then, provided}
use Rattle.meaning.specs.Bytes.Reading.{field}
use Rattle.decode_number.specs.declared.answer.Refusal.TheVariants.{UnknownKind, NameRange, OutOfScope}
use Rattle.decode_layout.specs.declared.layout.Layout.{Layout}
use Rattle.decode_number.specs.Answer.{Extent, extent}
use Rattle.decode_number.specs.Bounded.{number_below}
use Rattle.decode_layout.specs.Layout.{parts, layout_of}

-- One of so many kinds, refused as nested too deep unless a node is left and there is room for it, with its own fields.
unfoldable pub head_of : (kinds left : ℕ) (room : ℕ → Bool) (own : ℕ → ℕ → Extent) → List ℕ → (at : ℕ) → Read ℕ
head_of kinds left room own s at =
    and_then (number_below kinds UnknownKind s at) (λ k end.
    and_then (provided (ltb 0 left && room k) 7 at k end) (λ k end. and_then (own k end) (λ _ end. found k end)))

-- So many of the same in a row.
unfoldable pub times : ℕ → (ℕ → Extent) → ℕ → Extent
times zero one at = found tt at
times (suc n) one at = and_then (one at) (λ _ end. times n one end)

-- A head, and the parts that follow it.
unfoldable pub node : Read ℕ → (table : List Layout) (part : ℕ → ℕ → Extent) → Extent
node head table part = and_then head (λ k end. times (parts (layout_of table k)) (part k) end)

-- The number of a public name or a variable; the other kinds of terms have none.
unfoldable pub leaf : (scope : ℕ) → List ℕ → ℕ → (at : ℕ) → Extent
leaf scope s zero at = extent (number_below (suc largest_name) NameRange s at)
leaf scope s (suc zero) at = extent (number_below scope OutOfScope s at)
leaf scope s (suc (suc k)) at = found tt at

abbrev pub term_head : (left scope : ℕ) → List ℕ → (at : ℕ) → Read ℕ
term_head left scope s at = head_of 8 left (λ k. true) (leaf scope s) s at

-- So many terms in a row.
unfoldable pub terms_at : (count scope : ℕ) → List ℕ → (at : ℕ) → Extent
terms_at count scope s at = times count (λ e. extent (field scope s e)) at
