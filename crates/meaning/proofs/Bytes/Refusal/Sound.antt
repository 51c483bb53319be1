-- Readers whose refusals are true ("Turned back for the input").
use Prim.Native.Nat.{ℕ, ◌≤◌}
use mathlib.Core.List.{List, [], ◌∷◌}
use lib.ListN.{length}
use Rattle.meaning.specs.Bytes.Number.{Read, and_then}
use Rattle.meaning.specs.Bytes.Refusal.{Field, Due, Refusal}
use Rattle.meaning.proofs.Bytes.Reader.{Answers, and-then}

-- An answer that finds what has P, or refuses truly.
abbrev pub Sound : (s : List ℕ) (root : Field) {A : Type 0} → (A → ℕ → Type 0) → Read A → Type 0
Sound s root P r = Answers P (Refusal s root) r

-- An answer at whose end these fields are due.
abbrev pub Leaves : (s : List ℕ) (root : Field) → List Field → {A : Type 0} → Read A → Type 0
Leaves s root fs r = Sound s root (λ a end. Due s root end fs) r

-- An answer at whose end the slice ends.
abbrev pub Ends : (s : List ℕ) (root : Field) {A : Type 0} → Read A → Type 0
Ends s root r = Sound s root (λ a end. Due s root end [] × (length s ≤ end)) r

-- A reader that goes through this field, wherever it is due.
abbrev pub Reads : (s : List ℕ) (root : Field) → Field → {A : Type 0} → (ℕ → Read A) → Type 0
Reads s root f reader = (at : ℕ) (fs : List Field) → Due s root at (f ∷ fs) → Leaves s root fs (reader at)

-- A field is read, and then what follows it.
pub through : {s : List ℕ} {root f : Field} {fs : List Field} {A B : Type 0} {Q : B → ℕ → Type 0} {reader : ℕ → Read A}
    {g : A → ℕ → Read B} {at : ℕ} → Reads s root f reader → Due s root at (f ∷ fs)
    → ((a : A) (end : ℕ) → Due s root end fs → Sound s root Q (g a end)) → Sound s root Q (and_then (reader at) g)
through {fs} {at} h d k = and-then (h at fs d) k
