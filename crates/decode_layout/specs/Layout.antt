-- The kinds of terms, processes and formulas by their numbers, each with what follows it ("Bytes"). That `meaning` reads them so is
-- proved in the crates `decode_term`, proofs/Laws/Terms.antt, and `decode_slice`, proofs/Laws/Sorts.antt.
use Rattle.std.specs.Prelude.{Bool, true, false, ℕ, List, [], ◌∷◌, get_or}
use Rattle.std.specs.Int.{from_bool}
use Rattle.decode_layout.specs.declared.layout.Layout.{Layout}

-- Fields of its own, variables or aliases that it adds for its parts, 1 if it is a step formula, parts of its own sort.
abbrev pub fields : Layout → ℕ
fields l = l.fields

abbrev pub binds : Layout → ℕ
binds l = l.binds

abbrev pub step : Layout → ℕ
step l = from_bool l.step

abbrev pub parts : Layout → ℕ
parts l = l.parts

abbrev pub layout : (fields binds : ℕ) (step : Bool) (parts : ℕ) → Layout
layout f b s p = record { fields = f; binds = b; step = s; parts = p }

-- What a table says of a kind.
abbrev pub layout_of : List Layout → (k : ℕ) → Layout
layout_of table k = get_or table k (layout 0 0 false 0)

-- public name, variable, pair, fst, snd, enc, dec, mac
abbrev pub term_layouts : List Layout
term_layouts =
    layout 1 0 false 0
    ∷ layout 1 0 false 0
    ∷ layout 0 0 false 2
    ∷ layout 0 0 false 1
    ∷ layout 0 0 false 1
    ∷ layout 0 0 false 2
    ∷ layout 0 0 false 2
    ∷ layout 0 0 false 2
    ∷ []

-- nil, new, output, input, if, let, par, repl
abbrev pub process_layouts : List Layout
process_layouts =
    layout 0 0 false 0
    ∷ layout 0 1 false 1
    ∷ layout 2 0 false 1
    ∷ layout 1 1 false 1
    ∷ layout 2 0 false 2
    ∷ layout 1 1 false 1
    ∷ layout 0 0 false 2
    ∷ layout 0 0 false 1
    ∷ []

-- equal, not, and, output step, input step, silent step
abbrev pub formula_layouts : List Layout
formula_layouts =
    layout 2 0 false 0
    ∷ layout 0 0 false 1
    ∷ layout 0 0 false 2
    ∷ layout 1 1 true 1
    ∷ layout 2 0 true 1
    ∷ layout 0 0 true 1
    ∷ []
