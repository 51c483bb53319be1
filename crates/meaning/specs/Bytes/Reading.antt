-- Reading terms, processes and formulas by position, with the refusals by number and place ("Turned back for the input").
-- What is left of a nesting limit goes along, and recursion falls on it.
use Rattle.std.specs.Prelude.{ℕ, zero, suc, ◌-◌, Bool, true, false, List, leb, ltb, length}
use Rattle.std.proofs.Math.Option.{Option, none, some}
use Rattle.std.proofs.Math.ListN.{get_elem?}
use Rattle.meaning.specs.Messages.Term.{Term, leaf, proj, binary, name, variable}
use Rattle.meaning.specs.Bytes.Process.{Prefix, Process}
use Rattle.meaning.specs.Bytes.Formula.{Label, Formula}
use Rattle.meaning.specs.Bytes.Scope.{largest_name}
use Rattle.meaning.specs.Bytes.Number.{Read, found, refused, and_then, provided, number}
use Rattle.meaning.specs.Bytes.Kind.{TermKind, term_kinds, ProcessKind, process_kinds, FormulaKind, formula_kinds}

-- The kind that a number stands for.
abbrev pub listed : {K : Type 0} → Option K → (at end : ℕ) → Read K
listed none at end = refused 4 at
listed (some k) at end = found k end

-- A kind, which is refused as nested too deep unless it is allowed here.
unfoldable pub kind : {K : Type 0} → List K → (K → Bool) → List ℕ → ℕ → Read K
kind kinds allowed s at =
    and_then (number s at) (λ k end. and_then (listed (get_elem? kinds k) at end) (λ c end. provided (allowed c) 7 at c end))

-- Never, for a node past the limit of its path: nothing is read after such a kind.
abbrev pub never : {K : Type 0} → K → Bool
never k = false

abbrev pub always : {K : Type 0} → K → Bool
always k = true

-- The fields of a term, with the reader of its parts.
unfoldable pub term_fields : (ℕ → Read Term) → (scope : ℕ) → List ℕ → TermKind → ℕ → Read Term
term_fields part scope s TermKind.name at = and_then (number s at) (λ n end. provided (leb n largest_name) 5 at (leaf (name n)) end)
term_fields part scope s TermKind.variable at =
    and_then (number s at) (λ k end. provided (ltb k scope) 6 at (leaf (variable k)) end)
term_fields part scope s (TermKind.proj side) at = and_then (part at) (λ t end. found (proj side t) end)
term_fields part scope s (TermKind.binary b) at =
    and_then (part at) (λ t mid. and_then (part mid) (λ u end. found (binary b t u) end))

unfoldable pub term : (left scope : ℕ) → List ℕ → ℕ → Read Term
term zero scope s at = and_then (kind term_kinds never s at) (λ k end. refused 7 at)
term (suc left) scope s at =
    and_then (kind term_kinds always s at) (λ k end. term_fields (term left scope s) scope s k end)

-- A term of at most 8 nodes on each path.
abbrev pub field : (scope : ℕ) → List ℕ → ℕ → Read Term
field scope s at = term 8 scope s at

-- Whether this kind may stand with so many variables in scope: with 12 there is no room for a binder.
abbrev pub room_for : (scope : ℕ) → ProcessKind → Bool
room_for scope ProcessKind.nil = true
room_for scope ProcessKind.new = ltb scope 12
room_for scope ProcessKind.output = true
room_for scope ProcessKind.input = ltb scope 12
room_for scope ProcessKind.if = true
room_for scope ProcessKind.let_in = ltb scope 12
room_for scope ProcessKind.par = true
room_for scope ProcessKind.repl = true

-- The fields of a process, with the reader of its parts by scope and position.
unfoldable pub process_fields : (ℕ → ℕ → Read Process) → (scope : ℕ) → List ℕ → ProcessKind → ℕ → Read Process
process_fields part scope s ProcessKind.nil at = found Process.nil at
process_fields part scope s ProcessKind.new at = and_then (part (suc scope) at) (λ P end. found (Process.new P) end)
process_fields part scope s ProcessKind.output at =
    and_then (field scope s at) (λ C e₁. and_then (field scope s e₁) (λ M e₂.
    and_then (part scope e₂) (λ P end. found (Process.act (Prefix.output C M) P) end)))
process_fields part scope s ProcessKind.input at =
    and_then (field scope s at) (λ C e₁. and_then (part (suc scope) e₁) (λ P end. found (Process.act (Prefix.input C) P) end))
process_fields part scope s ProcessKind.if at =
    and_then (field scope s at) (λ M e₁. and_then (field scope s e₁) (λ N e₂.
    and_then (part scope e₂) (λ P e₃. and_then (part scope e₃) (λ Q end. found (Process.if M N P Q) end))))
process_fields part scope s ProcessKind.let_in at =
    and_then (field scope s at) (λ M e₁. and_then (part (suc scope) e₁) (λ P end. found (Process.let_in M P) end))
process_fields part scope s ProcessKind.par at =
    and_then (part scope at) (λ P e₁. and_then (part scope e₁) (λ Q end. found (Process.par P Q) end))
process_fields part scope s ProcessKind.repl at = and_then (part scope at) (λ P end. found (Process.repl P) end)

unfoldable pub process : (left scope : ℕ) → List ℕ → ℕ → Read Process
process zero scope s at = and_then (kind process_kinds never s at) (λ k end. refused 7 at)
process (suc left) scope s at =
    and_then (kind process_kinds (room_for scope) s at) (λ k end. process_fields (λ n e. process left n s e) scope s k end)

-- Whether this kind may stand with so many step formulas left on the path.
abbrev pub steps_left : (steps : ℕ) → FormulaKind → Bool
steps_left steps FormulaKind.equal = true
steps_left steps FormulaKind.not = true
steps_left steps FormulaKind.and = true
steps_left steps FormulaKind.output = ltb 0 steps
steps_left steps FormulaKind.input = ltb 0 steps
steps_left steps FormulaKind.silent = ltb 0 steps

-- The fields of a formula, with the reader of its parts by step formulas left, scope and position.
unfoldable pub formula_fields : (ℕ → ℕ → ℕ → Read Formula) → (steps scope : ℕ) → List ℕ → FormulaKind → ℕ → Read Formula
formula_fields part steps scope s FormulaKind.equal at =
    and_then (field scope s at) (λ M e₁. and_then (field scope s e₁) (λ N end. found (Formula.equal M N) end))
formula_fields part steps scope s FormulaKind.not at = and_then (part steps scope at) (λ F end. found (Formula.not F) end)
formula_fields part steps scope s FormulaKind.and at =
    and_then (part steps scope at) (λ F e₁. and_then (part steps scope e₁) (λ G end. found (Formula.and F G) end))
formula_fields part steps scope s FormulaKind.output at =
    and_then (field scope s at) (λ C e₁.
    and_then (part (steps - 1) (suc scope) e₁) (λ F end. found (Formula.step (Label.output C) F) end))
formula_fields part steps scope s FormulaKind.input at =
    and_then (field scope s at) (λ C e₁. and_then (field scope s e₁) (λ M e₂.
    and_then (part (steps - 1) scope e₂) (λ F end. found (Formula.step (Label.input C M) F) end)))
formula_fields part steps scope s FormulaKind.silent at =
    and_then (part (steps - 1) scope at) (λ F end. found (Formula.step Label.silent F) end)

unfoldable pub formula : (left steps scope : ℕ) → List ℕ → ℕ → Read Formula
formula zero steps scope s at = and_then (kind formula_kinds never s at) (λ k end. refused 7 at)
formula (suc left) steps scope s at =
    and_then (kind formula_kinds (steps_left steps) s at)
    (λ k end. formula_fields (λ m n e. formula left m n s e) steps scope s k end)

-- A whole slice: 1 before any of its bytes, 8 after the last that is read.
unfoldable pub whole : {A : Type 0} → (ℕ → Read A) → List ℕ → Read A
whole reader s =
    elim (ltb 4096 (length s))
    [ true ↦ refused 1 4096 | false ↦ and_then (reader 0) (λ a end. provided (leb (length s) end) 8 end a end) ]

unfoldable pub read_model : List ℕ → Read Process
read_model s = whole (process 64 0 s) s

unfoldable pub read_formula : List ℕ → Read Formula
read_formula s = whole (formula 48 16 0 s) s
