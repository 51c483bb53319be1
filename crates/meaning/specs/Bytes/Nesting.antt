-- How deep terms, processes and formulas are nested ("Turned back for the input", 7).
use Rattle.std.specs.Prelude.{ℕ, ◌+◌, max}
use Rattle.meaning.specs.Messages.Term.{Term, leaf, proj, binary}
use Rattle.meaning.specs.Bytes.Process.{Prefix, Process, nil, new, act, if, let_in, par, repl}
use Rattle.meaning.specs.Bytes.Formula.{Label, Formula}
use Rattle.meaning.specs.Bytes.Scope.{binds_prefix}

-- The most term nodes on one path.
abbrev pub term_depth : Term → ℕ
term_depth (leaf l) = 1
term_depth (proj s t) = 1 + term_depth t
term_depth (binary b t u) = 1 + max (term_depth t) (term_depth u)

abbrev pub prefix_terms : Prefix → ℕ
prefix_terms (Prefix.output C M) = max (term_depth C) (term_depth M)
prefix_terms (Prefix.input C) = term_depth C

abbrev pub label_terms : Label → ℕ
label_terms (Label.output C) = term_depth C
label_terms (Label.input C M) = max (term_depth C) (term_depth M)
label_terms Label.silent = 0

abbrev pub process_terms : Process → ℕ
process_terms nil = 0
process_terms (new P) = process_terms P
process_terms (act p P) = max (prefix_terms p) (process_terms P)
process_terms (if M N P Q) = max (max (term_depth M) (term_depth N)) (max (process_terms P) (process_terms Q))
process_terms (let_in M P) = max (term_depth M) (process_terms P)
process_terms (par P Q) = max (process_terms P) (process_terms Q)
process_terms (repl P) = process_terms P

abbrev pub formula_terms : Formula → ℕ
formula_terms (Formula.equal M N) = max (term_depth M) (term_depth N)
formula_terms (Formula.not F) = formula_terms F
formula_terms (Formula.and F G) = max (formula_terms F) (formula_terms G)
formula_terms (Formula.step a F) = max (label_terms a) (formula_terms F)

-- The most process nodes on one path.
abbrev pub process_depth : Process → ℕ
process_depth nil = 1
process_depth (new P) = 1 + process_depth P
process_depth (act p P) = 1 + process_depth P
process_depth (if M N P Q) = 1 + max (process_depth P) (process_depth Q)
process_depth (let_in M P) = 1 + process_depth P
process_depth (par P Q) = 1 + max (process_depth P) (process_depth Q)
process_depth (repl P) = 1 + process_depth P

-- The most variables bound on one path.
abbrev pub variables : Process → ℕ
variables nil = 0
variables (new P) = 1 + variables P
variables (act p P) = binds_prefix p + variables P
variables (if M N P Q) = max (variables P) (variables Q)
variables (let_in M P) = 1 + variables P
variables (par P Q) = max (variables P) (variables Q)
variables (repl P) = variables P

-- The most formula nodes, and the most step formulas, on one path.
abbrev pub formula_depth : Formula → ℕ
formula_depth (Formula.equal M N) = 1
formula_depth (Formula.not F) = 1 + formula_depth F
formula_depth (Formula.and F G) = 1 + max (formula_depth F) (formula_depth G)
formula_depth (Formula.step a F) = 1 + formula_depth F

abbrev pub step_depth : Formula → ℕ
step_depth (Formula.equal M N) = 0
step_depth (Formula.not F) = step_depth F
step_depth (Formula.and F G) = max (step_depth F) (step_depth G)
step_depth (Formula.step a F) = 1 + step_depth F
