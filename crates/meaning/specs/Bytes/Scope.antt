-- Which names, variables and aliases a term, a process or a formula may have ("Bytes").
use Rattle.std.specs.Prelude.{ℕ, suc, ◌+◌, ◌≤◌, ◌<◌}
use Rattle.meaning.specs.Messages.Term.{Term, Leaf, leaf, proj, binary, name, variable}
use Rattle.meaning.specs.Bytes.Process.{Prefix, Process, nil, new, act, if, let_in, par, repl}
use Rattle.meaning.specs.Bytes.Formula.{Label, Formula}

-- Public names run from 0 to this one, the largest number that two bytes hold.
abbrev pub largest_name : ℕ
largest_name = 16383

-- Of the variables or aliases, those below n are in scope.
abbrev pub LeafScoped : ℕ → Leaf → Type 0
LeafScoped n (name a) = a ≤ largest_name
LeafScoped n (variable k) = k < n

abbrev pub TermScoped : ℕ → Term → Type 0
TermScoped n (leaf l) = LeafScoped n l
TermScoped n (proj s t) = TermScoped n t
TermScoped n (binary b t u) = TermScoped n t × TermScoped n u

-- The variables that a prefix binds in what follows it.
abbrev pub binds_prefix : Prefix → ℕ
binds_prefix (Prefix.output C M) = 0
binds_prefix (Prefix.input C) = 1

abbrev pub PrefixScoped : ℕ → Prefix → Type 0
PrefixScoped n (Prefix.output C M) = TermScoped n C × TermScoped n M
PrefixScoped n (Prefix.input C) = TermScoped n C

abbrev pub ProcessScoped : ℕ → Process → Type 0
ProcessScoped n nil = Unit {0}
ProcessScoped n (new P) = ProcessScoped (suc n) P
ProcessScoped n (act p P) = PrefixScoped n p × ProcessScoped (binds_prefix p + n) P
ProcessScoped n (if M N P Q) = TermScoped n M × TermScoped n N × ProcessScoped n P × ProcessScoped n Q
ProcessScoped n (let_in M P) = TermScoped n M × ProcessScoped (suc n) P
ProcessScoped n (par P Q) = ProcessScoped n P × ProcessScoped n Q
ProcessScoped n (repl P) = ProcessScoped n P

-- The aliases that a step adds for the formula that follows it.
abbrev pub binds_label : Label → ℕ
binds_label (Label.output C) = 1
binds_label (Label.input C M) = 0
binds_label Label.silent = 0

abbrev pub LabelScoped : ℕ → Label → Type 0
LabelScoped n (Label.output C) = TermScoped n C
LabelScoped n (Label.input C M) = TermScoped n C × TermScoped n M
LabelScoped n Label.silent = Unit {0}

abbrev pub FormulaScoped : ℕ → Formula → Type 0
FormulaScoped n (Formula.equal M N) = TermScoped n M × TermScoped n N
FormulaScoped n (Formula.not F) = FormulaScoped n F
FormulaScoped n (Formula.and F G) = FormulaScoped n F × FormulaScoped n G
FormulaScoped n (Formula.step a F) = LabelScoped n a × FormulaScoped (binds_label a + n) F
