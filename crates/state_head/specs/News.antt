-- The `new` nodes of a process, of which two bytes can hold every private name ("Steps").
use Rattle.std.specs.Prelude.{ℕ, ◌+◌}
use Rattle.meaning.specs.Bytes.Process.{Process, nil, new, act, if, let_in, par, repl}

-- All of them, and those that a copy or a step may meet after the process itself is settled: under a repl, an output or an input.
abbrev pub news : Process → ℕ
news nil = 0
news (new P) = 1 + news P
news (act p P) = news P
news (if M N P Q) = news P + news Q
news (let_in M P) = news P
news (par P Q) = news P + news Q
news (repl P) = news P

abbrev pub later_news : Process → ℕ
later_news nil = 0
later_news (new P) = later_news P
later_news (act p P) = news P
later_news (if M N P Q) = later_news P + later_news Q
later_news (let_in M P) = later_news P
later_news (par P Q) = later_news P + later_news Q
later_news (repl P) = news P
