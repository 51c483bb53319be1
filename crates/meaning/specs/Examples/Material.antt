-- What the worked examples are made of.
use Rattle.std.specs.Prelude.{List, [], ◌∷◌, ℕ, zero, suc}
use Rattle.meaning.specs.Messages.Term.{Term, Message, leaf, proj, binary, fst, pair, mac, name, variable, public}
use Rattle.meaning.specs.Bytes.Process.{Prefix, Process, nil, new, act, let_in, par}
use Rattle.meaning.specs.Bytes.Formula.{Label, Formula}
use Rattle.meaning.specs.Bytes.Encoding.{encode_process, encode_formula}
use Rattle.meaning.specs.Examples.Entry.{Entry, answered}

-- The work buffer and the budget of the program `finding`.
abbrev pub work : ℕ
work = 65536

abbrev pub budget : ℕ
budget = 1000000

-- Public names, as messages and as terms; variables.
abbrev pub a : Message
a = leaf (public 0)

abbrev pub k : Message
k = leaf (public 1)

abbrev pub l : Message
l = leaf (public 2)

abbrev pub c : Term
c = leaf (name 0)

abbrev pub d : Term
d = leaf (name 1)

abbrev pub x : ℕ → Term
x n = leaf (variable n)

-- Outputs and inputs on name 0, what follows them, and n parallel outputs.
abbrev pub out : Term → Process → Process
out t P = act (Prefix.output c t) P

abbrev pub inp : Process → Process
inp P = act (Prefix.input c) P

abbrev pub sends : Process
sends = out c nil

abbrev pub takes : Process
takes = inp nil

abbrev pub many : ℕ → Process
many zero = nil
many (suc n) = par sends (many n)

-- n nested binders, and 2 to the n parallel processes.
abbrev pub news : ℕ → Process → Process
news zero P = P
news (suc n) P = new (news n P)

abbrev pub fork : ℕ → Process → Process
fork zero P = P
fork (suc n) P = par (fork n P) (fork n P)

-- A process with seven variables in scope, bound to messages of 3, 7, 15, 31, 63, 127 and 255 nodes, 501 in all.
abbrev pub twice : Term → Term
twice t = binary pair t t

abbrev pub large : Process → Process
large P =
    let_in (twice c)
    (let_in (twice (x 0))
    (let_in (twice (x 1)) (let_in (twice (x 2)) (let_in (twice (x 3)) (let_in (twice (x 4)) (let_in (twice (x 5)) P))))))

-- There, a term of 256 nodes of which no part is over 255; one with a part of 257 that itself has 255; processes that work it.
abbrev pub over : Term
over = proj fst (binary mac (x 5) (x 5))

abbrev pub part_over : Term
part_over = proj fst (binary pair (x 6) c)

abbrev pub goes_over : Process
goes_over = let_in over nil

abbrev pub then_over : Process
then_over = large (out c goes_over)

-- Models and formulas in bytes: nil, an output, "no output on name 0".
abbrev pub idle : List ℕ
idle = 0 ∷ []

abbrev pub output : List ℕ
output = 2 ∷ 0 ∷ 0 ∷ 0 ∷ 0 ∷ 0 ∷ []

abbrev pub no_output_formula : List ℕ
no_output_formula = 1 ∷ 3 ∷ 0 ∷ 0 ∷ 0 ∷ 0 ∷ 0 ∷ 0 ∷ 0 ∷ []

-- A formula that is true everywhere, and step formulas on name 0.
abbrev pub valid : Formula
valid = Formula.equal c c

abbrev pub on_output : Formula → Formula
on_output F = Formula.step (Label.output c) F

abbrev pub on_input : Term → Formula → Formula
on_input t F = Formula.step (Label.input c t) F

abbrev pub on_silent : Formula → Formula
on_silent F = Formula.step Label.silent F

-- A process and the ideal that does nothing, told apart or not by a formula.
abbrev pub judged_on : Process → Formula → (result count : ℕ) → Entry
judged_on P F result count = answered (encode_process P) idle (encode_formula F) work budget result 0 0 count

-- A first model that is refused.
abbrev pub refused_as : List ℕ → (result place : ℕ) → Entry
refused_as s result place = answered s idle no_output_formula work budget result 1 place 0
