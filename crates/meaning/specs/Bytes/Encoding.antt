-- Numbers, terms, processes and formulas as bytes ("Bytes"): the kind first, then the fields in order.
use Rattle.std.specs.Prelude.{ℕ, ◌+◌, ◌/◌, ◌%◌, true, false, List, [], ◌∷◌, ◌++◌, ltb}
use Rattle.meaning.specs.Messages.Term.{side_kind, binary_kind, Term, leaf, proj, binary, name, variable}
use Rattle.meaning.specs.Bytes.Process.{Prefix, Process, nil, new, act, if, let_in, par, repl}
use Rattle.meaning.specs.Bytes.Formula.{Label, Formula}

-- Seven bits to a byte, low bits first; 128 is added where another byte follows.
unfoldable pub encode_number : ℕ → List ℕ
encode_number n = elim (ltb n 128) [ true ↦ n ∷ [] | false ↦ (128 + n % 128) ∷ (n / 128) ∷ [] ]

unfoldable pub encode_term : Term → List ℕ
encode_term (leaf (name n)) = 0 ∷ encode_number n
encode_term (leaf (variable k)) = 1 ∷ encode_number k
encode_term (proj s t) = side_kind s ∷ encode_term t
encode_term (binary b t u) = binary_kind b ∷ encode_term t ++ encode_term u

unfoldable pub encode_process : Process → List ℕ
encode_process nil = 0 ∷ []
encode_process (new P) = 1 ∷ encode_process P
encode_process (act (Prefix.output C M) P) = 2 ∷ encode_term C ++ encode_term M ++ encode_process P
encode_process (act (Prefix.input C) P) = 3 ∷ encode_term C ++ encode_process P
encode_process (if M N P Q) = 4 ∷ encode_term M ++ encode_term N ++ encode_process P ++ encode_process Q
encode_process (let_in M P) = 5 ∷ encode_term M ++ encode_process P
encode_process (par P Q) = 6 ∷ encode_process P ++ encode_process Q
encode_process (repl P) = 7 ∷ encode_process P

unfoldable pub encode_formula : Formula → List ℕ
encode_formula (Formula.equal M N) = 0 ∷ encode_term M ++ encode_term N
encode_formula (Formula.not F) = 1 ∷ encode_formula F
encode_formula (Formula.and F G) = 2 ∷ encode_formula F ++ encode_formula G
encode_formula (Formula.step (Label.output C) F) = 3 ∷ encode_term C ++ encode_formula F
encode_formula (Formula.step (Label.input C M) F) = 4 ∷ encode_term C ++ encode_term M ++ encode_formula F
encode_formula (Formula.step Label.silent F) = 5 ∷ encode_formula F
