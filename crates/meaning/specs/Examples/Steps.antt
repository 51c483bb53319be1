-- Worked examples on steps: which there are, in which order, and where they lead ("Steps").
use Rattle.std.specs.Prelude.{List, [], ◌∷◌}
use Rattle.meaning.specs.Messages.Term.{leaf, private}
use Rattle.meaning.specs.Bytes.Process.{Prefix, nil, new, par, repl}
use Rattle.meaning.specs.Bytes.Formula.{Label, Formula}
use Rattle.meaning.specs.Bytes.Encoding.{encode_formula}
use Rattle.meaning.specs.Steps.State.{Thread}
use Rattle.meaning.specs.Examples.Entry.{Entry, answered, reaching, leading}
use Rattle.meaning.specs.Examples.Material.{work, budget, a, c, d, x, out, inp, sends, takes, idle, valid, on_output, on_input, on_silent, judged_on}

abbrev pub steps : List Entry
steps =
    -- Silent steps of nested replication; an offer of a nested copy; a channel on which nothing is offered.
    reaching (repl (repl (par sends takes))) Label.silent (2 ∷ 4 ∷ 5 ∷ [])
    ∷ reaching (repl (par sends (par takes (repl sends)))) (Label.output c) (3 ∷ 4 ∷ [])
    ∷ reaching sends (Label.output d) []
    -- A repl thread's own silent steps come first; then each output with each input, two equal ones twice.
    ∷ reaching (par sends (par takes (repl (par sends takes)))) Label.silent (3 ∷ 5 ∷ 1 ∷ 3 ∷ 3 ∷ [])
    ∷ reaching (par sends (par takes (par sends takes))) Label.silent (2 ∷ 2 ∷ 2 ∷ 2 ∷ [])
    -- What follows the output takes its names first, though it stands right of what follows the input.
    ∷ leading (par (inp (new sends)) (out c (new sends))) Label.silent
    (record {
      threads = Thread.act (a ∷ leaf (private 1) ∷ []) (Prefix.output c c) nil ∷ Thread.act (leaf (private 0) ∷ []) (Prefix.output c c) nil ∷ [];
      aliases = [];
      next = 2;
    } ∷ [])
    -- A copy's output: the copy is opened, its rest stands before the repl thread, and the message is the next alias.
    ∷ leading (repl (new (par takes (out (x 0) sends)))) (Label.output c)
    (record {
      threads =
          Thread.act (leaf (private 0) ∷ []) (Prefix.input c) nil ∷ Thread.act (leaf (private 0) ∷ []) (Prefix.output c c) nil
          ∷ Thread.repl [] (new (par takes (out (x 0) sends))) ∷ [];
      aliases = leaf (private 0) ∷ [];
      next = 1;
    } ∷ [])
    -- A repl thread stays after a step of each sort, with the rest of its copies.
    ∷ judged_on (repl (par sends takes)) (on_silent (on_silent valid)) 0 11
    ∷ judged_on (repl (par sends (inp sends))) (on_silent (on_output valid)) 0 9
    ∷ judged_on (repl (out c takes)) (on_output (on_silent valid)) 0 4
    -- Private names differ from public ones and from each other.
    ∷ judged_on (new (out (x 0) nil)) (on_output (Formula.not (Formula.equal (x 0) c))) 0 4
    ∷ judged_on (par (new (out (x 0) nil)) (new (out (x 0) nil))) (on_output (on_output (Formula.equal (x 0) (x 1)))) 12 6
    ∷ judged_on (repl (new (out (x 0) nil))) (on_output (on_output (Formula.not (Formula.equal (x 0) (x 1))))) 0 5
    -- An alias is the message sent; an input binds the message of its label, or of the output that it meets.
    ∷ judged_on (out d nil) (on_output (Formula.equal (x 0) d)) 0 3
    ∷ judged_on (inp (out (x 0) nil)) (on_input d (on_output (Formula.equal (x 0) d))) 0 4
    ∷ judged_on (out d (inp (out (x 0) nil))) (on_output (on_input (x 0) (on_output (Formula.equal (x 0) (x 1))))) 0 5
    ∷ judged_on (new (par (out d nil) (inp (out (x 1) nil)))) (on_silent (on_output (Formula.equal (x 0) d))) 0 4
    ∷ judged_on (par (new (out (x 0) nil)) (inp (out (x 0) nil))) (on_silent (on_output (Formula.not (Formula.equal (x 0) c)))) 0 5
    -- An input step under "not" that finds nothing is judged.
    ∷ answered idle (3 ∷ 0 ∷ 0 ∷ 0 ∷ []) (encode_formula (Formula.not (on_input c valid))) work budget 0 0 0 5
    ∷ []
