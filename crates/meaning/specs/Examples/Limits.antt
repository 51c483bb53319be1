-- Worked examples on the limits and on which visits meet them ("Judging and its count").
use Rattle.std.specs.Prelude.{List, [], ◌∷◌}
use Rattle.meaning.specs.Messages.Term.{binary, enc, dec, cipher}
use Rattle.meaning.specs.Bytes.Process.{Prefix, nil, new, act, if, let_in, par, repl}
use Rattle.meaning.specs.Bytes.Formula.{Label, Formula}
use Rattle.meaning.specs.Bytes.Encoding.{encode_process, encode_formula}
use Rattle.meaning.specs.Examples.Entry.{Entry, answered}
use Rattle.meaning.specs.Examples.Material.{work, budget, c, x, out, inp, sends, takes, many, fork, twice, large, over, part_over, goes_over, then_over}
use Rattle.meaning.specs.Examples.Material.{idle, valid, on_output, on_input, on_silent, judged_on}

abbrev pub limits : List Entry
limits =
    -- 32 threads, 33, and the budget before them.
    judged_on (many 32) (on_output valid) 0 34
    ∷ judged_on (many 33) (on_output valid) 11 2
    ∷ answered (encode_process (many 33)) idle (encode_formula (on_output valid)) work 1 10 0 0 1
    -- A copy of 33 threads that is not taken, and one that is.
    ∷ judged_on (repl (many 33)) (Formula.not (on_input c valid)) 13 4
    ∷ judged_on (repl (many 33)) (on_output valid) 11 35
    -- 128 private names, 129; 1,024 nodes in two threads, 1,025; four aliases of 255 nodes, five.
    ∷ judged_on (fork 7 (new nil)) valid 13 2
    ∷ judged_on (par (new nil) (fork 7 (new nil))) valid 11 2
    ∷ judged_on (large (par sends (let_in (x 2) (let_in (x 1) (repl takes))))) valid 13 2
    ∷ judged_on (large (par sends (let_in (x 2) (let_in (x 1) (new (repl takes)))))) valid 11 2
    ∷ judged_on (repl (large (out (x 6) nil))) (on_output (on_output (on_output (on_output valid)))) 0 6
    ∷ judged_on (repl (large (out (x 6) nil))) (on_output (on_output (on_output (on_output (on_output valid))))) 11 7
    -- A message of 255 nodes, one of 256, and one of 255 with a larger part.
    ∷ judged_on (large (out (x 6) nil)) (on_output valid) 0 3
    ∷ judged_on (large (out over nil)) (on_output valid) 11 2
    ∷ judged_on (large (out part_over nil)) (on_output valid) 11 2
    -- In let, also where an equation makes the whole small; in either side of if; as channel; in nested copies that offer nothing.
    ∷ judged_on (large goes_over) valid 11 2
    ∷ judged_on (large (let_in (binary (cipher dec) (binary (cipher enc) (x 6) c) c) nil)) valid 11 2
    ∷ judged_on (large (if over c nil nil)) valid 11 2
    ∷ judged_on (large (if c over nil nil)) valid 11 2
    ∷ judged_on (large (act (Prefix.output over c) nil)) valid 11 2
    ∷ judged_on (large (act (Prefix.input over) nil)) valid 11 2
    ∷ judged_on (large (repl (repl goes_over))) valid 11 2
    ∷ judged_on (repl (repl (large (out over nil)))) valid 11 2
    -- A branch that is not taken is not worked; what follows an offer is, once a step is made.
    ∷ judged_on (large (if c c nil goes_over)) valid 13 2
    ∷ judged_on then_over valid 13 2
    ∷ judged_on then_over (on_output valid) 11 3
    ∷ judged_on (large (inp goes_over)) (on_input c valid) 11 3
    ∷ judged_on (par then_over takes) (on_silent valid) 11 3
    ∷ judged_on (par (large (inp goes_over)) sends) (on_silent valid) 11 3
    -- In recipes: either side of equal, and each recipe of a label.
    ∷ judged_on (large (out (x 6) nil)) (on_output (Formula.equal (twice (x 0)) c)) 11 3
    ∷ judged_on (large (out (x 6) nil)) (on_output (Formula.equal c (twice (x 0)))) 11 3
    ∷ judged_on (large (out (x 6) nil)) (on_output (Formula.step (Label.output (twice (x 0))) valid)) 11 3
    ∷ judged_on (large (out (x 6) nil)) (on_output (Formula.step (Label.input (twice (x 0)) c) valid)) 11 3
    ∷ judged_on (large (out (x 6) nil)) (on_output (on_input (twice (x 0)) valid)) 11 3
    -- In the second model, under "not", and on either side of "and".
    ∷ answered idle (encode_process (many 33)) (encode_formula valid) work budget 11 0 0 2
    ∷ judged_on then_over (Formula.not (on_output valid)) 11 5
    ∷ judged_on then_over (Formula.and (on_output valid) valid) 11 7
    ∷ judged_on then_over (Formula.and valid (on_output valid)) 11 7
    ∷ []
