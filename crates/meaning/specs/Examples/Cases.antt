-- Worked examples: the cases 1 to 7 that document 01 marks as proved ("Judged by hand").
use Rattle.std.specs.Prelude.{List, [], ◌∷◌}
use Rattle.meaning.specs.Messages.Term.{binary, enc, dec, cipher}
use Rattle.meaning.specs.Bytes.Process.{Prefix, nil, new, act, par, repl}
use Rattle.meaning.specs.Bytes.Formula.{Label}
use Rattle.meaning.specs.Examples.Entry.{Entry, answered, numbered, equal, different, reaching}
use Rattle.meaning.specs.Examples.Material.{work, budget, a, k, l, c, x, sends, takes, idle, output, no_output_formula}

abbrev pub cases : List Entry
cases =
    -- 1 to 4: no output on name 0.
    answered idle output no_output_formula work budget 0 0 0 5
    ∷ answered output idle no_output_formula work budget 12 0 0 5
    ∷ answered idle idle no_output_formula work budget 13 0 0 4
    ∷ answered idle output no_output_formula work 4 10 0 0 4
    ∷ answered idle output no_output_formula work 5 0 0 0 5
    -- 5: numbers.
    ∷ numbered (0xFF ∷ 0x01 ∷ []) 255 2
    ∷ answered (2 ∷ 0 ∷ 0xFF ∷ 0x01 ∷ 0 ∷ 0 ∷ 0 ∷ []) idle (3 ∷ 0 ∷ 0xFF ∷ 0x01 ∷ 0 ∷ 0 ∷ 0 ∷ 0 ∷ 0 ∷ []) work budget 0 0 0 3
    ∷ numbered (0x80 ∷ 0x02 ∷ []) 256 2
    ∷ answered (2 ∷ 0 ∷ 0x80 ∷ 0x02 ∷ 0 ∷ 0 ∷ 0 ∷ []) idle (3 ∷ 0 ∷ 0x80 ∷ 0x02 ∷ 0 ∷ 0 ∷ 0 ∷ 0 ∷ 0 ∷ []) work budget 0 0 0 3
    ∷ answered idle (2 ∷ 0 ∷ 0x80 ∷ 0x00 ∷ 0 ∷ 0 ∷ 0 ∷ []) no_output_formula work budget 3 2 2 0
    ∷ answered idle output [] work budget 2 3 0 0
    -- 6: messages.
    ∷ different (binary (cipher dec) (binary (cipher enc) a k) l) a
    ∷ equal (binary (cipher enc) (binary (cipher dec) a k) k) a
    -- 7: silent steps of replication.
    ∷ reaching (repl (par sends takes)) Label.silent (1 ∷ 3 ∷ [])
    ∷ reaching (repl (new (par (act (Prefix.output (x 0) c) nil) (act (Prefix.input (x 0)) nil)))) Label.silent (1 ∷ [])
    ∷ []
