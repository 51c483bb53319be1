-- Worked examples on public names of two bytes (request 2.2): the largest, and names that differ in their second byte alone, as channels, in
-- messages and in recipes.
use Rattle.std.specs.Prelude.{List, [], ◌∷◌, ℕ}
use Rattle.meaning.specs.Messages.Term.{Term, leaf, name, public}
use Rattle.meaning.specs.Bytes.Process.{Prefix, Process, nil, act, par}
use Rattle.meaning.specs.Bytes.Formula.{Label, Formula}
use Rattle.meaning.specs.Examples.Entry.{Entry, numbered, different, reaching}
use Rattle.meaning.specs.Examples.Material.{c, x, out, valid, on_output, judged_on, refused_as}

abbrev n : ℕ → Term
n k = leaf (name k)

-- An output and an input on a name, and the formula that there is such an output.
abbrev out_on : ℕ → Process
out_on k = act (Prefix.output (n k) c) nil

abbrev in_on : ℕ → Process
in_on k = act (Prefix.input (n k)) nil

abbrev output_on : ℕ → Formula
output_on k = Formula.step (Label.output (n k)) valid

abbrev pub names : List Entry
names =
    -- The largest name; the number after it would have three bytes, and is in no form.
    numbered (0xFF ∷ 0x7F ∷ []) 16383 2
    ∷ judged_on (out_on 16383) (output_on 16383) 0 3
    ∷ judged_on (out_on 16383) (output_on 16382) 12 2
    ∷ refused_as (2 ∷ 0 ∷ 0x80 ∷ 0x80 ∷ 0x01 ∷ 0 ∷ 0 ∷ 0 ∷ []) 3 2
    -- 256 is 80 02 and 384 is 80 03. As messages.
    ∷ different (leaf (public 256)) (leaf (public 384))
    ∷ different (leaf (public 256)) (leaf (public 0))
    -- As channels, of visible and of silent steps.
    ∷ judged_on (out_on 256) (output_on 256) 0 3
    ∷ judged_on (out_on 256) (output_on 384) 12 2
    ∷ judged_on (out_on 256) (output_on 0) 12 2
    ∷ reaching (par (out_on 256) (in_on 256)) Label.silent (0 ∷ [])
    ∷ reaching (par (out_on 256) (in_on 384)) Label.silent []
    -- In messages, against recipes.
    ∷ judged_on (out (n 256) nil) (on_output (Formula.equal (x 0) (n 256))) 0 3
    ∷ judged_on (out (n 256) nil) (on_output (Formula.equal (x 0) (n 384))) 12 3
    ∷ judged_on (out (n 256) nil) (on_output (Formula.equal (x 0) (n 0))) 12 3
    ∷ judged_on (out (n 16383) nil) (on_output (Formula.equal (x 0) (n 16383))) 0 3
    ∷ judged_on (out (n 16383) nil) (on_output (Formula.equal (x 0) (n 255))) 12 3
    ∷ []
