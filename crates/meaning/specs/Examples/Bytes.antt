-- Worked examples on messages and on bytes: readings that are easily mistaken ("Messages", "Turned back for the input").
use Rattle.std.specs.Prelude.{List, [], ◌∷◌, ◌++◌, replicate}
use Rattle.meaning.specs.Messages.Term.{proj, binary, fst, snd, enc, dec, pair, cipher}
use Rattle.meaning.specs.Bytes.Process.{nil}
use Rattle.meaning.specs.Bytes.Encoding.{encode_process, encode_formula}
use Rattle.meaning.specs.Bytes.Formula.{Formula}
use Rattle.meaning.specs.Examples.Entry.{Entry, answered, equal, different}
use Rattle.meaning.specs.Examples.Material.{work, budget, a, k, d, x, out, news, idle, no_output_formula, on_output, judged_on, refused_as}

abbrev pub bytes : List Entry
bytes =
    -- The equations that there are, and one that there is not.
    equal (proj fst (binary pair a k)) a
    ∷ equal (proj snd (binary pair a k)) k
    ∷ equal (binary (cipher dec) (binary (cipher enc) a k) k) a
    ∷ different (binary pair (proj fst a) (proj snd a)) a
    -- A number cut short; one whose second byte asks for a third; a kind in two bytes; bytes left over.
    ∷ refused_as (2 ∷ 0 ∷ 0x80 ∷ []) 2 3
    ∷ refused_as (0x80 ∷ 0x80 ∷ []) 3 0
    ∷ refused_as (0x80 ∷ 0x01 ∷ []) 4 0
    ∷ refused_as (0 ∷ 0 ∷ []) 8 1
    -- 7 at the kind comes before what is wrong in its fields: a ninth term node, a thirteenth variable.
    ∷ refused_as (2 ∷ replicate 8 3 ++ (0 ∷ 0x80 ∷ 0x00 ∷ [])) 7 9
    ∷ refused_as (replicate 12 1 ++ (3 ∷ 0x80 ∷ 0x80 ∷ [])) 7 12
    ∷ judged_on (news 12 nil) (Formula.not (on_output (Formula.equal d d))) 13 4
    -- 64 process nodes on a path, nil among them, and 65.
    ∷ answered (replicate 63 7 ++ (0 ∷ [])) idle no_output_formula work budget 13 0 0 4
    ∷ refused_as (replicate 64 7 ++ (0 ∷ [])) 7 64
    -- Both sides of "and" number their aliases from 0.
    ∷ judged_on (out d nil) (Formula.and (on_output (Formula.equal (x 0) d)) (on_output (Formula.equal (x 0) d))) 0 8
    ∷ answered (encode_process (out d nil)) idle
    (encode_formula (Formula.and (on_output (Formula.equal (x 0) d)) (on_output (Formula.equal (x 1) d)))) work budget 6 3 14 0
    -- A work buffer that is too short comes first; then the slices, each as its turn comes.
    ∷ answered [] [] [] 65535 budget 9 0 0 0
    ∷ answered (0 ∷ 0 ∷ []) (replicate 4097 0) [] work budget 8 1 1 0
    ∷ answered idle (replicate 4097 0) [] work budget 1 2 4096 0
    ∷ []
