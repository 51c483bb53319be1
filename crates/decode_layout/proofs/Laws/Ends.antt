-- Terms, processes and formulas as nodes of one shape ("Bytes"), and the end of a number.
use mathlib.Core.Path.{◌≡◌, refl, sym, ap, ◌∙◌}
use mathlib.Core.List.{List, [], ◌∷◌, ◌++◌, append_assoc, append-nil}
use Prim.Native.Nat.{ℕ, ◌+◌, ◌/◌, ◌%◌, ◌≤◌, ◌<◌}
use native.Mathlib.Omega.{arith}
use lib.Dec.{ltb, ltb→lt}
use lib.ListN.{length, get_or, length-drop}
use Rattle.meaning.specs.Messages.Term.{Term, leaf, proj, binary, name, variable, fst, snd, pair, cipher, mac, enc, dec}
use Rattle.meaning.specs.Bytes.Process.{Prefix, Process, nil, new, act, if, let_in, par, repl}
use Rattle.meaning.specs.Bytes.Formula.{Label, Formula}
use Rattle.meaning.specs.Bytes.Encoding.{encode_number, encode_term, encode_process, encode_formula}
use Rattle.meaning.specs.Bytes.Standing.{Stands}
use Rattle.meaning.proofs.Bytes.Reader.{by_test}
use Rattle.decode_number.specs.Decoding.{decoded_end}
use Rattle.decode_number.proofs.Laws.Decoding.{there_end, end_after}
use Rattle.decode_layout.specs.declared.layout.Layout.{Layout}
use Rattle.decode_layout.specs.Layout.{fields, parts, layout_of, term_layouts, process_layouts, formula_layouts}
use Rattle.decode_layout.specs.Ends.{row, EndOf, RowEnd}
use Rattle.decode_layout.proofs.Laws.Standing.{Node, first_byte, goes_on, row_alone, starts, done}

-- Bytes with those of a row after them, as an encoding writes them.
abbrev then : {A : Type 0} → (A → List ℕ) → List ℕ → List A → List ℕ
then encode xs [] = xs
then encode xs (a ∷ rest) = then encode (xs ++ encode a) rest

pub then_row : {A : Type 0} (encode : A → List ℕ) (xs : List ℕ) (trees : List A) → then encode xs trees ≡ xs ++ row encode trees
then_row encode xs [] = sym (append-nil xs)
then_row encode xs (a ∷ rest) = then_row encode (xs ++ encode a) rest ∙ append_assoc xs (encode a) (row encode rest)

-- A node, by its kind, its fields and its parts.
module _ {A B : Type 0} {field : B → List ℕ} {encode : A → List ℕ} {kinds : ℕ} {table : List Layout} {a : A} where
  abbrev node : (k : ℕ) (own : List B) (inner : List A) → encode a ≡ then encode (then field (k ∷ []) own) inner
      → k < kinds → length own ≡ fields (layout_of table k) → length inner ≡ parts (layout_of table k)
      → Node field encode kinds table a
  node k own inner e h o p = record {
    kind = k;
    small = h;
    own = own;
    inner = inner;
    shape = e ∙ rw (then_row encode (then field (k ∷ []) own) inner, then_row field (k ∷ []) own);
    owned = o;
    parted = p;
  }

-- Each kind of term, of process and of formula.
pub terms : (t : Term) → Node encode_number encode_term 8 term_layouts t
unfolding encode_term
terms (leaf (name n)) = node 0 (n ∷ []) [] refl (omega arith) refl refl
terms (leaf (variable n)) = node 1 (n ∷ []) [] refl (omega arith) refl refl
terms (proj fst t) = node 3 [] (t ∷ []) refl (omega arith) refl refl
terms (proj snd t) = node 4 [] (t ∷ []) refl (omega arith) refl refl
terms (binary pair t u) = node 2 [] (t ∷ u ∷ []) refl (omega arith) refl refl
terms (binary (cipher enc) t u) = node 5 [] (t ∷ u ∷ []) refl (omega arith) refl refl
terms (binary (cipher dec) t u) = node 6 [] (t ∷ u ∷ []) refl (omega arith) refl refl
terms (binary mac t u) = node 7 [] (t ∷ u ∷ []) refl (omega arith) refl refl

unfoldable pub processes : (P : Process) → Node encode_term encode_process 8 process_layouts P
unfolding encode_process
processes nil = node 0 [] [] refl (omega arith) refl refl
processes (new P) = node 1 [] (P ∷ []) refl (omega arith) refl refl
processes (act (Prefix.output C M) P) = node 2 (C ∷ M ∷ []) (P ∷ []) refl (omega arith) refl refl
processes (act (Prefix.input C) P) = node 3 (C ∷ []) (P ∷ []) refl (omega arith) refl refl
processes (if M N P Q) = node 4 (M ∷ N ∷ []) (P ∷ Q ∷ []) refl (omega arith) refl refl
processes (let_in M P) = node 5 (M ∷ []) (P ∷ []) refl (omega arith) refl refl
processes (par P Q) = node 6 [] (P ∷ Q ∷ []) refl (omega arith) refl refl
processes (repl P) = node 7 [] (P ∷ []) refl (omega arith) refl refl

unfoldable pub formulas : (F : Formula) → Node encode_term encode_formula 6 formula_layouts F
unfolding encode_formula
formulas (Formula.equal M N) = node 0 (M ∷ N ∷ []) [] refl (omega arith) refl refl
formulas (Formula.not F) = node 1 [] (F ∷ []) refl (omega arith) refl refl
formulas (Formula.and F G) = node 2 [] (F ∷ G ∷ []) refl (omega arith) refl refl
formulas (Formula.step (Label.output C) F) = node 3 (C ∷ []) (F ∷ []) refl (omega arith) refl refl
formulas (Formula.step (Label.input C M) F) = node 4 (C ∷ M ∷ []) (F ∷ []) refl (omega arith) refl refl
formulas (Formula.step Label.silent F) = node 5 [] (F ∷ []) refl (omega arith) refl refl

-- The end of a number, from its end in each of its two forms.
by_form : {s : List ℕ} {at end r : ℕ} (n : ℕ) → (n < 128 → Stands s at (n ∷ []) end → r ≡ end)
    → (Stands s at ((128 + n % 128) ∷ (n / 128) ∷ []) end → r ≡ end) → Stands s at (encode_number n) end → r ≡ end
unfolding encode_number
by_form {s} {at} {end} {r} n f g =
    by_test (λ xs. Stands s at xs end → r ≡ end) (ltb n 128) (λ t. f (ltb→lt n 128 t)) (λ t. g)

-- It is where its bytes say.
module _ (s : List ℕ) (at : ℕ) where
  by_first : {b r : ℕ} → r ≡ decoded_end s at → b ≡ get_or s at 0 → at + b / 128 < length s → r ≡ at + b / 128 + 1
  by_first h e l = h ∙ sym (there_end s at e l)

  pub decoded-end : {r : ℕ} → r ≡ decoded_end s at → EndOf encode_number s at r
  decoded-end h = record {
    same = λ n. by_form n
        (λ l p. omega (arith, p.size, by_first h (first_byte p) (omega (arith, goes_on p))))
        (λ p. omega (arith, p.size, by_first h (first_byte p) (omega (arith, length-drop at s, ap length p.bytes))));
  }

-- One number, or none.
module _ {s : List ℕ} {at : ℕ} where
  pub a_number : {count r : ℕ} → (count ≡ 0 → ⊥) → count ≤ 1 → EndOf encode_number s at r → RowEnd encode_number s at count r
  a_number {count} h l e = let one : count ≡ 1 = omega arith in rw one (row_alone e)

  pub no_number : {count : ℕ} → count ≡ 0 → RowEnd encode_number s at count at
  no_number z = rw z (done starts (omega arith))

pub ruleset number_ends = (decoded-end, a_number, no_number, end_after)
