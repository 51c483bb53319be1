-- What the index says of a process, from what it says of its parts ("Bytes"; "Steps").
use mathlib.Core.Path.{◌≡◌, refl, sym, ◌∙◌}
use mathlib.Core.Bool.{Bool, true, false, true≢false}
use mathlib.Core.List.{List, [], ◌∷◌}
use Prim.Native.Nat.{ℕ, zero, suc, ◌+◌, ◌-◌, ◌≤◌, ◌<◌}
use native.Mathlib.Omega.{arith}
use lib.Dec.{ltb}
use lib.ListN.{length, length-append}
use borrow.Author.Tests.{ltb-false, lt-ltb, le-ltb}
use Rattle.meaning.specs.Bytes.Process.{output, input, Process, nil, new, act, if, let_in, par, repl}
use Rattle.meaning.specs.Bytes.Encoding.{encode_term, encode_process}
use Rattle.decode_layout.specs.Ends.{row}
use Rattle.decode_layout.proofs.Laws.Ends.{processes}
use Rattle.decode_layout.proofs.Laws.Table.{Others, others_above}
use Rattle.index_entry.specs.declared.entry.Entry.{Entry}
use Rattle.index_entry.specs.Entry.{
  latest,
  last_of,
  together,
  fixed_names,
  capped,
  growth,
  short,
  entry,
  entry_of,
  row_of,
  named,
  node_of,
  Small,
  IsLarge,
  Together,
  JoinsEntries,
  IsNode,
}
use Rattle.index_entry.proofs.Laws.Length.{
  bytes,
  one_term,
  two_terms,
  nil_long,
  new_long,
  output_long,
  input_long,
  if_long,
  let_long,
  par_long,
  repl_long,
}

-- Names of two processes together.
open_second : (a : ℕ) → 0 ≡ together a 0
open_second zero = refl
open_second (suc a) = refl

both_fixed : (a b : ℕ) → (a ≡ 0 → ⊥) → (b ≡ 0 → ⊥) → a + b - 1 ≡ together a b
both_fixed zero b f g = absurd (f refl)
both_fixed (suc a) zero f g = absurd (g refl)
both_fixed (suc a) (suc b) f g = omega arith

together_low : (a b : ℕ) → together a b ≤ a + b - 1
together_low zero b = omega arith
together_low (suc a) zero = omega arith
together_low (suc a) (suc b) = omega arith

module _ {a b : ℕ} where
  pub none_first : a ≡ 0 → Together a b 0
  none_first e = record { exact = λ h g. rw e }

  pub none_second : b ≡ 0 → Together a b 0
  none_second e = record { exact = λ h g. rw e (open_second a) }

  pub many_first : 4096 < a → Together a b 0
  many_first l = record { exact = λ h g. absurd (omega arith) }

  pub many_second : 4096 < b → Together a b 0
  many_second l = record { exact = λ h g. absurd (omega arith) }

  pub summed : (a ≡ 0 → ⊥) → (b ≡ 0 → ⊥) → Together a b (a + b - 1)
  summed f g = record { exact = λ h k. both_fixed a b f g }

pub ruleset sums = (none_first, none_second, many_first, many_second, summed)

-- Names as a byte has them.
module _ {n : ℕ} where
  pub too_many : 255 < n → 0 ≡ short n
  unfolding short
  too_many h = rw (short, lt-ltb 255 n h)

  pub few_enough : n ≤ 255 → n ≡ short n
  unfolding short
  few_enough h = rw (short, le-ltb 255 n h)

pub ruleset shorts = (too_many, few_enough)

-- If they are not open there, they are all of them; a byte has room for them in any case.
pub not_open : (n : ℕ) {r : ℕ} → r ≡ short n → (r ≡ 0 → ⊥) → n ≡ r
unfolding short
not_open n {r} e h = of (ltb 255 n) e
  where
    of : (b : Bool) → r ≡ elim b [ true ↦ 0 | false ↦ n ] → n ≡ r
    of true z = absurd (h z)
    of false z = sym z

pub short_low : (n : ℕ) → short n < 256
unfolding short
short_low n = of (ltb 255 n) refl
  where
    of : (b : Bool) → ltb 255 n ≡ b → elim b [ true ↦ 0 | false ↦ n ] < 256
    of true z = omega arith
    of false z = omega (arith, ltb-false 255 n z)

-- Whether a number of an entry is large.
module _ {e : Entry} where
  not_small : (Small e → ⊥) → IsLarge e true
  not_small f = record { yes = λ z. f; no = λ z. absurd (true≢false z) }

  pub large_end : 4096 < e.end → IsLarge e true
  large_end h = not_small (λ y. omega (arith, y.end))

  pub large_output : 4096 < e.output → IsLarge e true
  large_output h = not_small (λ y. omega (arith, y.output))

  pub large_input : 4096 < e.input → IsLarge e true
  large_input h = not_small (λ y. omega (arith, y.input))

  pub large_names : 4096 < e.names → IsLarge e true
  large_names h = not_small (λ y. omega (arith, y.names))

  pub large_spread : 33 < e.growth → IsLarge e true
  large_spread h = not_small (λ y. omega (arith, y.growth))

  pub all_small : e.end ≤ 4096 → e.output ≤ 4096 → e.input ≤ 4096 → e.names ≤ 4096 → e.growth ≤ 33 → IsLarge e false
  all_small d o i n k =
      record { yes = λ z. absurd (true≢false (sym z)); no = λ z. record { end = d; output = o; input = i; names = n; growth = k } }

pub ruleset sizes = (large_end, large_output, large_input, large_names, large_spread, all_small)

-- They are, if the process ends among the bytes of the model.
last_inside : (out : Bool) (P : Process) (at : ℕ) → last_of out at P ≤ at + length (encode_process P)
unfolding last_of
last_inside out nil at = omega arith
last_inside out (new P) at = omega (arith, last_inside out P (at + 1), new_long P)
last_inside true (act (output C M) P) at = omega (arith, bytes (act (output C M) P))
last_inside false (act (output C M) P) at = omega arith
last_inside true (act (input C) P) at = omega arith
last_inside false (act (input C) P) at = omega (arith, bytes (act (input C) P))
last_inside out (if M N P Q) at =
    let own = at + 1 + length (encode_term M) + length (encode_term N) in
    omega (arith, last_inside out P own, last_inside out Q (own + length (encode_process P)), if_long M N P Q)
last_inside out (let_in M P) at = omega (arith, last_inside out P (at + 1 + length (encode_term M)), let_long M P)
last_inside out (par P Q) at =
    omega (arith, last_inside out P (at + 1), last_inside out Q (at + 1 + length (encode_process P)), par_long P Q)
last_inside out (repl P) at = omega (arith, last_inside out P (at + 1), repl_long P)

few_names : (P : Process) → fixed_names P ≤ length (encode_process P)
unfolding fixed_names
few_names nil = bytes nil
few_names (new P) = omega (arith, few_names P, together_low 2 (fixed_names P), new_long P)
few_names (act p P) = bytes (act p P)
few_names (if M N P Q) = omega arith
few_names (let_in M P) = omega arith
few_names (par P Q) =
    omega (arith, few_names P, few_names Q, together_low (fixed_names P) (fixed_names Q), par_long P Q)
few_names (repl P) = bytes (repl P)

spread_low : (P : Process) → growth P ≤ 33
unfolding growth
spread_low nil = omega arith
spread_low (new P) = omega arith
spread_low (act p P) = omega arith
spread_low (if M N P Q) = omega arith
spread_low (let_in M P) = omega arith
spread_low (par P Q) = omega arith
spread_low (repl P) = omega arith

pub small_entry : (P : Process) (at : ℕ) → at + length (encode_process P) ≤ 4096 → Small (entry_of at P)
small_entry P at h = record {
  end = h;
  output = omega (arith, last_inside true P at);
  input = omega (arith, last_inside false P at);
  names = omega (arith, few_names P);
  growth = spread_low P;
}

pub small_row : (Ps : List Process) (at : ℕ) → length Ps ≤ 2 → at + length (row encode_process Ps) ≤ 4096 → Small (row_of at Ps)
small_row [] at l h = record { end = omega arith; output = omega arith; input = omega arith; names = omega arith; growth = omega arith }
small_row (P ∷ []) at l h = small_entry P at (omega (arith, length-append (encode_process P) []))
small_row (P ∷ Q ∷ []) at l h =
    let long = length-append (encode_process P) (row encode_process (Q ∷ [])) in
    let longer = length-append (encode_process Q) [] in
    let p = small_entry P at (omega arith) in
    let q = small_entry Q (at + length (encode_process P)) (omega arith) in
    record {
      end = q.end;
      output = omega (arith, p.output, q.output);
      input = omega (arith, p.input, q.input);
      names = omega (arith, few_names P, few_names Q, together_low (fixed_names P) (fixed_names Q));
      growth = omega arith;
    }
small_row (P ∷ Q ∷ R ∷ Ps) at l h = absurd (omega arith)

pub joins : {e f : Entry} {o i n k : ℕ} → o ≡ latest e.output f.output → i ≡ latest e.input f.input
    → Together e.names f.names n → k ≡ capped e.growth f.growth → JoinsEntries e f (entry f.end o i n k)
joins p q t u = record { exact = λ y z. rw (p, q, t.exact y.names z.names, u) }

-- The entry of a process is the one of its node, from the entry of its parts.
same_end : {a b o i n k : ℕ} → a ≡ b → entry a o i n k ≡ entry b o i n k
same_end e = rw e

pub node_entry : (P : Process) (at : ℕ) {own : ℕ} → own ≡ at + 1 + length (row encode_term (processes P).own)
    → node_of (processes P).kind at (row_of own (processes P).inner) ≡ entry_of at P
unfolding processes last_of fixed_names growth
node_entry nil at e = same_end (omega (arith, nil_long))
node_entry (new P) at {own} e = let here : own ≡ at + 1 = omega arith in rw here (same_end (omega (arith, new_long P)))
node_entry (act (output C M) P) at e = same_end (omega (arith, output_long C M P, two_terms (at + 1) C M))
node_entry (act (input C) P) at e = same_end (omega (arith, input_long C P, one_term (at + 1) C))
node_entry (if M N P Q) at e = rw (e ∙ two_terms (at + 1) M N) (same_end (omega (arith, if_long M N P Q)))
node_entry (let_in M P) at e = rw (e ∙ one_term (at + 1) M) (same_end (omega (arith, let_long M P)))
node_entry (par P Q) at {own} e = let here : own ≡ at + 1 = omega arith in rw here (same_end (omega (arith, par_long P Q)))
node_entry (repl P) at {own} e = let here : own ≡ at + 1 = omega arith in rw here (same_end (omega (arith, repl_long P)))

-- The entry of a node by its kind.
module _ {kind at : ℕ} {e : Entry} where
  of_kind : {r : Entry} (n : ℕ) → kind ≡ n → (Small e → r ≡ node_of n at e) → IsNode kind at e r
  of_kind n k f = record { exact = λ y. rw k (f y) }

  pub of_nil : kind ≡ 0 → IsNode kind at e e
  of_nil k = of_kind 0 k (λ y. refl)

  pub of_new : {r : Entry} {n m : ℕ} → kind ≡ 1 → Together 2 e.names n → m ≡ capped 1 e.growth → r ≡ named e n m → IsNode kind at e r
  of_new k t u z = of_kind 1 k (λ y. z ∙ rw (u, t.exact (omega arith) y.names))

  pub of_output : kind ≡ 2 → IsNode kind at e (entry e.end (at + 1) 0 1 1)
  of_output k = of_kind 2 k (λ y. refl)

  pub of_input : kind ≡ 3 → IsNode kind at e (entry e.end 0 (at + 1) 1 1)
  of_input k = of_kind 3 k (λ y. refl)

  pub of_if : {r : Entry} → kind ≡ 4 → r ≡ named e 0 e.growth → IsNode kind at e r
  of_if k z = of_kind 4 k (λ y. z)

  pub of_let : {r : Entry} → kind ≡ 5 → r ≡ named e 0 33 → IsNode kind at e r
  of_let k z = of_kind 5 k (λ y. z)

  pub of_par : kind ≡ 6 → IsNode kind at e e
  of_par k = of_kind 6 k (λ y. refl)

  pub of_repl : {r : Entry} {m : ℕ} → Others 7 kind → kind < 8 → m ≡ capped 1 e.growth → r ≡ named e 1 m → IsNode kind at e r
  of_repl o h u z = of_kind 7 (omega (arith, others_above 7 kind o)) (λ y. z ∙ rw u)

pub ruleset kinds = (of_nil, of_new, of_output, of_input, of_if, of_let, of_par, of_repl)
