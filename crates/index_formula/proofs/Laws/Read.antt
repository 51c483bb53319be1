-- The number of an entry, read and written ("Bytes", the formula kinds).
use mathlib.Core.Path.{◌≡◌, sym, ap, ◌∙◌}
use mathlib.Core.Bool.{Bool, true, false}
use mathlib.Core.List.{List}
use Prim.Native.Nat.{ℕ, ◌+◌, ◌*◌, ◌%◌, ◌/◌, ◌≤◌, ◌<◌}
use native.Mathlib.Omega.{arith}
use lib.Dec.{eqb}
use lib.ListN.{length, set, length-drop}
use borrow.Author.Tests.{eq-eqb, ne_eqb}
use Rattle.meaning.specs.Bytes.Formula.{Label, Formula, equal, not, and, step}
use Rattle.buffer.specs.Buffer.{Within}
use Rattle.buffer.specs.Word.{encode_word, number_at}
use Rattle.buffer.proofs.Laws.Buffer.{node_within, node_stands, wider, unchanged}
use Rattle.buffer.proofs.Laws.Word.{word_number}
use Rattle.index_formula.specs.declared.index.Entry.{Entry}
use Rattle.index_formula.specs.Index.{is_stepless, entry_of, bit, number_of, entry_at, Noted, Indexed, InFormula, Says, Ends, Stepless, Notes}
use Rattle.index_formula.proofs.Laws.Kept.{bytes}

-- The entry of a formula in the index.
own_entry : (f : List ℕ) (at : ℕ) (F : Formula) → Indexed f at F → Noted f at F
own_entry f at (equal M N) i = i
own_entry f at (not F) i = i.0
own_entry f at (and F G) i = i.0
own_entry f at (step (Label.output C) F) i = i.0
own_entry f at (step (Label.input C M) F) i = i.0
own_entry f at (step Label.silent F) i = i.0

-- Where no entry can stand, no formula is in the index.
module _ {f : List ℕ} {at end : ℕ} (F : Formula) (p : InFormula f at F end) where
  not_above : 4096 ≤ at → ⊥
  not_above h = omega (arith, p.stands.size, p.inside, bytes F)

  long_enough : length f < 4096 + 2 * at + 2 → ⊥
  unfolding encode_word
  long_enough h =
      let n = own_entry f at F p.indexed in
      omega (arith, length-drop (entry_at at) f, ap length n.bytes, n.size)

module _ {f : List ℕ} {at v : ℕ} where
  pub no_entry : 4096 ≤ at → Says f at v
  no_entry h = record { same = λ F p. absurd (not_above F p h) }

  pub no_index : length f < 4096 + 2 * at + 2 → Says f at v
  no_index h = record { same = λ F p. absurd (long_enough F p h) }

  pub is_said : v ≡ number_at f (4096 + 2 * at) → Says f at v
  is_said n = record { same = λ F p. n ∙ word_number (number_of (entry_of at F)) (own_entry f at F p.indexed) }

pub ruleset sayings = (no_entry, no_index, is_said)

-- Both parts of the number are found again.
end_of : (n : ℕ) (b : Bool) → (2 * n + bit b) / 2 ≡ n
end_of n true = omega arith
end_of n false = omega arith

stepless_of : (n : ℕ) (b : Bool) → eqb ((2 * n + bit b) % 2) 1 ≡ b
stepless_of n true = eq-eqb ((2 * n + 1) % 2) 1 (omega arith)
stepless_of n false = ne_eqb ((2 * n + 0) % 2) 1 (λ e. omega arith)

-- So an entry says where a formula ends, and whether it has no steps.
module _ {f : List ℕ} {at v : ℕ} where
  pub ends_there : Says f at v → Ends f at (v / 2)
  ends_there n = record { same = λ F p. ap (λ k. k / 2) (n.same F p) ∙ end_of (entry_of at F).end (is_stepless F) ∙ sym p.stands.size }

  pub steps_told : Says f at v → Stepless f at (eqb (v % 2) 1)
  steps_told n = record { same = λ F p. ap (λ k. eqb (k % 2) 1) (n.same F p) ∙ stepless_of (entry_of at F).end (is_stepless F) }

pub ruleset meanings = (ends_there, steps_told)

-- An entry that is not written.
module _ {f : List ℕ} {at : ℕ} {e : Entry} where
  pub none_behind : 4096 ≤ at → Notes f at e f
  none_behind h = record { own = unchanged; noted = λ l y. absurd (omega arith) }

  pub none_so_large : 4096 < e.end → Notes f at e f
  none_so_large h = record { own = unchanged; noted = λ l y. absurd (omega arith) }

-- One that is written, with 1 more than twice the end or with no more.
module _ (f : List ℕ) (at v : ℕ) {g : List ℕ} (w : g ≡ set (set f (4096 + 2 * at) (v % 256)) (4096 + 2 * at + 1) (v / 256)) (h : at < 4096)
    (l : length f ≡ 12288) where
  entered : {e : Entry} → v ≡ number_of e → Notes f at e g
  entered n = record {
    own = node_within f (entry_at at) v w (omega arith);
    noted = λ k y. rw (← n) (node_stands f (entry_at at) v w (omega arith));
  }

  pub entry_within : Within 4096 12288 f g
  entry_within = wider (node_within f (entry_at at) v w (omega arith)) (omega arith) (omega arith)

module _ {f g : List ℕ} {at : ℕ} {e : Entry} where
  pub with_one : g ≡ set (set f (4096 + 2 * at) ((2 * e.end + 1) % 256)) (4096 + 2 * at + 1) ((2 * e.end + 1) / 256)
      → at < 4096 → length f ≡ 12288 → e.stepless ≡ true → Notes f at e g
  with_one w h l t = entered f at (2 * e.end + 1) w h l (rw t)

  pub with_none : g ≡ set (set f (4096 + 2 * at) (2 * e.end % 256)) (4096 + 2 * at + 1) (2 * e.end / 256)
      → at < 4096 → length f ≡ 12288 → e.stepless ≡ false → Notes f at e g
  with_none w h l t = entered f at (2 * e.end) w h l (rw t (omega arith))

pub ruleset entries = (none_behind, none_so_large, with_one, with_none, entry_within, unchanged)
