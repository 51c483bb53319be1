-- A process that stands at a position, by its kind ("Bytes", the process kinds).
use mathlib.Core.Path.{◌≡◌, refl, sym, ◌∙◌}
use mathlib.Core.List.{List, [], ◌∷◌}
use Prim.Native.Nat.{ℕ, zero, suc, ◌+◌, ◌-◌, ◌≤◌, ◌<◌}
use native.Mathlib.Nat.{zero-add}
use native.Mathlib.Omega.{arith}
use lib.ListN.{length, get_or}
use Rattle.meaning.specs.Messages.Term.{Term}
use Rattle.meaning.specs.Bytes.Process.{Prefix, output, input, Process, nil, new, act, if, let_in, par, repl}
use Rattle.meaning.specs.Bytes.Encoding.{encode_term, encode_process}
use Rattle.meaning.proofs.Bytes.Reading.Place.{parts}
use Rattle.index_process.specs.Index.{InModel}
use Rattle.decode_layout.proofs.Laws.Standing.{first_byte, goes_on}
use Rattle.message_term.specs.Work.{TermAt}
use Rattle.state_record.specs.Place.{ProcessAt, then_at, else_at, body_at, right_at}

-- The numbers that document 01 gives to the kinds.
abbrev pub kind_of : Process → ℕ
kind_of nil = 0
kind_of (new P) = 1
kind_of (act (output C M) P) = 2
kind_of (act (input C) P) = 3
kind_of (if M N P Q) = 4
kind_of (let_in M P) = 5
kind_of (par P Q) = 6
kind_of (repl P) = 7

-- What a process of a kind looks like.
abbrev pub Shape : ℕ → Process → Type 0
Shape zero P = P ≡ nil
Shape (suc zero) P = (Q : Process) × (P ≡ new Q)
Shape (suc (suc zero)) P = (p : Prefix) × (Q : Process) × (P ≡ act p Q)
Shape (suc (suc (suc zero))) P = (p : Prefix) × (Q : Process) × (P ≡ act p Q)
Shape (suc (suc (suc (suc zero)))) P = (M N : Term) × (Q R : Process) × (P ≡ if M N Q R)
Shape (suc (suc (suc (suc (suc zero))))) P = (M : Term) × (Q : Process) × (P ≡ let_in M Q)
Shape (suc (suc (suc (suc (suc (suc zero)))))) P = (Q R : Process) × (P ≡ par Q R)
Shape (suc (suc (suc (suc (suc (suc (suc n))))))) P = (Q : Process) × (P ≡ repl Q)

shape : (P : Process) → Shape (kind_of P) P
shape nil = refl
shape (new P) = (P, refl)
shape (act (output C M) P) = (output C M, P, refl)
shape (act (input C) P) = (input C, P, refl)
shape (if M N P Q) = (M, N, P, Q, refl)
shape (let_in M P) = (M, P, refl)
shape (par P Q) = (P, Q, refl)
shape (repl P) = (P, refl)

module _ {s : List ℕ} {at left scope next : ℕ} where
  -- It is among the bytes of the model, and in the index.
  pub in_model : {P : Process} → ProcessAt s at left scope P next → InModel s at P next
  in_model p = record { stands = p.stands; indexed = p.indexed; inside = p.inside }

  -- A kind stands first, and a node is left for it.
  pub process_kind : (P : Process) → ProcessAt s at left scope P next → (get_or s at 0 ≡ kind_of P) × (at < length s) × (1 ≤ left)
  unfolding encode_process
  process_kind nil p = (sym (first_byte p.stands), goes_on p.stands, omega (arith, p.deep))
  process_kind (new P) p = (sym (first_byte p.stands), goes_on p.stands, omega (arith, p.deep))
  process_kind (act (output C M) P) p = (sym (first_byte p.stands), goes_on p.stands, omega (arith, p.deep))
  process_kind (act (input C) P) p = (sym (first_byte p.stands), goes_on p.stands, omega (arith, p.deep))
  process_kind (if M N P Q) p = (sym (first_byte p.stands), goes_on p.stands, omega (arith, p.deep))
  process_kind (let_in M P) p = (sym (first_byte p.stands), goes_on p.stands, omega (arith, p.deep))
  process_kind (par P Q) p = (sym (first_byte p.stands), goes_on p.stands, omega (arith, p.deep))
  process_kind (repl P) p = (sym (first_byte p.stands), goes_on p.stands, omega (arith, p.deep))

  -- So the byte there tells what it looks like.
  pub shaped : (k : ℕ) (P : Process) → ProcessAt s at left scope P next → get_or s at 0 ≡ k → Shape k P
  shaped k P p e = rw (sym e ∙ (process_kind P p).0) (shape P)

  -- Its parts.
  pub of_new : (P : Process) → ProcessAt s at left scope (new P) next → ProcessAt s (at + 1) (left - 1) (suc scope) P next
  unfolding encode_process
  of_new P p =
      let (mid, k, q) = parts (1 ∷ []) (encode_process P ∷ []) p.stands in
      record {
        stands = rw k.size at q;
        deep = omega (arith, p.deep);
        terms = p.terms;
        scoped = p.scoped;
        few = omega (arith, p.few);
        indexed = p.indexed.1;
        inside = p.inside;
      }

  pub of_if : (M N : Term) (P Q : Process) → ProcessAt s at left scope (if M N P Q) next
      → TermAt s (at + 1) 8 scope M (body_at at M) × TermAt s (body_at at M) 8 scope N (then_at at M N)
      × ProcessAt s (then_at at M N) (left - 1) scope P (else_at at M N P) × ProcessAt s (else_at at M N P) (left - 1) scope Q next
  unfolding encode_process
  of_if M N P Q p =
      let (a, k, (b, m, (c, n, (d, x, y)))) =
      parts (4 ∷ []) (encode_term M ∷ encode_term N ∷ encode_process P ∷ encode_process Q ∷ []) p.stands in
      let second : b ≡ body_at at M = omega (arith, m.size, k.size) in
      let third : c ≡ then_at at M N = omega (arith, n.size) in
      let fourth : d ≡ else_at at M N P = omega (arith, x.size) in (
        record { stands = rw (k.size, second) at m; deep = omega (arith, p.terms); scoped = p.scoped.0 },
        record { stands = rw (second, third) at n; deep = omega (arith, p.terms); scoped = p.scoped.1 },
        record {
          stands = rw (third, fourth) at x;
          deep = omega (arith, p.deep);
          terms = omega (arith, p.terms);
          scoped = p.scoped.2;
          few = omega (arith, p.few);
          indexed = p.indexed.1;
          inside = omega (arith, p.inside, y.size);
        },
        record {
          stands = rw fourth at y;
          deep = omega (arith, p.deep);
          terms = omega (arith, p.terms);
          scoped = p.scoped.3;
          few = omega (arith, p.few);
          indexed = p.indexed.2;
          inside = p.inside;
        },
      )

  pub of_let : (M : Term) (P : Process) → ProcessAt s at left scope (let_in M P) next
      → TermAt s (at + 1) 8 scope M (body_at at M) × ProcessAt s (body_at at M) (left - 1) (suc scope) P next
  unfolding encode_process
  of_let M P p =
      let (a, k, (b, m, x)) = parts (5 ∷ []) (encode_term M ∷ encode_process P ∷ []) p.stands in
      let second : b ≡ body_at at M = omega (arith, m.size, k.size) in (
        record { stands = rw (k.size, second) at m; deep = omega (arith, p.terms); scoped = p.scoped.0 },
        record {
          stands = rw second at x;
          deep = omega (arith, p.deep);
          terms = omega (arith, p.terms);
          scoped = p.scoped.1;
          few = omega (arith, p.few);
          indexed = p.indexed.1;
          inside = p.inside;
        },
      )

  pub of_par : (P Q : Process) → ProcessAt s at left scope (par P Q) next
      → ProcessAt s (at + 1) (left - 1) scope P (right_at at P) × ProcessAt s (right_at at P) (left - 1) scope Q next
  unfolding encode_process
  of_par P Q p =
      let (a, k, (b, x, y)) = parts (6 ∷ []) (encode_process P ∷ encode_process Q ∷ []) p.stands in
      let second : b ≡ right_at at P = omega (arith, x.size, k.size) in (
        record {
          stands = rw (k.size, second) at x;
          deep = omega (arith, p.deep);
          terms = omega (arith, p.terms);
          scoped = p.scoped.0;
          few = omega (arith, p.few);
          indexed = p.indexed.1;
          inside = omega (arith, p.inside, y.size);
        },
        record {
          stands = rw second at y;
          deep = omega (arith, p.deep);
          terms = omega (arith, p.terms);
          scoped = p.scoped.1;
          few = omega (arith, p.few);
          indexed = p.indexed.2;
          inside = p.inside;
        },
      )

  pub of_repl : (P : Process) → ProcessAt s at left scope (repl P) next → ProcessAt s (at + 1) (left - 1) scope P next
  unfolding encode_process
  of_repl P p =
      let (mid, k, q) = parts (7 ∷ []) (encode_process P ∷ []) p.stands in
      record {
        stands = rw k.size at q;
        deep = omega (arith, p.deep);
        terms = p.terms;
        scoped = p.scoped;
        few = p.few;
        indexed = p.indexed.1;
        inside = p.inside;
      }

  -- Channel and message of an output, and the channel of an input.
  pub of_output : (C M : Term) (P : Process) → ProcessAt s at left scope (act (output C M) P) next
      → TermAt s (at + 1) 8 scope C (body_at at C) × TermAt s (body_at at C) 8 scope M (then_at at C M)
  unfolding encode_process
  of_output C M P p =
      let (a, k, (b, m, (c, n, x))) = parts (2 ∷ []) (encode_term C ∷ encode_term M ∷ encode_process P ∷ []) p.stands in
      let second : b ≡ body_at at C = omega (arith, m.size, k.size) in
      let third : c ≡ then_at at C M = omega (arith, n.size) in (
        record { stands = rw (k.size, second) at m; deep = omega (arith, p.terms); scoped = p.scoped.0.0 },
        record { stands = rw (second, third) at n; deep = omega (arith, p.terms); scoped = p.scoped.0.1 },
      )

  pub of_input : (C : Term) (P : Process) → ProcessAt s at left scope (act (input C) P) next
      → TermAt s (at + 1) 8 scope C (body_at at C)
  unfolding encode_process
  of_input C P p =
      let (a, k, (b, m, x)) = parts (3 ∷ []) (encode_term C ∷ encode_process P ∷ []) p.stands in
      let second : b ≡ body_at at C = omega (arith, m.size, k.size) in
      record { stands = rw (k.size, second) at m; deep = omega (arith, p.terms); scoped = p.scoped.0 }

  -- What follows an output, and what follows an input.
  pub after-output : (C M : Term) (P : Process) → ProcessAt s at left scope (act (output C M) P) next
      → ProcessAt s (then_at at C M) (left - 1) scope P next
  unfolding encode_process
  after-output C M P p =
      let (a, k, (b, m, (c, n, x))) = parts (2 ∷ []) (encode_term C ∷ encode_term M ∷ encode_process P ∷ []) p.stands in
      let third : c ≡ then_at at C M = omega (arith, n.size, m.size, k.size) in
      record {
        stands = rw third at x;
        deep = omega (arith, p.deep);
        terms = omega (arith, p.terms);
        scoped = rw zero-add at p.scoped.1;
        few = omega (arith, p.few);
        indexed = p.indexed.1;
        inside = p.inside;
      }

  pub after-input : (C : Term) (P : Process) → ProcessAt s at left scope (act (input C) P) next
      → ProcessAt s (body_at at C) (left - 1) (suc scope) P next
  unfolding encode_process
  after-input C P p =
      let (a, k, (b, m, x)) = parts (3 ∷ []) (encode_term C ∷ encode_process P ∷ []) p.stands in
      let second : b ≡ body_at at C = omega (arith, m.size, k.size) in
      let one : 1 + scope ≡ suc scope = omega arith in
      record {
        stands = rw second at x;
        deep = omega (arith, p.deep);
        terms = omega (arith, p.terms);
        scoped = rw one at p.scoped.1;
        few = omega (arith, p.few);
        indexed = p.indexed.1;
        inside = p.inside;
      }
