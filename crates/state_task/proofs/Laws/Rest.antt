-- Where stands what follows an output or an input ("Steps").
use mathlib.Core.Path.{◌≡◌, refl, sym, ◌∙◌}
use mathlib.Core.List.{List, [], ◌∷◌, ◌++◌, append-nil}
use Prim.Native.Nat.{ℕ, ◌+◌}
use native.Mathlib.Omega.{arith}
use lib.ListN.{get_or}
use Rattle.meaning.specs.Bytes.Process.{Prefix, output, input, Process}
use Rattle.meaning.specs.Bytes.Encoding.{encode_term, encode_process}
use Rattle.meaning.specs.Bytes.Standing.{Stands}
use Rattle.meaning.proofs.Bytes.Reading.Place.{◌⨾◌, parts}
use Rattle.decode_layout.specs.Ends.{TermsEnd}
use Rattle.decode_layout.proofs.Laws.Standing.{first_byte}
use Rattle.state_record.specs.Place.{rest_at}
use Rattle.state_record.proofs.Laws.Process.{kind_of}
use Rattle.state_task.specs.Place.{Rests}

-- What follows a thread.
module _ {s : List ℕ} {at kind : ℕ} (e : kind ≡ get_or s at 0) where
  first_kind : (p : Prefix) (P : Process) {next : ℕ} → Stands s at (encode_process (Process.act p P)) next
      → kind ≡ kind_of (Process.act p P)
  unfolding encode_process
  first_kind (output C M) P q = e ∙ sym (first_byte q)
  first_kind (input C) P q = e ∙ sym (first_byte q)

  pub after-output : {r : ℕ} → kind ≡ 2 → TermsEnd s (at + 1) 2 r → Rests s at r
  unfolding encode_process
  after-output {r} z t = record { exact = λ p. only p }
    where
      only : (p : Prefix) (P : Process) {next : ℕ} → Stands s at (encode_process (Process.act p P)) next → r ≡ rest_at at p
      only (output C M) P q =
          let (a, h, (b, m, (c, n, x))) = parts (2 ∷ []) (encode_term C ∷ encode_term M ∷ encode_process P ∷ []) q in
          let last : Stands s b (encode_term M ++ []) c = rw append-nil n in
          let both : Stands s (at + 1) (encode_term C ++ (encode_term M ++ [])) c = (rw h.size at m) ⨾ last in
          t.same (record { trees = C ∷ M ∷ []; many = refl; there = both }) ∙ omega (arith, h.size, m.size, n.size)
      only (input C) P q = absurd (omega (arith, first_kind (input C) P q))

  pub after-input : {r : ℕ} → (kind ≡ 2 → ⊥) → TermsEnd s (at + 1) 1 r → Rests s at r
  unfolding encode_process
  after-input {r} z t = record { exact = λ p. only p }
    where
      only : (p : Prefix) (P : Process) {next : ℕ} → Stands s at (encode_process (Process.act p P)) next → r ≡ rest_at at p
      only (output C M) P q = absurd (z (first_kind (output C M) P q))
      only (input C) P q =
          let (a, h, (b, m, x)) = parts (3 ∷ []) (encode_term C ∷ encode_process P ∷ []) q in
          let one : Stands s (at + 1) (encode_term C ++ []) b = rw append-nil (rw h.size at m) in
          t.same (record { trees = C ∷ []; many = refl; there = one }) ∙ omega (arith, h.size, m.size)

pub ruleset rests = (after-output, after-input)
