-- Processes ("Bytes"): what is read stands there, in scope and within the nesting limits (sound), and all that does so is read
-- (complete).
use mathlib.Core.Path.{◌≡◌, refl}
use mathlib.Core.List.{List, [], ◌∷◌}
use Prim.Native.Nat.{ℕ, zero, suc, ◌+◌, ◌≤◌, ◌<◌}
use native.Mathlib.Nat.{zero-add}
use native.Mathlib.Numerals.{one-add}
use native.Mathlib.Omega.{arith}
use lib.Dec.{T, ltb→lt, lt→ltb}
use Rattle.meaning.specs.Bytes.Process.{Prefix, Process, nil, new, act, if, let_in, par, repl}
use Rattle.meaning.specs.Bytes.Encoding.{encode_term, encode_process}
use Rattle.meaning.specs.Bytes.Scope.{ProcessScoped}
use Rattle.meaning.specs.Bytes.Nesting.{process_terms, process_depth, variables}
use Rattle.meaning.specs.Bytes.Number.{found, and_then}
use Rattle.meaning.specs.Bytes.Kind.{ProcessKind}
use Rattle.meaning.specs.Bytes.Reading.{never, room_for, process_fields, process}
use Rattle.meaning.specs.Bytes.WellFormed.{Bytes}
use Rattle.meaning.specs.Bytes.Standing.{Stands}
use Rattle.meaning.proofs.Bytes.Reading.Place.{◌⨾◌, parts}
use Rattle.meaning.proofs.Bytes.Reader.{Only, holds, fails, and-then}
use Rattle.meaning.proofs.Bytes.Reading.Kind.{process_code, process_table, kind_sound, kind_complete}
use Rattle.meaning.proofs.Bytes.Reading.Term.{term_sound, term_complete}

-- The bytes of the process stand there, it is in scope, and it is within what is left of the limits.
abbrev pub ProcessAt : List ℕ → (left scope at : ℕ) → Process → (end : ℕ) → Type 0
ProcessAt s left scope at P end =
    Stands s at (encode_process P) end × ProcessScoped scope P
    × ((process_terms P ≤ 8) × (process_depth P ≤ left) × (scope + variables P ≤ 12))

module _ {s : List ℕ} (bytes : Bytes s) where
  -- The fields of each kind, with a sound reader of the parts.
  fields_sound : {left scope at mid : ℕ}
      → ((scope at : ℕ) → scope ≤ 12 → Only (ProcessAt s left scope at) (process left scope s at)) → scope ≤ 12
      → (k : ProcessKind) → Stands s at (process_code k ∷ []) mid → T (room_for scope k)
      → Only (ProcessAt s (suc left) scope at) (process_fields (λ n e. process left n s e) scope s k mid)
  unfolding process_fields encode_process
  fields_sound part small ProcessKind.nil k room = holds {a = nil} (k, tt, omega arith)
  fields_sound part small ProcessKind.new k room =
      and-then (part _ _ (omega (arith, ltb→lt))) λ P _ p. holds (k ⨾ p.0, p.1, omega arith)
  fields_sound part small ProcessKind.output k room =
      and-then (term_sound bytes _ _ _) λ C _ c. and-then (term_sound bytes _ _ _) λ M _ m.
      and-then (part _ _ small) λ P _ p. holds (k ⨾ c.0 ⨾ m.0 ⨾ p.0, ((c.1, m.1), rw zero-add p.1), omega arith)
  fields_sound part small ProcessKind.input k room =
      and-then (term_sound bytes _ _ _) λ C _ c. and-then (part _ _ (omega (arith, ltb→lt))) λ P _ p.
      holds (k ⨾ c.0 ⨾ p.0, (c.1, rw one-add p.1), omega arith)
  fields_sound part small ProcessKind.if k room =
      and-then (term_sound bytes _ _ _) λ M _ m. and-then (term_sound bytes _ _ _) λ N _ n.
      and-then (part _ _ small) λ P _ p. and-then (part _ _ small) λ Q _ q.
      holds (k ⨾ m.0 ⨾ n.0 ⨾ p.0 ⨾ q.0, (m.1, n.1, p.1, q.1), omega arith)
  fields_sound part small ProcessKind.let_in k room =
      and-then (term_sound bytes _ _ _) λ M _ m. and-then (part _ _ (omega (arith, ltb→lt))) λ P _ p.
      holds (k ⨾ m.0 ⨾ p.0, (m.1, p.1), omega arith)
  fields_sound part small ProcessKind.par k room =
      and-then (part _ _ small) λ P _ p. and-then (part _ _ small) λ Q _ q. holds (k ⨾ p.0 ⨾ q.0, (p.1, q.1), omega arith)
  fields_sound part small ProcessKind.repl k room = and-then (part _ _ small) λ P _ p. holds (k ⨾ p.0, p.1, omega arith)

  pub process-sound : (left scope at : ℕ) → scope ≤ 12 → Only (ProcessAt s left scope at) (process left scope s at)
  unfolding process
  process-sound zero scope at small = and-then (kind_sound process_table never bytes at) λ k _ p. fails tt
  process-sound (suc left) scope at small =
      and-then (kind_sound process_table (room_for scope) bytes at) λ k _ p. fields_sound (process-sound left) small k p.0 p.1

-- On some path of a process there is a node.
depth_positive : (P : Process) → 0 < process_depth P
depth_positive nil = omega arith
depth_positive (new P) = omega arith
depth_positive (act a P) = omega arith
depth_positive (if M N P Q) = omega arith
depth_positive (let_in M P) = omega arith
depth_positive (par P Q) = omega arith
depth_positive (repl P) = omega arith

pub process-complete : {s : List ℕ} (left scope : ℕ) (P : Process) {at end : ℕ}
    → ProcessAt s left scope at P end → process left scope s at ≡ found P end
unfolding process process_fields encode_process and_then
process-complete zero scope P h = absurd (omega (arith, depth_positive P))
process-complete (suc left) scope nil h = rw (kind_complete process_table (room_for scope) ProcessKind.nil refl tt h.0)
process-complete (suc left) scope (new P) h =
    let (_, k, p) = parts (1 ∷ []) (encode_process P ∷ []) h.0 in
    rw (
      kind_complete process_table (room_for scope) ProcessKind.new refl (omega (arith, lt→ltb)) k,
      process-complete left (suc scope) P (p, h.1, omega arith),
    )
process-complete (suc left) scope (act (Prefix.output C M) P) h =
    let (_, k, (_, c, (_, m, p))) = parts (2 ∷ []) (encode_term C ∷ encode_term M ∷ encode_process P ∷ []) h.0 in
    rw (
      kind_complete process_table (room_for scope) ProcessKind.output refl tt k,
      term_complete 8 scope (omega arith) C (c, h.1.0.0, omega arith),
      term_complete 8 scope (omega arith) M (m, h.1.0.1, omega arith),
      process-complete left scope P (p, rw zero-add at h.1.1, omega arith),
    )
process-complete (suc left) scope (act (Prefix.input C) P) h =
    let (_, k, (_, c, p)) = parts (3 ∷ []) (encode_term C ∷ encode_process P ∷ []) h.0 in
    rw (
      kind_complete process_table (room_for scope) ProcessKind.input refl (omega (arith, lt→ltb)) k,
      term_complete 8 scope (omega arith) C (c, h.1.0, omega arith),
      process-complete left (suc scope) P (p, rw one-add at h.1.1, omega arith),
    )
process-complete (suc left) scope (if M N P Q) h =
    let fields = encode_term M ∷ encode_term N ∷ encode_process P ∷ encode_process Q ∷ [] in
    let (_, k, (_, m, (_, n, (_, p, q)))) = parts (4 ∷ []) fields h.0 in
    rw (
      kind_complete process_table (room_for scope) ProcessKind.if refl tt k,
      term_complete 8 scope (omega arith) M (m, h.1.0, omega arith),
      term_complete 8 scope (omega arith) N (n, h.1.1, omega arith),
      process-complete left scope P (p, h.1.2, omega arith),
      process-complete left scope Q (q, h.1.3, omega arith),
    )
process-complete (suc left) scope (let_in M P) h =
    let (_, k, (_, m, p)) = parts (5 ∷ []) (encode_term M ∷ encode_process P ∷ []) h.0 in
    rw (
      kind_complete process_table (room_for scope) ProcessKind.let_in refl (omega (arith, lt→ltb)) k,
      term_complete 8 scope (omega arith) M (m, h.1.0, omega arith),
      process-complete left (suc scope) P (p, h.1.1, omega arith),
    )
process-complete (suc left) scope (par P Q) h =
    let (_, k, (_, p, q)) = parts (6 ∷ []) (encode_process P ∷ encode_process Q ∷ []) h.0 in
    rw (
      kind_complete process_table (room_for scope) ProcessKind.par refl tt k,
      process-complete left scope P (p, h.1.0, omega arith),
      process-complete left scope Q (q, h.1.1, omega arith),
    )
process-complete (suc left) scope (repl P) h =
    let (_, k, p) = parts (7 ∷ []) (encode_process P ∷ []) h.0 in
    rw (
      kind_complete process_table (room_for scope) ProcessKind.repl refl tt k,
      process-complete left scope P (p, h.1, omega arith),
    )
