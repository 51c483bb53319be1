-- Threads that meet no limit, and lists of threads that a step leaves: those of its rests among such threads ("Judging and its count").
use Prim.Native.Nat.{ℕ, ◌≤◌}
use mathlib.Core.Path.{◌≡◌, refl, sym, ◌∙◌, ap₂}
use mathlib.Core.Bool.{Bool, false, ◌||◌, or_comm}
use mathlib.Core.List.{List, [], ◌∷◌, ◌++◌, map, append-nil}
use Rattle.meaning.specs.Bytes.Process.{Process}
use Rattle.meaning.specs.Places.{Every, none, ◌also◌}
use Rattle.meaning.specs.Steps.State.{Bound, Thread, repl, names, settle}
use Rattle.meaning.specs.Steps.Invariant.{ThreadStored}
use Rattle.meaning.specs.Logic.Truth.{any_of}
use Rattle.meaning.specs.Judging.Limits.{over_settling, over_offers}
use Rattle.meaning.proofs.Test.{neither, none_passes, passes_none, any_append}
use Rattle.meaning.proofs.Every.{every_map, every_joined, every_parts}
use Rattle.meaning.proofs.Steps.Invariant.Settling.{thread_later, settled_below}
use Rattle.meaning.proofs.Judging.Alike.{copies_alike}
use Rattle.state_record.specs.Record.{Placed}
use Rattle.state_head.specs.Settled.{settled_at}
use Rattle.state_head.proofs.Laws.Counting.{over_repl}
use Rattle.state_head.proofs.Laws.Settling.{settled_threads}
use Rattle.step_located.proofs.Laws.Everywhere.{every_and}
use Rattle.state_layout.specs.Loaded.{BoundSmall}
use Rattle.state_layout.proofs.Laws.Small.{ThreadSmall, settled_small}

-- What a thread offers meets no limit, copies being opened at k, its private names are below k, and its messages are small.
pub record Clear (k : ℕ) (t : Thread) : Type 0 where
  pub stored : ThreadStored k t
  pub free : over_offers t k ≡ false
  pub small : ThreadSmall t

-- It does so later too; and so do the threads of a copy.
pub clear_later : {k j : ℕ} → k ≤ j → (t : Thread) → Clear k t → Clear j t
clear_later {k} {j} le t c = record {
  stored = thread_later le t c.stored;
  free = copies_alike t k j c.stored le ∙ c.free;
  small = c.small;
}

pub all_later : {k j : ℕ} → k ≤ j → {ts : List Thread} → Every (Clear k) ts → Every (Clear j) ts
all_later le = every_map (clear_later le)

pub clear_copy : (P : Process) {ρ : Bound} {k : ℕ} → Clear k (repl ρ P)
    → (k ≤ names P ρ k) × Every (Clear (names P ρ k)) (settle P ρ k)
clear_copy P {ρ} {k} c =
    let (later, stored) = settled_below P {ρ = ρ} c.stored in
    let (settling, free) = neither (over_settling P ρ k) _ (sym (over_repl ρ P k) ∙ c.free) in (
      later,
      every_map (λ t (s, f). record { stored = s; free = f.0; small = f.1 })
          (every_and stored (every_and (passes_none _ (settle P ρ k) free) (settled_small P ρ k settling c.small))),
    )

-- Threads with positions: whether one of them meets a limit; their private names are below j; their messages are small.
abbrev pub any_over : ℕ → List Placed → Bool
any_over j ps = any_of (λ t. over_offers t.thread j) ps

abbrev pub AllStored : ℕ → List Placed → Type 0
AllStored j ps = Every (λ t. ThreadStored j t.thread) ps

abbrev pub AllSmall : List Placed → Type 0
AllSmall ps = Every (λ t. ThreadSmall t.thread) ps

abbrev pub AllClear : ℕ → List Placed → Type 0
AllClear j ps = Every (λ t. Clear j t.thread) ps

-- The list ps has the threads of z in it, and others that meet no limit.
pub record Left (j : ℕ) (z ps : List Placed) : Type 0 where
  pub over : any_over j ps ≡ any_over j z
  pub stored : AllStored j z → AllStored j ps
  pub small : AllSmall z → AllSmall ps

pub left_whole : {j : ℕ} {z : List Placed} → Left j z z
left_whole = record { over = refl; stored = λ s. s; small = λ s. s }

pub left_clear : {j : ℕ} {ps : List Placed} → AllClear j ps → Left j [] ps
unfolding any_of
left_clear c = record {
  over = none_passes _ (every_map (λ t h. h.free) c);
  stored = λ s. every_map (λ t h. h.stored) c;
  small = λ s. every_map (λ t h. h.small) c;
}

pub left_joined : {j : ℕ} {z y ps qs : List Placed} → Left j z ps → Left j y qs → Left j (z ++ y) (ps ++ qs)
left_joined {j} {z} {y} {ps} {qs} p q = record {
  over = any_append _ ps qs ∙ ap₂ ◌||◌ p.over q.over ∙ sym (any_append _ z y);
  stored = λ s. let (a, b) = every_parts z s in every_joined (p.stored a) (q.stored b);
  small = λ s. let (a, b) = every_parts z s in every_joined (p.small a) (q.small b);
}

pub left_swapped : {j : ℕ} (z y : List Placed) {ps : List Placed} → Left j (z ++ y) ps → Left j (y ++ z) ps
left_swapped {j} z y p = record {
  over = p.over ∙ any_append _ z y ∙ or_comm (any_over j z) (any_over j y) ∙ sym (any_append _ y z);
  stored = λ s. let (a, b) = every_parts y s in p.stored (every_joined b a);
  small = λ s. let (a, b) = every_parts y s in p.small (every_joined b a);
}

-- Threads that meet no limit before and behind.
pub left_behind : {j : ℕ} {z ps qs : List Placed} → AllClear j qs → Left j z ps → Left j z (ps ++ qs)
left_behind {j} {z} c p = rw append-nil at (left_joined p (left_clear c))

pub left_before : {j : ℕ} {z ps qs : List Placed} → AllClear j ps → Left j z qs → Left j z (ps ++ qs)
left_before c q = left_joined (left_clear c) q

-- Those of a process that is settled.
pub unmapped : {A B : Type 0} {Q : B → Type 0} (f : A → B) (xs : List A) → Every Q (map f xs) → Every (λ x. Q (f x)) xs
unmapped f [] none = none
unmapped f (x ∷ xs) (q also qs) = q also unmapped f xs qs

pub settled_clear : (P : Process) (at : ℕ) (ρ : Bound) (n : ℕ) {j : ℕ} → Every (Clear j) (settle P ρ n) → AllClear j (settled_at P at ρ n)
settled_clear P at ρ n c = unmapped (λ t. t.thread) (settled_at P at ρ n) (rw (settled_threads P at ρ n) c)

pub settled_stored : (P : Process) (at : ℕ) (ρ : Bound) (n : ℕ) {j : ℕ} → Every (ThreadStored j) (settle P ρ n)
    → AllStored j (settled_at P at ρ n)
settled_stored P at ρ n c = unmapped (λ t. t.thread) (settled_at P at ρ n) (rw (settled_threads P at ρ n) c)

pub rest_small : (P : Process) (at : ℕ) (ρ : Bound) (n : ℕ) → over_settling P ρ n ≡ false → BoundSmall ρ → AllSmall (settled_at P at ρ n)
rest_small P at ρ n e b =
    unmapped (λ t. t.thread) (settled_at P at ρ n) (rw (settled_threads P at ρ n) (settled_small P ρ n e b))
