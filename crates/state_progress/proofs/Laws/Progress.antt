-- What a traversal has come to, carried over a call that changes a part of it ("Steps").
use mathlib.Core.Path.{◌≡◌, refl, sym, ◌∙◌}
use mathlib.Core.Bool.{false, true≢false}
use mathlib.Core.List.{List}
use Prim.Native.Nat.{ℕ, ◌+◌, ◌≤◌}
use native.Mathlib.Omega.{arith}
use lib.ListN.{length, drop_of_length-le}
use Rattle.buffer.specs.Buffer.{Within}
use Rattle.buffer.proofs.Laws.Buffer.{kept, one_after}
use Rattle.state_progress.specs.TraversalResult.{Accumulated, named}
use Rattle.state_progress.specs.Represented.{Represents}
use Rattle.state_progress.specs.Progress.{SameState, Extends, Stopped, Renamed, Hits}
use Rattle.state_progress.specs.declared.progress.Progress.{Progress}

-- A traversal that goes on has met no limit.
pub on_or_off : {s out : List ℕ} {now : Progress} {g : Accumulated} → Represents s out now g → now.going ≡ false → ⊥
on_or_off v e = true≢false (sym v.on ∙ e)

-- Above its records the bytes may change.
pub still_shows : {s out after : List ℕ} {now : Progress} {g : Accumulated} {high : ℕ} → Represents s out now g
    → Within now.state.end high out after → Represents s after now g
still_shows {now} v w = record {
  on = v.on;
  names = v.names;
  threads = v.threads;
  nodes = v.nodes;
  records = kept {low = now.state.end} v.records (omega arith) w.below;
  size = v.size;
  few = v.few;
  light = v.light;
  room = omega (arith, v.room, w.long);
  standing = v.standing;
}

-- Another next private name.
pub renamed_shows : {s out : List ℕ} {now r : Progress} {g : Accumulated} (n : ℕ) → Represents s out now g → Renamed now n r → Represents s out r (named n g)
renamed_shows n v e = record {
  on = e.going ∙ v.on;
  names = e.names v.on;
  threads = rw e.state v.threads;
  nodes = rw e.state v.nodes;
  records = rw e.state v.records;
  size = rw e.state v.size;
  few = v.few;
  light = v.light;
  room = rw e.state v.room;
  standing = v.standing;
}

-- The state is as it was, or begins where it did: after one call, and after two.
pub unchanged_state : {a : Progress} → SameState a a
unchanged_state = record { state = refl }

pub stopped_state : {a b : Progress} → Stopped a b → SameState a b
stopped_state e = record { state = e.state }

pub then_state : {a b c : Progress} → SameState a b → SameState b c → SameState a c
then_state e f = record { state = f.state ∙ e.state }

pub ruleset same_states = (unchanged_state, stopped_state, then_state)

pub unchanged_extends : {a : Progress} → Extends a a
unchanged_extends = record { aliases = refl; start = refl; end = omega arith }

by_state : {a b : Progress} → b.state ≡ a.state → Extends a b
by_state e = record { aliases = rw e; start = rw e; end = rw e (omega arith) }

pub state_extends : {a b : Progress} → SameState a b → Extends a b
state_extends e = by_state e.state

pub stopped_extends : {a b : Progress} → Stopped a b → Extends a b
stopped_extends e = by_state e.state

pub then_extends : {a b c : Progress} → Extends a b → Extends b c → Extends a c
then_extends e f = record { aliases = f.aliases ∙ e.aliases; start = f.start ∙ e.start; end = omega (arith, e.end, f.end) }

pub renamed_extends : {a b c : Progress} {n : ℕ} → Renamed a n b → Extends b c → Extends a c
renamed_extends e f = then_extends (by_state e.state) f

pub extends_renamed : {a b c : Progress} {n : ℕ} → Extends a b → Renamed b n c → Extends a c
extends_renamed e f = then_extends e (by_state f.state)

pub extends_same : {a b c : Progress} → Extends a b → SameState b c → Extends a c
extends_same e f = then_extends e (by_state f.state)

pub hit_extends : {a b : Progress} {at k : ℕ} → Hits a at k b → Extends a b
hit_extends e = by_state e.state

pub ruleset extensions =
    (hit_extends, unchanged_extends, state_extends, stopped_extends, then_extends, renamed_extends, extends_renamed, extends_same)

-- What is above a position may change, to the end of the slice: after one call, and after two.
pub to_end : {s t : List ℕ} {low high : ℕ} → Within low high s t → Within low (length s) s t
to_end {s} {t} w = record { long = w.long; below = w.below; above = drop_of_length-le t {i = length s} (omega (arith, w.long)) ∙ sym (drop_of_length-le s {i = length s} (omega arith)) }

pub to_end_twice : {s t u : List ℕ} {low high high₁ low₁ : ℕ} → Within low high s t → Within low₁ high₁ t u → low ≤ low₁
    → Within low (length s) s u
to_end_twice {s} {t} {u} {low₁ = low₁} w v h =
    let first = to_end w in
    let second : Within low₁ (length s) t u = rw w.long at (to_end v) in
    one_after first second (omega arith) h (omega arith) (omega arith)

pub to_end_again : {s t u : List ℕ} {low high high₁ : ℕ} → Within low high s t → Within low high₁ t u → Within low (length s) s u
to_end_again w v = to_end_twice w v (omega arith)

pub to_end_after : {s t u : List ℕ} {low high high₁ last : ℕ} (n : ℕ) → Within low high s t → Within last high₁ t u → last ≡ low + n
    → Within low (length s) s u
to_end_after n w v e = to_end_twice w v (omega arith)

pub to_end_bound : {s t u : List ℕ} {low high high₁ last : ℕ} (n : ℕ) → Within low high s t → Within last high₁ t u → last ≡ low + 2 + n
    → Within low (length s) s u
to_end_bound n w v e = to_end_twice w v (omega arith)

-- The same of what is above the records of a state.
pub records_twice : {s t u : List ℕ} {high high₁ : ℕ} {a b : Progress} → Within a.state.end high s t → Within b.state.end high₁ t u
    → Extends a b → Within a.state.end (length s) s u
records_twice w v e = to_end_twice w v e.end

pub records_renamed : {s t : List ℕ} {high n : ℕ} {a b : Progress} → Renamed a n b → Within b.state.end high s t
    → Within a.state.end (length s) s t
records_renamed e w = rw e.state at (to_end w)

pub records_again : {s t u : List ℕ} {high high₁ n : ℕ} {a b : Progress} → Renamed a n b → Within b.state.end high s t
    → Within b.state.end high₁ t u → Within a.state.end (length s) s u
records_again e w v = rw e.state at (to_end_again w v)

pub ruleset to_ends = (to_end, to_end_again, to_end_twice)

pub ruleset records_ends = (records_twice, records_renamed, records_again)
