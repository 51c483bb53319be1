-- Whether a thread acts itself ("Steps").
use mathlib.Core.Path.{◌≡◌, sym, ap, ◌∙◌}
use mathlib.Core.Bool.{Bool, true, false, true≢false}
use mathlib.Core.List.{List}
use Prim.Native.Nat.{ℕ}
use lib.ListN.{get_or}
use Rattle.buffer.specs.Word.{number_at}
use Rattle.state_record.proofs.Laws.Stored.{record_parts}
use Rattle.successor_rebuild.specs.Kind.{ActsItself}

-- A thread is no repl, or nothing is said of it.
module _ {s out : List ℕ} {at : ℕ} where
  pub acts_not : ActsItself s at out false
  acts_not = record { exact = λ e. absurd (true≢false (sym e)) }

  pub acts_so : {place kind : ℕ} → place ≡ number_at out at → kind ≡ get_or s place 0 → {b : Bool} → (b ≡ true → kind ≡ 7 → ⊥) → ActsItself s at out b
  acts_so p k n = record {
    exact = λ so t h z.
        let (here, size, bound) = record_parts t h in
        n so (k ∙ ap (λ i. get_or s i 0) (p ∙ here) ∙ z);
  }
