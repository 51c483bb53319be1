-- The branch of an if, and marks ("Steps").
use mathlib.Core.Path.{◌≡◌, refl, sym, ◌∙◌}
use mathlib.Core.Bool.{Bool, true, false, true≢false}
use mathlib.Core.List.{List}
use mathlib.Core.Logic.{⊎_elim}
use Prim.Native.Nat.{ℕ, ◌+◌, ◌≤◌, ◌<◌}
use native.Mathlib.Omega.{arith}
use borrow.Author.Tests.{lt-ltb, le-ltb}
use lib.Dec.{leb}
use lib.ListN.{length}
use Rattle.std.proofs.lemmas.Bool.Decides.{leb_tells}
use Rattle.meaning.specs.Bytes.Encoding.{encode_process}
use Rattle.index_process.specs.Index.{Ends}
use Rattle.state_task.specs.Machine.{contains}
use Rattle.state_task.specs.Place.{Chosen, Contains}

module _ {s : List ℕ} {at : ℕ} {same : Bool} where
  pub takes_first : same ≡ true → Chosen s at same at
  takes_first e = record { first = λ f. refl; second = λ f. absurd (true≢false (sym e ∙ f)) }

  pub takes_second : {r : ℕ} → same ≡ false → Ends s at r → Chosen s at same r
  takes_second e p = record { first = λ f. absurd (true≢false (sym f ∙ e)); second = λ f. p }

pub ruleset chosens = (takes_first, takes_second)

-- A mark is behind the process, or in it, or before it.
module _ {s : List ℕ} {at mark : ℕ} where
  pub before_it : mark ≤ at → Contains s at mark false
  unfolding contains
  before_it h = record { exact = λ P p. rw (le-ltb at mark h) }

  pub in_it : {r : ℕ} → at < mark → Ends s at r → mark ≤ r → Contains s at mark true
  unfolding contains
  in_it h l k = record {
    exact = λ P p.
        rw (lt-ltb at mark h, le-ltb (at + length (encode_process P)) mark (omega (arith, l.same P p, p.stands.size)));
  }

  pub behind_it : {r : ℕ} → at < mark → Ends s at r → r < mark → Contains s at mark false
  unfolding contains
  behind_it h l k = record {
    exact = λ P p.
        rw (lt-ltb at mark h, lt-ltb (at + length (encode_process P)) mark (omega (arith, l.same P p, p.stands.size)));
  }

  pub in_its_reach : {r : ℕ} → at < mark → Ends s at r → Contains s at mark (leb mark r)
  in_its_reach {r} h l = ⊎_elim (λ t. rw t.0 (in_it h l t.1)) (λ t. rw t.0 (behind_it h l t.1)) (leb_tells mark r)

pub ruleset marks = (before_it, in_its_reach)
