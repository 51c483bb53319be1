-- A thread all of whose offers of a kind come before the position that a quest begins at ("Steps").
use mathlib.Core.Path.{◌≡◌, refl}
use mathlib.Core.Bool.{true, false}
use mathlib.Core.List.{List}
use mathlib.Core.Logic.{⊎_elim}
use Prim.Native.Nat.{ℕ, ◌≤◌}
use native.Mathlib.Omega.{arith}
use lib.Dec.{leb}
use Rattle.std.proofs.lemmas.Bool.Decides.{leb_tells}
use Rattle.meaning.specs.Messages.Term.{Message}
use Rattle.meaning.specs.Places.{Every, none, ◌also◌}
use Rattle.index_process.specs.Index.{Lasts}
use Rattle.state_record.specs.Record.{process_of, bound_of}
use Rattle.state_record.proofs.Laws.Process.{in_model}
use Rattle.state_task.specs.declared.task.Quest.{Quest}
use Rattle.step_located.specs.Located.{LocatedOffer}
use Rattle.step_located.specs.Sought.{wanted}
use Rattle.step_located.proofs.Laws.Last.{none_wanted}
use Rattle.step_offer.specs.Seek.{Sight, first_of}
use Rattle.step_offer.specs.Pass.{NoOffer}
use Rattle.step_offer.proofs.Laws.Pass.{may_offer}

-- Where no offer is wanted, the first one is seen later.
none_first : (q : Quest) (x : Message) (at : ℕ) {os : List LocatedOffer} (later : Sight) → Every (λ a. wanted q x a ≡ false) os
    → first_of q x at os later ≡ later
unfolding first_of
none_first q x at later none = refl
none_first q x at later (e also es) = rw (e, first_of) (none_first q x at later es)

-- So the thread is passed by.
spent : {s argument : List ℕ} {place last : ℕ} {q : Quest} → Lasts s place q.output last → last ≤ q.from → NoOffer s argument place q true
spent {q = q} x h = record {
  exact = λ _ t y k at later here p b l.
      none_first q y at later
      (none_wanted q y (process_of t.thread) t.place (bound_of t.thread) 0 k
      (omega (arith, (rw (← here) at x).same (process_of t.thread) (in_model p.process))));
}

pub spent_or_not : {s argument : List ℕ} {place last : ℕ} {q : Quest} → Lasts s place q.output last → NoOffer s argument place q (leb last q.from)
spent_or_not {last = last} {q = q} x = ⊎_elim (λ t. rw t.0 (spent x t.1)) (λ t. rw t.0 may_offer) (leb_tells last q.from)
