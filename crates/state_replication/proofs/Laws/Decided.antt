-- Which copies of a repl thread are opened, and what is done with the thread itself ("Steps"): each case of the code.
use mathlib.Core.Path.{◌≡◌, refl, sym, ◌∙◌}
use mathlib.Core.Bool.{Bool, true, false, not}
use mathlib.Core.List.{List, []}
use Prim.Native.Nat.{ℕ, ◌+◌, ◌≤◌, ◌<◌}
use native.Mathlib.Omega.{arith}
use borrow.Author.Tests.{eq-eqb, ne_eqb, lt-ltb, le-ltb}
use Rattle.meaning.specs.Steps.State.{repl}
use Rattle.state_progress.specs.TraversalResult.{Accumulated, found}
use Rattle.state_progress.specs.Represented.{Represents, RepresentsResult, encode_messages}
use Rattle.state_progress.specs.Progress.{Hits}
use Rattle.state_progress.specs.Written.{Pushes, Keeps}
use Rattle.state_task.specs.Machine.{sending, taking}
use Rattle.state_task.specs.Place.{Contains}
use Rattle.state_task.specs.Copies.{one, within, judging, seeking, target, seeking_in, passes, finding, taken, builder, rebuilt, building_in}
use Rattle.state_replication.specs.Decided.{Decided}
use Rattle.state_task.specs.Copies.{copies_at}
use Rattle.state_replication.specs.Decided.{Begins, Finishes}
use Rattle.state_task.specs.declared.task.Task.{Task}
use Rattle.state_task.specs.declared.task.Task.TheVariants.{Count, Judge, Settle, Seek, SeekIn, Find, Build, BuildIn}
use Rattle.state_task.specs.declared.task.Quest.{Quest}
use Rattle.state_task.specs.declared.task.CopyAt.{CopyAt}
use Rattle.state_task.specs.declared.task.Plan.{Plan}
use Rattle.state_task.specs.declared.opening.Opening.{Opening}
use Rattle.state_task.specs.declared.opening.Opening.TheVariants.{None, Copy, Again}
use Rattle.state_task.specs.declared.opening.Own.{Own}
use Rattle.state_task.specs.declared.opening.Own.TheVariants.{Passed, Before, After, Found}
use Rattle.state_task.specs.declared.opening.Copies.{Copies}
use Rattle.state_progress.specs.declared.progress.Progress.{Progress}
use Rattle.state_progress.proofs.Laws.Written.{no_further, goes_further}
use Rattle.state_task.proofs.Laws.Copies.{no_more}

-- A copy of a repl thread that has a mark in it; and of one that has none, for an offer.
module _ {s : List ℕ} {at mark : ℕ} {b : Bool} (o : Opening) (w : Contains s (at + 1) mark b) where
  pub held_in : b ≡ true → Decided Opening s at (within mark o at) o
  unfolding within
  held_in e = record { exact = λ P p. rw (sym (w.exact P p) ∙ e, within) }

  pub held_out : b ≡ false → Decided Opening s at (within mark o at) None
  unfolding within
  held_out e = record { exact = λ P p. rw (sym (w.exact P p) ∙ e, within) }

pub ruleset withins = (held_in, held_out)

module _ {s : List ℕ} {at : ℕ} {b : Bool} (q : Quest) (k : ℕ) (w : Contains s (at + 1) q.excluded b) where
  pub seek_held : b ≡ true → Decided Opening s at (seeking q k at) None
  unfolding seeking
  seek_held e = record { exact = λ P p. rw (sym (w.exact P p) ∙ e, seeking) }

  pub seek_copy : b ≡ false → Decided Opening s at (seeking q k at) (Copy (Seek q k) k)
  unfolding seeking
  seek_copy e = record { exact = λ P p. rw (sym (w.exact P p) ∙ e, seeking) }

pub ruleset seekings = (seek_held, seek_copy)

-- In the copies of the repl thread that is meant, and on the way to it.
module _ (q : Quest) (c : CopyAt) (k : ℕ) where
  pub target_first : c.arity ≡ 0 → Copy (Seek q k) k ≡ target q c k
  unfolding target
  target_first e = rw e

  pub target_same : c.arity ≡ 1 → Again (Seek q c.second) k ≡ target q c k
  unfolding target
  target_same e = rw e

  pub target_second : (c.arity ≡ 0 → ⊥) → (c.arity ≡ 1 → ⊥) → Copy (Seek q k) c.second ≡ target q c k
  unfolding target
  target_second z e = rw (ne_eqb c.arity 0 z, target) (rw (ne_eqb c.arity 1 e))

  pub seek_there : {s : List ℕ} {at : ℕ} {r : Opening} → at + 1 ≡ c.place → r ≡ target q c k → Decided Opening s at (seeking_in q c k at) r
  unfolding seeking_in
  seek_there {at = at} e z = record { exact = λ P p. rw (eq-eqb (at + 1) c.place e, seeking_in) z }

  pub seek_way : {s : List ℕ} {at : ℕ} {r : Opening} → (at + 1 ≡ c.place → ⊥)
      → Decided Opening s at (within c.place (Copy (SeekIn q c k) k) at) r → Decided Opening s at (seeking_in q c k at) r
  unfolding seeking_in
  seek_way {at = at} e d = record { exact = λ P p. rw (ne_eqb (at + 1) c.place e, seeking_in) (d.exact P p) }

pub ruleset targets = (target_first, target_same, target_second, seek_there, seek_way)

-- A repl thread is passed, or found.
module _ {s : List ℕ} {at : ℕ} (f : ℕ) (past : Bool) where
  pub pass_here : at + 1 ≡ f → Decided Bool s at (passes f past at) past
  unfolding passes
  pass_here e = record { exact = λ P p. rw (eq-eqb (at + 1) f e, passes) }

  module _ (e : at + 1 ≡ f → ⊥) where
    pass_not : Contains s (at + 1) f true → at + 1 < f → Decided Bool s at (passes f past at) false
    unfolding passes
    pass_not w l = record {
      exact = λ P p. rw (ne_eqb (at + 1) f e, passes) (rw (lt-ltb (at + 1) f l) (rw (← w.exact P p)));
    }

    pass_before : Contains s (at + 1) f false → at + 1 < f → Decided Bool s at (passes f past at) true
    unfolding passes
    pass_before w l = record {
      exact = λ P p. rw (ne_eqb (at + 1) f e, passes) (rw (lt-ltb (at + 1) f l) (rw (← w.exact P p)));
    }

    pub pass_inner : {b : Bool} → Contains s (at + 1) f b → at + 1 < f → Decided Bool s at (passes f past at) (not b)
    pass_inner {b} w l = by_answer b w
      where
        by_answer : (b : Bool) → Contains s (at + 1) f b → Decided Bool s at (passes f past at) (not b)
        by_answer true w = pass_not w l
        by_answer false w = pass_before w l

    pub pass_later : f ≤ at + 1 → Decided Bool s at (passes f past at) false
    unfolding passes
    pass_later l = record { exact = λ P p. rw (ne_eqb (at + 1) f e, passes) (rw (le-ltb (at + 1) f l)) }

pub ruleset passings = (pass_here, pass_inner, pass_later)

module _ {s : List ℕ} {at : ℕ} {b : Bool} {r : Copies} (f k : ℕ) (past : Bool) (d : Decided Bool s at (passes f past at) b) where
  pub find_none : b ≡ true → r ≡ one Passed None → Decided Copies s at (finding f past k at) r
  unfolding finding
  find_none e z = record { exact = λ P p. rw (sym (d.exact P p) ∙ e, finding) z }

  pub find_here : b ≡ false → at + 1 ≡ f → r ≡ one (Found k) None → Decided Copies s at (finding f past k at) r
  unfolding finding
  find_here e h z = record { exact = λ P p. rw (sym (d.exact P p) ∙ e, finding) (rw (eq-eqb (at + 1) f h) z) }

  pub find_inside : b ≡ false → (at + 1 ≡ f → ⊥) → r ≡ one (Found k) (Copy (Find f past k) k) → Decided Copies s at (finding f past k at) r
  unfolding finding
  find_inside e h z = record { exact = λ P p. rw (sym (d.exact P p) ∙ e, finding) (rw (ne_eqb (at + 1) f h) z) }

pub ruleset finds = (find_none, find_here, find_inside)

-- What a step leaves of a copy with the taker in it, or with the sender or the taker.
module _ (b : Plan) (k : ℕ) where
  pub taken_alone : b.sender ≡ 0 → Copy (Build b k) k ≡ taken b k
  unfolding taken
  taken_alone e = rw e

  pub taken_other : {t : Plan} → (b.sender ≡ 0 → ⊥) → t ≡ taking b → Copy (Build t k) b.second ≡ taken b k
  unfolding taken
  taken_other e z = rw (ne_eqb b.sender 0 e, taken) (rw z)

  module _ {s : List ℕ} {at : ℕ} {h : Bool} (w : Contains s (at + 1) b.sender h) where
    pub build_sender : h ≡ true → Decided Opening s at (builder b k at) (Copy (Build b k) k)
    unfolding builder
    build_sender e = record { exact = λ P p. rw (sym (w.exact P p) ∙ e, builder) }

    pub build_taker : {o r : Opening} → h ≡ false → Decided Opening s at (within b.taker o at) r → o ≡ taken b k
        → Decided Opening s at (builder b k at) r
    unfolding builder
    build_taker e d z = record { exact = λ P p. rw (sym (w.exact P p) ∙ e, builder) (rw (← z) (d.exact P p)) }

pub ruleset builders = (taken_alone, taken_other, build_sender, build_taker)

-- And of the copies of the repl thread that is meant, or on the way to it.
module _ (b : Plan) (c : CopyAt) (k : ℕ) where
  pub rebuilt_two : {t u : Plan} → c.arity ≡ 2 → t ≡ sending b → u ≡ taking b
      → record { own = After; first = Copy (Build t k) k; second = Copy (Build u k) c.second } ≡ rebuilt b c k
  unfolding rebuilt
  rebuilt_two e y z = rw (e, rebuilt) (rw (y, z))

  pub rebuilt_one : {r : Copies} → (c.arity ≡ 2 → ⊥) → r ≡ one After (Copy (Build b k) k) → r ≡ rebuilt b c k
  unfolding rebuilt
  rebuilt_one e z = rw (ne_eqb c.arity 2 e, rebuilt) z

  pub build_there : {s : List ℕ} {at : ℕ} {r : Copies} → at + 1 ≡ c.place → r ≡ rebuilt b c k → Decided Copies s at (building_in b c k at) r
  unfolding building_in
  build_there {at = at} e z = record { exact = λ P p. rw (eq-eqb (at + 1) c.place e, building_in) z }

  pub build_way : {s : List ℕ} {at : ℕ} {o : Opening} {r : Copies} → (at + 1 ≡ c.place → ⊥)
      → Decided Opening s at (within c.place (Copy (BuildIn b c k) k) at) o → r ≡ one After o → Decided Copies s at (building_in b c k at) r
  unfolding building_in
  build_way {at = at} e t z = record { exact = λ P p. rw (ne_eqb (at + 1) c.place e, building_in) (rw (← t.exact P p) z) }

pub ruleset rebuildings = (rebuilt_two, rebuilt_one, build_there, build_way)

-- For each task.
module _ {s : List ℕ} {at : ℕ} {T : Task} {r : Copies} (n : ℕ) where
  pub on_count : T ≡ Count → r ≡ one Passed None → Decided Copies s at (copies_at T at n) r
  on_count e z = record { exact = λ P p. rw e z }

  pub on_judge : {k : ℕ} → T ≡ Judge k → r ≡ judging Passed k → Decided Copies s at (copies_at T at n) r
  on_judge e z = record { exact = λ P p. rw e z }

  pub on_settle : T ≡ Settle → r ≡ judging Before n → Decided Copies s at (copies_at T at n) r
  on_settle e z = record { exact = λ P p. rw e z }

  module _ {k : ℕ} {o : Opening} where
    pub on_seek : {q : Quest} → T ≡ Seek q k → Decided Opening s at (seeking q k at) o → r ≡ one Passed o
        → Decided Copies s at (copies_at T at n) r
    on_seek e d z = record { exact = λ P p. rw (e, ← d.exact P p) z }

    pub on_seek_in : {q : Quest} {c : CopyAt} → T ≡ SeekIn q c k → Decided Opening s at (seeking_in q c k at) o → r ≡ one Passed o
        → Decided Copies s at (copies_at T at n) r
    on_seek_in e d z = record { exact = λ P p. rw (e, ← d.exact P p) z }

    pub on_build : {b : Plan} → T ≡ Build b k → Decided Opening s at (builder b k at) o → r ≡ one After o
        → Decided Copies s at (copies_at T at n) r
    on_build e d z = record { exact = λ P p. rw (e, ← d.exact P p) z }

  pub on_task : {U : Task} → T ≡ U → Decided Copies s at (copies_at U at n) r → Decided Copies s at (copies_at T at n) r
  on_task e d = record { exact = λ P p. rw e (d.exact P p) }

pub ruleset decisions = (on_count, on_judge, on_settle, on_seek, on_seek_in, on_build, on_task)

-- The thread itself, before its copies are opened.
module _ {own : Own} {m out : List ℕ} {end at : ℕ} {now : Progress} where
  pub begins_passed : own ≡ Passed → Begins own m end at out now now out
  begins_passed e = record { exact = λ s ρ P g b p v. rw e v }

  pub begins_before : {r : Progress} {after : List ℕ} → own ≡ Before → Pushes m end at out now r after → Begins own m end at out now r after
  begins_before e w = record { exact = λ s ρ P g b p v. rw e (w.exact s (repl ρ P) g b p v) }

  pub begins_after : own ≡ After → Begins own m end at out now now out
  begins_after e = record { exact = λ s ρ P g b p v. rw e v }

  pub begins_found : {k : ℕ} → own ≡ Found k → Begins own m end at out now now out
  begins_found e = record { exact = λ s ρ P g b p v. rw e v }

pub ruleset beginnings = (begins_passed, begins_before, begins_after, begins_found)

-- And after.
found_shown : {s out : List ℕ} {now r : Progress} {g : Accumulated} {at k : ℕ} → Hits now at k r → Represents s out now g
    → RepresentsResult s out r (found at k [])
unfolding encode_messages
found_shown {now = now} h v = record {
  off = h.off;
  mark = h.mark;
  next = h.next;
  messages = rw (h.sent, h.state) (record { bytes = refl; size = omega arith });
}

module _ {own : Own} {m out : List ℕ} {end at : ℕ} {now : Progress} where
  pub finishes_passed : own ≡ Passed → Finishes own m end at out now now out
  finishes_passed e = record { exact = λ s ρ P c b p v. rw (e, no_more c) v }

  pub finishes_before : own ≡ Before → Finishes own m end at out now now out
  finishes_before e = record { exact = λ s ρ P c b p v. rw (e, no_more c) v }

  pub finishes_after : {r : Progress} {after : List ℕ} → own ≡ After → Keeps m end at out now r after → Finishes own m end at out now r after
  finishes_after e w = record { exact = λ s ρ P c b p v. rw e (w.exact s (repl ρ P) c b p v) }

  pub finishes_hit : {k : ℕ} {r : Progress} → own ≡ Found k → now.going ≡ true → Hits now at k r → Finishes own m end at out now r out
  finishes_hit {r = r} e on h = record {
    exact = λ s ρ P c b p v. rw e (goes_further s out r c _ v on (λ g i u. found_shown h u));
  }

  pub finishes_off : now.going ≡ false → Finishes own m end at out now now out
  finishes_off off = record { exact = λ s ρ P c b p v. no_further s out now c _ v off }

pub ruleset finishings = (finishes_passed, finishes_before, finishes_after, finishes_hit, finishes_off)
