-- What follows an offer that was reached is settled ("Steps").
use mathlib.Core.Path.{◌≡◌, refl, sym, ◌∙◌}
use mathlib.Core.Bool.{Bool, true, false, true≢false}
use mathlib.Core.List.{List}
use Prim.Native.Nat.{ℕ, ◌+◌, ◌-◌, ◌≤◌}
use native.Mathlib.Omega.{arith}
use lib.ListN.{length, get_or}
use Rattle.meaning.specs.Messages.Term.{Message}
use Rattle.meaning.specs.Bytes.Process.{Prefix, output, input, Process}
use Rattle.meaning.specs.Places.{none, ◌also◌}
use Rattle.meaning.specs.Steps.State.{act}
use Rattle.state_record.specs.Place.{rest_at}
use Rattle.state_progress.specs.TraversalResult.{Accumulated}
use Rattle.state_progress.specs.Represented.{Represents, RepresentsResult}
use Rattle.state_progress.specs.declared.progress.Progress.{Progress}
use Rattle.state_record.proofs.Laws.Process.{process_kind, shaped}
use Rattle.state_progress.proofs.Laws.Written.{stands_there}
use Rattle.state_task.specs.Place.{Rests}
use Rattle.state_task.specs.declared.task.Task.TheVariants.{Settle}
use Rattle.state_task.specs.declared.task.CopyAt.{CopyAt}
use Rattle.state_head.specs.Traversal.{go}
use Rattle.step_located.specs.Located.{LocatedOffer}
use Rattle.step_transition.specs.Outcome.{bound_after}
use Rattle.successor_continuation.specs.Rest.{bound_behind, SettlesRest}
use Rattle.state_layout.proofs.Laws.Loaded.{names_small}
use Rattle.successor_path.specs.Reach.{offer_site}
use Rattle.successor_path.specs.declared.reach.Way.{Way}
use Rattle.successor_continuation.specs.Counting.{Comes, ComesIn}
use Rattle.successor_continuation.specs.Settled.{NilFollows, OfferAt, SettlesAt, SettlesOffer, SettlesOfferIn}
use Rattle.successor_continuation.proofs.Laws.Standing.{rest_standing, offer_standing, copy_standing}
use Rattle.index_process.specs.Index.{ShortModel}

-- The byte there tells whether it is nil.
module _ {s : List ℕ} {mark : ℕ} where
  pub not_nil : NilFollows s mark false
  not_nil = record { exact = λ e. absurd (true≢false (sym e)) }

  pub nil_byte : {to kind : ℕ} {r : Bool} → (mark ≡ 0 → ⊥) → Rests s (mark - 1) to → kind ≡ get_or s to 0 → kind ≡ 0 → NilFollows s mark r
  nil_byte n l k z = record {
    exact = λ e p P {at} same y.
        let here : mark - 1 ≡ at = omega arith in
        let (inner, y') = rest_standing p P y in
        let there = (rw here at l).exact p P y.stands in
        shaped 0 P y' (rw there at (sym k ∙ z));
  }

pub ruleset nils = (not_nil, nil_byte)

-- The messages under which the rest of an offer is settled.
same_bound : (x : Message) (a : LocatedOffer) → bound_behind a.prefix a.bound x ≡ bound_after x a
same_bound x a = of a.prefix refl
  where
    of : (p : Prefix) → a.prefix ≡ p → bound_behind a.prefix a.bound x ≡ bound_after x a
    of (output C M) e = rw e
    of (input C) e = rw e

-- What follows an offer that a way has come to.
module _ {s argument m out after : List ℕ} {way : Way} {now r : Progress} where
  pub nowhere : length s ≤ way.at → SettlesAt s argument way m out now r after
  nowhere n = record {
    exact = λ a x g y o i few d.
        absurd (omega (arith, y.place, (process_kind (Process.act a.prefix a.rest) o.process).1));
  }

  pub arrived_offer : ShortModel s → SettlesRest s argument way.at m way.end out now r after → SettlesAt s argument way m out now r after
  arrived_offer short f = record {
    exact = λ a x g y o i few d.
        let P = Process.act a.prefix a.rest in
        let there = stands_there (act a.bound a.prefix a.rest) short o.shallow o.process y.prepared.bound.normal in
        rw (← same_bound x a) ((rw y.place at f).exact a.prefix a.rest x a.bound g (record {
          next = there.next;
          process = there.process;
          shallow = omega arith;
          short = short;
          labelled = i.same;
          small = i.small;
          normal = i.normal;
          bound = y.prepared.bound;
          room = y.prepared.room;
          fits = names_small Settle g.names P there.process short (few also none);
          meant = tt;
        }) d);
  }

pub ruleset arrivals = (nowhere, arrived_offer)

-- If nil follows an offer, nothing is left to settle.
nil_settled : {s out : List ℕ} {mark : ℕ} {r : Bool} {now : Progress} (a : LocatedOffer) (x : Message) (g : Accumulated) → NilFollows s mark r → r ≡ true
    → OfferAt s a → mark ≡ a.place + 1 → Represents s out now g
    → RepresentsResult s out now (go a.rest Settle x (rest_at a.place a.prefix) (bound_after x a) g)
unfolding go
nil_settled a x g f e o same d = let is_nil = f.exact e a.prefix a.rest same o.process in rw is_nil d

module _ {s argument m out : List ℕ} {at k mark : ℕ} {now : Progress} where
  pub nothing_behind : {r : Bool} → NilFollows s mark r → r ≡ true → SettlesOffer s argument at k m mark out now now out
  nothing_behind f e = record {
    exact = λ t x before behind a g h i later small few listed same d.
        nil_settled a x g f e (offer_standing t before behind a h listed).2 same d;
  }

  pub nothing_in : {r : Bool} {c : CopyAt} → NilFollows s mark r → r ≡ true → SettlesOfferIn s argument at k m c mark out now now out
  nothing_in {c = c} f e = record {
    exact = λ t x pre post w before behind a g h i few copied place again later excluded listed same d.
        nil_settled a x g f e (copy_standing c t pre post w before behind a h copied excluded listed) same d;
  }

  module _ {r : Progress} {m₁ after : List ℕ} {way : Way} where
    pub settled_offer : Comes s at k m mark out way m₁ → SettlesAt s argument way m₁ out now r after
        → SettlesOffer s argument at k m mark out now r after
    settled_offer c f = record {
      exact = λ t x before behind a g h i later small few listed same d.
          let (j, down, o) = offer_standing t before behind a h listed in
          f.exact a x g (c.exact t (offer_site a j) h later small down same) o i few d;
    }

    pub settled_in : {c : CopyAt} → ComesIn s at k m c mark out way m₁ → SettlesAt s argument way m₁ out now r after
        → SettlesOfferIn s argument at k m c mark out now r after
    settled_in {c = c} y f = record {
      exact = λ t x pre post w before behind a g h i few copied place again later excluded listed same d.
          let (j, reached) = y.exact t pre post w before behind a h copied place again later excluded listed same in
          f.exact a x g reached (copy_standing c t pre post w before behind a h copied excluded listed) i few d;
    }

pub ruleset offers_settled = (nothing_behind, nothing_in, settled_offer, settled_in)
