-- The way down to the process at a mark, by the kind of each process on it ("Steps").
use mathlib.Core.Path.{◌≡◌, refl, sym, ◌∙◌}
use mathlib.Core.Bool.{Bool, true, false, true≢false}
use mathlib.Core.List.{List}
use Prim.Native.Nat.{ℕ, ◌+◌, ◌-◌, ◌≤◌, ◌<◌}
use native.Mathlib.Omega.{arith}
use lib.ListN.{length, get_or}
use Rattle.meaning.specs.Bytes.Process.{Process, nil, new, act, if, let_in, par, repl}
use Rattle.meaning.specs.Steps.State.{Bound}
use Rattle.state_record.proofs.Laws.Process.{kind_of, process_kind}
use Rattle.successor_path.specs.Reach.{Site, Down, here, Leads, Reaches, LeadsOn, LeadsPast, LeadsPastIf, LeadsPastAny, NewLeadsPast, IfLeadsPast, Goes}
use Rattle.successor_path.specs.declared.reach.Way.{Way}
use Rattle.successor_path.proofs.Laws.ReachDown.{down_here}

-- A process that is not the one at the mark, by its kind.
module _ {s m after : List ℕ} {f r : Way} {mark kind : ℕ} (e : kind ≡ get_or s f.at 0) where
  pub of_kind : {c : ℕ} → kind ≡ c → LeadsPastIf c s m f mark r after → LeadsPast s m f mark r after
  of_kind k w = w.exact (sym e ∙ k)

  pub of_any : {c : ℕ} → kind ≡ c → LeadsPastAny c s m f r after → LeadsPast s m f mark r after
  of_any k w = of_kind k (w.exact mark)

  pub of_new : kind ≡ 1 → NewLeadsPast m f r after → LeadsPast s m f mark r after
  of_new k w = of_any k (w.exact s)

  pub of_none : (kind ≡ 1 → ⊥) → (kind ≡ 4 → ⊥) → (kind ≡ 5 → ⊥) → (kind ≡ 6 → ⊥) → (kind ≡ 7 → ⊥) → LeadsPast s m f mark r after
  of_none f₁ f₄ f₅ f₆ f₇ = record {
    exact = λ o. record {
      exact = λ w l z. absurd (only l.process w (e ∙ (process_kind l.process l.prepared.process).0) l.down (omega arith));
    };
  }
    where
      only : (P : Process) (w : Site) {ρ : Bound} {n k : ℕ} → kind ≡ kind_of P → Down P f.at ρ n k w → (w.place ≡ f.at → ⊥) → ⊥
      only nil w c here o = o refl
      only (new P) w c d o = f₁ c
      only (act p P) w c here o = o refl
      only (if M N P Q) w c d o = f₄ c
      only (let_in M P) w c d o = f₅ c
      only (par P Q) w c d o = f₆ c
      only (repl P) w c d o = f₇ c

pub of_if : {s m : List ℕ} {f r : Way} {mark kind : ℕ} → kind ≡ get_or s f.at 0 → kind ≡ 4 → IfLeadsPast s f mark r → LeadsPast s m f mark r m
of_if {m = m} e k w = of_kind e k (w.exact m)

pub ruleset kinds = (of_kind, of_any, of_new, of_if, of_none)

-- Nothing stands there, for want of bytes or of room.
module _ {s m after : List ℕ} {f r : Way} {mark : ℕ} where
  none_there : ((w : Site) → Leads s m f w → ⊥) → LeadsPast s m f mark r after
  none_there h = record { exact = λ o. record { exact = λ w l e. absurd (h w l) } }

  pub nothing_there : length s ≤ f.at → LeadsPast s m f mark r after
  nothing_there e = none_there λ w l. omega (arith, (process_kind l.process l.prepared.process).1)

  pub no_room_there : length m - f.end < 4606 → LeadsPast s m f mark r after
  no_room_there e = none_there λ w l. omega (arith, l.prepared.room)

pub ruleset absences = (nothing_there, no_room_there)

-- Whether a way goes on.
module _ {s : List ℕ} {f : Way} {mark : ℕ} where
  pub goes_ended : f.left ≡ 0 → Goes s f mark false
  goes_ended z = record {
    node = λ e. absurd (true≢false (sym e));
    other = λ e. absurd (true≢false (sym e));
    done = λ e h. absurd (omega arith);
  }

  pub goes_past : (f.left ≡ 0 → ⊥) → length s ≤ f.at → Goes s f mark true
  goes_past z p = record { node = λ e. omega arith; other = λ e h k. omega arith; done = λ e h. absurd (true≢false e) }

  pub goes_there : f.at + 1 ≡ mark → Goes s f mark false
  goes_there k = record { node = λ e. absurd (true≢false (sym e)); other = λ e. absurd (true≢false (sym e)); done = λ e h. k }

  pub goes_on : (f.left ≡ 0 → ⊥) → (f.at + 1 ≡ mark → ⊥) → Goes s f mark true
  goes_on z k = record { node = λ e. omega arith; other = λ e h. k; done = λ e h. absurd (true≢false e) }

pub ruleset goings = (goes_ended, goes_past, goes_there, goes_on)

pub goes_node : {s : List ℕ} {f : Way} {mark : ℕ} {b : Bool} → Goes s f mark b → b ≡ true → 1 ≤ f.left
goes_node g e = g.node e

-- The loop: a way that goes on leads to the mark from one node further down; one that does not has come to it, perhaps at once.
pub follows_start : {s m : List ℕ} {f : Way} {mark : ℕ} → LeadsOn s m f mark f m
follows_start = record { exact = λ w l e. l }

module _ {s m m₁ : List ℕ} {f g : Way} {mark : ℕ} {b : Bool} (p : LeadsOn s m f mark g m₁) (on : Goes s g mark b) where
  pub follows_on : {r : Way} {m₂ : List ℕ} → b ≡ true → LeadsPast s m₁ g mark r m₂ → LeadsOn s m f mark r m₂
  follows_on z q = record {
    exact = λ w l e.
        let u = p.exact w l e in
        let byte = (process_kind u.process u.prepared.process).1 in
        (q.exact (on.other z byte)).exact w u e;
  }

  pub reaches_it : b ≡ false → Reaches s m f mark g m₁
  reaches_it z = record {
    exact = λ w l e.
        let u = p.exact w l e in
        let there = on.done z (process_kind u.process u.prepared.process).2 in
        let same = down_here w u.down (omega arith) in
        rw same (record { place = refl; opens = refl; prepared = u.prepared; allowed = u.allowed });
  }

pub reaches_here : {s m : List ℕ} {f : Way} {mark : ℕ} → f.at + 1 ≡ mark → Reaches s m f mark f m
reaches_here e = reaches_it follows_start (goes_there e) refl

pub ruleset loops = (follows_start, follows_on, reaches_it)
