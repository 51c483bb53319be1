-- An offer that is looked for: whether it is eligible, and its channel ("Steps").
use Rattle.std.specs.Prelude.{Option, Some, None}
use mathlib.Core.Path.{◌≡◌, refl, ap, ◌∙◌}
use mathlib.Core.Bool.{Bool, true, false, not, ◌&&◌, ◌||◌}
use mathlib.Core.List.{List}
use Prim.Native.Nat.{ℕ, ◌+◌, ◌-◌, ◌≤◌, ◌<◌}
use native.Mathlib.Omega.{arith}
use borrow.Author.Tests.{lt-ltb, le-ltb, eq-eqb, ne_eqb}
use lib.Dec.{ltb, eqb}
use lib.ListN.{length, take, drop, get_or}
use Rattle.meaning.specs.Messages.Term.{Message}
use Rattle.meaning.specs.Messages.Normal.{same}
use Rattle.meaning.specs.Bytes.Process.{Prefix, output, input, Process}
use Rattle.meaning.specs.Bytes.Standing.{Stands}
use Rattle.meaning.specs.Steps.State.{Bound, worked}
use Rattle.meaning.specs.Judging.Limits.{over}
use Rattle.message_bytes.specs.Encoding.{encode_message}
use Rattle.buffer.specs.Buffer.{Within}
use Rattle.message_bytes.specs.Run.{alike}
use Rattle.message_bytes.proofs.Laws.Alike.{same_runs}
use Rattle.buffer.proofs.Laws.Buffer.{part}
use Rattle.message_term.specs.Bound.{BoundTo}
use Rattle.message_term.specs.Work.{TermAt, Works, Reaches}
use Rattle.message_term.specs.declared.work.Worked.{Worked}
use Rattle.message_term.proofs.Laws.Work.{said_over, said_small}
use Rattle.state_record.specs.Place.{ProcessAt, body_at}
use Rattle.state_progress.specs.TraversalResult.{Accumulated, going, unless}
use Rattle.state_task.specs.Machine.{eligible, sought}
use Rattle.state_progress.specs.Progress.{Stopped}
use Rattle.state_task.specs.Thread.{Agrees, handed_over, channel_of, Hands, Channels, Seeks}
use Rattle.state_task.specs.declared.task.Quest.{Quest}
use Rattle.state_progress.specs.declared.progress.Progress.{Progress}
use Rattle.state_task.proofs.Laws.Bound.{bound_still}
use Rattle.state_prefix.proofs.Laws.Hand.{bound_below}
use Rattle.state_record.proofs.Laws.Process.{kind_of, process_kind, of_output, of_input}
use Rattle.state_progress.proofs.Laws.Progress.{unchanged_extends, stopped_extends, hit_extends}

-- Whether an offer is eligible.
module _ (q : Quest) (at kind : ℕ) where
  pub too_early : at < q.from → false ≡ eligible q at kind
  unfolding eligible
  too_early h = rw (lt-ltb at q.from h)

  module _ (h : q.from ≤ at) where
    pub excepted : at + 1 ≡ q.excluded → false ≡ eligible q at kind
    unfolding eligible
    excepted e = rw (le-ltb at q.from h, eq-eqb (at + 1) q.excluded e)

    pub an_output : (at + 1 ≡ q.excluded → ⊥) → kind ≡ 2 → q.output ≡ eligible q at kind
    unfolding eligible
    an_output n k = rw (le-ltb at q.from h, ne_eqb (at + 1) q.excluded n, eq-eqb kind 2 k)

    pub an_input : (at + 1 ≡ q.excluded → ⊥) → (kind ≡ 2 → ⊥) → not q.output ≡ eligible q at kind
    unfolding eligible
    an_input n k = rw (le-ltb at q.from h, ne_eqb (at + 1) q.excluded n, ne_eqb kind 2 k)

pub ruleset eligibles = (too_early, excepted, an_output, an_input)

-- Whether a channel is the one of the label.
module _ {channel argument : List ℕ} where
  pub any_agrees : {any : Bool} → any ≡ true → Agrees any channel argument true
  any_agrees e = record { exact = λ x y p q. rw e }

  pub same_agrees : {any r : Bool} → any ≡ false → r ≡ alike channel argument → Agrees any channel argument r
  same_agrees e a = record { exact = λ x y p q. rw (e, a, p, q, same_runs x y) }

pub ruleset agreements = (any_agrees, same_agrees)

-- The state begins where it did and ends no earlier.
pub ruleset found_extends = (unchanged_extends, stopped_extends, hit_extends)

-- The channel of an offer.
channel_at : {s : List ℕ} {at left scope stop : ℕ} (p : Prefix) (P : Process) → ProcessAt s at left scope (Process.act p P) stop
    → TermAt s (at + 1) 8 scope (channel_of p) (body_at at (channel_of p))
channel_at (output C M) P q = (of_output C M P q).0
channel_at (input C) P q = of_input C P q

-- It is too large; or it is small, and was compared.
module _ {s m m₁ : List ℕ} {at end : ℕ} {w : Option Worked} (f : Works s (at + 1) 8 m 0 end w m₁) where
  pub channel_large : {argument out : List ℕ} {k : ℕ} {any : Bool} {now r : Progress} → w ≡ None → Stopped now r
      → Channels s argument at m end any k out now r out
  channel_large y o = record {
    exact = λ p P x ρ g q b n d.
        rw (said_over _ _ _ (f.exact (channel_of p) ρ (channel_at p P q) (bound_below b (omega arith))).answer y) o.over;
  }

  module _ {argument : List ℕ} {t : Worked} {any a : Bool} (y : w ≡ Some t)
      (z : Agrees any (take (t.end - end) (drop end m₁)) argument a) where
    compared : (p : Prefix) (P : Process) (x : Message) (ρ : Bound) {left stop : ℕ}
        → ProcessAt s at left (length ρ) (Process.act p P) stop → BoundTo m 0 ρ end → argument ≡ encode_message x
        → (over ρ (channel_of p) ≡ false) × (t.next ≡ body_at at (channel_of p))
        × Stands m₁ end (encode_message (worked ρ (channel_of p))) t.end × (a ≡ (any || same (worked ρ (channel_of p)) x))
    compared p P x ρ q b n =
        let u = f.exact (channel_of p) ρ (channel_at p P q) (bound_below b (omega arith)) in
        let (o, i, ends) = said_small _ _ _ u.answer y in
        let own : Stands m₁ end (encode_message (worked ρ (channel_of p))) t.end = rw ends (u.run o) in
        (o, i, own, z.exact (worked ρ (channel_of p)) x (part own) n)

    pub channel_other : {out : List ℕ} {k : ℕ} {now : Progress} → a ≡ false → Channels s argument at m end any k out now now out
    channel_other f = record {
      exact = λ p P x ρ g q b n d. let (o, i, own, c) = compared p P x ρ q b n in rw (o, ← c, f) d;
    }

    pub channel_meant : {out after : List ℕ} {k : ℕ} {now r : Progress} → a ≡ true → Reaches end 8 w → Within end (end + 4096) m m₁
        → Hands s at t.next m₁ end t.end k out now r after → Channels s argument at m end any k out now r after
    channel_meant f h v j = record {
      exact = λ p P x ρ g q b n d.
          let (o, i, own, c) = compared p P x ρ q b n in
          rw (o, ← c, f) (j.exact p P ρ g q (bound_still b v) i own (h.there t y).1 d);
    }

pub ruleset channels = (channel_large, channel_other, channel_meant)

-- The offer itself: whether it is eligible is told by its kind.
turned : (a b c : Bool) → (a && b && c) ≡ (c && a && b)
turned true true true = refl
turned true true false = refl
turned true false true = refl
turned true false false = refl
turned false b true = refl
turned false b false = refl

sought_as : (q : Quest) (k : ℕ) (x : Message) (at : ℕ) (ρ : Bound) (p : Prefix) (P : Process) (g : Accumulated) (a : Bool)
    → a ≡ eligible q at (kind_of (Process.act p P)) → sought q k x at ρ p g ≡ (elim a [
      | true ↦ unless (over ρ (channel_of p)) (
          elim (q.any || same (worked ρ (channel_of p)) x) [ true ↦ handed_over at k ρ p | false ↦ going g ])
      | false ↦ going g
    ])
unfolding sought eligible
sought_as q k x at ρ (output C M) P g a z = rw (z, turned (not (ltb at q.from)) (not (eqb (at + 1) q.excluded)) q.output)
sought_as q k x at ρ (input C) P g a z = rw (z, turned (not (ltb at q.from)) (not (eqb (at + 1) q.excluded)) (not q.output))

module _ {s : List ℕ} {at kind : ℕ} (q : Quest) {a : Bool} (e : kind ≡ get_or s at 0) (z : a ≡ eligible q at kind) where
  kind_told : (p : Prefix) (P : Process) {left scope stop : ℕ} → ProcessAt s at left scope (Process.act p P) stop
      → a ≡ eligible q at (kind_of (Process.act p P))
  kind_told p P i = z ∙ ap (eligible q at) (e ∙ (process_kind (Process.act p P) i).0)

  pub not_meant : {argument m out : List ℕ} {end k : ℕ} {now : Progress} → a ≡ false → Seeks s argument at m end q k out now now out
  not_meant {k = k} t = record { exact = λ p P x ρ g i b n d. rw (sought_as q k x at ρ p P g a (kind_told p P i), t) d }

  pub is_meant : {argument m out after : List ℕ} {end k : ℕ} {now r : Progress} → a ≡ true
      → Channels s argument at m end q.any k out now r after → Seeks s argument at m end q k out now r after
  is_meant {k = k} t c = record {
    exact = λ p P x ρ g i b n d. rw (sought_as q k x at ρ p P g a (kind_told p P i), t) (c.exact p P x ρ g i b n d);
  }

pub ruleset seeks = (not_meant, is_meant)
