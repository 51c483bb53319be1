-- The senders of a copy: what they send is short, and they stand in the order of their positions ("Steps").
use mathlib.Core.Path.{◌≡◌, refl, sym, ◌∙◌, ap}
use mathlib.Core.Bool.{true, false}
use mathlib.Core.List.{List, [], ◌∷◌}
use Prim.Native.Nat.{ℕ, ◌+◌, ◌≤◌, ◌<◌}
use Rattle.meaning.specs.Messages.Term.{leaf, public}
use Rattle.meaning.specs.Bytes.Process.{Process}
use Rattle.meaning.specs.Places.{Every, none, ◌also◌}
use Rattle.meaning.specs.Steps.State.{Bound, names}
use Rattle.meaning.specs.Judging.Limits.{over_prefix}
use Rattle.meaning.proofs.Every.{every_map, every_joined}
use Rattle.state_head.specs.News.{later_news}
use Rattle.step_located.specs.Located.{LocatedOffer, located_offers}
use Rattle.step_located.specs.Sought.{wanted, offers_except, Opened}
use Rattle.step_located.proofs.Laws.Located.{size, inside_bounds, acting_inside}
use Rattle.step_located.proofs.Laws.Clear.{Clear, done, made, acts, then, else, body, both, copy, clear}
use Rattle.step_located.proofs.Laws.Everywhere.{every_and, every_first, everywhere}
use Rattle.step_located.proofs.Laws.Increasing.{acting_increasing}
use Rattle.step_located.proofs.Laws.Traversal.{Free}
use Rattle.step_located.proofs.Laws.Copies.{split_at}
use Rattle.step_transition.specs.Focus.{filter}
use Rattle.step_transition.specs.CopyOffers.{outputs, senders}
use Rattle.step_transition.proofs.Laws.Opened.{Acts, acting_all}
use Rattle.step_transition.proofs.Laws.SplitLists.{wanted_since, resumed}
use Rattle.step_transition.proofs.Laws.MovesLists.{every_filter}
use Rattle.step_transition.proofs.Laws.Allowed.{Sent, sent}
use Rattle.step_copy_pair.proofs.Laws.Look.{offers_first}

-- The offers of a process that meets no limit meet none.
abbrev Fits : LocatedOffer → Type 0
Fits a = over_prefix a.bound a.prefix a.rest a.next ≡ false

acting_within : {P : Process} {ρ : Bound} {n k : ℕ} → Clear P ρ n k → (at : ℕ) → Every Fits (located_offers P at ρ n k)
unfolding located_offers
acting_within done at = none
acting_within (made c) at = acting_within c _
acting_within (acts o) at = o also none
acting_within (then {M} {N} {P} {Q} o e c) at = rw (e, located_offers) (acting_within c _)
acting_within (else {M} {N} {P} {Q} o e c) at = rw (e, located_offers) (acting_within c _)
acting_within (body o c) at = acting_within c _
acting_within (both c d) at = every_joined (acting_within c _) (acting_within d _)
acting_within (copy o c) at = acting_within c _

-- What is known of each sender of a copy that meets no limit.
pub record Sender (w : Opened) (a : LocatedOffer) : Type 0 where
  pub sent : Sent a
  pub names : Acts (names w.copied w.bound w.opens) (later_news w.copied) a
  pub inner : a.place < w.place + 1 + size w.copied

abbrev own : Opened → List LocatedOffer
own w = located_offers w.copied (w.place + 1) w.bound w.opens (names w.copied w.bound w.opens)

senders_own : (w : Opened) (x : ℕ) → senders w x ≡ filter (wanted (outputs x) (leaf (public 0))) (own w)
unfolding senders offers_except
senders_own w x =
    ap (filter (wanted (outputs x) (leaf (public 0)))) (offers_first 0 (record { place = w.place + 1; arity = 0; second = 0 }) w refl)

module _ (w : Opened) (x : ℕ) (a : LocatedOffer) (others : List LocatedOffer) (e : senders w x ≡ a ∷ others) where
  -- The first of them, by what holds of every offer that is wanted.
  first_sender : {Q : LocatedOffer → Type 0} → Every (λ b. wanted (outputs x) (leaf (public 0)) b ≡ true → Q b) (own w) → Q a
  first_sender every = every_first (rw (sym (senders_own w x) ∙ e) at (every_filter (wanted (outputs x) (leaf (public 0))) every))

  pub sender_known : Free w.copied w.bound w.opens (names w.copied w.bound w.opens) → Sender w a
  sender_known f =
      let k = names w.copied w.bound w.opens in
      first_sender {Q = Sender w} (every_map (λ b (fits, (names, i)) wants. record {
        sent = sent x (leaf (public 0)) b fits wants;
        names = names;
        inner = (inside_bounds b.place (w.place + 1) w.copied i).1;
      }) (every_and (acting_within (clear w.copied w.bound w.opens k f.settling f.offering) (w.place + 1))
      (every_and (acting_all w.copied (w.place + 1) w.bound w.opens k)
      (acting_inside w.copied (w.place + 1) w.bound w.opens k))))

  pub sender_next : (x ≤ a.place) × (senders w (a.place + 1) ≡ others)
  sender_next =
      let k = names w.copied w.bound w.opens in
      let rising = acting_increasing w.copied (w.place + 1) w.bound w.opens k in (
        first_sender {Q = λ b. x ≤ b.place} (everywhere (wanted_since (outputs 0) (leaf (public 0)) x) (own w)),
        senders_own w (a.place + 1)
            ∙ (resumed (outputs 0) (leaf (public 0)) x rising (split_at [] (sym (senders_own w x) ∙ e))).1,
      )
