-- The next pair of a sender and a taker in the copies of one thread ("Steps").
use Rattle.std.specs.Prelude.{Option, Some, None}
use mathlib.Core.Path.{◌≡◌, refl, sym, ◌∙◌}
use mathlib.Core.Bool.{true, false, true≢false}
use mathlib.Core.List.{List, [], ◌∷◌, ◌++◌, map-append}
use Prim.Native.Nat.{ℕ, ◌≤◌, ◌<◌}
use native.Mathlib.Omega.{arith}
use lib.ListN.{length}
use Rattle.buffer.specs.Buffer.{Within}
use Rattle.state_progress.specs.Represented.{Found}
use Rattle.state_progress.specs.declared.progress.Progress.{Progress}
use Rattle.step_located.specs.Located.{LocatedOffer}
use Rattle.step_located.specs.Sought.{sent_by, Opened}
use Rattle.step_transition.specs.Focus.{Focus}
use Rattle.step_transition.specs.Step.{Shown}
use Rattle.step_copy_pair.specs.Meet.{ShowsFirst, CopyOf, NextCopySender, Pairs, NextPair, Meets}
use Rattle.step_transition.specs.CopyOffers.{pairs_of, pairs_from, senders, moved}
use Rattle.step_label.specs.declared.step.Step as code
use Rattle.step_transition.proofs.Laws.Threads.{thread_kept}
use Rattle.step_copy_pair.proofs.Laws.Senders.{sender_next}
use Rattle.step_copy_pair.proofs.Laws.Takers.{mark_inside}
use Rattle.step_transition.proofs.Laws.Shown.{shown_more, shown_none}

-- The pairs of the first sender, then those of the others.
moved_first : (p : Focus) (arity : ℕ) (w : Opened) (y : ℕ) (a : LocatedOffer) (others : List LocatedOffer)
    → moved p arity w (pairs_from arity w y (a ∷ others)) ≡ moved p arity w (pairs_of arity w y a) ++ moved p arity w (pairs_from arity w 0 others)
unfolding pairs_from
moved_first p arity w y a others = map-append _ (pairs_of arity w y a) (pairs_from arity w 0 others)

-- A copy stays where nothing is written before the end of its thread.
copy_kept : {s out m out₁ m₁ : List ℕ} {start at k to arity copy high : ℕ} (p : Focus) (w : Opened) → CopyOf s out m start at k to p arity copy w
    → Within 0 high m m₁ → Within to (length out) out out₁ → CopyOf s out₁ m₁ start at k to p arity copy w
copy_kept p w d wm wo = record {
  thread = thread_kept p.thread wo wm d.thread;
  position = d.position;
  pre = d.pre;
  post = d.post;
  listed = d.listed;
  meant = d.meant;
  arity_low = d.arity_low;
  arity_high = d.arity_high;
}

module _ (s : List ℕ) (at k to : ℕ) (m : List ℕ) (copy arity : ℕ) (now : Progress) (y : ℕ) (out message : List ℕ) where
  pub onward_found : {b : Option code.Step} {t : code.Step} {said : List ℕ} → Pairs s at k to m copy arity now y out message b said
      → b ≡ Some t
      → NextPair s at k to m copy arity now y out message (Some t) said
  onward_found {b} {t} {said} h same = record {
    exact = λ start p w x a others d e f l.
        rw (moved_first p arity w y a others)
        (shown_more start said t (moved p arity w (pairs_of arity w y a)) _ (rw same at (h.exact start p w x a others d e f l)));
  }

  pub onward_next : {b : Option code.Step} {said₁ m₁ out₁ said : List ℕ} {r : Option code.Step} {high : ℕ}
      → Pairs s at k to m copy arity now y out message b said₁
      → b ≡ None → Within 0 high m m₁ → Within to (length out) out out₁ → length said₁ ≡ length message
      → Meets s at k to m₁ copy arity now.mark 0 out₁ said₁ r said → NextPair s at k to m copy arity now y out message r said
  onward_next {said₁ = said₁} h same wm wo n later = record {
    exact = λ start p w x a others d e f l.
        let none = shown_none start said₁ (moved p arity w (pairs_of arity w y a)) (rw same at (h.exact start p w x a others d e f l)) in
        let shown = later.exact start p w (copy_kept p w d wm wo) (omega arith) in
        let on : senders w now.mark ≡ others = rw f.mark (sender_next w x a others e).1 in
        rw (moved_first p arity w y a others, none) (rw on at shown);
  }

pub ruleset onwards = (onward_found, onward_next)

module _ (s : List ℕ) (at k to : ℕ) (m : List ℕ) (copy arity x y : ℕ) (out message : List ℕ) {r₁ : Progress} {out₁ : List ℕ}
    (sends : NextCopySender s at k to m copy x out r₁ out₁) where
  -- No sender stands there.
  pub meet_none : r₁.going ≡ true → Meets s at k to m copy arity x y out message None message
  unfolding pairs_from
  meet_none o = record {
    nowhere = λ t h e. refl;
    exact = λ start p w d l. of start p w (senders w x) (sends.exact start p w d);
  }
    where
      of : (start : ℕ) (p : Focus) (w : Opened) (offers : List LocatedOffer) → ShowsFirst out₁ r₁ offers
          → Shown start message None (moved p arity w (pairs_from arity w y offers))
      of start p w [] h = refl
      of start p w (a ∷ others) h = absurd (true≢false (sym o ∙ h.off))

  module _ (o : r₁.going ≡ false) where
    first_sender : (start : ℕ) (p : Focus) (w : Opened) → CopyOf s out m start at k to p arity copy w
        → (a : LocatedOffer) × (others : List LocatedOffer) × (senders w x ≡ a ∷ others) × Found out₁ r₁ a.place a.next (sent_by a)
    first_sender start p w d = of (senders w x) refl (sends.exact start p w d)
      where
        of : (offers : List LocatedOffer) → senders w x ≡ offers → ShowsFirst out₁ r₁ offers
            → (a : LocatedOffer) × (others : List LocatedOffer) × (senders w x ≡ a ∷ others) × Found out₁ r₁ a.place a.next (sent_by a)
        of [] e h = absurd (true≢false (sym h ∙ o))
        of (a ∷ others) e h = (a, others, e, h)

    pub meet_low : r₁.mark ≤ x → Meets s at k to m copy arity x y out message None message
    meet_low l = record {
      nowhere = λ t h e. refl;
      exact = λ start p w d n.
          let (a, others, e, f) = first_sender start p w d in
          absurd (omega (arith, f.mark, (sender_next w x a others e).0));
    }

    pub meet_high : length s < r₁.mark → Meets s at k to m copy arity x y out message None message
    meet_high l = record {
      nowhere = λ t h e. refl;
      exact = λ start p w d n.
          let (a, others, e, f) = first_sender start p w d in
          absurd (omega (arith, f.mark, mark_inside p w x a others d e));
    }

    pub meet_on : {m₁ said : List ℕ} {r : Option code.Step} {high : ℕ} → Within 0 high m m₁ → Within to (length out) out out₁
        → NextPair s at k to m₁ copy arity r₁ y out₁ message r said → Meets s at k to m copy arity x y out message r said
    meet_on wm wo later = record {
      nowhere = λ t h e. absurd (true≢false (sym (sends.nowhere t h e) ∙ o));
      exact = λ start p w d n.
          let (a, others, e, f) = first_sender start p w d in
          rw e (later.exact start p w x a others (copy_kept p w d wm wo) e f n);
    }

pub ruleset meetings = (meet_none, meet_low, meet_high, meet_on)
