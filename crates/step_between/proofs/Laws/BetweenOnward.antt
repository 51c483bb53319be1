-- From one sender of silent steps of two threads to the next ("Steps").
use Rattle.std.specs.Prelude.{Option, Some, None}
use Prim.Native.Nat.{ℕ, ◌+◌, ◌-◌, ◌*◌, ◌≤◌, ◌<◌}
use native.Mathlib.Omega.{arith}
use mathlib.Core.Path.{◌≡◌, refl, sym, ◌∙◌, ap, subst}
use mathlib.Core.Bool.{Bool, true, false}
use mathlib.Core.List.{List, [], ◌∷◌, ◌++◌, flat_map}
use lib.Dec.{eqb}
use borrow.Author.Tests.{eqb-true, eqb-false}
use lib.ListN.{length, take, drop}
use Rattle.meaning.specs.Messages.Term.{leaf, public}
use Rattle.meaning.specs.Places.{Every}
use Rattle.meaning.specs.Bytes.Standing.{Stands}
use Rattle.meaning.specs.Steps.State.{worked}
use Rattle.meaning.specs.Steps.Offer.{Split}
use Rattle.message_bytes.specs.Encoding.{encode_message}
use Rattle.buffer.specs.Buffer.{Within}
use Rattle.buffer.proofs.Laws.Buffer.{part}
use Rattle.state_record.specs.Record.{Placed, encode_records}
use Rattle.state_progress.specs.Represented.{encode_messages}
use Rattle.step_located.specs.CopyStep.{message_of}
use Rattle.step_located.proofs.Laws.Increasing.{Increasing, increasing_lower, acting_increasing}
use Rattle.step_located.proofs.Laws.Everywhere.{every_first}
use Rattle.step_located.proofs.Laws.Copies.{split_at}
use Rattle.step_located.specs.Located.{LocatedOffer}
use Rattle.step_transition.specs.Moves.{Move}
use Rattle.step_transition.specs.Focus.{Focus, focuses, focuses_from, record_at, offers_of}
use Rattle.step_transition.specs.Threads.{Threads}
use Rattle.state_layout.specs.Loaded.{IsRunOf}
use Rattle.step_offer.specs.Seek.{Sees, ShowsSight}
use Rattle.step_offer.specs.Hand.{Hands}
use Rattle.step_transition.specs.CopyOffers.{outputs, channel_of}
use Rattle.step_transition.specs.CopyMoves.{later_focuses, Roomy}
use Rattle.step_transition.specs.Step.{run_of}
use Rattle.step_between.specs.Between.{Party, senders_from, takers_from, between_from, sight_of, Ahead, IsAhead, NextSender, Takes, Pairs}
use Rattle.step_between.specs.Between.{NextMeeting, Betweens}
use Rattle.step_offer.specs.declared.hand.Handed.{Handed}
use Rattle.step_offer.specs.declared.seek.Sighting.{Sighting}
use Rattle.step_label.specs.declared.step.Step as code
use Rattle.step_transition.proofs.Laws.Threads.{threads_kept, threads_from}
use Rattle.step_between.proofs.Laws.BetweenLists.{Resumes, parties_resumed}
use Rattle.step_between.proofs.Laws.BetweenSought.{Placing, parties_placed}
use Rattle.step_between.proofs.Laws.Between.{sender_known}
use Rattle.step_between.specs.Buffered.{channel_run, Answered}
use Rattle.step_between.proofs.Laws.Buffered.{answered_more, answered_next}
use Rattle.step_between.proofs.Laws.BetweenOffers.{Sending}
use Rattle.step_transition.proofs.Laws.Roomy.{still_roomy}
use Rattle.index_process.specs.Index.{ShortModel}

-- The part of a slice that is the run of a sender's channel is a label.
pub channel_label : {argument : List ℕ} {k long : ℕ} (a : LocatedOffer) → Sending k long a → argument ≡ encode_message (channel_of a)
    → IsRunOf argument (channel_of a)
channel_label a sending e = record { same = e; small = rw e sending.sent.channel; normal = sending.sent.normal }

pub pairs : {s : List ℕ} {start to : ℕ} {m : List ℕ} {now : Sighting} {out channel message on said : List ℕ} {h : Handed}
    {r : Option code.Step}
    → Hands out now.done.sent h on said → length on ≡ length channel → length said ≡ length message
    → Takes s (take (h.channel - 0) (drop 0 on)) to m (record { at = now.at; mark = now.done.mark; next = now.done.names }) start 0 out
    h.message r
    → Pairs s start to m now out channel message r on said
unfolding encode_messages encode_records channel_run run_of
pairs {s} {start} {to} {m} {now} {out} {channel} {message} {on} {said} {h} {r} hands same size v = record {
  exact = λ k x ps ls ts w others threads room long split senders sees.
      let a = w.offer in
      let sending = (sender_known x ps ls ts threads split room.short room.few senders).sending in
      let M = worked a.bound (message_of a.prefix) in
      let messages : Stands out now.done.sent (encode_messages (channel_of a ∷ M ∷ [])) now.done.state.end =
      subst (λ xs. Stands out now.done.sent (encode_messages xs) now.done.state.end) sending.sent.messages sees.messages in
      let (first, second) = hands.exact (channel_of a) M messages (omega (arith, sending.sent.channel))
      (omega (arith, sending.sent.message, room.long)) in
      let sized : h.channel ≡ length (encode_message (channel_of a)) = omega (arith, first.size) in
      let sized' : h.message ≡ length (encode_message M) = omega (arith, second.size) in
      v.exact start k x ps ls ts [] ps w others on said message threads room split refl (omega arith) senders
      (rw (sees.at, sees.mark, sees.next)) (channel_label a sending (part first)) sized'
      (λ u. record { on = rw sized at first; sent = rw sized' at second });
}

-- The senders behind the first of senders.
pub offers_increase : (k : ℕ) (p : Focus) → Increasing 0 (offers_of p.thread k)
offers_increase k p = increasing_lower (omega arith) (acting_increasing _ _ _ 0 k)

pub senders_resumed : (k x : ℕ) (ls ts : List Placed) {before others : List Party} {w : Party}
    → Split (senders_from k x (focuses_from ls ts)) before w others
    → Resumes (outputs 0) (leaf (public 0)) (λ p. offers_of p.thread k) (ls ++ ts) w others
unfolding senders_from
senders_resumed k x ls ts s =
    parties_resumed (outputs 0) (leaf (public 0)) (λ p. offers_of p.thread k) (offers_increase k) x ls ts s

module _ {s : List ℕ} {start k to : ℕ} {m : List ℕ} {now : Sighting} {out channel message : List ℕ} where
  pub onward_found : {answer : Option code.Step} {step : code.Step} {on said : List ℕ}
      → Pairs s start to m now out channel message answer on said
      → answer ≡ Some step → NextMeeting s start k to m now out channel message (Some step) on said
  unfolding flat_map
  onward_found {answer} {step} {on} {said} v e = record {
    exact = λ x ps ls ts w others threads room long split senders sees.
        answered_more start on said step (takers_from w 0 (focuses ps)) (flat_map (λ v. takers_from v 0 (focuses ps)) others)
        (subst (λ a. Answered start on said a (takers_from w 0 (focuses ps))) e (v.exact k x ps ls ts w others threads room long split senders sees));
  }

  pub onward_none : {answer : Option code.Step} {on₁ said₁ on said m₁ out₁ : List ℕ} {high : ℕ} {r : Option code.Step}
      → Pairs s start to m now out channel message answer on₁ said₁ → answer ≡ None → Within 0 high m m₁ → Within to (length out) out out₁
      → length on₁ ≡ length channel → length said₁ ≡ length message
      → Betweens s start now.at k to m₁ now.done.mark out₁ on₁ said₁ r on said → NextMeeting s start k to m now out channel message r on said
  unfolding flat_map between_from senders_from focuses_from
  onward_none {answer} {on₁} {said₁} {on} {said} {m₁} {out₁} {high} {r} v e wm wo same size b = record {
    exact = λ x ps ls ts w others threads room long split senders sees.
        let p = w.focus in
        let mine = takers_from w 0 (focuses ps) in
        let theirs : List Party → List Move = flat_map (λ v. takers_from v 0 (focuses ps)) in
        let none = subst (λ a. Answered start on₁ said₁ a mine) e (v.exact k x ps ls ts w others threads room long split senders sees) in
        let again = senders_resumed k x ls ts (split_at [] senders) in
        let rest = b.exact ps p.before (p.thread ∷ p.behind) (threads_kept ps wo (omega arith) threads) (still_roomy wm wo size room)
        (omega arith) (split ∙ again.parts) sees.at in
        let left : senders_from k now.done.mark (p ∷ later_focuses p) ≡ others =
        ap (λ n. senders_from k n (p ∷ later_focuses p)) sees.mark ∙ again.on in
        answered_next start on₁ said₁ on said r mine (theirs others) none (subst (λ us. Answered start on said r (theirs us)) left rest);
  }

-- The first sender follows where it was sought.
sender_ahead : {s out : List ℕ} {start at k to : ℕ} (x : ℕ) (ps ls ts : List Placed) (w : Party) (others : List Party) (r : Sighting)
    → Threads s out start k ps to → ps ≡ ls ++ ts → at ≡ start + length (encode_records ls) → ShortModel s → k ≤ 128
    → senders_from k x (focuses_from ls ts) ≡ w ∷ others → {after : List ℕ} → Sees after r (record_at start w.focus) w.offer
    → Ahead at x to (length s) r.at r.done.mark
unfolding senders_from
sender_ahead {s} {out} {start} {at} {k} {to} x ps ls ts w others r threads split here short few senders sees =
    let known = sender_known x ps ls ts threads split short few senders in
    let placing : Placing x ls w =
    every_first (subst (λ us. Every (Placing x ls) us) senders (parties_placed (outputs 0) (leaf (public 0)) (λ p. offers_of p.thread k) x ls ts)) in
    record {
      some = omega (arith, sees.mark);
      within = omega (arith, sees.mark, known.sending.within);
      below = omega (arith, sees.at, known.below);
      later = omega (arith, sees.at, placing.later);
      after = λ e. let from = placing.from (omega (arith, sees.at)) in omega (arith, sees.mark);
    }

module _ {s : List ℕ} {start at k to : ℕ} {m : List ℕ} {x : ℕ} {out message : List ℕ} {r₁ : Sighting} {out₁ : List ℕ} {b : Bool}
    (v : NextSender s at k to m x out r₁ out₁) (f : IsAhead at x to (length s) r₁.at r₁.done.mark b) where
  first_sender : (ps ls ts : List Placed) → Threads s out start k ps to → Roomy s out m message k to → ps ≡ ls ++ ts
      → at ≡ start + length (encode_records ls) → ShowsSight out₁ r₁ (sight_of start (senders_from k x (focuses_from ls ts)))
  first_sender ps ls ts threads room split here =
      let behind = threads_from ls ts (subst (λ us. Threads s out start k us to) split threads) in
      v.exact start ls ts (subst (λ (n : ℕ). Threads s out n k ts to) (sym here) behind) room here

  pub between_none : {channel : List ℕ} → b ≡ false → Betweens s start at k to m x out channel message None channel message
  unfolding between_from flat_map
  between_none {channel} e = record {
    exact = λ ps ls ts threads room long split here.
        of ps ls ts threads room split here (senders_from k x (focuses_from ls ts)) refl (first_sender ps ls ts threads room split here);
  }
    where
      of : (ps ls ts : List Placed) → Threads s out start k ps to → Roomy s out m message k to → ps ≡ ls ++ ts
          → at ≡ start + length (encode_records ls) → (us : List Party) → senders_from k x (focuses_from ls ts) ≡ us
          → ShowsSight out₁ r₁ (sight_of start us) → Answered start channel message None (flat_map (λ w. takers_from w 0 (focuses ps)) us)
      of ps ls ts threads room split here [] g h = refl
      of ps ls ts threads room split here (w ∷ others) g h =
          absurd (let z : false ≡ true = sym e ∙ f.complete (sender_ahead x ps ls ts w others r₁ threads split here room.short room.few g h) in
          let o : ◌≡◌ {A = ℕ} 0 1 = cc in omega arith)

  pub between_onward : {m₁ channel on said : List ℕ} {high : ℕ} {r : Option code.Step} → b ≡ true → Within 0 high m m₁
      → Within to (length out) out out₁
      → NextMeeting s start k to m₁ r₁ out₁ channel message r on said → Betweens s start at k to m x out channel message r on said
  unfolding between_from
  between_onward {m₁} {channel} {on} {said} {high} {r} e wm wo o = record {
    exact = λ ps ls ts threads room long split here.
        of ps ls ts threads room long split (senders_from k x (focuses_from ls ts)) refl (first_sender ps ls ts threads room split here);
  }
    where
      of : (ps ls ts : List Placed) → Threads s out start k ps to → Roomy s out m message k to → 510 ≤ length channel → ps ≡ ls ++ ts
          → (us : List Party) → senders_from k x (focuses_from ls ts) ≡ us → ShowsSight out₁ r₁ (sight_of start us)
          → Answered start on said r (flat_map (λ w. takers_from w 0 (focuses ps)) us)
      of ps ls ts threads room long split [] g h = absurd (omega (arith, (f.sound e).some))
      of ps ls ts threads room long split (w ∷ others) g h =
          o.exact x ps ls ts w others (threads_kept ps wo (omega arith) threads) (still_roomy wm wo refl room) long split g h

pub ruleset betweens = (between_none, between_onward)

-- The measure falls from a sender to the next one.
pub ahead_falls : {at x to long place mark t : ℕ} {b : Bool} → IsAhead at x to long place mark b → b ≡ true → long ≤ 36864
    → 2 * (37000 * (to - at) + (37000 - x)) ≡ t → 2 * (37000 * (to - place) + (37000 - mark)) + 1 < t
ahead_falls {at} {x} {to} {long} {place} {mark} {t} f e l z = by_place (f.sound e) (eqb place at) refl
  where
    by_place : Ahead at x to long place mark → (c : Bool) → eqb place at ≡ c → 2 * (37000 * (to - place) + (37000 - mark)) + 1 < t
    by_place a true c = let h = eqb-true place at c in omega (arith, a.within, a.below, a.after h)
    by_place a false c = let h = eqb-false place at c in omega (arith, a.some, a.within, a.below, a.later)
