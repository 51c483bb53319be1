-- The first taker of what a sender sends, in the copies of one thread ("Steps").
use Rattle.std.specs.Prelude.{Option, Some, None}
use mathlib.Core.Path.{◌≡◌, refl, sym, ◌∙◌, ap}
use mathlib.Core.Bool.{true, false, true≢false}
use mathlib.Core.List.{List, [], ◌∷◌, map}
use Prim.Native.Nat.{ℕ, ◌+◌, ◌-◌, ◌≤◌}
use native.Mathlib.Omega.{arith}
use lib.ListN.{length, take, drop}
use borrow.Author.Tests.{ne_eqb}
use Rattle.meaning.specs.Bytes.Standing.{Stands}
use Rattle.meaning.specs.Places.{Every, ◌also◌}
use Rattle.meaning.specs.Steps.State.{worked}
use Rattle.meaning.proofs.Every.{every_parts}
use Rattle.message_bytes.specs.Encoding.{encode_message}
use Rattle.buffer.proofs.Laws.Buffer.{part}
use Rattle.state_record.specs.Record.{process_of, bound_of}
use Rattle.state_head.specs.News.{news}
use Rattle.state_progress.specs.Represented.{Found}
use Rattle.state_task.specs.declared.task.CopyAt.{CopyAt}
use Rattle.state_progress.specs.declared.progress.Progress.{Progress}
use Rattle.state_head.proofs.Laws.Fits.{later_fewer}
use Rattle.step_located.specs.Located.{LocatedOffer}
use Rattle.step_located.specs.CopyStep.{Pair, message_of}
use Rattle.step_located.specs.Sought.{wanted, sent_by, Opened}
use Rattle.step_located.proofs.Laws.Located.{size}
use Rattle.step_located.proofs.Laws.Copies.{copies_end}
use Rattle.step_transition.specs.Focus.{Focus, filter}
use Rattle.state_layout.specs.Loaded.{IsRunOf}
use Rattle.step_offer.specs.Hand.{Hands}
use Rattle.step_transition.specs.Moves.{inside}
use Rattle.step_transition.specs.Step.{step_of, run_of, Shown}
use Rattle.step_transition.specs.CopyOffers.{copy_offers, Later, inputs, channel_of, takers_at, left_out, excluded_by}
use Rattle.step_copy_pair.specs.Meet.{ShowsFirst, Looks}
use Rattle.step_transition.specs.CopyOffers.{pairs_of, senders, copy_step_with, moved}
use Rattle.step_copy_pair.specs.Meet.{CopyOf, Pairs, PairsIn, copy_at}
use Rattle.step_offer.specs.declared.hand.Handed.{Handed}
use Rattle.step_label.specs.declared.step.Step as code
use Rattle.step_label.specs.declared.step.Label.TheVariants.{Silent}
use Rattle.step_transition.proofs.Laws.Threads.{process_ends, process_inside}
use Rattle.step_transition.proofs.Laws.CopyMoves.{mode_of}
use Rattle.state_layout.proofs.Laws.Loaded.{news_short}
use Rattle.step_copy_pair.proofs.Laws.Look.{opening_at}
use Rattle.step_copy_pair.proofs.Laws.Senders.{Sender, sender_known}

-- The mark that is left out.
pub left_sender : {arity : ℕ} (mark : ℕ) → arity ≡ 1 → mark ≡ left_out arity mark
left_sender mark e = rw e

pub left_nobody : {arity : ℕ} (mark : ℕ) → (arity ≡ 1 → ⊥) → 0 ≡ left_out arity mark
left_nobody {arity} mark e = rw (ne_eqb arity 1 e, left_out)

pub ruleset marks_left = (left_sender, left_nobody)

-- A taker is looked for with that mark left out.
pub taker_looked : {s argument : List ℕ} {at k to : ℕ} {m : List ℕ} {y excluded left : ℕ} {c : CopyAt} {out : List ℕ} {r : Progress} {after : List ℕ}
    → excluded ≡ left → Looks s argument at k to m (inputs y excluded) c out r after → Looks s argument at k to m (inputs y left) c out r after
taker_looked e h = rw (← e) h

-- What is known of the first of the senders.
module _ {s out m : List ℕ} {start at k to arity copy : ℕ} (p : Focus) (w : Opened) (x : ℕ) (a : LocatedOffer) (others : List LocatedOffer)
    (d : CopyOf s out m start at k to p arity copy w) (e : senders w x ≡ a ∷ others) where
  known : Sender w a
  known = sender_known w x a others e (opening_at p.thread d.pre d.post w d.thread.judged d.listed).free

  taker_later : Later (takers_at arity w a) w
  taker_later =
      let P = process_of p.thread.thread in
      let few : news P ≤ 4096 = omega (arith, news_short P, process_inside p.thread d.thread.recorded.standing) in
      let most = (opening_at p.thread d.pre d.post w d.thread.judged d.listed).small in
      record {
        arity = d.arity_high;
        after = λ l. known.names.later;
        small = omega (arith, known.names.small, most, later_fewer P, d.thread.few);
      }

  pub mark_inside : a.place + 1 ≤ length s
  mark_inside =
      let all = copies_end (process_of p.thread.thread) p.thread.place (bound_of p.thread.thread) 0 k in
      of (every_parts d.pre (rw d.listed at all)).1
    where
      of : Every (λ v. v.place + 1 + size v.copied ≤ p.thread.place + size (process_of p.thread.thread)) (w ∷ d.post)
          → a.place + 1 ≤ length s
      of (l also rest) = omega (arith, known.inner, process_ends p.thread d.thread.recorded.standing)

-- The takers of a sender.
abbrev takers_from : (arity : ℕ) → Opened → (y : ℕ) → LocatedOffer → List LocatedOffer
takers_from arity w y a = filter (wanted (inputs y (excluded_by arity a)) (channel_of a)) (copy_offers (excluded_by arity a) (takers_at arity w a) w)

-- No taker, so no pair; or the pair with the first taker.
none_shown : (start : ℕ) (said : List ℕ) (p : Focus) (arity : ℕ) (w : Opened) (a : LocatedOffer) (out : List ℕ) (r : Progress) (bs : List LocatedOffer)
    → ShowsFirst out r bs → r.going ≡ true
    → Shown start said None (moved p arity w (map (λ b. record { sender = a; taker = b }) bs))
none_shown start said p arity w a out r [] h e = refl
none_shown start said p arity w a out r (b ∷ bs) h e = absurd (true≢false (sym e ∙ h.off))

first_shown : (start : ℕ) (said : List ℕ) (p : Focus) (arity : ℕ) (w : Opened) (a : LocatedOffer) (out : List ℕ) (r : Progress) (bs : List LocatedOffer)
    (t : code.Step) → ShowsFirst out r bs → r.going ≡ false
    → ((b : LocatedOffer) → Found out r b.place b.next (sent_by b)
    → (t ≡ step_of start (inside p (copy_step_with arity w (record { sender = a; taker = b }))))
    × Stands said 0 (run_of (inside p (copy_step_with arity w (record { sender = a; taker = b }))))
    (length (run_of (inside p (copy_step_with arity w (record { sender = a; taker = b }))))))
    → Shown start said (Some t) (moved p arity w (map (λ b. record { sender = a; taker = b }) bs))
first_shown start said p arity w a out r [] t h e f = absurd (true≢false (sym h ∙ e))
first_shown start said p arity w a out r (b ∷ bs) t h e f = let (same, stands) = f b h in (ap Some same, stands)

module _ (s : List ℕ) (at k to : ℕ) (m : List ℕ) (copy arity : ℕ) (now : Progress) (y : ℕ) (out : List ℕ) {said : List ℕ} where
  -- The messages of the sender are handed over, and a taker is looked for.
  module _ {channel₁ : List ℕ} {h : Handed} {r₁ : Progress} {after : List ℕ} (hands : Hands out now.sent h channel₁ said)
      (looks : Looks s (take (h.channel - 0) (drop 0 channel₁)) at k to m (inputs y (left_out arity now.mark)) (copy_at copy arity now.names) out r₁
      after) where
    abbrev found : code.Step
    found = record {
      label = Silent;
      arity = arity;
      copy = copy;
      sender = record { at = at; mark = now.mark; next = now.names };
      taker = record { at = at; mark = r₁.mark; next = r₁.names };
      size = h.message;
    }

    module _ (start : ℕ) (p : Focus) (w : Opened) (x : ℕ) (a : LocatedOffer) (others : List LocatedOffer) (d : CopyOf s out m start at k to p arity copy w)
        (e : senders w x ≡ a ∷ others) (f : Found out now a.place a.next (sent_by a)) (long : 510 ≤ length channel₁)
        (wide : 510 ≤ length said) where
      both_handed : Stands channel₁ 0 (encode_message (channel_of a)) h.channel
          × Stands said 0 (encode_message (worked a.bound (message_of a.prefix))) h.message
      both_handed =
          let sent = (known p w x a others d e).sent in
          let there = rw sent.messages at f.messages in
          hands.exact (channel_of a) (worked a.bound (message_of a.prefix)) there (omega (arith, sent.channel))
          (omega (arith, sent.message))

      takers_shown : ShowsFirst after r₁ (takers_from arity w y a)
      takers_shown =
          let sent = (known p w x a others d e).sent in
          let same : take (h.channel - 0) (drop 0 channel₁) ≡ encode_message (channel_of a) = part both_handed.0 in
          let argument : IsRunOf (take (h.channel - 0) (drop 0 channel₁)) (channel_of a) =
          record { same = same; small = rw same sent.channel; normal = sent.normal } in
          let marked : left_out arity now.mark ≡ excluded_by arity a = ap (left_out arity) f.mark in
          let later = taker_later p w x a others d e in
          let shown =
          looks.exact p.thread (channel_of a) d.pre d.post w d.thread argument d.listed d.meant
          (record { arity = later.arity; after = λ l. rw f.next (later.after l); small = rw f.next later.small }) in
          rw (marked, d.meant, f.next) at shown

      step_same : (b : LocatedOffer) → Found after r₁ b.place b.next (sent_by b)
          → (found ≡ step_of start (inside p (copy_step_with arity w (record { sender = a; taker = b }))))
          × Stands said 0 (run_of (inside p (copy_step_with arity w (record { sender = a; taker = b }))))
          (length (run_of (inside p (copy_step_with arity w (record { sender = a; taker = b })))))
      unfolding step_of run_of
      step_same b g =
          let v : Pair = record { sender = a; taker = b } in
          let there = both_handed.1 in
          let ends : h.message ≡ length (encode_message (worked a.bound (message_of a.prefix))) = omega (arith, there.size) in (
            rw (mode_of arity w v d.arity_low d.arity_high, d.position, d.meant, f.mark, f.next, g.mark, g.next, ends),
            rw ends at there,
          )

    module _ {channel message : List ℕ} (l : length channel₁ ≡ length channel) (n : length said ≡ length message) where
      pub pair_none : r₁.going ≡ true → PairsIn channel s at k to m copy arity now y out message None said
      unfolding pairs_of
      pair_none o = record {
        exact = λ room. record {
          exact = λ start p w x a others d e f wide.
              let shown = takers_shown start p w x a others d e f (omega arith) (omega arith) in
              none_shown start said p arity w a after r₁ (takers_from arity w y a) shown o;
        };
      }

      pub pair_found : r₁.going ≡ false → PairsIn channel s at k to m copy arity now y out message (Some found) said
      unfolding pairs_of
      pair_found o = record {
        exact = λ room. record {
          exact = λ start p w x a others d e f wide.
              let shown = takers_shown start p w x a others d e f (omega arith) (omega arith) in
              first_shown start said p arity w a after r₁ (takers_from arity w y a) _ shown o
              (step_same start p w x a others d e f (omega arith) (omega arith));
        };
      }

pub ruleset takings = (pair_none, pair_found)

-- There is room for the channel.
pub pairs_in : (channel s : List ℕ) {at k to : ℕ} {m : List ℕ} {copy arity : ℕ} {now : Progress} {y : ℕ} {out message said : List ℕ}
    {r : Option code.Step}
    → PairsIn channel s at k to m copy arity now y out message r said → 510 ≤ length channel
    → Pairs s at k to m copy arity now y out message r said
pairs_in channel s h l = h.exact l
