-- The messages that an offer hands over ("Steps").
use Rattle.std.specs.Prelude.{Option, Some, None}
use mathlib.Core.Path.{◌≡◌, refl, ap}
use mathlib.Core.Bool.{Bool, false}
use mathlib.Core.List.{List, [], ◌++◌, append-nil}
use Prim.Native.Nat.{ℕ, ◌+◌, ◌-◌, ◌≤◌, ◌<◌}
use native.Mathlib.Omega.{arith}
use lib.ListN.{length, take, drop, get_or, length-drop}
use lib.Seq.{paste, length-take-le}
use Rattle.meaning.specs.Messages.Term.{Term}
use Rattle.meaning.specs.Bytes.Process.{Prefix, output, input, Process}
use Rattle.meaning.specs.Bytes.Encoding.{encode_term}
use Rattle.meaning.specs.Bytes.Standing.{Stands}
use Rattle.meaning.specs.Steps.State.{Bound, worked}
use Rattle.meaning.proofs.Bytes.Reading.Place.{◌⨾◌}
use Rattle.message_bytes.specs.Encoding.{encode_message}
use Rattle.buffer.specs.Buffer.{Within}
use Rattle.buffer.proofs.Laws.Buffer.{kept, part, put_within, put_stands}
use Rattle.message_term.specs.Bound.{BoundTo, BoundAt}
use Rattle.message_term.specs.Work.{TermAt, Works, Reaches}
use Rattle.message_term.specs.declared.work.Worked.{Worked}
use Rattle.message_term.proofs.Laws.Work.{said_over, said_small}
use Rattle.state_record.specs.Place.{ProcessAt, body_at}
use Rattle.state_progress.specs.TraversalResult.{Accumulated}
use Rattle.state_progress.specs.Represented.{Represents, RepresentsResult, encode_messages}
use Rattle.state_progress.specs.Progress.{Extends, Stopped, Hits}
use Rattle.state_task.specs.Thread.{HandsMessages, handed_over, channel_of, Hands}
use Rattle.state_progress.specs.declared.progress.Progress.{Progress}
use Rattle.state_progress.proofs.Laws.Progress.{to_end, to_end_twice}
use Rattle.state_record.proofs.Laws.Process.{process_kind, of_output}

-- The messages of an output handed over: there is room for them behind the records.
module _ {m out : List ℕ} {from to at k : ℕ} {now : Progress} where
  pub no_start : {r : Progress} → length out < now.state.end → Stopped now r → HandsMessages m from to at k out now r out
  no_start h o = record { exact = λ s g x y p l d. absurd (omega (arith, d.size, d.few, d.light, d.room)) }

  pub no_space : {r : Progress} → length out - now.state.end < to - from → Stopped now r → HandsMessages m from to at k out now r out
  no_space h o = record { exact = λ s g x y p l d. absurd (omega (arith, d.size, d.few, d.light, d.room)) }

module _ (m out : List ℕ) (from to last : ℕ) {after : List ℕ}
    (e : after ≡ paste out last (take (to - from) (drop from m)) (length (take (to - from) (drop from m))))
    (h : to ≤ length m) (l : last ≤ length out) (n : to - from ≤ length out - last) where
  long : length (take (to - from) (drop from m)) ≡ to - from
  long = length-take-le (to - from) (drop from m) (rw length-drop (omega arith))

  fits : last + length (take (to - from) (drop from m)) ≤ length out
  fits = rw long (omega arith)

  pub sent_within : Within last (length out) out after
  sent_within = to_end (put_within out last (take (to - from) (drop from m)) e fits)

  sent_stands : {xs : List ℕ} → Stands m from xs to → Stands after last xs (last + (to - from))
  sent_stands p = rw (long, part p) at (put_stands out last (take (to - from) (drop from m)) e fits)

  pub sent_over : {at k aliases start threads nodes names : ℕ} {now : Progress} → HandsMessages m from to at k out now (record {
    going = false;
    names = k;
    mark = at + 1;
    sent = last;
    state = record { aliases = aliases; start = start; end = last + (to - from); threads = threads; nodes = nodes; names = names };
  }) after
  sent_over = record {
    exact = λ s g x y p f d. record { off = refl; mark = refl; next = refl; messages = sent_stands p };
  }

pub sent_extends : {now : Progress} {on : Bool} {k mark sent threads nodes names : ℕ} (n : ℕ) → Extends now (record {
  going = on;
  names = k;
  mark = mark;
  sent = sent;
  state = record {
    aliases = now.state.aliases;
    start = now.state.start;
    end = now.state.end + n;
    threads = threads;
    nodes = nodes;
    names = names;
  };
})
sent_extends n = record { aliases = refl; start = refl; end = omega arith }

pub ruleset sends = (no_start, no_space, sent_within, sent_over, sent_extends)

-- How far a term goes that was worked.
module _ {w : Option Worked} {x : Worked} (mid : ℕ) (e : w ≡ Some x) (h : Reaches mid 8 w) where
  pub last_above : mid ≤ x.end
  last_above = (h.there x e).0

  pub second_above : {end : ℕ} → end ≤ mid → end ≤ x.end
  second_above l = let (low, high, one) = h.there x e in omega arith

  pub last_within : {m m₁ : List ℕ} → Within mid (mid + 4096) m m₁ → mid + 4096 ≤ length m → x.end ≤ length m₁
  last_within v l = let (low, high, one) = h.there x e in omega (arith, v.long)

  pub first_within : {m m₁ : List ℕ} → Within mid (mid + 4096) m m₁ → mid + 4606 ≤ length m → x.end ≤ length m₁
  first_within v l = let (low, high, one) = h.there x e in omega (arith, v.long)

  pub room_after : {m m₁ : List ℕ} → Within mid (mid + 4096) m m₁ → mid + 4606 ≤ length m → x.end + 4096 ≤ length m₁
  room_after v l = let (low, high, one) = h.there x e in omega (arith, v.long)

  pub both_to_end : {m m₁ m₂ : List ℕ} {high : ℕ} → Within mid (mid + 4096) m m₁ → Within x.end high m₁ m₂ → Within mid (length m) m m₂
  both_to_end v v₁ = to_end_twice v v₁ last_above

pub ruleset reaches = (last_above, second_above, last_within, first_within, room_after, both_to_end)

-- The messages of a traversal are bound at 0.
pub bound_below : {m : List ℕ} {end last : ℕ} {ρ : Bound} → BoundTo m 0 ρ end → end ≤ last → BoundAt m 0 ρ last
bound_below {end} b l = record { end = end; bound = b; below = l }

-- An input hands over nothing.
module _ {s m out : List ℕ} {at next end last k : ℕ} {now : Progress} where
  pub hands_nothing : {r : Progress} → get_or s at 0 ≡ 3 → Hits now at k r → Hands s at next m end last k out now r out
  unfolding encode_messages
  hands_nothing {r} z h = record { exact = λ p. only p }
    where
      only : (p : Prefix) (P : Process) (ρ : Bound) (g : Accumulated) {left stop : ℕ}
          → ProcessAt s at left (length ρ) (Process.act p P) stop → BoundTo m 0 ρ end → next ≡ body_at at (channel_of p)
          → Stands m end (encode_message (worked ρ (channel_of p))) last → last ≤ end + 510 → Represents s out now g
          → RepresentsResult s out r (handed_over at k ρ p)
      only (output C M) P ρ g q b n c l d = absurd (omega (arith, (process_kind (Process.act (output C M) P) q).0))
      only (input C) P ρ g q b n c l d = record {
        off = h.off;
        mark = h.mark;
        next = h.next;
        messages = record { bytes = rw (h.sent, h.state); size = omega (arith, h.sent, ap (λ t. t.end) h.state) };
      }

  -- The message of an output stands behind its channel.
  module _ (z : get_or s at 0 ≡ 3 → ⊥) {w : Option Worked} {m₁ : List ℕ} (f : Works s next 8 m 0 last w m₁) (l : end ≤ last) {r : Progress} where
    -- It is a prefix with a message.
    for_output : {after : List ℕ}
        → ((C M : Term) (ρ : Bound) (g : Accumulated) → TermAt s next 8 (length ρ) M (next + length (encode_term M)) → BoundAt m 0 ρ last
        → Stands m end (encode_message (worked ρ C)) last → last ≤ end + 510 → Represents s out now g
        → RepresentsResult s after r (handed_over at k ρ (output C M))) → Hands s at next m end last k out now r after
    for_output {after} here = record { exact = λ p. only p }
      where
        only : (p : Prefix) (P : Process) (ρ : Bound) (g : Accumulated) {left stop : ℕ}
            → ProcessAt s at left (length ρ) (Process.act p P) stop → BoundTo m 0 ρ end → next ≡ body_at at (channel_of p)
            → Stands m end (encode_message (worked ρ (channel_of p))) last → last ≤ end + 510 → Represents s out now g
            → RepresentsResult s after r (handed_over at k ρ p)
        only (output C M) P ρ g q b n c j d = here C M ρ g (rw (← n) at (of_output C M P q).1) (bound_below b l) c j d
        only (input C) P ρ g q b n c j d = absurd (z (process_kind (Process.act (input C) P) q).0)

    pub hands_large : w ≡ None → Stopped now r → Hands s at next m end last k out now r out
    hands_large y o = for_output (λ C M ρ g t b c j d. rw (said_over _ _ _ (f.exact M ρ t b).answer y) o.over)

    pub hands_over : {x : Worked} {after : List ℕ} → w ≡ Some x → Reaches last 8 w → Within last (last + 4096) m m₁
        → HandsMessages m₁ end x.end at k out now r after → Hands s at next m end last k out now r after
    unfolding encode_messages
    hands_over {x} y h v z = for_output (λ C M ρ g t b c j d.
        let u = f.exact M ρ t b in
        let (o, n, ends) = said_small _ _ _ u.answer y in
        let own : Stands m₁ end (encode_message (worked ρ C)) last = kept {low = last} c (omega arith) v.below in
        let other : Stands m₁ last (encode_message (worked ρ M) ++ []) x.end = rw (append-nil, ends) (u.run o) in
        let (low, high, one) = h.there x y in
        rw o (z.exact s g (worked ρ C) (worked ρ M) (own ⨾ other) (omega arith) d))

pub ruleset hands = (hands_nothing, hands_large, hands_over)
