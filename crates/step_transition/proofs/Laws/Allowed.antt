-- What a thread that meets no limit offers meets none, and what it sends is short ("Judging and its count").
use Prim.Native.Nat.{ℕ, ◌≤◌}
use native.Mathlib.Omega.{arith}
use mathlib.Core.Path.{◌≡◌, refl, sym}
use mathlib.Core.Bool.{false, true, ◌||◌, true≢false}
use mathlib.Core.List.{[], ◌∷◌}
use lib.ListN.{length}
use borrow.Author.Tests.{ltb-false}
use Rattle.meaning.specs.Messages.Term.{Term, leaf, proj, binary, Message, nodes}
use Rattle.meaning.specs.Messages.Equation.{Normal}
use Rattle.meaning.specs.Bytes.Process.{Prefix, output, input, Process}
use Rattle.meaning.specs.Places.{Every}
use Rattle.meaning.specs.Steps.State.{Bound, written, worked, settle}
use Rattle.meaning.specs.Judging.Limits.{over, over_whole, over_prefix}
use Rattle.meaning.proofs.Messages.{normal_forms}
use Rattle.meaning.proofs.Test.{neither}
use Rattle.meaning.proofs.Every.{every_map}
use Rattle.message_bytes.specs.Encoding.{encode_message}
use Rattle.message_bytes.proofs.Theorems.{run_length}
use Rattle.state_layout.specs.Loaded.{BoundSmall}
use Rattle.step_located.specs.Located.{LocatedOffer, located_offers, prefixed}
use Rattle.step_located.specs.CopyStep.{message_of}
use Rattle.step_located.specs.Sought.{wanted, sent_by}
use Rattle.step_transition.specs.CopyOffers.{outputs, channel_of}
use Rattle.step_transition.proofs.Laws.LimitsLeft.{Clear}
use Rattle.step_transition.proofs.Laws.LimitsReplaced.{replaces}

pub acting_allowed : (P : Process) (at : ℕ) (ρ : Bound) (n k : ℕ) → Every (Clear k) (settle P ρ n)
    → Every (λ a. over_prefix a.bound a.prefix a.rest a.next ≡ false) (located_offers P at ρ n k)
acting_allowed P at ρ n k c = every_map (λ a r. r.opens.allowed) (replaces P at ρ n k c)

-- Its messages are small.
pub acting_small : (P : Process) (at : ℕ) (ρ : Bound) (n k : ℕ) → Every (Clear k) (settle P ρ n)
    → Every (λ a. BoundSmall a.bound) (located_offers P at ρ n k)
acting_small P at ρ n k c = every_map (λ a r. r.opens.small) (replaces P at ρ n k c)

-- A term that is worked within the limits has a short run.
whole : (ρ : Bound) (t : Term) → over ρ t ≡ false → over_whole ρ t ≡ false
unfolding over
whole ρ (leaf l) e = e
whole ρ (proj s t) e = (neither (over ρ t) _ e).1
whole ρ (binary b t u) e = (neither (over ρ t || over ρ u) _ e).1

pub run_short : (ρ : Bound) (t : Term) → over ρ t ≡ false → length (encode_message (worked ρ t)) ≤ 510
run_short ρ t e = omega (arith, ltb-false 255 (nodes (worked ρ t)) (whole ρ t e), run_length (worked ρ t))

-- What an output within the limits sends.
pub record Sent (a : LocatedOffer) : Type 0 where
  pub messages : sent_by a ≡ channel_of a ∷ worked a.bound (message_of a.prefix) ∷ []
  pub channel : length (encode_message (channel_of a)) ≤ 510
  pub message : length (encode_message (worked a.bound (message_of a.prefix))) ≤ 510
  pub normal : Normal (channel_of a)

pub sent : (n : ℕ) (x : Message) (a : LocatedOffer) → over_prefix a.bound a.prefix a.rest a.next ≡ false
    → wanted (outputs n) x a ≡ true → Sent a
unfolding wanted sent_by
sent n x a = of a.prefix
  where
    of : (p : Prefix) → over_prefix a.bound p a.rest a.next ≡ false → wanted (outputs n) x (prefixed a p) ≡ true → Sent (prefixed a p)
    of (output C M) f w =
        let (c, m) = neither (over a.bound C) _ f in
        record {
          messages = refl;
          channel = run_short a.bound C c;
          message = run_short a.bound M m;
          normal = (normal_forms (written a.bound C)).0;
        }
    of (input C) f w = absurd (true≢false (sym w))
