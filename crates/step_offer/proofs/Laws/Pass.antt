-- Records of threads that surely have no offer of a quest ("Steps").
use mathlib.Core.Path.{◌≡◌, refl, sym, ap, subst, ◌∙◌}
use mathlib.Core.Bool.{Bool, true, false, not, ◌&&◌, true≢false}
use mathlib.Core.List.{List, [], ◌∷◌}
use Prim.Native.Nat.{ℕ, ◌+◌, ◌*◌, ◌/◌, ◌%◌}
use native.Mathlib.Omega.{arith}
use lib.Dec.{ltb, eqb}
use borrow.Author.Tests.{ne_eqb, not-true, eqb-false}
use lib.ListN.{length, get_or}
use Rattle.meaning.specs.Messages.Term.{Term, Message, leaf, proj, binary, name, variable, public, fst, snd, pair, cipher, mac, enc, dec}
use Rattle.meaning.specs.Messages.Normal.{same, normal}
use Rattle.meaning.specs.Bytes.Process.{Prefix, output, input, Process}
use Rattle.meaning.specs.Bytes.Encoding.{encode_number, encode_term}
use Rattle.meaning.specs.Bytes.Standing.{Stands}
use Rattle.meaning.specs.Steps.State.{Bound, worked, Thread, act, repl}
use Rattle.meaning.proofs.Bytes.Reading.Place.{parts, whole-stands}
use Rattle.meaning.proofs.Messages.Same.{same_sound}
use Rattle.meaning.proofs.Test.{is_false}
use Rattle.decode_layout.proofs.Laws.Standing.{first_byte}
use Rattle.message_bytes.specs.Encoding.{encode_message}
use Rattle.buffer.specs.Word.{encode_word}
use Rattle.state_record.specs.Place.{ProcessAt, body_at}
use Rattle.state_record.specs.Record.{process_of, bound_of}
use Rattle.state_record.proofs.Laws.Process.{kind_of, process_kind, of_output, of_input}
use Rattle.state_task.specs.Machine.{eligible}
use Rattle.state_task.specs.Thread.{channel_of}
use Rattle.state_task.specs.declared.task.Quest.{Quest}
use Rattle.step_located.specs.Located.{located_offers}
use Rattle.step_located.specs.Sought.{wanted}
use Rattle.step_offer.specs.Seek.{Sight, first_of}
use Rattle.step_offer.specs.Pass.{Differs, NoOffer}

-- The low seven bits of a number are those of its first byte.
low_bits : {s : List ℕ} {at end : ℕ} (n : ℕ) → Stands s at (encode_number n) end → (2 * get_or s at 0 + 16) % 256 ≡ (2 * n + 16) % 256
unfolding encode_number
low_bits {s} {at} {end} n p = by_test (ltb n 128) p
  where
    by_test : (b : Bool) → Stands s at (elim b [ true ↦ n ∷ [] | false ↦ (128 + n % 128) ∷ (n / 128) ∷ [] ]) end
        → (2 * get_or s at 0 + 16) % 256 ≡ (2 * n + 16) % 256
    by_test true q = omega (arith, first_byte q)
    by_test false q = omega (arith, first_byte q)

-- A term whose first byte is 0 is a public name with the low seven bits of the second byte.
public_name : {s : List ℕ} {at end : ℕ} (C : Term) (ρ : Bound) → Stands s at (encode_term C) end → get_or s at 0 ≡ 0
    → (n : ℕ) × (worked ρ C ≡ leaf (public n)) × ((2 * get_or s (at + 1) 0 + 16) % 256 ≡ (2 * n + 16) % 256)
unfolding encode_term normal
public_name (leaf (name n)) ρ p z =
    let (mid, k, q) = parts (0 ∷ []) (encode_number n ∷ []) p in
    (n, refl, low_bits n (rw k.size at q))
public_name (leaf (variable n)) ρ p z = absurd (omega (arith, first_byte p))
public_name (proj fst t) ρ p z = absurd (omega (arith, first_byte p))
public_name (proj snd t) ρ p z = absurd (omega (arith, first_byte p))
public_name (binary pair t u) ρ p z = absurd (omega (arith, first_byte p))
public_name (binary (cipher enc) t u) ρ p z = absurd (omega (arith, first_byte p))
public_name (binary (cipher dec) t u) ρ p z = absurd (omega (arith, first_byte p))
public_name (binary mac t u) ρ p z = absurd (omega (arith, first_byte p))

-- The run of a public name is the two bytes of its number, the lower one first.
name_run : {argument : List ℕ} (n : ℕ) → argument ≡ encode_message (leaf (public n))
    → (length argument ≡ 2) × ((2 * n + 16) % 256 ≡ get_or argument 0 0)
unfolding encode_message encode_word
name_run {argument} n e =
    let there = subst (λ (xs : List ℕ). Stands argument 0 xs (length argument)) e (whole-stands argument) in
    (there.size, first_byte there)

-- A channel: nothing is said of it; or it is a public name, and the label is another message.
module _ {s argument : List ℕ} {at : ℕ} where
  pub may_agree : Differs s argument at false
  may_agree = record { exact = λ e. absurd (true≢false (sym e)) }

  module _ {kind : ℕ} (k : kind ≡ get_or s at 0) (z : kind ≡ 0) where
    other_run : {b : Bool} → (b ≡ true → (length argument ≡ 2) × ((2 * get_or s (at + 1) 0 + 16) % 256 ≡ get_or argument 0 0) → ⊥)
        → Differs s argument at b
    other_run never = record {
      exact = λ t C ρ x p e.
          let (n, own, low) = public_name C ρ p (omega arith) in
          rw own (is_false (same (leaf (public n)) x) (λ a.
          let (two, byte) = name_run n (e ∙ ap encode_message (sym (same_sound _ _ a))) in
          never t (two, low ∙ byte)));
    }

    pub other_length : (length argument ≡ 2 → ⊥) → Differs s argument at true
    other_length l = other_run (λ _ r. l r.0)

    pub other_byte : {first low : ℕ} → first ≡ get_or s (at + 1) 0 → low ≡ get_or argument 0 0 → {b : Bool}
        → b ≡ not (eqb ((2 * first + 16) % 256) low) → Differs s argument at b
    other_byte {first} {low} f l e =
        let agree = eqb ((2 * first + 16) % 256) low in
        other_run (λ t r. eqb-false _ low (not-true agree (sym e ∙ t)) (rw (f, l) r.1))

pub ruleset differences = (may_agree, other_length, other_byte)

-- A thread that acts by itself has one offer.
one_offer : (q : Quest) (x : Message) (place k at : ℕ) (ρ : Bound) (p : Prefix) (P : Process) (later : Sight)
    → wanted q x (record { place = place; bound = ρ; prefix = p; rest = P; next = k }) ≡ false
    → first_of q x at (located_offers (Process.act p P) place ρ 0 k) later ≡ later
unfolding first_of located_offers
one_offer q x place k at ρ p P later e = rw (e, first_of)

-- It is not wanted if it is not eligible, or if any channel will not do and its own differs.
not_eligible : (e o c : Bool) → (e && true && o) ≡ false → (o && e && c) ≡ false
not_eligible true true c h = absurd (true≢false h)
not_eligible true false c h = refl
not_eligible false true c h = refl
not_eligible false false c h = refl

other_channel : (o e : Bool) → (o && e && false) ≡ false
other_channel true true = refl
other_channel true false = refl
other_channel false e = refl

module _ (q : Quest) (x : Message) (place k : ℕ) (ρ : Bound) where
  turned_down : (p : Prefix) (P : Process) → q.excluded ≡ 0 → eligible q place (kind_of (Process.act p P)) ≡ false
      → wanted q x (record { place = place; bound = ρ; prefix = p; rest = P; next = k }) ≡ false
  unfolding wanted eligible
  turned_down (output C M) P b e =
      let none = ne_eqb (place + 1) 0 (λ z. omega arith) in
      not_eligible (not (ltb place q.from)) q.output _ (rw (b, none) at e)
  turned_down (input C) P b e =
      let none = ne_eqb (place + 1) 0 (λ z. omega arith) in
      not_eligible (not (ltb place q.from)) (not q.output) _ (rw (b, none) at e)

  kept_off : (p : Prefix) (P : Process) → q.any ≡ false → same (worked ρ (channel_of p)) x ≡ false
      → wanted q x (record { place = place; bound = ρ; prefix = p; rest = P; next = k }) ≡ false
  unfolding wanted
  kept_off (output C M) P a e = rw (a, e) (other_channel q.output (not (ltb place q.from)))
  kept_off (input C) P a e = rw (a, e) (other_channel (not q.output) (not (ltb place q.from)))

-- The channel of an offer stands behind its kind.
channel_stands : {s : List ℕ} {at left scope next : ℕ} (p : Prefix) (P : Process) → ProcessAt s at left scope (Process.act p P) next
    → Stands s (at + 1) (encode_term (channel_of p)) (body_at at (channel_of p))
channel_stands (output C M) P h = (of_output C M P h).0.stands
channel_stands (input C) P h = (of_input C P h).stands

-- A thread: nothing is said of it; or it acts by itself, and its offer is not wanted.
module _ {s argument : List ℕ} {place : ℕ} {q : Quest} where
  pub may_offer : NoOffer s argument place q false
  may_offer = record { exact = λ e. absurd (true≢false (sym e)) }

  module _ {kind : ℕ} (e : kind ≡ get_or s place 0) (z : kind ≡ 7 → ⊥) where
    acts_alone : ((p : Prefix) (P : Process) (ρ : Bound) (x : Message) (k next : ℕ)
        → ProcessAt s place 64 (length ρ) (Process.act p P) next → q.excluded ≡ 0 → argument ≡ encode_message x
        → wanted q x (record { place = place; bound = ρ; prefix = p; rest = P; next = k }) ≡ false) → NoOffer s argument place q true
    acts_alone unwanted = record { exact = λ _ t x k at later here h. of t.thread x k at later (rw here at h.process) here }
      where
        of : (u : Thread) (x : Message) (k at : ℕ) (later : Sight) {next there : ℕ}
            → ProcessAt s place 64 (length (bound_of u)) (process_of u) next → there ≡ place → q.excluded ≡ 0 → argument ≡ encode_message x
            → first_of q x at (located_offers (process_of u) there (bound_of u) 0 k) later ≡ later
        of (act ρ p P) x k at later {next} h i b l = rw i (one_offer q x place k at ρ p P later (unwanted p P ρ x k next h b l))
        of (repl ρ P) x k at later h i b l = absurd (z (e ∙ (process_kind (Process.repl P) h).0))

    pub not_meant : {a : Bool} → a ≡ eligible q place kind → a ≡ false → NoOffer s argument place q true
    not_meant f a = acts_alone (λ p P ρ x k next h b l.
        turned_down q x place k ρ p P b (sym (ap (eligible q place) (e ∙ (process_kind (Process.act p P) h).0)) ∙ sym f ∙ a))

    pub not_agreed : {r : Bool} → q.any ≡ false → Differs s argument (place + 1) r → NoOffer s argument place q r
    not_agreed {r} a d = by_answer r d
      where
        by_answer : (r : Bool) → Differs s argument (place + 1) r → NoOffer s argument place q r
        by_answer false d = may_offer
        by_answer true d = acts_alone (λ p P ρ x k next h b l.
            kept_off q x place k ρ p P a (d.exact refl (channel_of p) ρ x (channel_stands p P h) l))

pub ruleset no_offers = (may_offer, not_meant, not_agreed)
