-- The part of a message's run that its normal form is ("Messages"), by the equation that applies at the top or none.
use mathlib.Core.Path.{◌≡◌, refl, sym, ap, ◌∙◌}
use mathlib.Core.Bool.{Bool, true, false}
use mathlib.Core.List.{List}
use Prim.Native.Nat.{ℕ, ◌+◌, ◌-◌, ◌*◌, ◌≤◌, ◌<◌}
use native.Mathlib.Nat.{zero-add}
use native.Mathlib.Omega.{arith}
use lib.ListN.{length, take, drop}
use lib.Seq.{paste}
use Rattle.meaning.specs.Messages.Term.{Side, fst, snd, Direction, enc, dec, opposite, pair, cipher, mac, side_kind, binary_kind}
use Rattle.meaning.specs.Messages.Term.{Message, leaf, proj, binary, nodes}
use Rattle.meaning.specs.Messages.Equation.{part as taken, Normal}
use Rattle.meaning.specs.Messages.Normal.{same, project, build, normal}
use Rattle.meaning.specs.Bytes.Standing.{Stands}
use Rattle.meaning.proofs.Bytes.Reading.Place.{whole-stands}
use Rattle.message_bytes.specs.Encoding.{encode_message, parts_of}
use Rattle.buffer.specs.Word.{number_at}
use Rattle.buffer.specs.Buffer.{Within}
use Rattle.message_bytes.specs.Run.{SizeOf, alike}
use Rattle.message_normal.specs.Normal.{PartsNormal, first_end, Projects, Undoes, Survives, Normalised}
use Rattle.message_bytes.proofs.Laws.Encoding.{head_number, inner, head_parts}
use Rattle.message_bytes.proofs.Laws.Alike.{same_runs}
use Rattle.buffer.proofs.Laws.Buffer.{lent, part, copy_stands, copy_within, unchanged}
use Rattle.message_bytes.proofs.Laws.Traverse.{head-number, one_part, two_parts, some_node}
use Rattle.message_normal.proofs.Laws.Normal.{by_head, project_other, crypt_other, crypt_undoes, normal_proj, normal_binary}

module _ {m : List ℕ} where
  -- The slice is the message.
  whole : (x : Message) → m ≡ encode_message x → Stands m 0 (encode_message x) (length m)
  whole x e = rw e (whole-stands (encode_message x))

  stays : (x y : Message) → y ≡ x → m ≡ encode_message x → Stands m 0 (encode_message y) (length m)
  stays x y n e = rw n (whole x e)

  module _ {v : ℕ} (h : v ≡ number_at m 2) where
    -- A projection, of something else than a pair or of a pair.
    pub no_pair : {kind : ℕ} → (v ≡ 2 → ⊥) → Projects m kind 0 (length m)
    no_pair other = record {
      there = λ s y n k e.
          let head = head-number y (one_part s y (whole (proj s y) e)) in
          stays (proj s y) _ (normal_proj s y n ∙ project_other s y (λ p. other (h ∙ head ∙ p))) e;
    }

    module _ {n : ℕ} (p : v ≡ 2) (z : SizeOf (take (length m - 4) (drop 4 m)) n) where
      -- The parts of the pair.
      of_pair : (s : Side) (a b : Message) → m ≡ encode_message (proj s (binary pair a b))
          → Stands m 4 (encode_message a) (4 + 2 * n) × Stands m (4 + 2 * n) (encode_message b) (length m)
      of_pair s a b e =
          let (first, second) = two_parts pair a b (one_part s (binary pair a b) (whole _ e)) in
          let size : n ≡ nodes a = z.same a (lent {last = length m} first (omega (arith, second.size))) in
          (rw size first, rw size second)

      projecting : {kind from end : ℕ}
          → ((s : Side) (a b : Message) → kind ≡ side_kind s → m ≡ encode_message (proj s (binary pair a b))
          → Stands m from (encode_message (taken s a b)) end) → Projects m kind from end
      unfolding project
      projecting {from} {end} f = record {
        there = λ s y o i e.
            by_head pair (λ y. Normal y → m ≡ encode_message (proj s y) → Stands m from (encode_message (normal (proj s y))) end)
            (λ a b o e. rw (normal_proj s (binary pair a b) o) (f s a b i e)) y
            (sym (head-number y (one_part s y (whole (proj s y) e))) ∙ sym h ∙ p) o e;
      }

      pub first_taken : {kind : ℕ} → kind ≡ 3 → Projects m kind 4 (4 + 2 * n)
      first_taken {kind} k = projecting side
        where
          side : (s : Side) (a b : Message) → kind ≡ side_kind s → m ≡ encode_message (proj s (binary pair a b))
              → Stands m 4 (encode_message (taken s a b)) (4 + 2 * n)
          side fst a b i e = (of_pair fst a b e).0
          side snd a b i e = absurd (omega arith)

      pub second_taken : {kind : ℕ} → (kind ≡ 3 → ⊥) → Projects m kind (4 + 2 * n) (length m)
      second_taken {kind} k = projecting side
        where
          side : (s : Side) (a b : Message) → kind ≡ side_kind s → m ≡ encode_message (proj s (binary pair a b))
              → Stands m (4 + 2 * n) (encode_message (taken s a b)) (length m)
          side fst a b i e = absurd (k i)
          side snd a b i e = (of_pair snd a b e).1

    -- A cipher, over something else than its opposite, or over that under a key that is the same or not.
    pub no_opposite : {mid other : ℕ} → (v ≡ other → ⊥) → Undoes m mid other 0 (length m)
    unfolding build
    no_opposite apart = record {
      there = λ d y k n o i e f.
          let (first, second) = two_parts (cipher d) y k (whole (binary (cipher d) y k) e) in
          let head = head-number y first in
          stays (binary (cipher d) y k) _
          (normal_binary (cipher d) y k n o ∙ crypt_other d y k (λ p. apart (h ∙ head ∙ p ∙ sym i))) e;
    }

    module _ {mid other n : ℕ} {r : Bool} (p : v ≡ other) (z : SizeOf (take (mid - 4) (drop 4 m)) n)
        (c : r ≡ alike (take (mid - (4 + 2 * n)) (drop (4 + 2 * n) m)) (take (length m - mid) (drop mid m))) where
      -- What the opposite was applied to, and whether the keys are the same.
      of_opposite : (d e : Direction) (a l k : Message) → m ≡ encode_message (binary (cipher d) (binary (cipher e) a l) k)
          → mid ≡ first_end (binary (cipher d) (binary (cipher e) a l) k)
          → (r ≡ same l k) × Stands m 4 (encode_message a) (4 + 2 * n)
      of_opposite d e a l k q f =
          let (inner, key) = two_parts (cipher d) (binary (cipher e) a l) k (whole _ q) in
          let (first, second) = two_parts (cipher e) a l inner in
          let size : n ≡ nodes a = z.same a (lent {last = mid} first (omega arith)) in
          let own : take (mid - (4 + 2 * n)) (drop (4 + 2 * n) m) ≡ encode_message l = rw (size, f) (part second) in
          let given : take (length m - mid) (drop mid m) ≡ encode_message k = rw f (part key) in
          (c ∙ rw (own, given) (same_runs l k), rw size first)

      undoing : {from end : ℕ}
          → ((d : Direction) (a l k : Message) → m ≡ encode_message (binary (cipher d) (binary (cipher (opposite d)) a l) k)
          → Stands m 4 (encode_message a) (4 + 2 * n)
          → Stands m from (encode_message (elim r [ true ↦ a | false ↦ binary (cipher d) (binary (cipher (opposite d)) a l) k ])) end)
          → Undoes m mid other from end
      unfolding build
      undoing {from} {end} g = record {
        there = λ d y k o u i e f.
            by_head (cipher (opposite d)) (λ y. Normal y → m ≡ encode_message (binary (cipher d) y k)
            → mid ≡ first_end (binary (cipher d) y k) → Stands m from (encode_message (normal (binary (cipher d) y k))) end)
            (λ a l o e f.
            let (key, first) = of_opposite d (opposite d) a l k e f in
            rw (normal_binary (cipher d) (binary (cipher (opposite d)) a l) k o u, crypt_undoes d a l k, ← key) (g d a l k e first))
            y (sym (head-number y (two_parts (cipher d) y k (whole _ e)).0) ∙ sym h ∙ p ∙ i) o e f;
      }

      pub keys_same : r ≡ true → Undoes m mid other 4 (4 + 2 * n)
      keys_same t = undoing λ d a l k e first. rw t first

      pub keys_differ : r ≡ false → Undoes m mid other 0 (length m)
      keys_differ t = undoing λ d a l k e first. rw t (whole _ e)

  -- A message of any kind: a name alone, a projection, a cipher, or another node, which stays.
  module _ {mid : ℕ} where
    pub no_part : mid < 4 → Survives m mid 0 (length m)
    unfolding normal
    no_part h = record { there = only }
      where
        only : (x : Message) → PartsNormal x → m ≡ encode_message x → mid ≡ first_end x → Stands m 0 (encode_message (normal x)) (length m)
        only (leaf a) n e f = whole (leaf a) e
        only (proj s y) n e f = absurd (let one = some_node y in omega arith)
        only (binary b y k) n e f = absurd (let one = some_node y in omega arith)

    module _ {kind from end : ℕ} (h : kind ≡ number_at m 0) where
      pub projection : {c : ℕ} → c ≡ parts_of kind → c ≡ 1 → Projects m kind from end → Survives m mid from end
      projection {c} p one q = record { there = only }
        where
          count : (x : Message) → m ≡ encode_message x → length (inner x) ≡ 1
          count x e = sym (head_parts x) ∙ ap parts_of (sym (head-number x (whole x e)) ∙ sym h) ∙ sym p ∙ one

          only : (x : Message) → PartsNormal x → m ≡ encode_message x → mid ≡ first_end x
              → Stands m from (encode_message (normal x)) end
          only (leaf a) n e f = absurd (omega (arith, count (leaf a) e))
          only (proj s y) n e f = q.there s y n (h ∙ head-number (proj s y) (whole (proj s y) e)) e
          only (binary b y k) n e f = absurd (omega (arith, count (binary b y k) e))

      -- d is the cipher, by its number.
      encryption : (d : Direction) → kind ≡ binary_kind (cipher d) → Undoes m mid (binary_kind (cipher (opposite d))) from end
          → Survives m mid from end
      encryption d g u = record {
        there = λ x n e f.
            by_head (cipher d) (λ x. PartsNormal x → m ≡ encode_message x → mid ≡ first_end x → Stands m from (encode_message (normal x)) end)
            (λ y k n e f. u.there d y k n.0 n.1 refl e f) x (sym (head-number x (whole x e)) ∙ sym h ∙ g) n e f;
      }

      pub enciphered : kind ≡ 5 → Undoes m mid 6 from end → Survives m mid from end
      enciphered = encryption enc

      pub deciphered : kind ≡ 6 → Undoes m mid 5 from end → Survives m mid from end
      deciphered = encryption dec

    pub other_node : {kind c : ℕ} → kind ≡ number_at m 0 → c ≡ parts_of kind → (c ≡ 1 → ⊥) → (kind ≡ 5 → ⊥) → (kind ≡ 6 → ⊥)
        → Survives m mid 0 (length m)
    unfolding normal build
    other_node {kind} {c} h p one five six = record { there = only }
      where
        number : (x : Message) → m ≡ encode_message x → kind ≡ head_number x
        number x e = h ∙ head-number x (whole x e)

        only : (x : Message) → PartsNormal x → m ≡ encode_message x → mid ≡ first_end x
            → Stands m 0 (encode_message (normal x)) (length m)
        only (leaf a) n e f = whole (leaf a) e
        only (proj s y) n e f = absurd (one (p ∙ ap parts_of (number (proj s y) e) ∙ head_parts (proj s y)))
        only (binary pair y k) n e f = stays (binary pair y k) _ (normal_binary pair y k n.0 n.1) e
        only (binary (cipher enc) y k) n e f = absurd (five (number _ e))
        only (binary (cipher dec) y k) n e f = absurd (six (number _ e))
        only (binary mac y k) n e f = stays (binary mac y k) _ (normal_binary mac y k n.0 n.1) e

pub ruleset projections = (no_pair, first_taken, second_taken)

pub ruleset ciphers = (no_opposite, keys_same, keys_differ)

pub ruleset survivors = (no_part, projection, enciphered, deciphered, other_node)

-- What survives is moved to the front, unless it stands there.
module _ {m : List ℕ} {mid from end : ℕ} (s : Survives m mid from end) where
  pub in_front : from ≡ 0 → Normalised m mid end m
  in_front z = record { there = λ x n e f. rw z at (s.there x n e f) }

  pub moved : {after : List ℕ} → from ≤ end → end ≤ length m → after ≡ paste m 0 (drop from m) (end - from)
      → Normalised m mid (end - from) after
  moved {after} l h p = record {
    there = λ x n e f.
        let q = s.there x n e f in
        let size : end ≡ from + (end - from) = omega arith in
        rw zero-add at (copy_stands m 0 from (end - from) p (omega arith) (omega arith) (rw size at q));
  }

  pub moved_within : {after : List ℕ} → from ≤ end → end ≤ length m → after ≡ paste m 0 (drop from m) (end - from)
      → Within 0 (end - from) m after
  moved_within l h p = rw zero-add at (copy_within m 0 from (end - from) p (omega arith) (omega arith))

pub ruleset fronts = (unchanged, in_front, moved, moved_within)
