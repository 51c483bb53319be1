-- Messages as bytes ("Messages"): the run of a message has two bytes to a node, says by itself where it ends, and is no other
-- message's.
use mathlib.Core.Path.{◌≡◌, refl, sym, ap, ◌∙◌}
use mathlib.Core.List.{List, [], ◌∷◌, ◌++◌, append_assoc}
use Prim.Native.Nat.{ℕ, zero, suc, ◌+◌, ◌-◌, ◌*◌, ◌≤◌, ◌<◌}
use native.Mathlib.Nat.{lt_of_not-le}
use native.Mathlib.Omega.{arith}
use lib.ListN.{length, length-append, get_or-eq_default}
use Rattle.meaning.specs.Messages.Term.{Side, fst, snd, enc, dec, Binary, pair, cipher, mac, side_kind, binary_kind}
use Rattle.meaning.specs.Messages.Term.{Name, public, private, Message, leaf, proj, binary, nodes}
use Rattle.meaning.specs.Bytes.WellFormed.{Bytes}
use Rattle.meaning.proofs.Messages.Same.{side_kind_injective, binary_kind_injective}
use Rattle.message_bytes.specs.Encoding.{name_number, encode_message, parts_of}
use Rattle.buffer.specs.Word.{encode_word, number_at}
use Rattle.message_bytes.specs.Theorems.{SmallName, SmallNames}
use Rattle.buffer.proofs.Laws.Word.{number_read}

-- Two bytes to a node.
pub length_encode : (m : Message) → length (encode_message m) ≡ 2 * nodes m
unfolding encode_message encode_word
length_encode (leaf a) = refl
length_encode (proj s m) = omega (arith, length_encode m)
length_encode (binary b m n) =
    omega (arith, length_encode m, length_encode n, length-append (encode_message m) (encode_message n))

-- The number of the first node, and the parts that follow it.
abbrev pub head_number : Message → ℕ
head_number (leaf a) = name_number a
head_number (proj s m) = side_kind s
head_number (binary b m n) = binary_kind b

abbrev pub inner : Message → List Message
inner (leaf a) = []
inner (proj s m) = m ∷ []
inner (binary b m n) = m ∷ n ∷ []

name_from_16 : (a : Name) → 16 ≤ name_number a
name_from_16 (public n) = omega arith
name_from_16 (private n) = omega arith

pub side_parts : (s : Side) → parts_of (side_kind s) ≡ 1
unfolding parts_of
side_parts fst = refl
side_parts snd = refl

pub binary_parts : (b : Binary) → parts_of (binary_kind b) ≡ 2
unfolding parts_of
binary_parts pair = refl
binary_parts (cipher enc) = refl
binary_parts (cipher dec) = refl
binary_parts mac = refl

pub no_parts : (v : ℕ) → 8 ≤ v → 0 ≡ parts_of v
unfolding parts_of
no_parts v h = rw get_or-eq_default

-- The kinds from 5 on have two parts, those before them one, and the first two none.
from_5 : (k : ℕ) → k < 3 → 2 ≡ parts_of (5 + k)
unfolding parts_of
from_5 zero h = refl
from_5 (suc zero) h = refl
from_5 (suc (suc zero)) h = refl
from_5 (suc (suc (suc k))) h = absurd (omega arith)

from_3 : (k : ℕ) → k < 2 → 1 ≡ parts_of (3 + k)
unfolding parts_of
from_3 zero h = refl
from_3 (suc zero) h = refl
from_3 (suc (suc k)) h = absurd (omega arith)

pub two_parts : (v : ℕ) → 5 ≤ v → v < 8 → 2 ≡ parts_of v
two_parts v l h = let e : v ≡ 5 + (v - 5) = omega arith in rw e (from_5 (v - 5) (omega arith))

pub one_part : (v : ℕ) → 3 ≤ v → v < 5 → 1 ≡ parts_of v
one_part v l h = let e : v ≡ 3 + (v - 3) = omega arith in rw e (from_3 (v - 3) (omega arith))

pub no_parts_below : (v : ℕ) → v < 2 → 0 ≡ parts_of v
unfolding parts_of
no_parts_below zero h = refl
no_parts_below (suc zero) h = refl
no_parts_below (suc (suc v)) h = absurd (omega arith)

pub head_parts : (m : Message) → parts_of (head_number m) ≡ length (inner m)
head_parts (leaf a) = sym (no_parts (name_number a) (omega (arith, name_from_16 a)))
head_parts (proj s m) = side_parts s
head_parts (binary b m n) = binary_parts b

pub head_read : (m : Message) (xs : List ℕ) → number_at (encode_message m ++ xs) 0 ≡ head_number m
unfolding encode_message encode_word
head_read (leaf a) xs = number_read (name_number a)
head_read (proj s m) xs = number_read (side_kind s)
head_read (binary b m n) xs = number_read (binary_kind b)

name_number_injective : (a b : Name) → name_number a ≡ name_number b → a ≡ b
name_number_injective (public m) (public n) e = ap public (omega arith)
name_number_injective (public m) (private n) e = absurd (omega arith)
name_number_injective (private m) (public n) e = absurd (omega arith)
name_number_injective (private m) (private n) e = ap private (omega arith)

-- Two runs that begin at one place begin with the same node, which has the same number of parts.
module _ (m n : Message) (xs ys : List ℕ) (e : encode_message m ++ xs ≡ encode_message n ++ ys) where
  same_head : head_number m ≡ head_number n
  same_head = sym (head_read m xs) ∙ ap (λ s. number_at s 0) e ∙ head_read n ys

  same_parts : length (inner m) ≡ length (inner n)
  same_parts = sym (head_parts m) ∙ ap parts_of same_head ∙ head_parts n

-- So they are one message's, and end at one place.
pub runs-end : (m n : Message) (xs ys : List ℕ) → encode_message m ++ xs ≡ encode_message n ++ ys → (m ≡ n) × (xs ≡ ys)
unfolding encode_message encode_word
runs-end (leaf a) (leaf b) xs ys e = (ap leaf (name_number_injective a b (same_head (leaf a) (leaf b) xs ys e)), cc)
runs-end (proj s m) (proj t n) xs ys e =
    let same = side_kind_injective s t (same_head (proj s m) (proj t n) xs ys e) in
    let inner = runs-end m n xs ys (cc) in
    (cc, inner.1)
runs-end (binary b m k) (binary c n l) xs ys e =
    let same = binary_kind_injective b c (same_head (binary b m k) (binary c n l) xs ys e) in
    let first = runs-end m n (encode_message k ++ xs) (encode_message l ++ ys)
    (cc (append_assoc (encode_message m) (encode_message k) xs, append_assoc (encode_message n) (encode_message l) ys)) in
    let second = runs-end k l xs ys first.1 in
    (cc, second.1)
runs-end (leaf a) (proj t n) xs ys e = absurd (omega (arith, same_parts (leaf a) (proj t n) xs ys e))
runs-end (leaf a) (binary c n l) xs ys e = absurd (omega (arith, same_parts (leaf a) (binary c n l) xs ys e))
runs-end (proj s m) (leaf b) xs ys e = absurd (omega (arith, same_parts (proj s m) (leaf b) xs ys e))
runs-end (proj s m) (binary c n l) xs ys e = absurd (omega (arith, same_parts (proj s m) (binary c n l) xs ys e))
runs-end (binary b m k) (leaf a) xs ys e = absurd (omega (arith, same_parts (binary b m k) (leaf a) xs ys e))
runs-end (binary b m k) (proj t n) xs ys e = absurd (omega (arith, same_parts (binary b m k) (proj t n) xs ys e))

pub encode_injective : (m n : Message) → encode_message m ≡ encode_message n → m ≡ n
encode_injective m n e = (runs-end m n [] [] (ap (λ s. s ++ []) e)).0

-- Where no name is too large for two bytes, a run has bytes for its entries.
bytes_append : (xs ys : List ℕ) → Bytes xs → Bytes ys → Bytes (xs ++ ys)
bytes_append [] ys h k = k
bytes_append (b ∷ xs) ys h k = (h.0, bytes_append xs ys h.1 k)

node_bytes : (v : ℕ) → v < 65536 → Bytes (encode_word v)
unfolding encode_word
node_bytes v h = omega arith

name_small : (a : Name) → SmallName a → name_number a < 65536
name_small (public n) h = omega arith
name_small (private n) h = omega arith

parts_small : (v : ℕ) → 0 < parts_of v → v < 65536
parts_small v h = let kind : v < 8 = lt_of_not-le λ g. omega (arith, no_parts v g) in omega arith

head_small : (m : Message) → SmallNames m → head_number m < 65536
head_small (leaf a) h = name_small a h
head_small (proj s m) h = parts_small (side_kind s) (omega (arith, side_parts s))
head_small (binary b m n) h = parts_small (binary_kind b) (omega (arith, binary_parts b))

pub encode_bytes : (m : Message) → SmallNames m → Bytes (encode_message m)
unfolding encode_message
encode_bytes (leaf a) h = node_bytes (name_number a) (head_small (leaf a) h)
encode_bytes (proj s m) h =
    bytes_append (encode_word (side_kind s)) _ (node_bytes _ (head_small (proj s m) h)) (encode_bytes m h)
encode_bytes (binary b m n) h =
    let first = bytes_append (encode_word (binary_kind b)) _ (node_bytes _ (head_small (binary b m n) h)) (encode_bytes m h.0) in
    bytes_append (encode_word (binary_kind b) ++ encode_message m) _ first (encode_bytes n h.1)
