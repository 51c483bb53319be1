-- The test `same` decides whether two messages are written alike ("Messages").
use mathlib.Core.Path.{◌≡◌, refl, ap}
use mathlib.Core.Option.{some}
use lib.Dec.{T, eqb→eq, eqb_refl}
use lib.ListN.{get_elem?}
use lib.Ieee.Fits.{and_i, and_l, and_r}
use Rattle.meaning.specs.Messages.Term.{Side, fst, snd, enc, dec, Binary, pair, cipher, mac, side_kind, binary_kind}
use Rattle.meaning.specs.Messages.Term.{Name, public, private, Message, leaf, proj, binary}
use Rattle.meaning.specs.Bytes.Kind.{TermKind, term_kinds}
use Rattle.meaning.specs.Messages.Normal.{same_name, same}

-- Each kind stands at its number in the list of the kinds, so the numbers tell the kinds apart.
pub side_listed : (s : Side) → get_elem? term_kinds (side_kind s) ≡ some (TermKind.proj s)
side_listed fst = refl
side_listed snd = refl

pub binary_listed : (b : Binary) → get_elem? term_kinds (binary_kind b) ≡ some (TermKind.binary b)
binary_listed pair = refl
binary_listed (cipher enc) = refl
binary_listed (cipher dec) = refl
binary_listed mac = refl

pub side_kind_injective : (s t : Side) → side_kind s ≡ side_kind t → s ≡ t
side_kind_injective s t p = cc (side_listed s, side_listed t)

pub binary_kind_injective : (b c : Binary) → binary_kind b ≡ binary_kind c → b ≡ c
binary_kind_injective b c p = cc (binary_listed b, binary_listed c)

same_name_sound : (a b : Name) → T (same_name a b) → a ≡ b
same_name_sound (public m) (public n) h = ap public (eqb→eq m n h)
same_name_sound (public m) (private n) h = absurd h
same_name_sound (private m) (public n) h = absurd h
same_name_sound (private m) (private n) h = ap private (eqb→eq m n h)

same_name_refl : (a : Name) → T (same_name a a)
same_name_refl (public n) = eqb_refl n
same_name_refl (private n) = eqb_refl n

pub same_sound : (m n : Message) → T (same m n) → m ≡ n
unfolding same
same_sound (leaf a) (leaf b) h = ap leaf (same_name_sound a b h)
same_sound (leaf a) (proj t n) h = absurd h
same_sound (leaf a) (binary c n l) h = absurd h
same_sound (proj s m) (leaf b) h = absurd h
same_sound (proj s m) (proj t n) h =
    cc (side_kind_injective s t (eqb→eq _ _ (search and_l)), same_sound m n (search and_r))
same_sound (proj s m) (binary c n l) h = absurd h
same_sound (binary b m k) (leaf a) h = absurd h
same_sound (binary b m k) (proj t n) h = absurd h
same_sound (binary b m k) (binary c n l) h =
    let p = binary_kind_injective b c (eqb→eq _ _ (search and_l)) in
    cc (same_sound m n (search (and_l, and_r)), same_sound k l (search and_r))

pub same_refl : (m : Message) → T (same m m)
unfolding same
same_refl (leaf a) = same_name_refl a
same_refl (proj s m) = search (and_i, eqb_refl, same_refl m)
same_refl (binary b m k) = search (and_i, eqb_refl, same_refl m, same_refl k)
