-- The offers of a settled process are those with positions, and what a step leaves is found by the position ("Steps").
use Prim.Native.Nat.{ℕ, ◌+◌, ◌≤◌, ◌<◌}
use native.Mathlib.Omega.{arith}
use mathlib.Core.Path.{◌≡◌, refl, sym, ◌∙◌, ap, ap₂, fun_ext}
use mathlib.Core.Bool.{Bool, true, false, true≢false, and-eq-true_iff}
use mathlib.Core.List.{List, [], ◌∷◌, ◌++◌, map, map-append, map-map, map-id, append-nil, append_assoc, flat_map}
use lib.Dec.{eqb}
use lib.ListN.{length, length-append}
use borrow.Author.Tests.{ltb-true, ltb-false, lt-ltb, le-ltb, eq-eqb, ne_eqb, not-true}
use Rattle.meaning.specs.Messages.Term.{Term}
use Rattle.meaning.specs.Messages.Normal.{equal}
use Rattle.meaning.specs.Bytes.Process.{Prefix, Process}
use Rattle.meaning.specs.Bytes.Encoding.{encode_term, encode_process}
use Rattle.meaning.specs.Places.{Every, none, ◌also◌}
use Rattle.meaning.specs.Steps.State.{Bound, written, Thread, act, repl, names, settle}
use Rattle.meaning.specs.Steps.Offer.{Offer, offer, placed}
use Rattle.meaning.specs.Steps.Copies.{result_of}
use Rattle.meaning.specs.Steps.Enumeration.{Cut, cut, shift, cuts, offers_of, offers}
use Rattle.meaning.proofs.Test.{chosen as tested}
use Rattle.meaning.proofs.Every.{every_map, every_joined}
use Rattle.meaning.proofs.Steps.Enumeration.Cuts.{chosen, around, among}
use Rattle.meaning.proofs.Steps.Enumeration.Offers.{kept, offers_repl, offers-among}
use Rattle.state_record.specs.Place.{then_at, else_at, body_at, right_at}
use Rattle.state_record.specs.Record.{Placed}
use Rattle.state_head.specs.Settled.{settled_at}
use Rattle.state_head.proofs.Laws.Settling.{settled_threads}
use Rattle.step_located.specs.Located.{LocatedOffer, located_offers, inside, replaced, replaced_as, without_place}
use Rattle.step_located.specs.Theorems.{OffersLocated}

-- How many bytes a process takes.
abbrev pub size : Process → ℕ
size P = length (encode_process P)

never : (b : Bool) → (b ≡ true → ⊥) → b ≡ false
never true h = absurd (h refl)
never false h = refl

-- A position is inside a process if it is one of its bytes.
pub inside_bounds : (x at : ℕ) (P : Process) → inside x at P ≡ true → (at ≤ x) × (x < at + size P)
unfolding inside
inside_bounds x at P e =
    let h = (and-eq-true_iff _ _).0 e in
    (ltb-false x at (not-true _ h.0), ltb-true x (at + size P) h.1)

pub bounds_inside : (x at : ℕ) (P : Process) → at ≤ x → x < at + size P → inside x at P ≡ true
unfolding inside
bounds_inside x at P low high = rw (le-ltb x at low, lt-ltb x (at + size P) high)

pub outside : (x at : ℕ) (P : Process) → (at ≤ x → x < at + size P → ⊥) → inside x at P ≡ false
outside x at P h = never (inside x at P) (λ e. let b = inside_bounds x at P e in h b.0 b.1)

-- The process P' at at' is a part of P at at, behind its first byte.
pub record Part (at : ℕ) (P : Process) (at' : ℕ) (P' : Process) : Type 0 where
  pub behind : at < at'
  pub ends : at' + size P' ≤ at + size P

-- The sizes of an `if` and of a `par`; then the parts of each process.
if_size : (M N : Term) (P Q : Process)
    → size (Process.if M N P Q) ≡ 1 + length (encode_term M) + length (encode_term N) + size P + size Q
unfolding encode_process
if_size M N P Q = simp length-append (omega arith)

par_size : (P Q : Process) → size (Process.par P Q) ≡ 1 + size P + size Q
unfolding encode_process
par_size P Q = simp length-append (omega arith)

module _ (at : ℕ) where
  pub new_part : (P : Process) → Part at (Process.new P) (at + 1) P
  unfolding encode_process
  new_part P = omega arith

  pub then_part : (M N : Term) (P Q : Process) → Part at (Process.if M N P Q) (then_at at M N) P
  then_part M N P Q = omega (arith, if_size M N P Q)

  pub else_part : (M N : Term) (P Q : Process) → Part at (Process.if M N P Q) (else_at at M N P) Q
  else_part M N P Q = omega (arith, if_size M N P Q)

  pub let_part : (M : Term) (P : Process) → Part at (Process.let_in M P) (body_at at M) P
  unfolding encode_process
  let_part M P = omega (arith, length-append (encode_term M) (encode_process P))

  pub left_part : (P Q : Process) → Part at (Process.par P Q) (at + 1) P
  left_part P Q = omega (arith, par_size P Q)

  pub right_part : (P Q : Process) → Part at (Process.par P Q) (right_at at P) Q
  right_part P Q = omega (arith, par_size P Q)

  pub repl_part : (P : Process) → Part at (Process.repl P) (at + 1) P
  unfolding encode_process
  repl_part P = omega arith

-- Every process has a first byte.
pub some_bytes : (P : Process) → 0 < size P
unfolding encode_process
some_bytes Process.nil = omega arith
some_bytes (Process.new P) = omega arith
some_bytes (Process.act (Prefix.output C M) P) = omega arith
some_bytes (Process.act (Prefix.input C) P) = omega arith
some_bytes (Process.if M N P Q) = omega arith
some_bytes (Process.let_in M P) = omega arith
some_bytes (Process.par P Q) = omega arith
some_bytes (Process.repl P) = omega arith

pub at_inside : (at : ℕ) (P : Process) → inside at at P ≡ true
at_inside at P = bounds_inside at at P (omega arith) (omega (arith, some_bytes P))

-- A position outside a process is not its first one.
pub outside_first : (x at : ℕ) (P : Process) → inside x at P ≡ false → eqb at x ≡ false
outside_first x at P out =
    ne_eqb at x (λ e. true≢false (sym (bounds_inside x at P (omega arith) (omega (arith, some_bytes P))) ∙ out))

module _ (x : ℕ) {at at' : ℕ} {P P' : Process} (part : Part at P at' P') where
  -- A position in a part is one of the whole, and not its first; one outside the whole is outside the part.
  pub part_inside : inside x at' P' ≡ true → inside x at P ≡ true
  part_inside e = let b = inside_bounds x at' P' e in bounds_inside x at P (omega arith) (omega arith)

  pub part_outside : inside x at P ≡ false → inside x at' P' ≡ false
  part_outside out = never _ (λ e. true≢false (sym (part_inside e) ∙ out))

  pub part_first : inside x at' P' ≡ true → eqb at x ≡ false
  part_first e = let b = inside_bounds x at' P' e in ne_eqb at x (omega arith)

-- A position in one of the two processes of a par is not in the other.
module _ (x at : ℕ) (P Q : Process) where
  pub left_only : inside x (at + 1) P ≡ true → inside x (right_at at P) Q ≡ false
  left_only e = let b = inside_bounds x (at + 1) P e in outside x (right_at at P) Q (λ low high. omega arith)

  pub right_only : inside x (right_at at P) Q ≡ true → inside x (at + 1) P ≡ false
  right_only e = let b = inside_bounds x (right_at at P) Q e in outside x (at + 1) P (λ low high. omega arith)

-- Offers with positions: each is at a position of the process.
abbrev pub Inside : ℕ → Process → LocatedOffer → Type 0
Inside at P a = inside a.place at P ≡ true

pub part_every : {at at' : ℕ} {P P' : Process} → Part at P at' P' → {xs : List LocatedOffer} → Every (Inside at' P') xs
    → Every (Inside at P) xs
part_every part every = every_map (λ a e. part_inside a.place part e) every

pub acting_inside : (P : Process) (at : ℕ) (ρ : Bound) (n k : ℕ) → Every (Inside at P) (located_offers P at ρ n k)
unfolding located_offers
acting_inside Process.nil at ρ n k = none
acting_inside (Process.new P) at ρ n k = part_every (new_part at P) (acting_inside P _ _ _ k)
acting_inside (Process.act p P) at ρ n k = at_inside at (Process.act p P) also none
acting_inside (Process.if M N P Q) at ρ n k =
    elim (equal (written ρ M) (written ρ N)) as (λ b.
    Every (Inside at (Process.if M N P Q))
    (elim b [ true ↦ located_offers P (then_at at M N) ρ n k | false ↦ located_offers Q (else_at at M N P) ρ n k ])) [
      | true ↦ part_every (then_part at M N P Q) (acting_inside P _ ρ n k)
      | false ↦ part_every (else_part at M N P Q) (acting_inside Q _ ρ n k)
    ]
acting_inside (Process.let_in M P) at ρ n k = part_every (let_part at M P) (acting_inside P _ _ n k)
acting_inside (Process.par P Q) at ρ n k =
    every_joined (part_every (left_part at P Q) (acting_inside P _ ρ n k)) (part_every (right_part at P Q) (acting_inside Q _ ρ _ k))
acting_inside (Process.repl P) at ρ n k = part_every (repl_part at P) (acting_inside P _ ρ _ _)

-- Nothing is replaced at a position outside the process.
module _ {A : Type 0} (note : ℕ → Thread → A) (x : ℕ) (z : List A) where
  pub outside_as : (P : Process) (at : ℕ) (ρ : Bound) (n k : ℕ) → inside x at P ≡ false
      → replaced_as note x z P at ρ n k ≡ map (λ t. note t.place t.thread) (settled_at P at ρ n)
  unfolding replaced_as settled_at
  outside_as Process.nil at ρ n k out = refl
  outside_as (Process.new P) at ρ n k out = outside_as P _ _ _ k (part_outside x (new_part at P) out)
  outside_as (Process.act p P) at ρ n k out = rw (outside_first x at (Process.act p P) out, replaced_as)
  outside_as (Process.if M N P Q) at ρ n k out =
      tested (λ ts (ps : List Placed). ts ≡ map (λ t. note t.place t.thread) ps) (equal (written ρ M) (written ρ N))
      (outside_as P _ ρ n k (part_outside x (then_part at M N P Q) out)) (outside_as Q _ ρ n k (part_outside x (else_part at M N P Q) out))
  outside_as (Process.let_in M P) at ρ n k out = outside_as P _ _ n k (part_outside x (let_part at M P) out)
  outside_as (Process.par P Q) at ρ n k out =
      ap₂ ◌++◌ (outside_as P _ ρ n k (part_outside x (left_part at P Q) out)) (outside_as Q _ ρ _ k (part_outside x (right_part at P Q) out))
      ∙ sym (map-append _ (settled_at P (at + 1) ρ n) _)
  outside_as (Process.repl P) at ρ n k out =
      rw (outside_first x at (Process.repl P) out, part_outside x (repl_part at P) out, replaced_as)

pub replaced_outside : (x : ℕ) (z : List Thread) (P : Process) (at : ℕ) (ρ : Bound) (n k : ℕ) → inside x at P ≡ false
    → replaced x z P at ρ n k ≡ settle P ρ n
replaced_outside x z P at ρ n k out = outside_as without_place x z P at ρ n k out ∙ settled_threads P at ρ n

-- What is replaced in an acting thread, in a repl thread, in its copy, and in a par.
module _ {A : Type 0} (note : ℕ → Thread → A) (z : List A) (at : ℕ) (ρ : Bound) (n k : ℕ) where
  pub replaced_act : (p : Prefix) (P : Process) → replaced_as note at z (Process.act p P) at ρ n k ≡ z
  unfolding replaced_as
  replaced_act p P = rw (eq-eqb at at refl, replaced_as)

  pub replaced_repl : (P : Process) → replaced_as note at z (Process.repl P) at ρ n k ≡ z
  unfolding replaced_as
  replaced_repl P = rw (eq-eqb at at refl, replaced_as)

  pub replaced_copy : (x : ℕ) (P : Process) → inside x (at + 1) P ≡ true
      → replaced_as note x z (Process.repl P) at ρ n k ≡ replaced_as note x z P (at + 1) ρ k (names P ρ k) ++ (note at (repl ρ P) ∷ [])
  unfolding replaced_as
  replaced_copy x P e = rw (part_first x (repl_part at P) e, e, replaced_as)

module _ (x : ℕ) (z : List Thread) (P : Process) (at : ℕ) (ρ : Bound) (n k : ℕ) where
  pub replaced_left : (Q : Process) → inside x (at + 1) P ≡ true
      → replaced x z (Process.par P Q) at ρ n k ≡ replaced x z P (at + 1) ρ n k ++ settle Q ρ (names P ρ n)
  unfolding replaced_as
  replaced_left Q e = ap (λ r. replaced x z P (at + 1) ρ n k ++ r) (replaced_outside x z Q _ ρ _ k (left_only x at P Q e))

  pub replaced_right : (Q : Process) → inside x (right_at at P) Q ≡ true
      → replaced x z (Process.par P Q) at ρ n k ≡ settle P ρ n ++ replaced x z Q (right_at at P) ρ (names P ρ n) k
  unfolding replaced_as
  replaced_right Q e =
      ap (λ r. r ++ replaced x z Q (right_at at P) ρ (names P ρ n) k) (replaced_outside x z P _ ρ n k (right_only x at P Q e))

-- A map that changes no element.
map_same : {Y : Type 0} (g : Y → Y) → ((y : Y) → g y ≡ y) → (ys : List Y) → map g ys ≡ ys
map_same g same ys = ap (λ f. map f ys) (fun_ext same) ∙ map-id ys

-- What a list gives thread by thread, cut in two; for offers and for silent steps.
module _ {Y : Type 0} (put : (List Thread → List Thread) → Y → Y) (f : Thread → ℕ → List Y) (n : ℕ)
    (twice : (g h : List Thread → List Thread) (y : Y) → put g (put h y) ≡ put (λ x. g (h x)) y) where
  among_cons : (t : Thread) (ts : List Thread)
      → among put f n (t ∷ ts) ≡ map (put (λ x. x ++ ts)) (f t n) ++ map (put (λ x. t ∷ x)) (among put f n ts)
  unfolding among cuts flat_map
  among_cons t ts = ap (λ r. map (put (λ x. x ++ ts)) (f t n) ++ r) (shifted (cuts ts))
    where
      at : Cut Thread → List Y
      at c = map (put (around c)) (f (chosen c) n)

      shifted : (cs : List (Cut Thread)) → flat_map at (map (shift t) cs) ≡ map (put (λ x. t ∷ x)) (flat_map at cs)
      shifted [] = refl
      shifted (cut l u r ∷ cs) = simp (map-append, map-map, twice, shifted cs)

  pub among_append : (same : (y : Y) → put (λ x. x) y ≡ y) (xs ys : List Thread)
      → among put f n (xs ++ ys) ≡ map (put (λ x. x ++ ys)) (among put f n xs) ++ map (put (λ x. xs ++ x)) (among put f n ys)
  unfolding among cuts flat_map
  among_append same [] ys = sym (map_same (put (λ x. x)) same (among put f n ys))
  among_append same (t ∷ ts) ys = simp (among_cons, among_append same ts ys, map-append, map-map, twice, append_assoc)

-- Offers: of a list cut in two, of one thread.
placed_twice : (g h : List Thread → List Thread) (o : Offer) → placed g (placed h o) ≡ placed (λ x. g (h x)) o
placed_twice g h (offer ρ p P f n) = refl

placed_same : (o : Offer) → placed (λ x. x) o ≡ o
placed_same (offer ρ p P f n) = refl

pub offers_append : (k : ℕ) (xs ys : List Thread)
    → offers k (xs ++ ys) ≡ map (placed (λ x. x ++ ys)) (offers k xs) ++ map (placed (λ x. xs ++ x)) (offers k ys)
offers_append k xs ys = simp offers-among (among_append placed offers_of k placed_twice placed_same xs ys)

pub offers_none : (k : ℕ) → offers k [] ≡ []
unfolding among cuts flat_map
offers_none k = offers-among k []

pub offers_one : (k : ℕ) (t : Thread) → offers k (t ∷ []) ≡ offers_of t k
unfolding among cuts flat_map
offers_one k t = offers-among k (t ∷ []) ∙ append-nil _ ∙ map_same (placed (λ x. x ++ [])) each (offers_of t k)
  where
    each : (o : Offer) → placed (λ x. x ++ []) o ≡ o
    each (offer ρ p P f n) = ap (λ g. offer ρ p P g n) (fun_ext (λ x. append-nil (f x)))

pub offers_act : (k : ℕ) (ρ : Bound) (p : Prefix) (P : Process) → offers k (act ρ p P ∷ []) ≡ offer ρ p P (λ x. x) k ∷ []
unfolding offers_of result_of
offers_act k ρ p P = offers_one k (act ρ p P)

pub offers_of_repl_list : (k : ℕ) (ρ : Bound) (P : Process)
    → offers k (repl ρ P ∷ []) ≡ map (placed (kept ρ P)) (offers (names P ρ k) (settle P ρ k))
offers_of_repl_list k ρ P = offers_one k (repl ρ P) ∙ offers_repl ρ P k

-- An offer with its position as one of the definitions: f says what is left when a list takes the place of the thread there.
abbrev pub located : (ℕ → List Thread → List Thread) → LocatedOffer → Offer
located f a = offer a.bound a.prefix a.rest (f a.place) a.next

-- Two maps that agree on every element.
pub map_every : {A B : Type 0} {f g : A → B} {xs : List A} → Every (λ x. f x ≡ g x) xs → map f xs ≡ map g xs
map_every none = refl
map_every (e also es) = ap₂ ◌∷◌ e (map_every es)

module _ (P : Process) (at : ℕ) (ρ : Bound) (n k : ℕ) where
  -- That the offers of a process settled at n are those with positions, their copies being opened at k.
  abbrev OffersAt : Type 0
  OffersAt = offers k (settle P ρ n) ≡ map (located (λ x z. replaced x z P at ρ n k)) (located_offers P at ρ n k)

  -- If its threads are a part of a larger list, this list is to be known for each of its positions.
  part_offers : OffersAt → (larger : List Thread → List Thread) (f : ℕ → List Thread → List Thread)
      → ((x : ℕ) → inside x at P ≡ true → (z : List Thread) → f x z ≡ larger (replaced x z P at ρ n k))
      → map (placed larger) (offers k (settle P ρ n)) ≡ map (located f) (located_offers P at ρ n k)
  part_offers offered larger f same =
      ap (map (placed larger)) offered ∙ map-map (placed larger) (located _) (located_offers P at ρ n k)
      ∙ map_every (every_map (λ a e. sym (ap (λ g. offer a.bound a.prefix a.rest g a.next) (fun_ext (same a.place e))))
      (acting_inside P at ρ n k))

pub offers_located : OffersLocated
unfolding settle located_offers replaced_as
offers_located Process.nil at ρ n k = offers_none k
offers_located (Process.new P) at ρ n k = offers_located P _ _ _ k
offers_located (Process.act p P) at ρ n k =
    offers_act k ρ p P ∙ ap (λ g. offer ρ p P g k ∷ []) (fun_ext (λ z. sym (replaced_act without_place z at ρ n k p P)))
offers_located (Process.if M N P Q) at ρ n k =
    elim (equal (written ρ M) (written ρ N)) as (λ b.
    offers k (elim b [ true ↦ settle P ρ n | false ↦ settle Q ρ n ]) ≡ map (located (λ x z.
    elim b [ true ↦ replaced x z P (then_at at M N) ρ n k | false ↦ replaced x z Q (else_at at M N P) ρ n k ]))
    (elim b [ true ↦ located_offers P (then_at at M N) ρ n k | false ↦ located_offers Q (else_at at M N P) ρ n k ]))
    [ true ↦ offers_located P _ ρ n k | false ↦ offers_located Q _ ρ n k ]
offers_located (Process.let_in M P) at ρ n k = offers_located P _ _ n k
offers_located (Process.par P Q) at ρ n k =
    let m = names P ρ n in
    offers_append k (settle P ρ n) (settle Q ρ m)
    ∙ ap₂ ◌++◌ (part_offers P (at + 1) ρ n k (offers_located P _ ρ n k) (λ z. z ++ settle Q ρ m) _ (λ x e z. replaced_left x z P at ρ n k Q e))
    (part_offers Q (right_at at P) ρ m k (offers_located Q _ ρ m k) (λ z. settle P ρ n ++ z) _ (λ x e z. replaced_right x z P at ρ n k Q e))
    ∙ sym (map-append _ (located_offers P (at + 1) ρ n k) _)
offers_located (Process.repl P) at ρ n k =
    let m = names P ρ k in
    offers_of_repl_list k ρ P
    ∙ part_offers P (at + 1) ρ k m (offers_located P _ ρ k m) (kept ρ P) _ (λ x e z. replaced_copy without_place z at ρ n k x P e)
