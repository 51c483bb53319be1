-- Places in lists that are made from others, and what is left of the offers from a position on ("Steps").
use Prim.Native.Nat.{ℕ, ◌+◌, ◌≤◌, ◌<◌}
use native.Mathlib.Omega.{arith}
use native.Mathlib.Nat.{le_refl}
use mathlib.Core.Path.{◌≡◌, refl, sym, ◌∙◌, ap}
use mathlib.Core.Bool.{Bool, true, false, not, ◌&&◌, true≢false}
use mathlib.Core.Logic.{inl, inr}
use mathlib.Core.List.{List, [], ◌∷◌, ◌++◌, map, flat_map}
use lib.Dec.{ltb}
use borrow.Author.Tests.{ltb-false, le-ltb, lt-ltb, not-true}
use Rattle.meaning.specs.Messages.Term.{Message}
use Rattle.meaning.specs.Bytes.Process.{Prefix, output, input}
use Rattle.meaning.specs.Steps.Offer.{Split, here, there}
use Rattle.meaning.proofs.Every.{every_map, every_split}
use Rattle.meaning.proofs.Test.{chosen as tested}
use Rattle.state_task.specs.declared.task.Quest.{Quest}
use Rattle.step_located.specs.Located.{LocatedOffer, prefixed}
use Rattle.step_located.specs.Sought.{wanted}
use Rattle.step_located.proofs.Laws.Copies.{split_joined}
use Rattle.step_located.proofs.Laws.Increasing.{Increasing, end, first, increasing_lower, increasing_above}
use Rattle.step_located.proofs.Laws.Everywhere.{everywhere}
use Rattle.step_transition.specs.Focus.{filter}
use Rattle.step_transition.proofs.Laws.MovesLists.{filter_all, every_filter}

module _ {A B : Type 0} where
  -- A place in the list of what f gives for the elements of xs: one of xs, and one in what f gives for it.
  pub record Among (f : A → List B) (xs : List A) (v : B) (after : List B) : Type 0 where
    pub pre : List A
    pub at : A
    pub post : List A
    pub outer : Split xs pre at post
    pub low : List B
    pub high : List B
    pub inner : Split (f at) low v high
    pub follows : after ≡ high ++ flat_map f post

  pub split_flat_map : (f : A → List B) (xs : List A) {l r : List B} {v : B} → Split (flat_map f xs) l v r → Among f xs v r
  unfolding flat_map
  split_flat_map f [] s = elim s [ ]
  split_flat_map f (x ∷ xs) s =
      elim (split_joined (f x) s) [
        | inl t ↦
            let (high, inner, e) = t in
            record { pre = []; at = x; post = xs; outer = here; low = _; high = high; inner = inner; follows = e }
        | inr t ↦
            let m = split_flat_map f xs t.1 in
            record {
              pre = x ∷ m.pre;
              at = m.at;
              post = m.post;
              outer = there m.outer;
              low = m.low;
              high = m.high;
              inner = m.inner;
              follows = m.follows;
            }
      ]

  pub split_map : (f : A → B) (xs : List A) {l r : List B} {v : B} → Split (map f xs) l v r
      → (l' : List A) × (x : A) × (r' : List A) × Split xs l' x r' × (v ≡ f x) × (r ≡ map f r')
  split_map f [] s = elim s [ ]
  split_map f (x ∷ xs) here = ([], x, xs, here, refl, refl)
  split_map f (x ∷ xs) (there s) =
      let (l, y, r, t, e, g) = split_map f xs s in
      (x ∷ l, y, r, there t, e, g)

pub split_parts : {A : Type 0} {ts l r : List A} {t : A} → Split ts l t r → ts ≡ l ++ (t ∷ r)
split_parts here = refl
split_parts (there {u} s) = ap (λ r. u ∷ r) (split_parts s)

-- One test after another.
pub filter_filter : {A : Type 0} (both one more : A → Bool) → ((x : A) → both x ≡ elim (one x) [ true ↦ more x | false ↦ false ])
    → (xs : List A) → filter both xs ≡ filter more (filter one xs)
unfolding filter
filter_filter both one more e [] = refl
filter_filter both one more e (x ∷ xs) = of (one x) (filter_filter both one more e xs) (e x)
  where
    of : (b : Bool) → filter both xs ≡ filter more (filter one xs) → both x ≡ elim b [ true ↦ more x | false ↦ false ]
        → elim (both x) [ true ↦ x ∷ filter both xs | false ↦ filter both xs ]
        ≡ filter more (elim b [ true ↦ x ∷ filter one xs | false ↦ filter one xs ])
    of true rest h = rw h (tested (λ u v. u ≡ v) (more x) (ap (λ r. x ∷ r) rest) rest)
    of false rest h = rw h rest

pub increasing_filter : (test : LocatedOffer → Bool) {low : ℕ} {xs : List LocatedOffer} → Increasing low xs → Increasing low (filter test xs)
unfolding filter
increasing_filter test end = end
increasing_filter test (first {low} {a} {xs} l h) = of (test a) (increasing_filter test h)
  where
    of : (b : Bool) → Increasing (a.place + 1) (filter test xs)
        → Increasing low (elim b [ true ↦ a ∷ filter test xs | false ↦ filter test xs ])
    of true rest = first l rest
    of false rest = increasing_lower (omega arith) rest

-- The offers from a position on.
abbrev at_least : ℕ → LocatedOffer → Bool
at_least x a = not (ltb a.place x)

since_all : {low x : ℕ} {xs : List LocatedOffer} → x ≤ low → Increasing low xs → filter (at_least x) xs ≡ xs
since_all {low} {x} le h =
    filter_all (at_least x) (every_map (λ a m. ap not (le-ltb a.place x (omega arith))) (increasing_above h))

since_here : (x : ℕ) (a : LocatedOffer) (xs : List LocatedOffer) → x ≤ a.place → filter (at_least x) (a ∷ xs) ≡ a ∷ filter (at_least x) xs
unfolding filter
since_here x a xs le = rw (le-ltb a.place x le, filter)

since_not : (x : ℕ) (a : LocatedOffer) (xs : List LocatedOffer) → a.place < x → filter (at_least x) (a ∷ xs) ≡ filter (at_least x) xs
unfolding filter
since_not x a xs lt = rw (lt-ltb a.place x lt, filter)

-- From that of one of them on, and from behind it on.
since_place : {low : ℕ} {xs l r : List LocatedOffer} {a : LocatedOffer} → Increasing low xs → Split xs l a r
    → (filter (at_least a.place) xs ≡ a ∷ r) × (filter (at_least (a.place + 1)) xs ≡ r)
since_place (end {low = low}) s = elim s [ ]
since_place {a} (first {xs} l h) here = (
  since_here a.place a xs (le_refl _) ∙ ap (λ r. a ∷ r) (since_all (omega arith) h),
  since_not (a.place + 1) a xs (omega arith) ∙ since_all (le_refl _) h,
)
since_place {a} (first {a = b} {xs} l h) (there s) =
    let m = (every_split s (increasing_above h)).1 in
    let (e, f) = since_place h s in
    (since_not a.place b xs (omega (arith, m)) ∙ e, since_not (a.place + 1) b xs (omega (arith, m)) ∙ f)

-- The same quest from a position on: those offers at it or above it.
abbrev pub since : ℕ → Quest → Quest
since n q = record { output = q.output; any = q.any; from = n; excluded = q.excluded }

-- Three tests in a row, of which the second is passed, or is a weaker one.
second : (o s c : Bool) → (o && s && c) ≡ true → s ≡ true
second true true c e = refl
second true false c e = e
second false s c e = absurd (true≢false (sym e))

weaker : (o s t c : Bool) → (s ≡ true → t ≡ true) → (o && s && c) ≡ elim (o && t && c) [ true ↦ s | false ↦ false ]
weaker true true true true h = refl
weaker true true true false h = refl
weaker true true false c h = absurd (true≢false (sym (h refl)))
weaker true false true true h = refl
weaker true false true false h = refl
weaker true false false c h = refl
weaker false s t c h = refl

module _ (q : Quest) (x : Message) where
  -- What is wanted from a position on is at it or above it; what is wanted from a later one on is wanted, and at that or above it.
  pub wanted_since : (n : ℕ) (a : LocatedOffer) → wanted (since n q) x a ≡ true → n ≤ a.place
  unfolding wanted
  wanted_since n a e = ltb-false a.place n (not-true _ (of a.prefix e))
    where
      of : (p : Prefix) → wanted (since n q) x (prefixed a p) ≡ true → at_least n a ≡ true
      of (output C M) e = second q.output (at_least n a) _ e
      of (input C) e = second (not q.output) (at_least n a) _ e

  wanted_later : (n m : ℕ) (a : LocatedOffer) → n ≤ m
      → wanted (since m q) x a ≡ elim (wanted (since n q) x a) [ true ↦ at_least m a | false ↦ false ]
  unfolding wanted
  wanted_later n m a l = of a.prefix
    where
      above : at_least m a ≡ true → at_least n a ≡ true
      above e = ap not (le-ltb a.place n (omega (arith, ltb-false a.place m (not-true _ e))))

      of : (p : Prefix) → wanted (since m q) x (prefixed a p)
          ≡ elim (wanted (since n q) x (prefixed a p)) [ true ↦ at_least m a | false ↦ false ]
      of (output C M) = weaker q.output (at_least m a) (at_least n a) _ above
      of (input C) = weaker (not q.output) (at_least m a) (at_least n a) _ above

  -- So what comes after one of them in their order is what is wanted from there on.
  pub resumed : (n : ℕ) {low : ℕ} {xs l r : List LocatedOffer} {a : LocatedOffer} → Increasing low xs → Split (filter (wanted (since n q) x) xs) l a r
      → (filter (wanted (since a.place q) x) xs ≡ a ∷ r) × (filter (wanted (since (a.place + 1) q) x) xs ≡ r)
  resumed n {xs = xs} {a = a} h s =
      let W = wanted (since n q) x in
      let from = (every_split s (every_filter W (everywhere (wanted_since n) xs))).1 in
      let (again, on) = since_place (increasing_filter W h) s in (
        filter_filter _ W (at_least a.place) (λ b. wanted_later n a.place b from) xs ∙ again,
        filter_filter _ W (at_least (a.place + 1)) (λ b. wanted_later n (a.place + 1) b (omega arith)) xs ∙ on,
      )
