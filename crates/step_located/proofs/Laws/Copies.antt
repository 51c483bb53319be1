-- The repl threads of a settled process, their copies being opened: where they stand, and the silent steps that they take ("Steps").
use Prim.Native.Nat.{ℕ, ◌+◌, ◌≤◌}
use native.Mathlib.Omega.{arith}
use native.Mathlib.Nat.{le_refl}
use mathlib.Core.Path.{◌≡◌, refl, sym, ◌∙◌, ap₂}
use mathlib.Core.Bool.{Bool, true, false}
use mathlib.Core.Logic.{◌⊎◌, inl, inr}
use mathlib.Core.List.{List, [], ◌∷◌, ◌++◌, map, append-nil, append_assoc, flat_map}
use Rattle.meaning.specs.Messages.Normal.{equal}
use Rattle.meaning.specs.Bytes.Process.{Process}
use Rattle.meaning.specs.Places.{Every, none, ◌also◌}
use Rattle.meaning.specs.Steps.State.{Bound, written, names}
use Rattle.meaning.specs.Steps.Offer.{Split, here, there}
use Rattle.meaning.proofs.Test.{chosen as tested}
use Rattle.meaning.proofs.Every.{every_map, every_joined}
use Rattle.state_record.specs.Place.{then_at, else_at}
use Rattle.step_located.specs.Located.{inside}
use Rattle.step_located.specs.CopyStep.{Pair, pairs, copy_pairs, CopyStep, copy_steps}
use Rattle.step_located.specs.Sought.{Opened, copies}
use Rattle.step_located.proofs.Laws.Located.{Part, new_part, then_part, else_part, let_part, left_part, right_part, repl_part}
use Rattle.step_located.proofs.Laws.Located.{size, bounds_inside}
use Rattle.step_located.proofs.Laws.Block.{flat_map_append}
use Rattle.step_located.proofs.Laws.Everywhere.{every_mapped, every_flat_map, everywhere}

-- The silent steps of one repl thread: the pairs within its copy, then those of two copies.
abbrev pub joint_of : Opened → Bool → Pair → CopyStep
joint_of w two p = record { place = w.place; bound = w.bound; copied = w.copied; opens = w.opens; two = two; pair = p }

abbrev within : Opened → List Pair
within w = pairs w.copied (w.place + 1) w.bound w.opens (names w.copied w.bound w.opens)

abbrev both : Opened → List Pair
both w = copy_pairs w.copied (w.place + 1) w.bound w.opens

abbrev pub copy_steps_of : Opened → List CopyStep
copy_steps_of w = map (joint_of w false) (within w) ++ map (joint_of w true) (both w)

-- The silent steps of the repl threads, thread by thread.
pub copies_steps : (P : Process) (at : ℕ) (ρ : Bound) (n k : ℕ) → copy_steps P at ρ n k ≡ flat_map copy_steps_of (copies P at ρ n k)
unfolding copy_steps copies flat_map
copies_steps Process.nil at ρ n k = refl
copies_steps (Process.new P) at ρ n k = copies_steps P _ _ _ k
copies_steps (Process.act p P) at ρ n k = refl
copies_steps (Process.if M N P Q) at ρ n k =
    tested (λ js ws. js ≡ flat_map copy_steps_of ws) (equal (written ρ M) (written ρ N)) (copies_steps P _ ρ n k) (copies_steps Q _ ρ n k)
copies_steps (Process.let_in M P) at ρ n k = copies_steps P _ _ n k
copies_steps (Process.par P Q) at ρ n k =
    ap₂ ◌++◌ (copies_steps P _ ρ n k) (copies_steps Q _ ρ _ k) ∙ sym (flat_map_append copy_steps_of (copies P (at + 1) ρ n k) _)
copies_steps (Process.repl P) at ρ n k =
    let w : Opened = record { place = at; bound = ρ; copied = P; opens = k } in
    let inner = copies P (at + 1) ρ k (names P ρ k) in
    append_assoc (copy_steps P (at + 1) ρ k (names P ρ k)) _ _ ∙ ap₂ ◌++◌ (copies_steps P (at + 1) ρ k _) (sym (append-nil (copy_steps_of w)))
    ∙ sym (flat_map_append copy_steps_of inner (w ∷ []))

-- Each repl thread is at a position of the process, and its own process ends in it.
abbrev Stays : ℕ → Process → Opened → Type 0
Stays at P w = (at ≤ w.place) × (w.place + 1 + size w.copied ≤ at + size P)

part_stays : {at at' : ℕ} {P P' : Process} → Part at P at' P' → {ws : List Opened} → Every (Stays at' P') ws → Every (Stays at P) ws
part_stays part every = every_map (λ w (low, high). (omega (arith, part.behind), omega (arith, part.ends))) every

copies_stay : (P : Process) (at : ℕ) (ρ : Bound) (n k : ℕ) → Every (Stays at P) (copies P at ρ n k)
unfolding copies
copies_stay Process.nil at ρ n k = none
copies_stay (Process.new P) at ρ n k = part_stays (new_part at P) (copies_stay P _ _ _ k)
copies_stay (Process.act p P) at ρ n k = none
copies_stay (Process.if M N P Q) at ρ n k =
    elim (equal (written ρ M) (written ρ N)) as (λ b.
    Every (Stays at (Process.if M N P Q))
    (elim b [ true ↦ copies P (then_at at M N) ρ n k | false ↦ copies Q (else_at at M N P) ρ n k ])) [
      | true ↦ part_stays (then_part at M N P Q) (copies_stay P _ ρ n k)
      | false ↦ part_stays (else_part at M N P Q) (copies_stay Q _ ρ n k)
    ]
copies_stay (Process.let_in M P) at ρ n k = part_stays (let_part at M P) (copies_stay P _ _ n k)
copies_stay (Process.par P Q) at ρ n k =
    every_joined (part_stays (left_part at P Q) (copies_stay P _ ρ n k)) (part_stays (right_part at P Q) (copies_stay Q _ ρ _ k))
copies_stay (Process.repl P) at ρ n k =
    every_joined (part_stays (repl_part at P) (copies_stay P _ ρ _ _)) ((le_refl at, (repl_part at P).ends) also none)

module _ (P : Process) (at : ℕ) (ρ : Bound) (n k : ℕ) where
  pub copies_inside : Every (λ w. inside w.place at P ≡ true) (copies P at ρ n k)
  copies_inside = every_map (λ w (low, high). bounds_inside w.place at P low (omega arith)) (copies_stay P at ρ n k)

  pub copies_end : Every (λ w. w.place + 1 + size w.copied ≤ at + size P) (copies P at ρ n k)
  copies_end = every_map (λ w (low, high). high) (copies_stay P at ρ n k)

  -- So are the silent steps that they take.
  pub joints_inside : Every (λ w. inside w.place at P ≡ true) (copy_steps P at ρ n k)
  joints_inside =
      rw (copies_steps P at ρ n k) (every_flat_map copy_steps_of (every_map (λ w i. every_joined (own w i false (within w)) (own w i true (both w))) copies_inside))
    where
      own : (w : Opened) → inside w.place at P ≡ true → (two : Bool) (ps : List Pair)
          → Every (λ j. inside j.place at P ≡ true) (map (joint_of w two) ps)
      own w i two ps = every_mapped (joint_of w two) (everywhere (λ p. i) ps)

-- A place in a list: of an empty one, of one that is joined from two, of one with a single element, and by an equation.
module _ {A : Type 0} where
  pub split_none : {l r : List A} {t : A} → Split [] l t r → ⊥
  split_none s = elim s [ ]

  pub split_joined : (xs : List A) {ys l r : List A} {t : A} → Split (xs ++ ys) l t r
      → ((r' : List A) × Split xs l t r' × (r ≡ r' ++ ys)) ⊎ ((l' : List A) × Split ys l' t r)
  split_joined [] s = inr (_, s)
  split_joined (x ∷ xs) here = inl (xs, here, refl)
  split_joined (x ∷ xs) (there s) = later (split_joined xs s)
    where
      later : {y : A} {zs ys l r : List A} {t : A} → ((r' : List A) × Split zs l t r' × (r ≡ r' ++ ys)) ⊎ ((l' : List A) × Split ys l' t r)
          → ((r' : List A) × Split (y ∷ zs) (y ∷ l) t r' × (r ≡ r' ++ ys)) ⊎ ((l' : List A) × Split ys l' t r)
      later (inl (r', s, e)) = inl (r', there s, e)
      later (inr s) = inr s

  pub split_single : {t u : A} {l r : List A} → Split (t ∷ []) l u r → (t ≡ u) × (r ≡ [])
  split_single here = (refl, refl)
  split_single (there s) = elim s [ ]

  pub split_at : (l : List A) {t : A} {r ts : List A} → ts ≡ l ++ (t ∷ r) → Split ts l t r
  split_at l {t} {r} e = rw e (whole l)
    where
      whole : (l : List A) → Split (l ++ (t ∷ r)) l t r
      whole [] = here
      whole (x ∷ l) = there (whole l)
