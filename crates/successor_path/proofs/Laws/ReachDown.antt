-- The processes that settling comes to, copies being opened: where they stand, and that offers and repl threads are some of them; and the
-- limits, which none of them meets ("Steps"; "Judging and its count").
use Prim.Native.Nat.{ℕ, suc, ◌-◌, ◌<◌}
use native.Mathlib.Omega.{arith}
use lib.ListN.{length}
use mathlib.Core.Path.{◌≡◌, refl}
use mathlib.Core.Bool.{Bool, true, false, ◌||◌}
use mathlib.Core.List.{List}
use Rattle.meaning.specs.Messages.Term.{Term, leaf, private}
use Rattle.meaning.specs.Messages.Normal.{equal}
use Rattle.meaning.specs.Bytes.Process.{Process}
use Rattle.meaning.specs.Places.{Every, none, ◌also◌}
use Rattle.meaning.specs.Steps.State.{Bound, ◌▸◌, written, worked, names, settle}
use Rattle.meaning.specs.Judging.Limits.{over, over_settling}
use Rattle.meaning.proofs.Test.{neither}
use Rattle.meaning.proofs.Every.{every_map, every_joined}
use Rattle.state_record.specs.Place.{ProcessAt}
use Rattle.state_record.proofs.Laws.Process.{of_new, of_if, of_let, of_par, of_repl}
use Rattle.step_located.specs.Located.{LocatedOffer, located_offers, inside}
use Rattle.step_located.specs.Sought.{Opened, copies}
use Rattle.step_located.proofs.Laws.Located.{Part, new_part, then_part, else_part, let_part, left_part, right_part, repl_part, part_inside, inside_bounds}
use Rattle.step_located.proofs.Laws.Located.{at_inside}
use Rattle.step_located.proofs.Laws.Traversal.{Free, free_par, free_copy}
use Rattle.state_head.proofs.Laws.TraversalResult.{names-fit}
use Rattle.successor_path.specs.Reach.{Site, Down, here, made, then, else, body, leftward, rightward, copied, offer_site, copy_site, Allowed}
use Rattle.successor_path.proofs.Laws.Reach.{longer}

-- Each stands in the process.
pub down_inside : {P : Process} {at : ℕ} {ρ : Bound} {n k : ℕ} (w : Site) → Down P at ρ n k w → inside w.place at P ≡ true
down_inside {P} {at} w here = at_inside at P
down_inside w (made d) = part_inside w.place (new_part _ _) (down_inside w d)
down_inside w (then e d) = part_inside w.place (then_part _ _ _ _ _) (down_inside w d)
down_inside w (else e d) = part_inside w.place (else_part _ _ _ _ _) (down_inside w d)
down_inside w (body d) = part_inside w.place (let_part _ _ _) (down_inside w d)
down_inside w (leftward d) = part_inside w.place (left_part _ _ _) (down_inside w d)
down_inside w (rightward d) = part_inside w.place (right_part _ _ _) (down_inside w d)
down_inside w (copied d) = part_inside w.place (repl_part _ _) (down_inside w d)

-- One that stands in a part does not stand where the process does.
below : {P P' : Process} {at at' : ℕ} {ρ : Bound} {n k : ℕ} (w : Site) → Part at P at' P' → Down P' at' ρ n k w → at < w.place
below {P'} {at'} w p d = let b = inside_bounds w.place at' P' (down_inside w d) in omega (arith, p.behind)

-- So the one that stands there is the process itself.
pub down_here : {P : Process} {at : ℕ} {ρ : Bound} {n k : ℕ} (w : Site) → Down P at ρ n k w → w.place ≡ at
    → w ≡ record { process = P; place = at; bound = ρ; settled = n; opens = k }
down_here w here e = refl
down_here w (made d) e = absurd (omega (arith, below w (new_part _ _) d))
down_here w (then {Q = Q} t d) e = absurd (omega (arith, below w (then_part _ _ _ _ Q) d))
down_here w (else t d) e = absurd (omega (arith, below w (else_part _ _ _ _ _) d))
down_here w (body d) e = absurd (omega (arith, below w (let_part _ _ _) d))
down_here w (leftward {Q = Q} d) e = absurd (omega (arith, below w (left_part _ _ Q) d))
down_here w (rightward d) e = absurd (omega (arith, below w (right_part _ _ _) d))
down_here w (copied d) e = absurd (omega (arith, below w (repl_part _ _) d))

-- Where the process stands in a model, each does, and no deeper than the process may be.
weaker : {s : List ℕ} {at left scope next : ℕ} {P : Process} → ProcessAt s at (left - 1) scope P next → ProcessAt s at left scope P next
weaker p = record {
  stands = p.stands;
  deep = omega (arith, p.deep);
  terms = p.terms;
  scoped = p.scoped;
  few = p.few;
  indexed = p.indexed;
  inside = p.inside;
}

pub down_process : {s : List ℕ} {P : Process} {at left next n k : ℕ} {ρ : Bound} (w : Site) → Down P at ρ n k w
    → ProcessAt s at left (length ρ) P next → (to : ℕ) × ProcessAt s w.place left (length w.bound) w.process to
down_process {next = next} w here p = (next, p)
down_process w (made {P} {ρ = ρ} {n} d) p = down_process w d (weaker (rw (← longer ρ (leaf (private n))) at (of_new P p)))
down_process w (then {M} {N} {P} {Q} t d) p = down_process w d (weaker (of_if M N P Q p).2)
down_process w (else {M} {N} {P} {Q} t d) p = down_process w d (weaker (of_if M N P Q p).3)
down_process w (body {M} {P} {ρ = ρ} d) p = down_process w d (weaker (rw (← longer ρ (worked ρ M)) at (of_let M P p).1))
down_process w (leftward {P} {Q} d) p = down_process w d (weaker (of_par P Q p).0)
down_process w (rightward {P} {Q} d) p = down_process w d (weaker (of_par P Q p).1)
down_process w (copied {P} d) p = down_process w d (weaker (of_repl P p))

-- The offers, and the repl threads.
abbrev OfferDown : Process → ℕ → Bound → (n k : ℕ) → LocatedOffer → Type 0
OfferDown P at ρ n k a = (i : ℕ) × Down P at ρ n k (offer_site a i)

abbrev CopyDown : Process → ℕ → Bound → (n k : ℕ) → Opened → Type 0
CopyDown P at ρ n k w = (i : ℕ) × Down P at ρ n k (copy_site w i)

-- What holds of every element of two lists by a test holds of the list that the test chooses.
every_chosen : {A : Type 0} {Q : A → Type 0} {xs ys : List A} (t b : Bool) → t ≡ b → Every (λ a. t ≡ true → Q a) xs
    → Every (λ a. t ≡ false → Q a) ys → Every Q (elim b [ true ↦ xs | false ↦ ys ])
every_chosen t true e p q = every_map (λ a f. f e) p
every_chosen t false e p q = every_map (λ a f. f e) q

pub offers_down : (P : Process) (at : ℕ) (ρ : Bound) (n k : ℕ) → Every (OfferDown P at ρ n k) (located_offers P at ρ n k)
unfolding located_offers
offers_down Process.nil at ρ n k = none
offers_down (Process.new P) at ρ n k = every_map (λ a (i, d). (i, made d)) (offers_down P _ _ _ k)
offers_down (Process.act p P) at ρ n k = (n, here) also none
offers_down (Process.if M N P Q) at ρ n k =
    every_chosen (equal (written ρ M) (written ρ N)) _ refl (every_map (λ a (i, d) e. (i, then e d)) (offers_down P _ ρ n k))
    (every_map (λ a (i, d) e. (i, else e d)) (offers_down Q _ ρ n k))
offers_down (Process.let_in M P) at ρ n k = every_map (λ a (i, d). (i, body d)) (offers_down P _ _ n k)
offers_down (Process.par P Q) at ρ n k =
    every_joined (every_map (λ a (i, d). (i, leftward d)) (offers_down P _ ρ n k)) (every_map (λ a (i, d). (i, rightward d)) (offers_down Q _ ρ _ k))
offers_down (Process.repl P) at ρ n k = every_map (λ a (i, d). (i, copied d)) (offers_down P _ ρ _ _)

pub copies_down : (P : Process) (at : ℕ) (ρ : Bound) (n k : ℕ) → Every (CopyDown P at ρ n k) (copies P at ρ n k)
unfolding copies
copies_down Process.nil at ρ n k = none
copies_down (Process.new P) at ρ n k = every_map (λ w (i, d). (i, made d)) (copies_down P _ _ _ k)
copies_down (Process.act p P) at ρ n k = none
copies_down (Process.if M N P Q) at ρ n k =
    every_chosen (equal (written ρ M) (written ρ N)) _ refl (every_map (λ w (i, d) e. (i, then e d)) (copies_down P _ ρ n k))
    (every_map (λ w (i, d) e. (i, else e d)) (copies_down Q _ ρ n k))
copies_down (Process.let_in M P) at ρ n k = every_map (λ w (i, d). (i, body d)) (copies_down P _ _ n k)
copies_down (Process.par P Q) at ρ n k =
    every_joined (every_map (λ w (i, d). (i, leftward d)) (copies_down P _ ρ n k)) (every_map (λ w (i, d). (i, rightward d)) (copies_down Q _ ρ _ k))
copies_down (Process.repl P) at ρ n k =
    every_joined (every_map (λ w (i, d). (i, copied d)) (copies_down P _ ρ _ _)) ((n, here) also none)

-- What is known of a process that meets no limit is known of the parts that settling comes to.
module _ {ρ : Bound} {n k : ℕ} where
  pub allowed_new : (P : Process) → Allowed (Process.new P) ρ n k → Allowed P (ρ ▸ leaf (private n)) (suc n) k
  unfolding over_settling settle
  allowed_new P f = record { own = omega (arith, f.own); later = f.later; settling = f.settling; offering = f.offering }

  pub allowed_then : (M N : Term) (P Q : Process) → equal (written ρ M) (written ρ N) ≡ true → Allowed (Process.if M N P Q) ρ n k
      → Allowed P ρ n k
  unfolding over_settling settle
  allowed_then M N P Q t f = record {
    own = omega (arith, f.own);
    later = omega (arith, f.later);
    settling = rw t at (neither (over ρ M || over ρ N) _ f.settling).1;
    offering = rw (t, settle) at f.offering;
  }

  pub allowed_else : (M N : Term) (P Q : Process) → equal (written ρ M) (written ρ N) ≡ false → Allowed (Process.if M N P Q) ρ n k
      → Allowed Q ρ n k
  unfolding over_settling settle
  allowed_else M N P Q t f = record {
    own = omega (arith, f.own);
    later = omega (arith, f.later);
    settling = rw t at (neither (over ρ M || over ρ N) _ f.settling).1;
    offering = rw (t, settle) at f.offering;
  }

  pub allowed_let : (M : Term) (P : Process) → Allowed (Process.let_in M P) ρ n k → (over ρ M ≡ false) × Allowed P (ρ ▸ worked ρ M) n k
  unfolding over_settling settle
  allowed_let M P f =
      let (small, rest) = neither (over ρ M) _ f.settling in
      (small, record { own = f.own; later = f.later; settling = rest; offering = f.offering })

  pub allowed_par : (P Q : Process) → Allowed (Process.par P Q) ρ n k → Allowed P ρ n k × Allowed Q ρ (names P ρ n) k
  allowed_par P Q f =
      let whole : Free (Process.par P Q) ρ n k = record { settling = f.settling; offering = f.offering } in
      let (p, q) = free_par P Q whole in
      let fits = names-fit P ρ n in (
        record { own = omega (arith, f.own); later = omega (arith, f.later); settling = p.settling; offering = p.offering },
        record { own = omega (arith, f.own); later = omega (arith, f.later); settling = q.settling; offering = q.offering },
      )

  pub allowed_copy : (P : Process) → Allowed (Process.repl P) ρ n k → Allowed P ρ k (names P ρ k)
  allowed_copy P f =
      let whole : Free (Process.repl P) ρ n k = record { settling = f.settling; offering = f.offering } in
      let p = free_copy P whole in
      record {
        own = f.later;
        later = omega (arith, f.later, names-fit P ρ k);
        settling = p.settling;
        offering = p.offering;
      }
