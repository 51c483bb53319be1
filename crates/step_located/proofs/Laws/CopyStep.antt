-- The silent steps of a settled process are those with positions ("Steps").
use Prim.Native.Nat.{ℕ, ◌+◌}
use mathlib.Core.Path.{◌≡◌, refl, sym, ◌∙◌, ap, ap₂, fun_ext}
use mathlib.Core.Bool.{Bool, true, false}
use mathlib.Core.List.{List, [], ◌∷◌, ◌++◌, map, map-append, map-map, map-id, append-nil, flat_map}
use Rattle.meaning.specs.Messages.Normal.{equal}
use Rattle.meaning.specs.Bytes.Process.{Prefix, Process}
use Rattle.meaning.specs.Steps.State.{Bound, written, Thread, act, repl, names, settle}
use Rattle.meaning.specs.Steps.Silent.{Meeting, meeting, framed}
use Rattle.meaning.specs.Steps.Enumeration.{cuts, pairs_at, two_copies, silent_of}
use Rattle.meaning.specs.Steps.Copies.{result_of}
use Rattle.meaning.proofs.Every.{every_map}
use Rattle.meaning.proofs.Steps.Enumeration.Cuts.{among}
use Rattle.meaning.proofs.Steps.Enumeration.Offers.{kept}
use Rattle.meaning.proofs.Steps.Enumeration.Silent.{silent_repl, silents_among}
use Rattle.state_record.specs.Place.{then_at, else_at, right_at}
use Rattle.step_located.specs.Located.{located_offers, inside, replaced, replaced_as, without_place}
use Rattle.step_located.specs.CopyStep.{Pair, pairs, copy_pairs, CopyStep, copy_steps, left, met, left_as}
use Rattle.step_located.specs.Theorems.{SilentsLocated}
use Rattle.step_located.proofs.Laws.Located.{replaced_repl, replaced_left, replaced_right, replaced_copy}
use Rattle.step_located.proofs.Laws.Located.{map_every, among_append, offers_located}
use Rattle.step_located.proofs.Laws.Block.{flat_map_map, block_laws}
use Rattle.step_located.proofs.Laws.Pairs.{takers, met_pairs, pairs_located}
use Rattle.step_located.proofs.Laws.Copies.{joints_inside}

-- A silent step of the repl thread of P at a position, its copy being opened at k.
abbrev of_copy : Process → (at : ℕ) → Bound → (k : ℕ) → Bool → Pair → CopyStep
of_copy P at ρ k two w = record { place = at; bound = ρ; copied = P; opens = k; two = two; pair = w }

-- A silent step with its position as one of the definitions: f says what is left when a list takes the place of the thread there.
abbrev pub jointly : (ℕ → List Thread → List Thread) → CopyStep → Meeting
jointly f w = met w.pair (λ x y. f w.place (kept w.bound w.copied (left w x y)))

framed_twice : (g h : List Thread → List Thread) (w : Meeting) → framed g (framed h w) ≡ framed (λ x. g (h x)) w
framed_twice g h (meeting ρ M P σ Q f k) = refl

framed_same : (w : Meeting) → framed (λ x. x) w ≡ w
framed_same (meeting ρ M P σ Q f k) = refl

module _ (P : Process) (at : ℕ) (ρ : Bound) (n k : ℕ) where
  -- That the silent steps of the threads of a process settled at n are those with positions, their copies being opened at k.
  abbrev JointsAt : Type 0
  JointsAt = among framed silent_of k (settle P ρ n) ≡ map (jointly (λ x z. replaced x z P at ρ n k)) (copy_steps P at ρ n k)

  -- If its threads are a part of a larger list, this list is to be known for each of its positions.
  part_joints : JointsAt → (larger : List Thread → List Thread) (f : ℕ → List Thread → List Thread)
      → ((x : ℕ) → inside x at P ≡ true → (z : List Thread) → f x z ≡ larger (replaced x z P at ρ n k))
      → map (framed larger) (among framed silent_of k (settle P ρ n)) ≡ map (jointly f) (copy_steps P at ρ n k)
  unfolding met
  part_joints located larger f same =
      ap (map (framed larger)) located ∙ map-map (framed larger) _ (copy_steps P at ρ n k)
      ∙ map_every (every_map (λ w e. ap (met w.pair) (λ i x y. sym (same w.place e (kept w.bound w.copied (left w x y))) i))
      (joints_inside P at ρ n k))

-- What the repl thread of P leaves: the pairs within a copy, and those of two copies.
module _ (P : Process) (at : ℕ) (ρ : Bound) (n k : ℕ) where
  abbrev in_repl : ℕ → List Thread → List Thread
  in_repl x z = replaced x z (Process.repl P) at ρ n k

  copy_left : (two : Bool) (ws : List Pair) → map (jointly in_repl) (map (of_copy P at ρ k two) ws)
      ≡ map (λ w. met w (λ x y. kept ρ P (left (of_copy P at ρ k two w) x y))) ws
  copy_left two ws =
      map-map (jointly in_repl) (of_copy P at ρ k two) ws
      ∙ ap (λ f. map f ws) (fun_ext λ w. ap (met w) (λ i x y. replaced_repl without_place (kept ρ P (left (of_copy P at ρ k two w) x y)) at ρ n k P i))

  within_located : map (framed (kept ρ P)) (flat_map (pairs_at (names P ρ k)) (cuts (settle P ρ k)))
      ≡ map (jointly in_repl) (map (of_copy P at ρ k false) (pairs P (at + 1) ρ k (names P ρ k)))
  unfolding met left_as
  within_located =
      ap (map (framed (kept ρ P))) (pairs_located P (at + 1) ρ k (names P ρ k)) ∙ map-map _ _ (pairs P (at + 1) ρ k (names P ρ k))
      ∙ sym (copy_left false (pairs P (at + 1) ρ k (names P ρ k)))

  copies_located : two_copies ρ P k ≡ map (jointly in_repl) (map (of_copy P at ρ k true) (copy_pairs P (at + 1) ρ k))
  unfolding two_copies copy_pairs left_as
  copies_located =
      let m = names P ρ k in
      let senders = located_offers P (at + 1) ρ k m in
      ap (flat_map _) (offers_located P (at + 1) ρ k m) ∙ flat_map_map _ _ senders
      ∙ ap (λ f. flat_map f senders) (fun_ext λ a.
      takers (block_laws P (at + 1) ρ a.next) (λ u v. kept ρ P (u ++ v)) (λ x z. replaced x z P (at + 1) ρ k m) a
      (names P ρ a.next))
      ∙ sym (copy_left true (copy_pairs P (at + 1) ρ k) ∙ met_pairs
      (λ a b x y. kept ρ P (left (of_copy P at ρ k true (record { sender = a; taker = b })) x y))
      (λ a. located_offers P (at + 1) ρ a.next (names P ρ a.next)) senders)

-- The silent steps of one thread.
pub joints_one : (k : ℕ) (t : Thread) → among framed silent_of k (t ∷ []) ≡ silent_of t k
unfolding among cuts flat_map
joints_one k t = append-nil _ ∙ ap (λ f. map f (silent_of t k)) (fun_ext each) ∙ map-id (silent_of t k)
  where
    each : (w : Meeting) → framed (λ x. x ++ []) w ≡ w
    each (meeting ρ M P σ Q f n) = ap (λ g. meeting ρ M P σ Q g n) (fun_ext λ x. fun_ext λ y. append-nil (f x y))

silent_act : (ρ : Bound) (p : Prefix) (P : Process) (k : ℕ) → silent_of (act ρ p P) k ≡ []
unfolding silent_of result_of
silent_act ρ p P k = refl

joints_located : (P : Process) (at : ℕ) (ρ : Bound) (n k : ℕ) → JointsAt P at ρ n k
unfolding settle copy_steps replaced_as among cuts flat_map
joints_located Process.nil at ρ n k = refl
joints_located (Process.new P) at ρ n k = joints_located P _ _ _ k
joints_located (Process.act p P) at ρ n k = joints_one k (act ρ p P) ∙ silent_act ρ p P k
joints_located (Process.if M N P Q) at ρ n k =
    elim (equal (written ρ M) (written ρ N)) as (λ b.
    among framed silent_of k (elim b [ true ↦ settle P ρ n | false ↦ settle Q ρ n ]) ≡ map (jointly (λ x z.
    elim b [ true ↦ replaced x z P (then_at at M N) ρ n k | false ↦ replaced x z Q (else_at at M N P) ρ n k ]))
    (elim b [ true ↦ copy_steps P (then_at at M N) ρ n k | false ↦ copy_steps Q (else_at at M N P) ρ n k ]))
    [ true ↦ joints_located P _ ρ n k | false ↦ joints_located Q _ ρ n k ]
joints_located (Process.let_in M P) at ρ n k = joints_located P _ _ n k
joints_located (Process.par P Q) at ρ n k =
    let m = names P ρ n in
    among_append framed silent_of k framed_twice framed_same (settle P ρ n) (settle Q ρ m)
    ∙ ap₂ ◌++◌ (part_joints P (at + 1) ρ n k (joints_located P _ ρ n k) (λ z. z ++ settle Q ρ m) _ (λ x e z. replaced_left x z P at ρ n k Q e))
    (part_joints Q (right_at at P) ρ m k (joints_located Q _ ρ m k) (λ z. settle P ρ n ++ z) _ (λ x e z. replaced_right x z P at ρ n k Q e))
    ∙ sym (map-append _ (copy_steps P (at + 1) ρ n k) _)
joints_located (Process.repl P) at ρ n k =
    let m = names P ρ k in
    joints_one k (repl ρ P) ∙ silent_repl ρ P k
    ∙ ap₂ ◌++◌
    (ap (map (framed (kept ρ P))) (silents_among m (settle P ρ k))
    ∙ map-append (framed (kept ρ P)) (among framed silent_of m (settle P ρ k)) _
    ∙ ap₂ ◌++◌ (part_joints P (at + 1) ρ k m (joints_located P _ ρ k m) (kept ρ P) _ (λ x e z. replaced_copy without_place z at ρ n k x P e))
    (within_located P at ρ n k)
    ∙ sym (map-append _ (copy_steps P (at + 1) ρ k m) _))
    (copies_located P at ρ n k)
    ∙ sym (map-append _ (copy_steps P (at + 1) ρ k m ++ map (of_copy P at ρ k false) (pairs P (at + 1) ρ k m)) _)

pub silents_located : SilentsLocated
silents_located P at ρ n k = silents_among k (settle P ρ n) ∙ ap₂ ◌++◌ (joints_located P at ρ n k) (pairs_located P at ρ n k)
