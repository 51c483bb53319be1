-- The arrivals of a label are what its moves lead to ("Steps").
use mathlib.Core.Path.{◌≡◌, refl, ap, ◌∙◌}
use mathlib.Core.List.{List, [], ◌∷◌, map}
use Rattle.meaning.specs.Messages.Term.{leaf, public}
use Rattle.meaning.specs.Bytes.Formula.{Label, Formula}
use Rattle.meaning.specs.Steps.State.{State}
use Rattle.meaning.specs.Judging.{judge}
use Rattle.meaning.specs.Judging.Visits.{arrivals}
use Rattle.state_record.specs.Record.{Placed}
use Rattle.state_head.specs.Settled.{threads_of}
use Rattle.step_transition.specs.Outcome.{outcome, arrival_of}
use Rattle.step_transition.specs.Behind.{moves_of}
use Rattle.step_transition.proofs.Laws.Moves.{outputs_moved, inputs_moved}
use Rattle.step_transition.proofs.Laws.MovesSilent.{silents_moved}
use Rattle.truth_label.specs.Head.{label_of_step, channel_of, taken_of}
use Rattle.truth_judge.specs.Steps.{judgements}

map-map : {A B C : Type 0} (g : B → C) (f : A → B) (xs : List A) → map g (map f xs) ≡ map (λ x. g (f x)) xs
map-map g f [] = refl
map-map g f (x ∷ xs) = ap (λ r. g (f x) ∷ r) (map-map g f xs)

arrived_by : (ps : List Placed) (S : State) (a : Label) → threads_of ps ≡ S.threads → arrivals S a
    ≡ map (λ w. arrival_of S (outcome ps S.next (taken_of S.aliases a) w)) (moves_of (label_of_step a) (channel_of S.aliases a) S.next ps)
arrived_by ps S (Label.output C) e = outputs_moved ps S C (leaf (public 0)) e
arrived_by ps S (Label.input C M) e = inputs_moved ps S C M e
arrived_by ps S Label.silent e = silents_moved ps S (leaf (public 0)) e

-- So the body of a step formula is judged at what they lead to.
pub judged_by : (F : Formula) (ps : List Placed) (S : State) (a : Label) → threads_of ps ≡ S.threads
    → map (judge F) (arrivals S a)
    ≡ judgements F S ps (taken_of S.aliases a) (moves_of (label_of_step a) (channel_of S.aliases a) S.next ps)
judged_by F ps S a e =
    ap (map (judge F)) (arrived_by ps S a e)
    ∙ map-map (judge F) (λ w. arrival_of S (outcome ps S.next (taken_of S.aliases a) w)) (moves_of (label_of_step a) (channel_of S.aliases a) S.next ps)
