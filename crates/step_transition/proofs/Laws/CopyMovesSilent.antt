-- A silent step in copies among all silent steps of a state: those of two threads come behind ("Steps").
use Prim.Native.Nat.{ℕ}
use mathlib.Core.Path.{sym, ◌∙◌}
use mathlib.Core.Logic.{inl, inr}
use mathlib.Core.List.{List, flat_map}
use Rattle.meaning.specs.Places.{Every}
use Rattle.meaning.proofs.Every.{every_split}
use Rattle.step_located.specs.Located.{LocatedOffer}
use Rattle.step_located.specs.CopyStep.{Pair, matching, CopyStep}
use Rattle.step_located.proofs.Laws.Copies.{split_joined, split_at}
use Rattle.step_located.proofs.Laws.Everywhere.{every_mapped, every_flat_map, everywhere}
use Rattle.step_transition.specs.Focus.{Focus, focuses, offers_of}
use Rattle.step_transition.specs.Moves.{Move, inside, between, others, takers, meetings}
use Rattle.step_transition.specs.CopyMoves.{copy_moves}
use Rattle.step_transition.specs.Resumption.{SilentMovesResumed}
use Rattle.step_transition.proofs.Laws.CopyMoves.{silent_moves_parts}
use Rattle.step_transition.proofs.Laws.SplitLists.{split_parts}
use Rattle.step_transition.proofs.Laws.CopyMovesResumed.{copy_moves_resumed}

-- A step of two threads.
pub data Shared : Move → Type 0 where
  both : (p q : Focus) (v : Pair) → Shared (between p q v)

takers_shared : (p : Focus) (a : LocatedOffer) (qs : List Focus) → Every Shared (takers p a qs)
unfolding takers
takers_shared p a qs =
    every_flat_map _ (everywhere (λ q.
    every_mapped (between p q) (everywhere (both p q) (flat_map (matching a) (offers_of q.thread a.next)))) qs)

pub meetings_shared : (k : ℕ) (qs : List Focus) (p : Focus) → Every Shared (meetings k qs p)
unfolding meetings
meetings_shared k qs p = every_flat_map _ (everywhere (λ a. takers_shared p a (others p qs)) _)

not_inside : {p : Focus} {j : CopyStep} → Shared (inside p j) → ⊥
not_inside t = elim t [ ]

pub silent_moves_resumed : SilentMovesResumed
silent_moves_resumed k ps before after p j e =
    elim (split_joined (copy_moves k (focuses ps)) (split_at before (sym (silent_moves_parts k ps) ∙ e))) [
      | inl t ↦
          let (r, s, f) = t in
          (r, copy_moves_resumed k ps before r p j (split_parts s), f)
      | inr t ↦
          absurd (not_inside (every_split t.1 (every_flat_map (meetings k (focuses ps)) (everywhere (meetings_shared k (focuses ps)) (focuses ps)))).1)
    ]
